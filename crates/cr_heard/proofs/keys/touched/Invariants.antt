use Rattle.std.proofs.Common.{◌≡◌, take}
use Rattle.std.specs.List.{filter_map}
use Rattle.cr_heard.specs.Touched.{touched_named}
use Rattle.cr_heard.proofs.keys.touched.Given as goal

abbrev pub invariant-loop-name : goal.invariant-loop-name
invariant-loop-name l = l.all.items ≡ filter_map (touched_named l.tables l.changes) (take l.name-index l.name-items)
