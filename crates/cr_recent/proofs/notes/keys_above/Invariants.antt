use Rattle.std.proofs.Common.{◌≡◌, map, take}
use Rattle.std.specs.Prelude.{filter, int_lt}
use Rattle.cr_recent.proofs.notes.keys_above.Given as goal

abbrev pub invariant-loop-note : goal.invariant-loop-note
invariant-loop-note l = l.keys.items ≡ map (λ n. n.key) (filter (λ n. int_lt l.version n.version) (take l.note-index l.notes))
