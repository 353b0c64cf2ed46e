use Rattle.std.proofs.Common.{◌≡◌, ◌++◌, map, take}
use Rattle.cr_snapshot.specs.Seen.{definition_of}
use Rattle.cr_snapshot.proofs.catalog.push_definitions.Given as goal

abbrev pub invariant-loop-module : goal.invariant-loop-module
invariant-loop-module l = l.definitions.items ≡ l.initial.definitions.items ++ map definition_of (take l.module-index l.modules)
