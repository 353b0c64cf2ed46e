use Rattle.std.proofs.Common.{◌≡◌, take, map}
use Rattle.cr_wanted.specs.Rows.{place_of}
use Rattle.cr_wanted.proofs.exprs.places_of.Given as goal

abbrev pub invariant-loop-assignment : goal.invariant-loop-assignment
invariant-loop-assignment l = l.out.items ≡ map place_of (take l.assignment-index l.assignments)
