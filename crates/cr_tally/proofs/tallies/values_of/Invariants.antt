use Rattle.std.specs.List.{AllZip}
use Rattle.cr_tally.specs.Tallies.{Worth}
use Rattle.cr_tally.proofs.tallies.values_of.Given as goal

abbrev pub invariant-loop-tally : goal.invariant-loop-tally
invariant-loop-tally l = AllZip Worth l.yielded l.values.items
