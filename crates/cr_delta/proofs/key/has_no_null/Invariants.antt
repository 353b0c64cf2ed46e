use Rattle.std.proofs.Common.{take}
use Rattle.std.specs.List.{AllByRecursion}
use Rattle.cr_value.specs.Packing.{IsNotNull}
use Rattle.cr_delta.proofs.key.has_no_null.Given as goal

abbrev pub invariant-loop-value : goal.invariant-loop-value
invariant-loop-value l = AllByRecursion IsNotNull (take l.value-index l.values)
