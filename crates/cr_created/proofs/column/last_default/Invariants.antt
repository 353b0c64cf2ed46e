use Rattle.std.proofs.Common.{◌≡◌, drop}
use Rattle.std.specs.Option.{option_copied, unwrap_or}
use Rattle.cr_value.specs.declared.value.Value.TheVariants.{Null}
use Rattle.cr_resolve.specs.Creates.{default_after}
use Rattle.cr_created.proofs.column.last_default.Given as goal

abbrev pub invariant-loop-constraint : goal.invariant-loop-constraint
invariant-loop-constraint l = default_after (unwrap_or (option_copied l.last) Null) (drop l.constraint-index l.constraints) ≡ default_after Null l.constraints
