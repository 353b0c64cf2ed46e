-- What the sample of a module chooses. Source: this project's own.
use Rattle.std.specs.Prelude.{[], false, pos}
use Rattle.cr_module.specs.declared.plan.Choice.{Choice}

-- no constraint, and no order
abbrev pub all_rows : Choice
all_rows = record { args = []; index = pos 0; cost = 1000000; consumed = false }
