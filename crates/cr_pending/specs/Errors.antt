-- Why changes are not added. Source: this project's own.
use Rattle.cr_lattice.specs.declared.check.CheckError.{CheckError}
use Rattle.cr_lattice.specs.declared.check.CheckError.TheVariants as check
use Rattle.cr_pending.specs.declared.pending.PendingError.{PendingError}
use Rattle.cr_pending.specs.declared.pending.PendingError.TheVariants.{Memory, Bad}

abbrev pub of_check : CheckError → PendingError
of_check check.Memory = Memory
of_check (check.Bad b) = Bad b
