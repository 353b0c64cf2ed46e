-- What is told where a file in memory can't grow. Source: this project's own.
use Rattle.std.specs.Prelude.{Result, Ok, Err}
use Rattle.cr_cells.specs.declared.store.CellsError.{CellsError}
use Rattle.cr_cells.specs.declared.store.CellsError.TheVariants.{Memory, Store, VersionLimit}

-- a refusal of the store is want of memory
abbrev pub as_want : {T : Type 0} → Result T CellsError → Result T CellsError
as_want (Ok v) = Ok v
as_want (Err Memory) = Err Memory
as_want (Err (Store f)) = Err Memory
as_want (Err VersionLimit) = Err VersionLimit
