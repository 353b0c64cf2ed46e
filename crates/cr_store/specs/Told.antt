-- What a store tells of an error of sqlite. Source: the codes are SQLite's "Result and Error Codes", the choice is this project's own.
use Rattle.sqlite.specs.declared.error.Error.{Error}
use Rattle.sqlite.specs.declared.error.Error.TheVariants.{SqliteFailure}
use Rattle.sqlite.specs.declared.error.ErrorCode.TheVariants.{OutOfMemory}
use Rattle.cr_cells.specs.declared.store.CellsError.{CellsError}
use Rattle.cr_cells.specs.declared.store.CellsError.TheVariants.{Memory, Store}
use Rattle.cr_cells.specs.declared.store.StoreFault.TheVariants.{Refused}

-- want of memory as that, whatever else sqlite refuses as a refusal of the store
abbrev pub told : Error → CellsError
told (SqliteFailure OutOfMemory) = Memory
told _ = Store Refused
