use Rattle.std.proofs.Common.{◌≡◌, take, drop}
use Rattle.cr_cells.specs.Tables.{first_fault, AreWellFormed}
use Rattle.cr_cells.proofs.tables.check_all.Given as goal

abbrev pub invariant-loop-change : goal.invariant-loop-change
invariant-loop-change l = record {
  each : AreWellFormed l.tables (take l.change-index l.changes);
  rest : first_fault l.tables (drop l.change-index l.changes) ≡ first_fault l.tables l.changes;
}
