use Rattle.std.proofs.Common.{◌≡◌, ◌≤◌, ◌++◌, length}
use Rattle.cr_lattice.specs.Keep.{join}
use Rattle.cr_cells.specs.Holding.{kept_of}
use Rattle.cr_module.specs.Lawful.{AreWide}
use Rattle.cr_scalar.specs.Host.{host}
use Rattle.cr_pushdown.specs.Passing.{passing}
use Rattle.cr_pushdown.specs.Scan.{Stands, rows_left}
use Rattle.cr_pushdown.proofs.scan.passing_rows.Given as goal

abbrev pub invariant-loop : goal.invariant-loop
invariant-loop g l =
    let by = host (g.F.Functions.function_of l.functions) (g.F.Functions.scalar l.functions) (g.F.Functions.step l.functions) (g.F.Functions.finish l.functions) (g.F.Functions.order_of l.functions) in
    let kept = kept_of (g.C.Cells.holding l.fn.replica) in
    record {
      was_honest : g.C.Cells.is_honest l.replica → g.C.Cells.is_honest l.fn.replica;
      stays_clean : g.C.Cells.is_honest l.replica → g.C.Cells.is_clean l.fn.replica → g.C.Cells.is_clean l.replica;
      was_clean : g.C.Cells.is_clean l.replica → g.C.Cells.is_clean l.fn.replica;
      same : g.C.Cells.is_clean l.replica → g.C.Cells.holding l.replica ≡ g.C.Cells.holding l.fn.replica;
      stands : Stands l.scan;
      table : l.scan.def.now ≡ l.def;
      few : length l.out.items ≤ l.most;
      wide : AreWide l.def.columns l.out.items;
      so_far : g.C.Cells.is_clean l.replica → l.out.items ++ rows_left by l.params l.terms kept l.scan ≡ passing by l.params l.terms l.def (join kept l.changes);
    }
