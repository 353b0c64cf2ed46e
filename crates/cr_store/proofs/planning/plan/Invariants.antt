use Rattle.std.proofs.Common.{◌≡◌, List, false, IsTrue, take}
use Rattle.std.specs.Option.{ForSome}
use Rattle.std.specs.List.Sorted.{IsStrictlySortedBy}
use Rattle.sqlite.specs.Held.{state}
use Rattle.sqlite.specs.Order.{Row}
use Rattle.sqlite.specs.State.{HasCleanDisk}
use Rattle.cr_lattice.specs.declared.stamped.Stamped.{Stamped}
use Rattle.cr_cells.specs.Holding.{cell_cmp, cells_of}
use Rattle.cr_store.specs.Plan.{IsPlan}
use Rattle.cr_store.specs.Schema.{store_schema}
use Rattle.cr_store.specs.Shows.{HasCells}
use Rattle.cr_store.proofs.planning.plan.Given as goal

abbrev pub invariant-loop-change : goal.invariant-loop-change
invariant-loop-change g l =
    let old = state g.S.Store l.fn.conn in
    let new = state g.S.Store l.conn in
    record {
      mode : l.conn.in_transaction ≡ false;
      clean : HasCleanDisk new → HasCleanDisk old;
      was_open : HasCleanDisk new → IsTrue new.is_open → IsTrue old.is_open;
      opened : HasCleanDisk new → IsTrue old.is_open → IsTrue new.is_open;
      same : HasCleanDisk new → old.now.schema ≡ store_schema → IsTrue new.is_open → new.now ≡ old.now;
      planned : HasCleanDisk new → IsTrue new.is_open → (a b o d : List Row) → (ss : List Stamped) → HasCells old.now l.tables a b o d ss → IsStrictlySortedBy cell_cmp ss
          → IsPlan ss (take l.change-index l.changes) l.version l.plan;
      read : HasCleanDisk new → IsTrue new.is_open → (a b o d : List Row) → (ss : List Stamped) → HasCells old.now l.tables a b o d ss → IsStrictlySortedBy cell_cmp ss
          → ForSome l.read (λ r. l.row.items ≡ cells_of ss r.now.table r.now.pk);
    }
