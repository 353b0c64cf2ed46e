use Rattle.std.proofs.Common.{◌≡◌, List, take}
use Rattle.std.specs.List.{AllByRecursion}
use Rattle.sqlite.specs.Order.{Row}
use Rattle.sqlite.specs.State.{HasCleanDisk, KeepsCommit, Survives}
use Rattle.sqlite.specs.Held.{state}
use Rattle.cr_lattice.specs.declared.stamped.Stamped.{Stamped}
use Rattle.cr_store.specs.Plan.{put_all}
use Rattle.cr_store.specs.Ordinals.{IsNamed}
use Rattle.cr_store.specs.Shows.{HasCells}
use Rattle.cr_store.proofs.writing.put_all.Given as goal

abbrev pub invariant-loop-new : goal.invariant-loop-new
invariant-loop-new g l =
    let old = state g.S.Store l.fn.tx.conn.now in
    let now = state g.S.Store l.tx.conn.now in
    record {
      same_reference : l.tx.conn.ghost_name ≡ l.fn.tx.conn.ghost_name;
      survives : Survives old now (λ _. ⊥);
      inside : HasCleanDisk now → l.tx.conn.now.in_transaction ≡ l.fn.tx.conn.now.in_transaction;
      kept : HasCleanDisk now → KeepsCommit old now;
      put : HasCleanDisk now → (a : List Row) (b : List Row) (o : List Row) (d : List Row) (ss : List Stamped) → AllByRecursion (λ n. IsNamed l.tables n.cell) l.news → HasCells old.now l.tables a b o d ss → HasCells now.now l.tables a b o d (put_all (take l.new-index l.news) ss);
    }
