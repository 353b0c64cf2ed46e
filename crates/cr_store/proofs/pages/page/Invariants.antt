use Rattle.std.proofs.Common.{◌≡◌, false, IsTrue}
use Rattle.sqlite.specs.Held.{state}
use Rattle.sqlite.specs.State.{HasCleanDisk}
use Rattle.cr_store.specs.Schema.{store_schema}
use Rattle.cr_store.proofs.pages.page.Given as goal

abbrev pub invariant-loop-turn : goal.invariant-loop-turn
invariant-loop-turn g l =
    let old = state g.S.Store l.fn.conn in
    let new = state g.S.Store l.conn in
    record {
      mode : l.conn.in_transaction ≡ false;
      clean : HasCleanDisk new → HasCleanDisk old;
      was_open : HasCleanDisk new → IsTrue new.is_open → IsTrue old.is_open;
      opened : HasCleanDisk new → IsTrue old.is_open → IsTrue new.is_open;
      same : HasCleanDisk new → old.now.schema ≡ store_schema → IsTrue new.is_open → new.now ≡ old.now;
    }
