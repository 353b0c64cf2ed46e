use Rattle.std.proofs.Common.{◌≡◌, false, List, map}
use Rattle.sqlite.specs.Order.{Row}
use Rattle.sqlite.specs.Values.{bound}
use Rattle.sqlite.specs.State.{HasCleanDisk}
use Rattle.sqlite.specs.Held.{state}
use Rattle.cr_rows.specs.Made.{MakesAs}
use Rattle.cr_rows.proofs.EachLemmas.{HasShown}
use Rattle.cr_rows.proofs.read_each.Given as goal

abbrev pub invariant-rows : goal.invariant-rows
invariant-rows g l =
    let old = state g.S.Store l.fn.conn in
    let now = state g.S.Store l.rows.conn.now in
    record {
      same_reference : l.rows.conn.ghost_name ≡ l.initial.rows.conn.ghost_name;
      mode : l.fn.conn.in_transaction ≡ false → l.rows.conn.now.in_transaction ≡ false;
      clean : HasCleanDisk now → HasCleanDisk old;
      shown : HasCleanDisk now → (given : List Row) × HasShown g.S.Store l.sql (bound l.params) l.fn.conn l.rows.conn.now given
          × ((f : Row → _) → MakesAs f (goal.F-post g l.read) → l.made.items ≡ map f given);
    }
