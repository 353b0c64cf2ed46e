use Rattle.std.proofs.Common.{ap, map, sym, subst, []}
use Rattle.sqlite.specs.Held.{state}
use Rattle.cr_store.specs.declared.format.Format.TheVariants.{Second}
use Rattle.cr_store.specs.Rows.{meta_rows, table_rows, mark_row}
use Rattle.cr_store.specs.Shows.{HasCells}
use Rattle.cr_store.proofs.MoveLemmas.{has_cells}
use Rattle.cr_store.specs.Kept.{IsClean, holding_of}
use Rattle.cr_store.proofs.StoreHolding.{cells_sorted}
use Rattle.cr_store.proofs.store.StoreCells.page.Goals as goal

pub returns-clause-reads : goal.returns-clause-reads
returns-clause-reads g c clean =
    let old = state g.S.Store c.self.inside.conn in
    let early : IsClean g.S.Store c.self.inside.conn = record { clean = c.page.ensures.clean clean.clean; is_open = c.page.ensures.was_open clean.clean clean.is_open } in
    let shown = c.self.invariant.shows early in
    let h = holding_of (state g.S.Store c.self.inside.conn).now c.self.inside.known in
    let has = subst (λ ts. HasCells (state g.S.Store c.self.inside.conn).now ts (meta_rows Second h.site h.version) (table_rows 1 h.tables) [] (map mark_row h.marks) h.cells) (sym c.deref.ensures.value)
    (has_cells (state g.S.Store c.self.inside.conn).now h shown (c.self.invariant.sound early)) in
    let same = c.page.ensures.same clean.clean shown.schema clean.is_open in
    rw (← c.self.view_is) (record {
      same = ap (λ db. holding_of db c.self.inside.known) same;
      answers = c.page.ensures.found clean.clean clean.is_open _ _ _ _ _ has (cells_sorted Second c.self.inside.known.tables.items (old.now.trees 8));
    })
