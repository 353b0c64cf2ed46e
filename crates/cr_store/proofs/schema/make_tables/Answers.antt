use Rattle.std.proofs.Common.{[]}
use Rattle.sqlite.specs.Held.{state}
use Rattle.cr_store.proofs.StoreLemmas.{was_clean}
use Rattle.cr_store.proofs.schema.make_tables.Goals as goal

pub returns-clause-made : goal.returns-clause-made
returns-clause-made g c clean none =
    let s1 = state g.S.Store c.make_first_tables.new.tx.conn.now in
    let one = was_clean s1 (state g.S.Store c.make_cells.new.tx.conn.now) c.make_cells.ensures.survives clean in
    c.make_cells.ensures.made clean [] [] [] [] (c.in_ok-make_first_tables.ensures.made one none)
