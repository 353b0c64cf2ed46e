use Rattle.std.proofs.Common.{arith, rules, subst, sym, map, []}
use Rattle.sqlite.specs.State.{HasCleanDisk}
use Rattle.sqlite.specs.Held.{state}
use Rattle.cr_store.specs.declared.format.Format.TheVariants.{Second}
use Rattle.cr_store.specs.Rows.{meta_rows, cell_row}
use Rattle.cr_store.specs.Shows.{Holds}
use Rattle.cr_store.proofs.migrating.migrate.Goals as goal

pub returns-clause-made : goal.returns-clause-made
returns-clause-made g c clean site version b cells d named it =
    let late : HasCleanDisk (state g.S.Store c.commit.new.self.0) = search rules in
    let begun = c.transaction-tx.ensures.begun in
    let inside : HasCleanDisk (state g.S.Store c.rewrite.new.tx.conn.now) = omega (arith, c.commit.ensures.survives.clean, late) in
    let done = c.in_ok-rewrite.ensures.made inside site version b cells d named (rw begun it) in
    let fact : Holds (state g.S.Store c.commit.new.self.0).now (meta_rows Second site version) b [] (map (cell_row Second c.args.tables.now) c.args.cells.now) d =
    subst (λ db. Holds db (meta_rows Second site version) b [] (map (cell_row Second c.args.tables.now) c.args.cells.now) d) (sym (c.in_ok-commit.ensures.ok late).1.now_is) done in
    search (rules, fact)
