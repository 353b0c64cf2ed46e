use Rattle.std.proofs.Common.{arith, rules, subst, sym}
use Rattle.sqlite.specs.State.{HasCleanDisk}
use Rattle.sqlite.specs.Held.{state}
use Rattle.cr_cells.specs.Tables.{with_replicated}
use Rattle.cr_store.specs.Rows.{table_rows}
use Rattle.cr_store.specs.Shows.{Holds}
use Rattle.cr_store.proofs.tables.replicate.Goals as goal

pub returns-clause-set : goal.returns-clause-set
returns-clause-set g c clean a o cells marks tables it =
    let late : HasCleanDisk (state g.S.Store c.commit.new.self.0) = search rules in
    let begun = c.transaction-tx.ensures.begun in
    let inside : HasCleanDisk (state g.S.Store c.set_replicated.new.tx.conn.now) = omega (arith, c.commit.ensures.survives.clean, late) in
    let done = c.in_ok-set_replicated.ensures.set inside a o cells marks tables (rw begun it) in
    let fact : Holds (state g.S.Store c.commit.new.self.0).now a (table_rows 1 (with_replicated c.args.name.now tables)) o cells marks =
    subst (λ db. Holds db a (table_rows 1 (with_replicated c.args.name.now tables)) o cells marks) (sym (c.in_ok-commit.ensures.ok late).1.now_is) done in
    search (rules, fact)
