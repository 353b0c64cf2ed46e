use Rattle.sqlite.specs.Values.{bound}
use Rattle.sqlite.specs.Held.{state}
use Rattle.cr_rows.proofs.AskLemmas.{asks_same, open_before}
use Rattle.cr_rows.proofs.ask.Goals as goal

pub returns-clause-same : goal.returns-clause-same
returns-clause-same g c clean plain =
    asks_same c.args.sql.now (bound c.args.params.now) (state g.S.Store c.args.conn.now) (state g.S.Store c.query_all.new.self) c.query_all.result plain (c.query_all.ensures.ok clean)
    (c.query_all.ensures.err clean)

pub returns-clause-was_open : goal.returns-clause-was_open
returns-clause-was_open g c clean =
    open_before c.args.sql.now (bound c.args.params.now) (state g.S.Store c.args.conn.now) (state g.S.Store c.query_all.new.self) c.query_all.result (c.query_all.ensures.ok clean)
    (c.query_all.ensures.err clean)
