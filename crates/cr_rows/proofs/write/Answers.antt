use Rattle.std.proofs.Common.{ap}
use Rattle.sqlite.specs.Values.{bound}
use Rattle.sqlite.specs.Held.{state}
use Rattle.cr_rows.proofs.WriteLemmas.{fails}
use Rattle.cr_rows.proofs.write.Goals as goal

pub returns-in_err-execute-clause-failed : goal.returns-in_err-execute-clause-failed
returns-in_err-execute-clause-failed g c = λ clean it.
    fails c.args.sql.now (bound c.args.params.now) (state g.S.Store c.args.tx.now.conn.now) (state g.S.Store c.execute.new.self.conn.now) c.from_residual.result c.in_err-execute.field-0.0 it
    (λ none. ap (λ conn. state g.S.Store conn) (c.in_err-execute.ensures.ended none).1) (c.in_err-execute.ensures.runs clean)
