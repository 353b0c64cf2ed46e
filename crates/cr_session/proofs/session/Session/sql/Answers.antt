use Rattle.std.proofs.Common.{rules, ◌≡◌}
use Rattle.cr_session.proofs.Scripting.{script_does}
use Rattle.cr_session.proofs.session.Session.sql.Goals as goal

pub returns-clause-does : goal.returns-clause-does
returns-clause-does g c = λ has names.
    let same : c.args.source.now ≡ c.as_str.result.now = search rules in
    rw same (script_does _ _ g.C.Cells.is_honest g.C.Cells.is_clean g.C.Cells.holding _ _ _ _ (c.run.ensures.carries has names))

pub returns-clause-heard : goal.returns-clause-heard
returns-clause-heard g c = λ has names clean.
    let same : c.args.source.now ≡ c.as_str.result.now = search rules in
    rw same (c.run.ensures.heard has names clean)
