use Rattle.std.proofs.Common.{ap, refl}
use Rattle.cr_term.specs.declared.query.Resolved.TheVariants as r
use Rattle.cr_questions.specs.Questions.{left_of}
use Rattle.cr_resolve.specs.Resolve.{read}
use Rattle.cr_session.specs.Sessions.{clean, honest, standing}
use Rattle.cr_session.specs.Performing.{beside}
use Rattle.cr_session.proofs.Beside.{performed_beside}
use Rattle.cr_session.proofs.Carrying.{carries_transacted, refuses_permitted, rollback_is, rolled_back}
use Rattle.cr_session.proofs.session.Session.transact.Goals as goal

pub returns-in-Err-clause-carries : goal.returns-in-Err-clause-carries
returns-in-Err-clause-carries g c = λ ms has names.
    refuses_permitted _ _ _ _ _ _ has _ names _ (honest g.C.Cells.is_honest) (clean g.C.Cells.is_clean) (beside ms (standing g.C.Cells.holding)) c.args.params.now c.args.self.now c.args.statement.now c.empty_snapshot-nothing.result c.in-Err.refusal c.requires.form c.in-Err.ensures

pub returns-in-Begin-clause-carries : goal.returns-in-Begin-clause-carries
returns-in-Begin-clause-carries g c = λ ms has names.
    carries_transacted _ _ _ _ _ _ has _ names _ (honest g.C.Cells.is_honest) (clean g.C.Cells.is_clean) (beside ms (standing g.C.Cells.holding)) c.args.params.now c.args.self.now c.begin.new.self c.args.statement.now c.empty_snapshot-nothing.result r.Begin c.begin.result c.requires.form
    (λ answers known. ap (λ x. left_of answers (read known x).made) c.in-Begin.is) (performed_beside _ _ _ g.C.Cells.is_honest g.C.Cells.is_clean g.C.Cells.holding ms _ _ _ _ refl (λ clean. refl) (c.begin.ensures.performs _ _ _)) c.in_default.ensures

pub returns-in-Commit-clause-carries : goal.returns-in-Commit-clause-carries
returns-in-Commit-clause-carries g c = λ ms has names.
    carries_transacted _ _ _ _ _ _ has _ names _ (honest g.C.Cells.is_honest) (clean g.C.Cells.is_clean) (beside ms (standing g.C.Cells.holding)) c.args.params.now c.args.self.now c.commit.new.self c.args.statement.now c.empty_snapshot-nothing.result r.Commit c.commit.result c.requires.form
    (λ answers known. ap (λ x. left_of answers (read known x).made) c.in-Commit.is) (performed_beside _ _ _ g.C.Cells.is_honest g.C.Cells.is_clean g.C.Cells.holding ms _ _ _ _ refl (λ clean. refl) (c.commit.ensures.performs _ _)) c.in_default.ensures

pub returns-clause-carries : goal.returns-clause-carries
returns-clause-carries g c = λ ms has names.
    carries_transacted _ _ _ _ _ _ has _ names _ (honest g.C.Cells.is_honest) (clean g.C.Cells.is_clean) (beside ms (standing g.C.Cells.holding)) c.args.params.now c.args.self.now c.rollback.new.self c.args.statement.now c.empty_snapshot-nothing.result r.Rollback c.rollback.result c.requires.form
    (λ answers known. ap (λ x. left_of answers (read known x).made) (rollback_is c.args.statement.now c.requires.form c.in_default-statement.not-Begin c.in_default-statement.not-Commit)) (performed_beside _ _ _ g.C.Cells.is_honest g.C.Cells.is_clean g.C.Cells.holding ms _ _ _ _ refl (λ clean. refl) (c.rollback.ensures.performs _ _ _)) c.in_default.ensures

pub returns-clause-opened : goal.returns-clause-opened
returns-clause-opened g c =
    rolled_back c.rollback.result c.args.statement.now c.args.self.now.1 c.rollback.new.self.1 (rollback_is c.args.statement.now c.requires.form c.in_default-statement.not-Begin c.in_default-statement.not-Commit) c.rollback.ensures.ended
