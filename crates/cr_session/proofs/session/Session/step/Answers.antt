use Rattle.std.proofs.Common.{refl}
use Rattle.cr_session.proofs.session.Session.step.Goals as goal

pub returns-in-Define-clause-does : goal.returns-in-Define-clause-does
returns-in-Define-clause-does g c = λ has names. rw c.in-Define.is (c.declare.ensures has _)

pub returns-in-Take-clause-does : goal.returns-in-Take-clause-does
returns-in-Take-clause-does g c = λ has names. rw c.in-Take.is (c.take_row.ensures.does _)

pub returns-in-Changes-clause-does : goal.returns-in-Changes-clause-does
returns-in-Changes-clause-does g c = λ has names. rw c.in-Changes.is (c.changes.ensures _ _)

pub returns-in-Sql-clause-does : goal.returns-in-Sql-clause-does
returns-in-Sql-clause-does g c = λ has names. rw c.in-Sql.is (c.sql.ensures.does has names)

pub returns-in-Define-clause-heard : goal.returns-in-Define-clause-heard
returns-in-Define-clause-heard g c = λ has names clean. rw c.in-Define.is (refl, refl)

pub returns-in-Take-clause-heard : goal.returns-in-Take-clause-heard
returns-in-Take-clause-heard g c = λ has names clean. rw c.in-Take.is (c.take_row.ensures.heard clean)

pub returns-in-Rows-clause-heard : goal.returns-in-Rows-clause-heard
returns-in-Rows-clause-heard g c = λ has names clean. rw c.in-Rows.is (refl, refl)

pub returns-in-Changes-clause-heard : goal.returns-in-Changes-clause-heard
returns-in-Changes-clause-heard g c = λ has names clean. rw c.in-Changes.is (refl, refl)

pub returns-in-Sql-clause-heard : goal.returns-in-Sql-clause-heard
returns-in-Sql-clause-heard g c = λ has names clean. rw c.in-Sql.is (c.sql.ensures.heard has names clean)
