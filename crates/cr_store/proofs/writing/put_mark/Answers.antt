use Rattle.std.proofs.Common.{◌≡◌, true, false, w64, rules, SFits, sym, ◌∙◌}
use Rattle.std.proofs.lemmas.Int.{to_z-of_z}
use Rattle.sqlite.specs.Held.{state}
use Rattle.cr_store.specs.Words.{has_site}
use Rattle.cr_store.proofs.StoreLemmas.{ok_then}
use Rattle.cr_store.proofs.WriteLemmas.{marks_set, marks_added}
use Rattle.cr_store.proofs.writing.put_mark.Goals as goal

pub returns-then-is_there-clause-put : goal.returns-then-is_there-clause-put
returns-then-is_there-clause-put g c clean a b o cells marks told it =
    let now = state g.S.Store c.update_mark.new.tx.conn.now in
    let fits : SFits w64 c.in-Some.mark.1 = search rules in
    let known = rw c.in-Some.is at told in
    let there : has_site marks c.in-Some.mark.0 ≡ true = sym known ∙ c.if-is_there.true in
    rw c.in-Some.is (ok_then c.update_mark.result _ _ (λ h. marks_set now.now a b o cells c.in-Some.mark marks there h) (simp (to_z-of_z w64 c.in-Some.mark.1 fits) at (c.update_mark.ensures.set clean a b o cells marks it)))

pub returns-else-is_there-clause-put : goal.returns-else-is_there-clause-put
returns-else-is_there-clause-put g c clean a b o cells marks told it =
    let now = state g.S.Store c.insert_mark.new.tx.conn.now in
    let fits : SFits w64 c.in-Some.mark.1 = search rules in
    let known = rw c.in-Some.is at told in
    let none : has_site marks c.in-Some.mark.0 ≡ false = sym known ∙ c.if-is_there.false in
    rw c.in-Some.is (ok_then c.insert_mark.result _ _ (λ h. marks_added now.now a b o cells c.in-Some.mark marks none h) (simp (to_z-of_z w64 c.in-Some.mark.1 fits) at (c.insert_mark.ensures.put clean a b o cells marks it)))
