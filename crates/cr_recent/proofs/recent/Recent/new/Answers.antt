use Rattle.std.proofs.Common.{◌≡◌, [], ℤ, SFits, w64, to_z, of_z, to_z-of_z, sym, ap, subst, ◌∙◌, rules}
use Rattle.cr_recent.specs.Notes.{Noted, AreNoted}
use Rattle.cr_recent.proofs.NoteLemmas.{nothing_above}
use Rattle.cr_recent.proofs.recent.Recent.new.Goals as goal

pub invariant_of-result : goal.invariant_of-result
invariant_of-result g c = λ clean.
    let h = g.C.Cells.holding c.args.cells in
    let fits : SFits w64 c.db_version-version.result = search rules in
    let at : to_z w64 (of_z w64 c.db_version-version.result) ≡ h.version = to_z-of_z fits ∙ c.db_version-version.ensures.version clean in
    subst (λ (n : Noted). AreNoted n h.cells) (sym (c.new.ensures ∙ ap (λ (v : ℤ). record { from = v; notes = [] }) at)) (nothing_above h (c.db_version-version.ensures.sound clean))
