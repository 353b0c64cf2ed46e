use Rattle.std.proofs.Common.{◌≡◌, ◌++◌, ◌∷◌, [], false, sym, ap, ◌∙◌, rules, w64, to_z, of_z, FitsSigned}
use Rattle.std.specs.Prelude.{◌+ℤ◌, pos}
use Rattle.std.specs.List.{list_any}
use Rattle.std.proofs.lemmas.Int.{to_z-of_z}
use Rattle.std.proofs.lemmas.List.{drop_all}
use Rattle.std.proofs.lemmas.Result.{err_from_is_err_and}
use Rattle.cr_lattice.specs.Check.{same_bytes}
use Rattle.cr_lattice.specs.Rows.{is_present}
use Rattle.cr_delta.specs.Delta.{row_change, is_past_limit, passes_limit}
use Rattle.cr_delta.specs.Steps.{removal}
use Rattle.cr_delta.proofs.Additions.{stop_next, one_within, one_passes, adds_nothing, removal_goes, removal_gone, removal_stays}
use Rattle.cr_delta.proofs.Remains.{remains_all, remains_step, remains_stop, remains_none, next_of}
use Rattle.cr_delta.proofs.delta.add_removals.Goals as goal
use Rattle.cr_delta.proofs.delta.add_removals.Goals.{then-is_present+then-not-has_key+in_ok-cl+in_ok-row_change+in_ok-push, else-is_present, else-is_present-via-then-is_present+else-not-has_key, else-is_present-via-else-is_present}

pub loop-change-init : goal.loop-change-init
loop-change-init c = remains_all _ _ _

pub loop-change-preserved : goal.loop-change-preserved
loop-change-preserved c =
    let f = removal c.args.def.now c.args.site.now c.args.keys.now in
    let x = c.change-item.result in
    let step = next_of c.args.kept.now c.loop-change.change-index x c.loop-change-test.true c.change-item.is in
    let present = c.is_present.ensures ∙ ap (λ t. is_present t x) c.as_str.ensures.value in
    elim c.if-is_present.branch [
      | then-is_present+then-not-has_key+in_ok-cl+in_ok-row_change+in_ok-push w ↦ (
          let gone : list_any (λ k. same_bytes k x.pk) c.args.keys.now ≡ false = sym w.has_key.ensures ∙ w.if-not-has_key.true in
          let one = removal_goes c.args.def.now c.args.site.now c.args.keys.now x (sym present ∙ w.if-is_present.true) gone in
          let fits : FitsSigned w64 x.cl = search rules in
          let next_fits : FitsSigned w64 w.in_ok-cl.cl = search rules in
          let next : w.in_ok-cl.cl ≡ x.cl +ℤ pos 1 = w.in_ok-cl.ensures.0 ∙ ap (λ n. n +ℤ pos 1) (to_z-of_z w64 x.cl fits) in
          let made : w.in_ok-row_change.field-0 ≡ row_change c.args.def.now c.args.site.now x.pk (x.cl +ℤ pos 1) =
          w.in_ok-row_change.ensures
          ∙ ap (λ pk. row_change c.args.def.now c.args.site.now pk (to_z w64 (of_z w64 w.in_ok-cl.cl))) w.as_slice.ensures
          ∙ ap (row_change c.args.def.now c.args.site.now x.pk) (to_z-of_z w64 w.in_ok-cl.cl next_fits ∙ next) in
          remains_step f _ _ _ _ _ _ _ step
          (ap (λ v. v.items) w.out-is ∙ w.in_ok-push.ensures.items ∙ ap (λ y. c.loop-change.out.items ++ y ∷ []) made ∙ ap (λ zs. c.loop-change.out.items ++ zs) (sym one))
          (ap passes_limit one ∙ one_within _ (ap is_past_limit (sym next) ∙ w.in_ok-cl.ensures.1) (ap is_past_limit (sym next) ∙ w.in_ok-cl.ensures.1))
          c.loop-change.invariant)
      | else-is_present w ↦ (
          let none : f x ≡ [] = elim w.else-is_present.branch [
            | else-is_present-via-then-is_present+else-not-has_key w' ↦
                removal_stays c.args.def.now c.args.site.now c.args.keys.now x (sym present ∙ w'.if-is_present.true) (sym w'.has_key.ensures ∙ w'.if-not-has_key.false)
            | else-is_present-via-else-is_present w' ↦ removal_gone c.args.def.now c.args.site.now c.args.keys.now x (sym present ∙ w'.if-is_present.false)
          ] in
          let same = adds_nothing c.loop-change.out.items (f x) none in
          remains_step f _ _ _ _ _ _ _ step (ap (λ v. v.items) w.out-is ∙ same.0) same.1 c.loop-change.invariant)
    ]

pub returns-in_err-cl : goal.returns-in_err-cl
returns-in_err-cl c =
    let f = removal c.args.def.now c.args.site.now c.args.keys.now in
    let x = c.change-item.result in
    let step = next_of c.args.kept.now c.loop-change.change-index x c.loop-change-test.true c.change-item.is in
    let present = sym (c.is_present.ensures ∙ ap (λ t. is_present t x) c.as_str.ensures.value) ∙ c.if-is_present.true in
    let gone : list_any (λ k. same_bytes k x.pk) c.args.keys.now ≡ false = sym c.has_key.ensures ∙ c.if-not-has_key.true in
    let one = removal_goes c.args.def.now c.args.site.now c.args.keys.now x present gone in
    let fits : FitsSigned w64 x.cl = search rules in
    let p = err_from_is_err_and c.from_residual.result c.from_residual.ensures.1 in
    rw (p.1, p.2)
    (stop_next c.in_err-cl.field-0.0 (to_z w64 (of_z w64 x.cl)) _ _ _ c.in_err-cl.ensures
    (λ past. remains_stop f _ _ _ _ _ _ step (ap passes_limit one ∙ one_passes _ (ap (λ n. is_past_limit (n +ℤ pos 1)) (sym (to_z-of_z w64 x.cl fits)) ∙ past)) c.loop-change.invariant))

pub returns : goal.returns
returns c = remains_none (removal c.args.def.now c.args.site.now c.args.keys.now) _ _ _ _ (drop_all c.loop-change.change-index c.args.kept.now c.loop-change-test.false) c.loop-change.invariant
