use Rattle.std.proofs.Common.{◌≡◌, ◌-◌, ◌++◌, ◌∷◌, [], take, sym, ap, ◌∙◌, arith}
use Rattle.std.specs.List.{filter_map}
use Rattle.std.specs.Option.{option_to_list, option_copied}
use Rattle.std.proofs.lemmas.List.{append-nil}
use Rattle.cr_delta.specs.Key.{key_part, key_places, key_values}
use Rattle.cr_delta.proofs.KeyParts.{parts_more}
use Rattle.cr_delta.proofs.key.key_values.Goals as goal
use Rattle.cr_delta.proofs.key.key_values.Goals.{in-Some+in_ok-copy+in_ok-push, in_default}

pub loop-place-preserved : goal.loop-place-preserved
loop-place-preserved c =
    let f = key_part c.args.def.now c.args.row.now in
    let before = filter_map f (take (c.loop-place.place - 1) key_places) in
    let more = parts_more f c.loop-place.place c.loop-place.auto.place c.loop-place-test.true in
    elim c.match-key_part.branch [
      | in-Some+in_ok-copy+in_ok-push w ↦
          ap (λ v. v.items) w.values-is
          ∙ w.in_ok-push.ensures.items
          ∙ ap (λ x. c.loop-place.values.items ++ x ∷ []) w.in_ok-copy.ensures
          ∙ ap (λ vs. vs ++ w.in-Some.value.now ∷ []) c.loop-place.invariant
          ∙ ap (λ o. before ++ option_to_list o) (sym (ap option_copied w.in-Some.is) ∙ c.key_part.ensures)
          ∙ sym more
      | in_default w ↦
          ap (λ v. v.items) w.values-is
          ∙ c.loop-place.invariant
          ∙ sym (append-nil before)
          ∙ ap (λ o. before ++ option_to_list o) (sym (ap option_copied w.in_default.is) ∙ c.key_part.ensures)
          ∙ sym more
    ]

pub returns : goal.returns
unfolding key_values
returns c =
    let last : c.loop-place.place ≡ 9 = omega arith in
    c.loop-place.invariant ∙ ap (λ p. filter_map (key_part c.args.def.now c.args.row.now) (take (p - 1) key_places)) last
