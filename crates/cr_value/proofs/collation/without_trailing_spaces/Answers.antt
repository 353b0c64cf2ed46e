use Rattle.std.proofs.Common.{ℕ, [], ◌∷◌, ◌++◌, sym, ◌∙◌, ap}
use Rattle.cr_value.specs.Collation.{without_trailing_spaces}
use Rattle.cr_value.proofs.Comparing.{one_space}
use Rattle.cr_value.proofs.collation.without_trailing_spaces.Goals as goal

pub loop-front-preserved : goal.loop-front-preserved
loop-front-preserved c =
    let arm = c.in-Some-eq32-default in
    sym (one_space arm.front.now) ∙ ap (λ (last : ℕ). without_trailing_spaces (arm.front.now ++ last ∷ [])) (sym arm.field-0-0-test) ∙ sym (ap without_trailing_spaces arm.ensures.cases.0) ∙ c.loop-front.invariant
