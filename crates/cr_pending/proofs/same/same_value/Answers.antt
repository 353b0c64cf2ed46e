use Rattle.std.proofs.Common.{◌≡◌, ◌↔◌, IsTrue, Bool, sym, subst, ◌∙◌, ap}
use Rattle.std.specs.Ordering.{is_eq}
use Rattle.cr_value.specs.OrderLaws.{value_total, value_exact}
use Rattle.cr_pending.proofs.Equals.{tied}
use Rattle.cr_pending.proofs.same.same_value.Goals as goal

pub returns : goal.returns
returns c =
    subst (λ (b : Bool). IsTrue b ↔ (c.args.a.now ≡ c.args.b.now)) (sym (c.is_eq.ensures ∙ ap is_eq c.cmp_binary.ensures)) (tied value_total value_exact c.args.a.now c.args.b.now)
