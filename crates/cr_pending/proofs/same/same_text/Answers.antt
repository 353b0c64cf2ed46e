use Rattle.std.proofs.Common.{◌≡◌, ◌↔◌, IsTrue, Bool, sym, subst, ◌∙◌}
use Rattle.cr_value.specs.OrderLaws.{bytes_total, bytes_exact}
use Rattle.cr_lattice.specs.Check.{same_bytes}
use Rattle.cr_pending.proofs.Equals.{tied}
use Rattle.cr_pending.proofs.same.same_text.Goals as goal

pub returns : goal.returns
returns c =
    subst (λ (b : Bool). IsTrue b ↔ (c.args.a.now ≡ c.args.b.now))
    (sym (c.same_bytes.ensures ∙ (λ i. same_bytes ((c.as_bytes.ensures.value ∙ c.as_str.ensures.value) i) ((c.as_bytes-2.ensures.value ∙ c.as_str-2.ensures.value) i))))
    (tied bytes_total bytes_exact c.args.a.now c.args.b.now)
