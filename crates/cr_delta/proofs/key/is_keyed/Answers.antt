use Rattle.std.proofs.Common.{◌∙◌, rules}
use Rattle.cr_delta.proofs.KeyParts.{keyed_by}
use Rattle.cr_delta.proofs.key.is_keyed.Goals as goal

pub returns-in-Ok : goal.returns-in-Ok
returns-in-Ok c = (λ _. keyed_by c.args.def.now c.args.row.now c.deref-2.result.now c.in-Ok.field-0.items (c.deref-2.ensures.value ∙ c.in_ok-values.ensures) c.in-Ok.ensures.ok, λ _. search rules)
