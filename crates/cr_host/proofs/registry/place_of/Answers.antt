use Rattle.std.proofs.Common.{◌∙◌, sym, ap, ◌&&◌}
use Rattle.indexmap.specs.IndexMap.{keys}
use Rattle.cr_host.specs.Names.{folded}
use Rattle.cr_host.specs.Registry.{same_arity, is_key}
use Rattle.cr_host.proofs.Entries.{same_key, position-same, position-none, longer}
use Rattle.cr_host.proofs.registry.place_of.Goals as goal

pub returns-in_err-name : goal.returns-in_err-name
returns-in_err-name g c =
    c.from_residual.ensures ∙ sym (position-none (is_key c.args.name.now c.args.arity) (λ k. ap (λ b. b && same_arity c.args.arity k.arity) (longer c.args.name.now k.name.bytes.items (sym c.in_err-name.ensures.fits) k.name.fits)) (keys c.args.functions.now))

pub returns : goal.returns
returns g c =
    c.get_index_of.ensures.index ∙ position-same _ (is_key c.args.name.now c.args.arity) (λ k. same_key c.in_ok-name.name.bytes.items k.name.bytes.items (folded c.args.name.now) c.args.arity k.arity c.in_ok-name.ensures.folded) (keys c.args.functions.now)
