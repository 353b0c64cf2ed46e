use Rattle.std.proofs.Common.{◌∙◌, sym}
use Rattle.indexmap.specs.IndexMap.{keys}
use Rattle.cr_host.specs.Registry.{is_collation_key}
use Rattle.cr_host.proofs.Entries.{position-none, longer}
use Rattle.cr_host.proofs.registry.place_of_collation.Goals as goal

pub returns-in_err-name : goal.returns-in_err-name
returns-in_err-name g c =
    c.from_residual.ensures ∙ sym (position-none (is_collation_key c.args.name.now) (λ k. longer c.args.name.now k.bytes.items (sym c.in_err-name.ensures.fits) k.fits) (keys c.args.collations.now))
