use Rattle.std.proofs.Common.{refl, ◌∙◌, ap, map}
use Rattle.std.specs.Str.{bytes_eq}
use Rattle.cr_host.specs.Registry.{Named, is_named, with_collation}
use Rattle.cr_host.specs.Names.{folded}
use Rattle.cr_host.proofs.Entries.{shown-insert, each-insert}
use Rattle.cr_host.proofs.registry.Registry.add_collation.Goals as goal

pub returns-in-Ok-clause-ok : goal.returns-in-Ok-clause-ok
returns-in-Ok-clause-ok g c =
    let fresh : Named = record { name = folded c.args.name.now; number = c.args.number } in
    ap (map _) c.in-Ok.ensures.entries ∙ shown-insert _ (λ e. record { name = e.0.bytes.items; number = e.1.number }) c.in-Some.key _ (is_named c.args.name.now) (λ l. record l { number = c.args.number }) fresh (with_collation c.args.name.now c.args.number) refl (λ l ls. refl) (λ e. ap (λ n. bytes_eq n e.0.bytes.items) c.in-Some.ensures.folded) (λ e. refl)
    (ap (λ n. record { name = n; number = c.args.number }) c.in-Some.ensures.folded) c.args.self.now.collations.entries

pub returns-in-Ok-clause-faithful : goal.returns-in-Ok-clause-faithful
returns-in-Ok-clause-faithful g c = (c.requires.faithful.0, rw (c.in-Ok.ensures.entries) (each-insert _ _ _ _ c.requires.compares c.args.self.now.collations.entries c.requires.faithful.1))
