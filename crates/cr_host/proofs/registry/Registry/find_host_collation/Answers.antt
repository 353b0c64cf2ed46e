use Rattle.std.proofs.Common.{◌∙◌, refl, sym}
use Rattle.cr_host.specs.Registry.{is_named, is_collation_key}
use Rattle.cr_host.proofs.Entries.{named, order-placed, position-shown}
use Rattle.cr_host.proofs.registry.Registry.find_host_collation.Goals as goal

pub returns : goal.returns
returns g c =
    let entries = c.args.self.now.collations.entries in
    record {
      place = c.place_of_collation.ensures ∙ position-shown (named (λ x. x.number) g.H.HostMeaning.order) (is_named c.args.name.now) (is_collation_key c.args.name.now) (λ e. refl) entries;
      order = order-placed (λ x. x.number) g.H.HostMeaning.order c.args.name.now entries c.place_of_collation.result (sym c.place_of_collation.ensures);
    }
