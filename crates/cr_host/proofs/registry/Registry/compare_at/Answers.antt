use Rattle.std.proofs.Common.{◌∙◌, sym, ap}
use Rattle.cr_host.specs.Registry.{orders}
use Rattle.cr_host.proofs.Entries.{value_at, holds_at, order-at}
use Rattle.cr_host.proofs.registry.Registry.compare_at.Goals as goal

pub compare-requires-2 : goal.compare-requires-2
compare-requires-2 g c = holds_at _ (orders c.args.self.now) c.args.place c.in-Some.collating.now c.requires.1 (value_at c.args.self.now.collations.entries c.args.place _ (sym c.in-Some.ensures.entry))

pub returns : goal.returns
returns g c =
    c.compare-2.ensures ∙ sym (ap (λ order. order c.args.a.now c.args.b.now) (order-at (λ x. x.number) g.H.HostMeaning.order c.args.self.now.collations.entries c.args.place _ (sym c.in-Some.ensures.entry)))
