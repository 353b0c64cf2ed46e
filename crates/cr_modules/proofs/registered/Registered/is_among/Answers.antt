use Rattle.std.proofs.Common.{ap, sym, ◌∙◌}
use Rattle.cr_lattice.specs.Check.{same_bytes}
use Rattle.cr_snapshot.specs.Seen.{name_of}
use Rattle.cr_modules.proofs.Listing.{none_among, one_among}
use Rattle.cr_modules.proofs.registered.Registered.is_among.Goals as goal

pub returns-then-is_called : goal.returns-then-is_called
returns-then-is_called g c =
    sym (one_among name_of c.args.self.now.name c.args.joined.now c.loop-source.source-index c.source-item.result c.loop-source-test.true c.source-item.is
    (ap (same_bytes c.args.self.now.name) (sym c.as_str.ensures.value) ∙ sym c.is_called.ensures ∙ c.if-is_called.true))

pub returns : goal.returns
returns g c = sym (none_among name_of c.args.self.now.name c.args.joined.now c.loop-source.source-index c.loop-source-test.false c.loop-source.invariant)
