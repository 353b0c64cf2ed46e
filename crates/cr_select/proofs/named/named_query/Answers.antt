use Rattle.std.proofs.Common.{List, sym, subst}
use Rattle.cr_resolve.specs.declared.scope.Source.{Source}
use Rattle.cr_resolve.specs.Reading.{Read}
use Rattle.cr_resolve.specs.Queries.{Named as NamedQuery}
use Rattle.cr_resolve.specs.Told.{Reads}
use Rattle.cr_select.specs.Named.{as_named, named_in}
use Rattle.cr_select.proofs.Readings.{over_sources}
use Rattle.cr_select.proofs.named.named_query.Goals as goal

pub returns : goal.returns
returns g c =
    let known = g.K.Naming.known c.args.known.now in
    subst (λ (r : Read NamedQuery). Reads r (as_named c.named_in.result)) (sym (over_sources known c.args.select.now c.in_ok-sources.sources c.in_ok-sources.ensures))
    (subst (λ (ss : List Source). Reads (named_in known ss c.args.select.now) (as_named c.named_in.result)) c.as_slice.ensures c.named_in.ensures)
