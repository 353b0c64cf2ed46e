use Rattle.std.proofs.Common.{◌≡◌, ◌∙◌, List, ap, subst}
use Rattle.std.specs.Option.{option_copied}
use Rattle.cr_lattice.specs.declared.table.Table.{Table}
use Rattle.cr_query.specs.Query.{Row}
use Rattle.cr_scalar.specs.Host.{Host as Means, host}
use Rattle.cr_pushdown.specs.Passing.{passing}
use Rattle.cr_world.specs.State.{now}
use Rattle.cr_session.specs.declared.filtering.Seen.TheVariants as seen
use Rattle.cr_session.specs.Scans.{IsReplicated, IsScan}
use Rattle.cr_session.specs.Sessions.{standing}
use Rattle.cr_session.proofs.Scanning.{seen_as}
use Rattle.cr_session.proofs.session.Session.look_filtered.Goals as goal

pub returns-in-Ok-Some-clause-finds : goal.returns-in-Ok-Some-clause-finds
returns-in-Ok-Some-clause-finds g c = λ clean.
    let was = c.see_answer.ensures.device.was_clean clean in
    let found = c.in-Ok-Some.ensures.finds clean in
    let table = c.in-Some.table.now in
    record {
      same = found.same;
      finds = record {
        table = table;
        replicated = subst (λ (ts : List Table). IsReplicated ts c.args.name.now table) (c.as_slice.ensures ∙ (c.requires.named was).tables)
            (c.replicated_named.ensures table (ap option_copied c.in-Some.is));
        answers = found.finds c.in-Ok-Some.answer c.in-Ok-Some.field-0-is;
      };
    }

pub returns-in-Ok-None-clause-finds : goal.returns-in-Ok-None-clause-finds
returns-in-Ok-None-clause-finds g c = λ clean.
    let by : Means = host (g.F.Functions.function_of c.args.functions.now) (g.F.Functions.scalar c.args.functions.now) (g.F.Functions.step c.args.functions.now) (g.F.Functions.finish c.args.functions.now) (g.F.Functions.order_of c.args.functions.now) in
    let st = standing g.C.Cells.holding c.args.self.now in
    let clean_before = c.see_passing.ensures.device.was_clean clean in
    let was = c.see_answer.ensures.device.was_clean clean_before in
    let none = c.in-Ok-None.ensures.finds clean_before in
    let found = c.see_passing.ensures.finds clean in
    let table = c.in-Some.table.now in
    seen_as seen.Rows (λ (rows : List Row). rows ≡ passing by c.args.params.now c.as_slice-terms.result.now table.definition (now (standing g.C.Cells.holding c.see_answer.new.self)))
    (IsScan by c.args.params.now st c.args.name.now c.args.query.now) st (standing g.C.Cells.holding c.see_passing.new.self) c.see_passing.result c.map-in-Ok-None.result c.map-in-Ok-None.ensures.cases
    (λ rows is. record {
      table = table;
      replicated = subst (λ (ts : List Table). IsReplicated ts c.args.name.now table) (c.as_slice.ensures ∙ (c.requires.named was).tables)
          (c.replicated_named.ensures table (ap option_copied c.in-Some.is));
      are = is ∙ (λ i. passing by c.args.params.now (c.as_slice-terms.ensures i) table.definition (now (none.same i)));
    })
    (found.same ∙ none.same) found.finds
