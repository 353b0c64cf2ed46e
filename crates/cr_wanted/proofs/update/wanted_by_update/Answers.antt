use Rattle.std.proofs.Common.{◌∙◌, ap, map}
use Rattle.cr_scalar.specs.Host.{host}
use Rattle.cr_meaning.specs.View.{plain}
use Rattle.cr_exec.specs.Scopes.{there}
use Rattle.cr_exec.specs.Tails.{with_quiet_first}
use Rattle.cr_wanted.specs.Rows.{assigned_expr, place_of}
use Rattle.cr_wanted.proofs.Written.{wanted_updates}
use Rattle.cr_wanted.proofs.update.wanted_by_update.Goals as goal

pub returns-clause-wanted : goal.returns-clause-wanted
returns-clause-wanted g c =
    let f = g.F.Functions in
    let own = c.args.functions.now in
    let h = host (f.function_of own) (f.scalar own) (f.step own) (f.finish own) (f.order_of own) in
    wanted_updates h c.args.params.now c.args.columns.now c.args.update.now c.as_slice-4.result.now c.as_slice-5.result.now c.as_slice-6.result.now
    (ap (map there) c.as_slice-4.ensures.value ∙ c.in_ok-terms.ensures ∙ ap (λ es. with_quiet_first (map plain es)) c.as_slice.ensures)
    (c.as_slice-5.ensures.value ∙ c.in_ok-places.ensures ∙ ap (map place_of) c.as_slice-2.ensures)
    (ap (map there) c.as_slice-6.ensures.value ∙ c.in_ok-exprs.ensures ∙ ap (map assigned_expr) c.as_slice-3.ensures)
    (λ v. v.items) (g.S.Source.rows_of c.args.source.now c.args.table) c.updated_each.result c.updated_each.ensures.updates
