use Rattle.std.proofs.Common.{◌∙◌, ap, map}
use Rattle.cr_scalar.specs.Host.{host}
use Rattle.cr_meaning.specs.View.{plain}
use Rattle.cr_exec.specs.Tails.{with_quiet_first}
use Rattle.cr_wanted.proofs.Written.{wanted_deletes}
use Rattle.cr_wanted.proofs.delete.wanted_by_delete.Goals as goal

pub returns-clause-wanted : goal.returns-clause-wanted
returns-clause-wanted g c =
    let f = g.F.Functions in
    let own = c.args.functions.now in
    let h = host (f.function_of own) (f.scalar own) (f.step own) (f.finish own) (f.order_of own) in
    wanted_deletes h c.args.params.now (λ v. v.items) c.args.delete.now c.in_ok-terms.terms.items c.as_slice-2.result.now
    (g.S.Source.rows_of c.args.source.now c.args.table) c.as_slice-2.ensures.value
    (c.in_ok-terms.ensures ∙ ap (λ es. with_quiet_first (map plain es)) c.as_slice.ensures) c.kept_each.result c.kept_each.ensures.keeps
