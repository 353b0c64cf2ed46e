use Rattle.std.proofs.Common.{◌∙◌, ap, map, refl, rules}
use Rattle.cr_scalar.specs.Host.{host}
use Rattle.cr_query.specs.Writes as writes
use Rattle.cr_query.specs.Writes.{put_all}
use Rattle.cr_meaning.specs.View.{plain}
use Rattle.cr_exec.specs.Answers.{Faults}
use Rattle.cr_exec.specs.Scopes.{there}
use Rattle.cr_wanted.proofs.Written.{tuple_fault, tuple_both}
use Rattle.cr_wanted.proofs.insert.inserted.Goals as goal

pub returns-in_err-values : goal.returns-in_err-values
returns-in_err-values g c =
    let h = host (g.F.Functions.function_of c.args.functions.now) (g.F.Functions.scalar c.args.functions.now) (g.F.Functions.step c.args.functions.now) (g.F.Functions.finish c.args.functions.now) (g.F.Functions.order_of c.args.functions.now) in
    let why : Faults h c.args.params.now (λ m. writes.inserted m c.args.columns.now c.args.places.now (map plain c.args.tuple.now)) c.in_err-values.field-0.0 =
    tuple_fault h c.args.params.now c.args.columns.now c.args.places.now c.args.tuple.now c.as_slice.result.now _ (ap (map there) c.as_slice.ensures.value ∙ c.in_ok-exprs.ensures) refl c.in_err-values.field-0.0 c.in_err-values.ensures in
    search rules

pub returns : goal.returns
returns g c =
    let h = host (g.F.Functions.function_of c.args.functions.now) (g.F.Functions.scalar c.args.functions.now) (g.F.Functions.step c.args.functions.now) (g.F.Functions.finish c.args.functions.now) (g.F.Functions.order_of c.args.functions.now) in
    tuple_both h c.args.params.now c.args.columns.now c.args.places.now c.args.tuple.now c.as_slice.result.now _ (ap (map there) c.as_slice.ensures.value ∙ c.in_ok-exprs.ensures) refl c.in_ok-values.values c.in_ok-row.row.items c.new.result c.in_ok-row.ensures
    (c.new.ensures ∙ c.in_ok-put_all.ensures ∙ ap (λ vs. put_all c.args.columns.now c.args.places.now vs c.in_ok-row.row.items) c.as_slice-2.ensures) c.in_ok-values.ensures
