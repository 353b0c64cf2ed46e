use Rattle.std.proofs.Common.{◌∙◌, ap, sym, subst, map, rules}
use Rattle.cr_scalar.specs.Host.{host}
use Rattle.cr_exec.specs.Answers.{Faults}
use Rattle.cr_exec.specs.Comparisons.{held_order}
use Rattle.cr_exec.specs.Groups.{StandsByClass, IsByClass}
use Rattle.cr_exec.specs.Scopes.{there}
use Rattle.cr_exec.specs.Shows.{shown_of}
use Rattle.cr_exec.proofs.ByClass.{grouped_by, under_fault, under_answers}
use Rattle.cr_exec.proofs.grouped.show_under.Goals as goal

pub returns-in_err-keyed : goal.returns-in_err-keyed
returns-in_err-keyed g c =
    let h = host (g.F.Functions.function_of c.args.functions.now) (g.F.Functions.scalar c.args.functions.now) (g.F.Functions.step c.args.functions.now) (g.F.Functions.finish c.args.functions.now) (g.F.Functions.order_of c.args.functions.now) in
    let why : Faults h c.args.params.now (grouped_by h c.args.params.now c.args.terms.now c.args.having.now c.args.results.now c.args.keys.now c.args.combinations.now) c.in_err-keyed.field-0.0 =
    under_fault h c.args.params.now c.args.terms.now c.as_slice.result.now (ap (map there) c.as_slice.ensures.value ∙ c.in_ok-exprs.ensures) c.args.combinations.now c.args.having.now c.args.results.now c.args.keys.now c.in_err-keyed.field-0.0 c.in_err-keyed.ensures in
    search rules

pub show_classes-requires-clause-in_order : goal.show_classes-requires-clause-in_order
show_classes-requires-clause-in_order g c =
    subst (StandsByClass (map (held_order (g.F.Functions.order_at c.args.functions.now)) c.as_slice-senses.result.now)) (sym c.as_slice-keyed.ensures.value) c.in_ok-keyed-2.ensures.in_order

pub returns : goal.returns
returns g c =
    let h = host (g.F.Functions.function_of c.args.functions.now) (g.F.Functions.scalar c.args.functions.now) (g.F.Functions.step c.args.functions.now) (g.F.Functions.finish c.args.functions.now) (g.F.Functions.order_of c.args.functions.now) in
    let Rs = map (held_order (g.F.Functions.order_at c.args.functions.now)) c.as_slice-senses.result.now in
    under_answers h c.args.params.now c.args.terms.now c.as_slice.result.now (ap (map there) c.as_slice.ensures.value ∙ c.in_ok-exprs.ensures) c.args.combinations.now c.args.having.now c.args.results.now c.args.keys.now
    Rs (ap (map (held_order (g.F.Functions.order_at c.args.functions.now))) c.as_slice-senses.ensures.value ∙ c.in_ok-senses.ensures) c.in_ok-keyed.keyed.items c.as_slice-keyed.result.now (subst (IsByClass Rs c.in_ok-keyed.keyed.items) (sym c.as_slice-keyed.ensures.value) c.in_ok-keyed-2.ensures)
    c.as_slice-classes.result.now (c.as_slice-classes.ensures.value ∙ c.in_ok-classes.ensures)
    (λ v. map shown_of v.items) c.in_ok-keyed.ensures c.show_classes.result c.show_classes.ensures
