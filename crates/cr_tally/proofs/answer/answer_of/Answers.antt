use Rattle.std.proofs.Common.{◌∙◌, List, [], map, subst, sym}
use Rattle.cr_value.specs.declared.value.Value.{Value}
use Rattle.cr_scalar.specs.Host.{Host as Means, host}
use Rattle.cr_value.proofs.Fields.{some_is}
use Rattle.cr_meaning.specs.Meaning.{strict}
use Rattle.cr_exec.specs.Answers.{IsMeant}
use Rattle.cr_exec.specs.Shows.{shown_of}
use Rattle.cr_tally.specs.Over.{group_shows}
use Rattle.cr_tally.proofs.answer.answer_of.Goals as goal

pub returns : goal.returns
returns g c x is =
    let by : Means = host (g.F.Functions.function_of c.args.functions.now) (g.F.Functions.scalar c.args.functions.now) (g.F.Functions.step c.args.functions.now) (g.F.Functions.finish c.args.functions.now) (g.F.Functions.order_of c.args.functions.now) in
    record {
      values = c.in-Some.values;
      worth = c.in_ok-values.ensures c.in-Some.values c.in-Some.is;
      group = map shown_of c.in-Some-2.shown.items;
      shows = subst (λ (vs : List Value). IsMeant by c.args.params.now (λ m. group_shows m c.args.over.now (record { shown = vs; members = [] })) (map shown_of c.in-Some-2.shown.items)) c.as_slice.ensures (c.in_ok-shown.ensures c.in-Some-2.shown c.in-Some-2.is);
      are = λ most. sym (some_is _ x is) ∙ c.new.ensures ∙ c.in_ok-finished.ensures (strict most) c.args.params.now;
    }
