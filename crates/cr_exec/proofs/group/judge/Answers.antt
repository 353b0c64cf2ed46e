use Rattle.std.proofs.Common.{◌∙◌, ◌∷◌, [], ap, map, option_map, subst}
use Rattle.std.proofs.lemmas.List.{map-append}
use Rattle.cr_scalar.specs.Host.{host}
use Rattle.cr_query.specs.Query.{has}
use Rattle.cr_meaning.specs.View.{plain}
use Rattle.cr_exec.specs.Answers.{IsMeant}
use Rattle.cr_exec.specs.Scopes.{in_scope}
use Rattle.cr_exec.specs.Shows.{shown_of}
use Rattle.cr_exec.proofs.Grouping.{judged_shown}
use Rattle.cr_exec.proofs.group.judge.Goals as goal

pub returns : goal.returns
returns g c =
    let h = host (g.F.Functions.function_of c.args.functions.now) (g.F.Functions.scalar c.args.functions.now) (g.F.Functions.step c.args.functions.now) (g.F.Functions.finish c.args.functions.now) (g.F.Functions.order_of c.args.functions.now) in
    judged_shown h c.args.params.now c.args.scope c.args.having.now c.args.results.now c.args.keys.now (map shown_of c.args.out.now.items) (shown_of c.in_ok-shown.shown) (map shown_of c.push.new.out.items)
    (ap (map shown_of) c.in_ok-push.ensures.puts ∙ map-append shown_of c.args.out.now.items (c.in_ok-shown.shown ∷ []))
    (subst (IsMeant h c.args.params.now (λ m. has m (option_map plain c.args.having.now) (in_scope m c.args.scope))) c.if-not-is_wanted.false c.in_ok-is_wanted.ensures)
    c.in_ok-shown.ensures
