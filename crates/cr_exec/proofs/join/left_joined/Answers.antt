use Rattle.std.proofs.Common.{◌∙◌, ap, map, length, rules}
use Rattle.cr_scalar.specs.Host.{host}
use Rattle.cr_query.specs.Query.{nulls, or_padded}
use Rattle.cr_meaning.specs.View.{plain}
use Rattle.cr_exec.specs.Answers.{Faults}
use Rattle.cr_exec.specs.Combinations.{left_with}
use Rattle.cr_exec.specs.Groups.{row_there}
use Rattle.cr_exec.specs.Scopes.{there}
use Rattle.cr_exec.specs.Tails.{with_quiet_first}
use Rattle.cr_exec.proofs.Tails.{left_fault, left_both}
use Rattle.cr_exec.proofs.join.left_joined.Goals as goal

pub returns-in_err-matched : goal.returns-in_err-matched
returns-in_err-matched g c =
    let h = host (g.F.Functions.function_of c.args.functions.now) (g.F.Functions.scalar c.args.functions.now) (g.F.Functions.step c.args.functions.now) (g.F.Functions.finish c.args.functions.now) (g.F.Functions.order_of c.args.functions.now) in
    let why : Faults h c.args.params.now (λ m. left_with m c.args.join.now (map row_there c.args.rows.now) c.args.combination.now) c.in_err-matched.field-0.0 =
    left_fault h c.args.params.now c.args.join.now (map row_there c.args.rows.now) c.args.combination.now c.as_slice-2.result.now
    (ap (map there) c.as_slice-2.ensures.value ∙ c.in_ok-terms.ensures ∙ ap (λ es. with_quiet_first (map plain es)) c.as_slice.ensures) c.in_err-matched.field-0.0 c.in_err-matched.ensures in
    search rules

pub returns : goal.returns
returns g c =
    let h = host (g.F.Functions.function_of c.args.functions.now) (g.F.Functions.scalar c.args.functions.now) (g.F.Functions.step c.args.functions.now) (g.F.Functions.finish c.args.functions.now) (g.F.Functions.order_of c.args.functions.now) in
    left_both h c.args.params.now c.args.join.now (map row_there c.args.rows.now) c.args.combination.now c.as_slice-2.result.now
    (ap (map there) c.as_slice-2.ensures.value ∙ c.in_ok-terms.ensures ∙ ap (λ es. with_quiet_first (map plain es)) c.as_slice.ensures) c.in_ok-matched.matched.items c.in_ok-rows.rows.items
    (c.in_ok-rows.ensures ∙ ap (λ cols. or_padded (nulls (length cols)) c.args.combination.now c.in_ok-matched.matched.items) c.as_slice-width.ensures) c.in_ok-matched.ensures
