use Rattle.std.proofs.Common.{◌≡◌, ◌∙◌, List, Option, map, false, refl, ap, rules}
use Rattle.cr_scalar.specs.Host.{host}
use Rattle.cr_bags.specs.Bags.{gather}
use Rattle.cr_query.specs.Query.{Row, Meaning}
use Rattle.cr_meaning.specs.View.{Ordered}
use Rattle.cr_module.specs.Lawful.{is_at_end, rest_of}
use Rattle.cr_exec.specs.Answers.{Faults, Stage}
use Rattle.cr_exec.specs.Combinations.{tail}
use Rattle.cr_exec.specs.LookUps.{join_of, rows_of}
use Rattle.cr_exec.specs.Scopes.{there}
use Rattle.cr_exec.proofs.Streams.{read_ends, read_fails, read_next, read_starts}
use Rattle.cr_exec.proofs.streamed.join_read.Goals as goal

pub loop-alloc-init : goal.loop-alloc-init
loop-alloc-init g c =
    let f = g.F.Functions in
    let own = c.args.functions.now in
    let h = host (f.function_of own) (f.scalar own) (f.step own) (f.finish own) (f.order_of own) in
    let one : Meaning Ordered → Row → Option (List Row) =
    λ m. tail m (map there c.args.terms.now) (map join_of c.args.later.now) (map rows_of c.args.later.now) in
    let all : Stage (List Row) = λ m. gather (one m) (g.S.Source.rows_of c.args.source.now 0) in (
      read_starts h c.args.params.now one all c.args.out.now.items _ _ c.in_ok-cursor.ensures.starts (λ m. refl),
      c.in_ok-cursor.ensures.rows,
      search rules,
    )

pub returns-in_err-join_rest-clause-joins : goal.returns-in_err-join_rest-clause-joins
returns-in_err-join_rest-clause-joins g c =
    let f = g.F.Functions in
    let own = c.args.functions.now in
    let h = host (f.function_of own) (f.scalar own) (f.step own) (f.finish own) (f.order_of own) in
    let one : Meaning Ordered → Row → Option (List Row) =
    λ m. tail m (map there c.args.terms.now) (map join_of c.args.later.now) (map rows_of c.args.later.now) in
    let all : Stage (List Row) = λ m. gather (one m) (g.S.Source.rows_of c.args.source.now 0) in
    let left : List Row = g.S.Source.left c.loop-alloc.source c.loop-alloc.cursor in
    let some : is_at_end left ≡ false = search rules in
    let why : Faults h c.args.params.now all c.in_err-join_rest.field-0.0 =
    read_fails h c.args.params.now one all c.args.out.now.items left c.as_slice.result.now c.loop-alloc.out.items
    c.in_err-join_rest.field-0.0 some (c.as_slice.ensures ∙ c.in_ok-row.ensures.row) c.in_err-join_rest.ensures c.loop-alloc.invariant.0 in
    search rules

pub loop-alloc-preserved : goal.loop-alloc-preserved
loop-alloc-preserved g c =
    let f = g.F.Functions in
    let own = c.args.functions.now in
    let h = host (f.function_of own) (f.scalar own) (f.step own) (f.finish own) (f.order_of own) in
    let one : Meaning Ordered → Row → Option (List Row) =
    λ m. tail m (map there c.args.terms.now) (map join_of c.args.later.now) (map rows_of c.args.later.now) in
    let all : Stage (List Row) = λ m. gather (one m) (g.S.Source.rows_of c.args.source.now 0) in
    let left : List Row = g.S.Source.left c.loop-alloc.source c.loop-alloc.cursor in
    let some : is_at_end left ≡ false = search rules in (
      read_next h c.args.params.now one all c.args.out.now.items left _ c.as_slice.result.now c.loop-alloc.out.items
          c.join_rest.new.out.items some (c.as_slice.ensures ∙ c.in_ok-row.ensures.row)
          (c.in_ok-next.ensures.goes_on ∙ ap rest_of c.in_ok-row.ensures.stays) c.in_ok-join_rest.ensures c.loop-alloc.invariant.0,
      search rules,
      search rules,
    )

pub returns-clause-joins : goal.returns-clause-joins
returns-clause-joins g c =
    let f = g.F.Functions in
    let own = c.args.functions.now in
    let h = host (f.function_of own) (f.scalar own) (f.step own) (f.finish own) (f.order_of own) in
    let one : Meaning Ordered → Row → Option (List Row) =
    λ m. tail m (map there c.args.terms.now) (map join_of c.args.later.now) (map rows_of c.args.later.now) in
    let all : Stage (List Row) = λ m. gather (one m) (g.S.Source.rows_of c.args.source.now 0) in
    read_ends h c.args.params.now one all c.args.out.now.items _ c.loop-alloc.out.items (search rules) c.loop-alloc.invariant.0
