use Rattle.std.proofs.Common.{◌≡◌, ◌∙◌, List, [], Option, option_map, false, refl, ap, rules}
use Rattle.cr_scalar.specs.Host.{host}
use Rattle.cr_bags.specs.Bags.{gather, single}
use Rattle.cr_query.specs.Query.{Row, Meaning}
use Rattle.cr_meaning.specs.View.{Ordered}
use Rattle.cr_module.specs.Lawful.{is_at_end, rest_of}
use Rattle.cr_exec.specs.Answers.{Faults, Stage}
use Rattle.cr_exec.proofs.Loops.{none_single, one_behind}
use Rattle.cr_exec.proofs.Streams.{read_fails, read_next}
use Rattle.cr_wanted.specs.Rows.{updated_by}
use Rattle.cr_wanted.proofs.Readings.{list_starts, list_ends}
use Rattle.cr_wanted.proofs.update.updated_each.Goals as goal

pub loop-alloc-init : goal.loop-alloc-init
loop-alloc-init g c =
    let f = g.F.Functions in
    let own = c.args.functions.now in
    let h = host (f.function_of own) (f.scalar own) (f.step own) (f.finish own) (f.order_of own) in
    let a = c.args.assigning.now in
    let one : Meaning Ordered → Row → Option (List Row) =
    λ m row. option_map single (updated_by m a.columns.now a.terms.now a.places.now a.exprs.now row) in
    let all : Stage (List Row) = λ m. gather (one m) (g.S.Source.rows_of c.args.source.now c.args.table) in (
      list_starts h c.args.params.now one all _ c.new-out.result.items _ c.new-out.ensures.items c.in_ok-cursor.ensures.starts (λ m. refl),
      c.in_ok-cursor.ensures.rows,
      search rules,
    )

pub returns-in_err-new-clause-updates : goal.returns-in_err-new-clause-updates
returns-in_err-new-clause-updates g c =
    let f = g.F.Functions in
    let own = c.args.functions.now in
    let h = host (f.function_of own) (f.scalar own) (f.step own) (f.finish own) (f.order_of own) in
    let a = c.args.assigning.now in
    let one : Meaning Ordered → Row → Option (List Row) =
    λ m row. option_map single (updated_by m a.columns.now a.terms.now a.places.now a.exprs.now row) in
    let all : Stage (List Row) = λ m. gather (one m) (g.S.Source.rows_of c.args.source.now c.args.table) in
    let left : List Row = g.S.Source.left c.loop-alloc.source c.loop-alloc.cursor in
    let some : is_at_end left ≡ false = search rules in
    let why : Faults h c.args.params.now all c.in_err-new.field-0.0 =
    read_fails h c.args.params.now one all [] left c.in_ok-row.row c.loop-alloc.out.items c.in_err-new.field-0.0 some c.in_ok-row.ensures.row
    (none_single h c.args.params.now (λ m. updated_by m a.columns.now a.terms.now a.places.now a.exprs.now c.in_ok-row.row)
    c.in_err-new.field-0.0 c.in_err-new.ensures) c.loop-alloc.invariant.0 in
    search rules

pub loop-alloc-preserved : goal.loop-alloc-preserved
loop-alloc-preserved g c =
    let f = g.F.Functions in
    let own = c.args.functions.now in
    let h = host (f.function_of own) (f.scalar own) (f.step own) (f.finish own) (f.order_of own) in
    let a = c.args.assigning.now in
    let one : Meaning Ordered → Row → Option (List Row) =
    λ m row. option_map single (updated_by m a.columns.now a.terms.now a.places.now a.exprs.now row) in
    let all : Stage (List Row) = λ m. gather (one m) (g.S.Source.rows_of c.args.source.now c.args.table) in
    let left : List Row = g.S.Source.left c.loop-alloc.source c.loop-alloc.cursor in
    let some : is_at_end left ≡ false = search rules in (
      read_next h c.args.params.now one all [] left _ c.in_ok-row.row c.loop-alloc.out.items c.push.new.out.items some c.in_ok-row.ensures.row
          (c.in_ok-next.ensures.goes_on ∙ ap rest_of c.in_ok-row.ensures.stays)
          (one_behind h c.args.params.now (λ m. updated_by m a.columns.now a.terms.now a.places.now a.exprs.now c.in_ok-row.row) c.in_ok-new.new
          c.loop-alloc.out.items c.push.new.out.items c.in_ok-push.ensures.puts c.in_ok-new.ensures) c.loop-alloc.invariant.0,
      search rules,
      search rules,
    )

pub returns-clause-updates : goal.returns-clause-updates
returns-clause-updates g c =
    let f = g.F.Functions in
    let own = c.args.functions.now in
    let h = host (f.function_of own) (f.scalar own) (f.step own) (f.finish own) (f.order_of own) in
    let a = c.args.assigning.now in
    let one : Meaning Ordered → Row → Option (List Row) =
    λ m row. option_map single (updated_by m a.columns.now a.terms.now a.places.now a.exprs.now row) in
    let all : Stage (List Row) = λ m. gather (one m) (g.S.Source.rows_of c.args.source.now c.args.table) in
    list_ends h c.args.params.now one all _ c.loop-alloc.out.items (search rules) c.loop-alloc.invariant.0
