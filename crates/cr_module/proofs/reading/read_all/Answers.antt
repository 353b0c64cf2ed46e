use Rattle.std.proofs.Common.{◌≡◌, ◌∙◌, ◌++◌, false, List, [], ◌∷◌, rules, ap}
use Rattle.cr_query.specs.Query.{Row}
use Rattle.cr_module.specs.Lawful.{is_at_end, rest_of}
use Rattle.cr_module.proofs.Readings.{all_rows, first_wide, fewer, next_row, rest_wide}
use Rattle.cr_module.proofs.reading.read_all.Goals as goal

pub loop-alloc-init : goal.loop-alloc-init
loop-alloc-init g c = (
  ap (λ (rs : List Row). rs ++ g.M.Module.left c.args.listed.now c.args.cursor) c.new-rows.ensures.items,
  rw c.columns-width.ensures c.requires,
)

pub loop-alloc-preserved : goal.loop-alloc-preserved
loop-alloc-preserved g c =
    let left : List Row = g.M.Module.left c.args.listed.now c.loop-alloc.cursor in
    let some : is_at_end left ≡ false = search rules in (
      (λ i. c.in_ok-push.ensures.items i ++ c.in_ok-next.ensures i)
          ∙ (λ i. (c.loop-alloc.rows.items ++ c.in_ok-read_row.ensures i ∷ []) ++ rest_of left)
          ∙ next_row c.loop-alloc.rows.items left _ some c.loop-alloc.invariant.0,
      rw c.in_ok-next.ensures (rest_wide _ left some c.loop-alloc.invariant.1),
    )

pub loop-alloc-smaller : goal.loop-alloc-smaller
loop-alloc-smaller g c =
    let left : List Row = g.M.Module.left c.args.listed.now c.loop-alloc.cursor in
    let some : is_at_end left ≡ false = search rules in
    rw c.in_ok-next.ensures (fewer left some)

pub read_row-requires-clause-wide : goal.read_row-requires-clause-wide
read_row-requires-clause-wide g c =
    let left : List Row = g.M.Module.left c.args.listed.now c.loop-alloc.cursor in
    let some : is_at_end left ≡ false = search rules in
    first_wide _ left some c.loop-alloc.invariant.1

pub returns : goal.returns
returns g c =
    let left : List Row = g.M.Module.left c.args.listed.now c.loop-alloc.cursor in
    rw c.new.ensures (all_rows c.loop-alloc.rows.items left _ (search rules) c.loop-alloc.invariant.0)
