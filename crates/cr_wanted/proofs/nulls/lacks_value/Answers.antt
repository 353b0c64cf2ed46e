use Rattle.std.proofs.Common.{◌∙◌, ap}
use Rattle.cr_query.specs.Writes.{has_null, lacks_value}
use Rattle.cr_wanted.proofs.Tests.{any_here, any_over}
use Rattle.cr_wanted.proofs.nulls.lacks_value.Goals as goal

pub returns-then-has_lacking : goal.returns-then-has_lacking
unfolding lacks_value
returns-then-has_lacking c =
    any_here (has_null c.args.def.now) c.args.rows.now c.loop-row.row-index c.row-item.result c.has_lacking.result _ c.loop-row-test.true c.row-item.is
    (c.has_lacking.ensures ∙ ap (has_null c.args.def.now) c.as_slice.ensures) c.if-has_lacking.true c.loop-row.invariant

pub returns : goal.returns
unfolding lacks_value
returns c = any_over (has_null c.args.def.now) c.args.rows.now c.loop-row.row-index _ c.loop-row-test.false c.loop-row.invariant
