use Rattle.std.proofs.Common.{◌∙◌, ◌&&◌, ap, not, nat_lt, length, List, Bool}
use Rattle.cr_value.specs.declared.value.Value.{Value}
use Rattle.cr_value.specs.Packing.{size_limit}
use Rattle.cr_delta.specs.Key.{key_of}
use Rattle.cr_query.specs.Writes.{has_null_key, has_long_key}
use Rattle.cr_wanted.proofs.Tests.{any_here, any_over}
use Rattle.cr_wanted.proofs.long.has_long_key.Goals as goal

pub returns-then-is_long : goal.returns-then-is_long
unfolding has_long_key
returns-then-is_long c =
    let p : List Value → Bool = λ r. not (has_null_key c.args.def.now r) && nat_lt size_limit (length (key_of c.args.def.now r)) in
    any_here p c.args.rows.now c.loop-row.row-index c.row-item.result c.is_long.result _ c.loop-row-test.true c.row-item.is
    (c.is_long.ensures ∙ ap p c.as_slice.ensures) c.if-is_long.true c.loop-row.invariant

pub returns : goal.returns
unfolding has_long_key
returns c = any_over (λ r. not (has_null_key c.args.def.now r) && nat_lt size_limit (length (key_of c.args.def.now r))) c.args.rows.now c.loop-row.row-index _ c.loop-row-test.false c.loop-row.invariant
