use Rattle.std.proofs.Common.{sym, ◌∙◌, arith}
use Rattle.std.specs.Char.{to_ascii_lowercase}
use Rattle.cr_value.proofs.Comparing.{told, goes_on, by_length}
use Rattle.cr_value.proofs.collation.cmp_lowercase.Goals as goal

pub returns-then-is_ne : goal.returns-then-is_ne
returns-then-is_ne c = sym (told to_ascii_lowercase c.args.a.now c.args.b.now c.loop-at.at c.cmp-order.result (omega arith) (omega arith) (rw (c.to_ascii_lowercase.ensures.value, c.to_ascii_lowercase-in-loop-at.ensures.value) at c.cmp-order.ensures) (sym c.is_ne.ensures ∙ c.if-is_ne.true)) ∙ c.loop-at.invariant

pub loop-at-preserved : goal.loop-at-preserved
loop-at-preserved c = goes_on to_ascii_lowercase c.args.a.now c.args.b.now c.loop-at.at c.cmp-order.result (omega arith) (omega arith) (rw (c.to_ascii_lowercase.ensures.value, c.to_ascii_lowercase-in-loop-at.ensures.value) at c.cmp-order.ensures) (sym c.is_ne.ensures ∙ c.if-is_ne.false) ∙ c.loop-at.invariant

pub returns : goal.returns
returns c = c.cmp.ensures ∙ sym (by_length to_ascii_lowercase c.args.a.now c.args.b.now c.loop-at.at (omega arith)) ∙ c.loop-at.invariant
