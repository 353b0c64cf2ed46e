use Rattle.std.proofs.Common.{arith, length, drop, ◌≤◌, length-drop}
use Rattle.cr_shell.proofs.BytesLemmas.{appends_next, part_of, part_next, rest_from}
use Rattle.cr_shell.proofs.watched.takes.Goals as goal

pub loop-at-preserved : goal.loop-at-preserved
loop-at-preserved g c = record {
  within = (let b : c.in-Ok.n ≤ length (drop c.loop-at.at c.args.bytes.now) = rw rest_from at c.in-Ok.ensures.bound in let i = c.loop-at.invariant.within in omega (arith, length-drop c.loop-at.at c.args.bytes.now));
  front = appends_next _ _ _ c.loop-at.at c.in-Ok.n c.args.bytes.now c.loop-at.invariant.front c.in-Ok.ensures.bytes;
}

pub returns-in-Ok-eq0-clause-part : goal.returns-in-Ok-eq0-clause-part
returns-in-Ok-eq0-clause-part g c = λ _. part_next _ _ _ c.loop-at.at c.args.bytes.now c.loop-at-test.true c.loop-at.invariant.front (rw c.in-Ok-eq0.field-0-test at c.in-Ok-eq0.ensures.bytes)

pub returns-in-Err-clause-part : goal.returns-in-Err-clause-part
returns-in-Err-clause-part g c = λ _. part_of _ _ _ c.loop-at.at c.args.bytes.now c.loop-at-test.true c.loop-at.invariant.front c.in-Err.ensures.bytes
