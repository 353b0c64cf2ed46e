use Rattle.std.proofs.Common.{◌≡◌, drop}
use Rattle.embedding.specs.Counted.{part}
use Rattle.embedding.proofs.counted.part.Given as goal

abbrev pub invariant-loop-argument : goal.invariant-loop-argument
invariant-loop-argument l = part l.index (drop l.argument-index l.args) l.span ≡ part l.initial.index l.args l.initial.span
