use Rattle.std.proofs.Common.{◌≡◌, ◌-◌}
use Rattle.cr_tree.specs.Reading.{Parser}
use Rattle.cr_statement.specs.Given.{ReadsAs}
use Rattle.cr_statement.specs.Reading as reading
use Rattle.cr_statement.proofs.Turns.{more}
use Rattle.cr_statement.proofs.list.commas.Given as goal

abbrev pub invariant-loop-turn : goal.invariant-loop-turn
invariant-loop-turn g l = record {
  same : (p : Parser _) → ReadsAs p (goal.F-post g l.item) → more p (l._turn-end - l._turn) l.all l.tokens ≡ reading.commas p l.fn.tokens;
}
