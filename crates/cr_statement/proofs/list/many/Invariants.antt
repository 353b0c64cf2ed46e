use Rattle.std.proofs.Common.{◌≡◌, ◌-◌, Option}
use Rattle.cr_tree.specs.Reading.{Parser}
use Rattle.cr_statement.specs.Given.{ReadsAs}
use Rattle.cr_statement.specs.Reading.{found_from, found}
use Rattle.cr_statement.proofs.list.many.Given as goal

abbrev pub invariant-loop-turn : goal.invariant-loop-turn
invariant-loop-turn g l = record {
  same : (p : Parser (Option _)) → ReadsAs p (goal.F-post g l.item) → found_from p (l._turn-end - l._turn) l.all l.tokens ≡ found p l.fn.all l.fn.tokens;
}
