use Rattle.std.specs.Option.{option_copied}
use Rattle.cr_questions.proofs.Firsts.{explicit_from_case}
use Rattle.cr_questions.proofs.operands.+explicit.Goals as goal

pub explicit_collation-returns-in-Case : goal.explicit_collation-returns-in-Case
explicit_collation-returns-in-Case t c =
    explicit_from_case c.args.expr.now c.in-Case.operand c.in-Case.arms c.as_slice-in-Case.result.now c.in-Case.otherwise
    (option_copied c.or_explicit_if_any-found.result) (option_copied c.or_explicit_of_arms-found.result) (option_copied c.or_explicit_if_any.result)
    c.in-Case.is c.as_slice-in-Case.ensures c.or_explicit_if_any-found.ensures c.or_explicit_of_arms-found.ensures c.or_explicit_if_any.ensures
