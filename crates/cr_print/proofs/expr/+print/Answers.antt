use Rattle.std.proofs.Common.{ℕ, List, [], ◌∷◌, ◌++◌, ap, map, codes, append_assoc}
use Rattle.std.specs.String.{string_bytes}
use Rattle.cr_lex.specs.Tokens.{doubled}
use Rattle.cr_print.specs.Pieces.{listed}
use Rattle.cr_print.specs.Expressions.{expr}
use Rattle.cr_print.proofs.Nodes.{in_text, between_text, call_text, cast_text, case_text}
use Rattle.cr_print.proofs.Steps.{last, last_by, next_part, comma_utf8}
use Rattle.cr_print.proofs.expr.+print.Goals as goal

pub push_expr-returns-in_ok-push_exprs-in-In : goal.push_expr-returns-in_ok-push_exprs-in-In
push_expr-returns-in_ok-push_exprs-in-In t c = last c.push_str-in-In.result _ _ (codes "))") _ c.push_str-in-In.ensures.bytes
    (simp (c.in_ok-push_exprs-in-In.ensures, c.as_slice.ensures, c.in_ok-push_within-in-In.ensures, c.get-in-In.ensures, c.in_word.ensures, c.in-In.is, in_text, append_assoc))

pub push_expr-returns-in_ok-push_within-in-Between-2 : goal.push_expr-returns-in_ok-push_within-in-Between-2
push_expr-returns-in_ok-push_within-in-Between-2 t c = last_by _ _ _ _ c.push_within-in-Between-3.ensures
    (simp (c.in_ok-push_within-in-Between-2.ensures, c.in_ok-push_within-in-Between.ensures, c.get-in-Between.ensures, c.get-in-Between-2.ensures, c.get-in-Between-3.ensures, c.between_word.ensures, c.in-Between.is, between_text, append_assoc))

pub push_expr-returns-in_ok-push_exprs-in-Call : goal.push_expr-returns-in_ok-push_exprs-in-Call
push_expr-returns-in_ok-push_exprs-in-Call t c = last c.push_str-in-Call-2.result _ _ (codes ")") _ c.push_str-in-Call-2.ensures.bytes
    (simp (c.in_ok-push_exprs-in-Call.ensures, c.as_slice-in-Call.ensures, c.in_ok-push_str-in-Call.ensures.bytes, c.in_ok-push_name-in-Call.ensures, c.in-Call.is, call_text, append_assoc)
    (ap (λ (t : List ℕ). string_bytes c.args.out.now ++ 34 ∷ t) (append_assoc (doubled 34 c.in-Call.name) (34 ∷ 40 ∷ listed (map expr c.in-Call.args)) (41 ∷ []))))

pub push_expr-returns-in_ok-push_names-in-Cast : goal.push_expr-returns-in_ok-push_names-in-Cast
push_expr-returns-in_ok-push_names-in-Cast t c = last c.push_str-in-Cast.result _ _ (codes ")") _ c.push_str-in-Cast.ensures.bytes
    (simp (c.in_ok-push_names-in-Cast.ensures, c.as_slice-in-Cast.ensures, c.in_ok-push_within-in-Cast.ensures, c.get-in-Cast.ensures, c.in-Cast.is, cast_text, append_assoc))

pub push_expr-returns-in_ok-push_if_any-in-Case-2 : goal.push_expr-returns-in_ok-push_if_any-in-Case-2
push_expr-returns-in_ok-push_if_any-in-Case-2 t c = last c.push_str-in-Case-2.result _ _ (codes " END") _ c.push_str-in-Case-2.ensures.bytes
    (simp (c.in_ok-push_if_any-in-Case-2.ensures, c.in_ok-push_arms-in-Case.ensures, c.as_slice-in-Case.ensures, c.in_ok-push_if_any-in-Case.ensures, c.in_ok-push_str-in-Case.ensures.bytes, c.in-Case.is, case_text, append_assoc))

pub push_exprs-loop-x-preserved : goal.push_exprs-loop-x-preserved
push_exprs-loop-x-preserved t c = record {
  written = next_part expr c.args.exprs.now c.loop-x.x-index _ _ _ _ _ _ c.loop-x-test.true c.x-item.is c.in_ok-push_within.ensures c.loop-x.invariant.written;
  utf8 = comma_utf8;
}
