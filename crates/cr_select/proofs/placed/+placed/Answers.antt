use Rattle.std.proofs.Common.{◌≡◌, ◌∙◌, IfOk, sym, subst}
use Rattle.cr_term.specs.declared.expr.Expr.{Expr}
use Rattle.cr_term.specs.declared.expr.Expr.TheVariants.{rolls-Case}
use Rattle.cr_select.specs.Placed.{exprs_of}
use Rattle.cr_select.proofs.Nodes.{in_from, case_from}
use Rattle.cr_select.proofs.placed.+placed.Goals as goal

pub parts_placed-returns-in_ok-items-in-In : goal.parts_placed-returns-in_ok-items-in-In
parts_placed-returns-in_ok-items-in-In t c =
    subst (λ (x : Expr). IfOk c.membership.result (λ e. e ≡ x))
    (in_from (exprs_of c.args.terms.now) c.args.expr.now c.in-In.is_negated c.in-In.field-1 c.in-In.operand c.get-in-In.result.now c.in-In.items c.as_slice.result.now
    c.in_ok-operand-in-In.operand c.in_ok-items-in-In.items c.in-In.is c.get-in-In.ensures c.as_slice.ensures c.in_ok-operand-in-In.ensures c.in_ok-items-in-In.ensures)
    c.membership.ensures

pub parts_placed-returns-in_ok-otherwise-in-Case : goal.parts_placed-returns-in_ok-otherwise-in-Case
parts_placed-returns-in_ok-otherwise-in-Case t c =
    sym (rolls-Case c.in_ok-operand-in-Case.operand c.in_ok-arms-in-Case.arms c.in_ok-otherwise-in-Case.otherwise)
    ∙ case_from (exprs_of c.args.terms.now) c.args.expr.now c.in-Case.operand c.in-Case.arms c.as_slice-in-Case.result.now c.in-Case.otherwise
    c.in_ok-operand-in-Case.operand c.in_ok-arms-in-Case.arms c.in_ok-otherwise-in-Case.otherwise
    c.in-Case.is c.as_slice-in-Case.ensures c.in_ok-operand-in-Case.ensures c.in_ok-arms-in-Case.ensures c.in_ok-otherwise-in-Case.ensures
