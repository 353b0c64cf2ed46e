use Rattle.std.proofs.Common.{◌∙◌, ◌+◌, ◌++◌, ◌∷◌, List, [], ap, map, subst, sym, take}
use Rattle.std.specs.Borrow.{Bor}
use Rattle.std.proofs.lemmas.List.{map-append, take_all, take_more}
use Rattle.cr_term.specs.declared.expr.Expr.{Expr}
use Rattle.cr_tally.specs.Showing.{ShowsAll}
use Rattle.cr_tally.proofs.Shows.{none_yet, one_more}
use Rattle.cr_tally.proofs.over.shown_each.Goals as goal

pub loop-expr-init : goal.loop-expr-init
loop-expr-init c = subst (λ (ys : List Expr). ShowsAll c.args.calls.now.items c.args.calls.now.items [] ys) (sym c.new-out.ensures.items) (none_yet c.args.calls.now.items)

pub loop-expr-preserved : goal.loop-expr-preserved
loop-expr-preserved c =
    let exprs = c.args.exprs.now in
    let i = c.loop-expr.expr-index in
    let expr = c.expr-item.result in
    let expr_of = λ (x : Bor Expr). x.now in
    let more = take_more exprs i expr c.loop-expr-test.true ∙ ap (λ (x : Bor Expr). take i exprs ++ x ∷ []) (sym c.expr-item.is) in
    subst (λ (ys : List Expr). ShowsAll c.args.calls.now.items c.show.new.calls.items (map expr_of (take (i + 1) exprs)) ys) (sym c.in_ok-push.ensures.items)
    (subst (λ (xs : List Expr). ShowsAll c.args.calls.now.items c.show.new.calls.items xs (c.loop-expr.out.items ++ c.in_ok-shown.shown ∷ [])) (sym (ap (map expr_of) more ∙ map-append expr_of (take i exprs) (expr ∷ [])))
    (one_more c.args.calls.now.items c.loop-expr.calls.items c.show.new.calls.items (map expr_of (take i exprs)) c.loop-expr.out.items expr.now c.in_ok-shown.shown c.loop-expr.invariant c.in_ok-shown.ensures))

pub returns : goal.returns
returns c =
    subst (λ (es : List (Bor Expr)). ShowsAll c.args.calls.now.items c.loop-expr.calls.items (map (λ e. e.now) es) c.loop-expr.out.items) (take_all c.loop-expr.expr-index c.args.exprs.now c.loop-expr-test.false)
    c.loop-expr.invariant
