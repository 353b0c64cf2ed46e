use Rattle.std.proofs.Common.{◌∙◌, ◌+◌, ◌++◌, ◌∷◌, List, [], ap, rules, subst, sym, take}
use Rattle.std.proofs.lemmas.List.{take_all, take_more}
use Rattle.cr_term.specs.declared.expr.Expr.{Expr}
use Rattle.cr_term.specs.declared.expr.Expr as e
use Rattle.cr_term.specs.declared.expr.When.{When}
use Rattle.cr_tally.specs.Showing.{ShowsAll, ShowsArms}
use Rattle.cr_tally.proofs.Shows.{aggregate, arithmetic, between, boxed, built_in, cast, choice, collate, column, compare, host, join, like, literal, logic, membership, no_arms_yet, no_part, none_yet, one_arm_more, one_more, param, shown, site, some_part, unary, version}
use Rattle.cr_tally.proofs.show.+show.Goals as goal

pub show-returns-in_ok-copy-in-Literal : goal.show-returns-in_ok-copy-in-Literal
show-returns-in_ok-copy-in-Literal t c =
    literal c.args.calls.now.items c.args.expr.now c.in-Literal.value c.in_ok-copy-in-Literal.field-0 c.in-Literal.is c.in_ok-copy-in-Literal.ensures

pub show-returns-in-Param : goal.show-returns-in-Param
show-returns-in-Param t c = param c.args.calls.now.items c.args.expr.now c.in-Param.n c.in-Param.is

pub show-returns-in_ok-copy_column-in-Column : goal.show-returns-in_ok-copy_column-in-Column
show-returns-in_ok-copy_column-in-Column t c =
    column c.args.calls.now.items c.args.expr.now c.in-Column.column c.in_ok-copy_column-in-Column.field-0 c.in-Column.is c.in_ok-copy_column-in-Column.ensures

pub show-returns-in_ok-copy-in-SiteId : goal.show-returns-in_ok-copy-in-SiteId
show-returns-in_ok-copy-in-SiteId t c =
    site c.args.calls.now.items c.args.expr.now c.in-SiteId.bytes c.in_ok-copy-in-SiteId.field-0 c.in-SiteId.is c.in_ok-copy-in-SiteId.ensures

pub show-returns-in-DbVersion : goal.show-returns-in-DbVersion
show-returns-in-DbVersion t c = version c.args.calls.now.items c.args.expr.now c.in-DbVersion.n _ c.in-DbVersion.is (search rules)

pub show-returns-in-Shown : goal.show-returns-in-Shown
show-returns-in-Shown t c =
    shown c.args.calls.now.items c.args.expr.now c.in-Shown.field-0 c.in-Shown.field-1 c.in-Shown.is

pub show-returns-in_ok-nothing-in-Aggregate : goal.show-returns-in_ok-nothing-in-Aggregate
show-returns-in_ok-nothing-in-Aggregate t c =
    aggregate c.args.calls.now.items c.args.expr.now _ c.push.new.self.items c.len-place.result c.in_ok-nothing-in-Aggregate.nothing
    (c.in-Aggregate.is ∙ ap (λ (xs : List Expr). e.Aggregate c.in-Aggregate.kind xs) (sym c.as_slice.ensures)) c.in_ok-push-in-Aggregate.ensures.items (c.len-place.ensures ∙ c.args.calls.now.ok.0)

pub show-returns-in_ok-operand-in-Unary : goal.show-returns-in_ok-operand-in-Unary
show-returns-in_ok-operand-in-Unary t c =
    unary c.args.calls.now.items c.show_boxed.new.calls.items c.args.expr.now c.in-Unary.op c.in-Unary.operand c.get.result.now c.in_ok-operand-in-Unary.operand c.in-Unary.is c.get.ensures c.in_ok-operand-in-Unary.ensures

pub show-returns-in_ok-operand-in-Cast : goal.show-returns-in_ok-operand-in-Cast
show-returns-in_ok-operand-in-Cast t c =
    cast c.args.calls.now.items c.show_boxed-in-Cast.new.calls.items c.args.expr.now c.in-Cast.to c.in-Cast.operand c.get-in-Cast.result.now c.in_ok-operand-in-Cast.operand c.in-Cast.is c.get-in-Cast.ensures c.in_ok-operand-in-Cast.ensures

pub show-returns-in_ok-copy-in-Collate : goal.show-returns-in_ok-copy-in-Collate
show-returns-in_ok-copy-in-Collate t c =
    collate c.args.calls.now.items c.show_boxed-in-Collate.new.calls.items c.args.expr.now c.in-Collate.name c.in_ok-copy-in-Collate.field-0 c.in-Collate.operand c.get-in-Collate.result.now c.in_ok-operand-in-Collate.operand c.in-Collate.is c.get-in-Collate.ensures c.in_ok-operand-in-Collate.ensures

pub show-returns-in_ok-right-in-Arithmetic : goal.show-returns-in_ok-right-in-Arithmetic
show-returns-in_ok-right-in-Arithmetic t c =
    arithmetic c.args.calls.now.items c.show_boxed-in-Arithmetic.new.calls.items c.show_boxed-in-Arithmetic-2.new.calls.items c.in-Arithmetic.left c.in-Arithmetic.right c.get-in-Arithmetic.result.now c.get-in-Arithmetic-2.result.now
    c.in_ok-left-in-Arithmetic.left c.in_ok-right-in-Arithmetic.right c.get-in-Arithmetic.ensures c.get-in-Arithmetic-2.ensures c.in_ok-left-in-Arithmetic.ensures c.in_ok-right-in-Arithmetic.ensures c.args.expr.now c.in-Arithmetic.op c.in-Arithmetic.is

pub show-returns-in_ok-right-in-Join : goal.show-returns-in_ok-right-in-Join
show-returns-in_ok-right-in-Join t c =
    join c.args.calls.now.items c.show_boxed-in-Join.new.calls.items c.show_boxed-in-Join-2.new.calls.items c.in-Join.left c.in-Join.right c.get-in-Join.result.now c.get-in-Join-2.result.now
    c.in_ok-left-in-Join.left c.in_ok-right-in-Join.right c.get-in-Join.ensures c.get-in-Join-2.ensures c.in_ok-left-in-Join.ensures c.in_ok-right-in-Join.ensures c.args.expr.now c.in-Join.is

pub show-returns-in_ok-pattern-in-Like : goal.show-returns-in_ok-pattern-in-Like
show-returns-in_ok-pattern-in-Like t c =
    like c.args.calls.now.items c.show_boxed-in-Like.new.calls.items c.show_boxed-in-Like-2.new.calls.items c.in-Like.text c.in-Like.pattern c.get-in-Like.result.now c.get-in-Like-2.result.now
    c.in_ok-text-in-Like.text c.in_ok-pattern-in-Like.pattern c.get-in-Like.ensures c.get-in-Like-2.ensures c.in_ok-text-in-Like.ensures c.in_ok-pattern-in-Like.ensures c.args.expr.now c.in-Like.is_negated c.in-Like.is

pub show-returns-in_ok-right-in-Logic : goal.show-returns-in_ok-right-in-Logic
show-returns-in_ok-right-in-Logic t c =
    logic c.args.calls.now.items c.show_boxed-in-Logic.new.calls.items c.show_boxed-in-Logic-2.new.calls.items c.in-Logic.left c.in-Logic.right c.get-in-Logic.result.now c.get-in-Logic-2.result.now
    c.in_ok-left-in-Logic.left c.in_ok-right-in-Logic.right c.get-in-Logic.ensures c.get-in-Logic-2.ensures c.in_ok-left-in-Logic.ensures c.in_ok-right-in-Logic.ensures c.args.expr.now c.in-Logic.op c.in-Logic.is

pub show-returns-in_ok-copy_meeting-in-Compare : goal.show-returns-in_ok-copy_meeting-in-Compare
show-returns-in_ok-copy_meeting-in-Compare t c =
    compare c.args.calls.now.items c.show_boxed-in-Compare.new.calls.items c.show_boxed-in-Compare-2.new.calls.items c.in-Compare.left c.in-Compare.right c.get-in-Compare.result.now c.get-in-Compare-2.result.now
    c.in_ok-left-in-Compare.left c.in_ok-right-in-Compare.right c.get-in-Compare.ensures c.get-in-Compare-2.ensures c.in_ok-left-in-Compare.ensures c.in_ok-right-in-Compare.ensures c.args.expr.now c.in-Compare.op c.in-Compare.meeting c.in_ok-copy_meeting-in-Compare.field-0 c.in-Compare.is c.in_ok-copy_meeting-in-Compare.ensures

pub show-returns-in_ok-meeting-in-In : goal.show-returns-in_ok-meeting-in-In
show-returns-in_ok-meeting-in-In t c =
    membership c.args.calls.now.items c.show_boxed-in-In.new.calls.items c.show_all.new.calls.items c.args.expr.now c.in-In.operand c.get-in-In.result.now c.in_ok-operand-in-In.operand
    c.in-In.is_negated c.in-In.meeting c.in_ok-meeting-in-In.meeting c.in-In.items c.as_slice-in-In.result.now c.in_ok-items-in-In.items
    c.in-In.is c.in_ok-meeting-in-In.ensures c.get-in-In.ensures c.as_slice-in-In.ensures c.in_ok-operand-in-In.ensures c.in_ok-items-in-In.ensures

pub show-returns-in_ok-high_meeting-in-Between : goal.show-returns-in_ok-high_meeting-in-Between
show-returns-in_ok-high_meeting-in-Between t c =
    between c.args.calls.now.items c.show_boxed-in-Between.new.calls.items c.show_boxed-in-Between-2.new.calls.items c.show_boxed-in-Between-3.new.calls.items c.args.expr.now
    c.in-Between.operand c.get-in-Between.result.now c.in_ok-operand-in-Between.operand c.in-Between.low c.get-in-Between-2.result.now c.in_ok-low-in-Between.low c.in-Between.high c.get-in-Between-3.result.now c.in_ok-high-in-Between.high
    c.in-Between.is_negated c.in-Between.low_meeting c.in_ok-low_meeting-in-Between.low_meeting c.in-Between.high_meeting c.in_ok-high_meeting-in-Between.high_meeting
    c.in-Between.is c.in_ok-low_meeting-in-Between.ensures c.in_ok-high_meeting-in-Between.ensures c.get-in-Between.ensures c.get-in-Between-2.ensures c.get-in-Between-3.ensures
    c.in_ok-operand-in-Between.ensures c.in_ok-low-in-Between.ensures c.in_ok-high-in-Between.ensures

pub show-returns-in_ok-otherwise-in-Case : goal.show-returns-in_ok-otherwise-in-Case
show-returns-in_ok-otherwise-in-Case t c =
    choice c.args.calls.now.items c.show_if_any.new.calls.items c.show_arms.new.calls.items c.show_if_any-in-Case.new.calls.items c.args.expr.now c.in-Case.operand c.in_ok-operand-in-Case.operand c.in-Case.otherwise c.in_ok-otherwise-in-Case.otherwise
    c.in-Case.arms c.as_slice-in-Case.result.now c.in_ok-arms-in-Case.arms c.in-Case.is c.as_slice-in-Case.ensures c.in_ok-operand-in-Case.ensures c.in_ok-arms-in-Case.ensures c.in_ok-otherwise-in-Case.ensures

pub show-returns-in_ok-copy_built_in-in-BuiltIn : goal.show-returns-in_ok-copy_built_in-in-BuiltIn
show-returns-in_ok-copy_built_in-in-BuiltIn t c =
    built_in c.args.calls.now.items c.show_all-in-BuiltIn.new.calls.items c.in-BuiltIn.args c.as_slice-in-BuiltIn.result.now c.in_ok-args-in-BuiltIn.args c.as_slice-in-BuiltIn.ensures c.in_ok-args-in-BuiltIn.ensures c.args.expr.now
    c.in-BuiltIn.function c.in_ok-copy_built_in-in-BuiltIn.field-0 c.in-BuiltIn.is c.in_ok-copy_built_in-in-BuiltIn.ensures

pub show-returns-in_ok-copy-in-Host : goal.show-returns-in_ok-copy-in-Host
show-returns-in_ok-copy-in-Host t c =
    host c.args.calls.now.items c.show_all-in-Host.new.calls.items c.in-Host.args c.as_slice-in-Host.result.now c.in_ok-args-in-Host.args c.as_slice-in-Host.ensures c.in_ok-args-in-Host.ensures c.args.expr.now
    c.in-Host.name c.in_ok-copy-in-Host.field-0 c.in-Host.is c.in_ok-copy-in-Host.ensures

pub show_all-loop-expr-init : goal.show_all-loop-expr-init
show_all-loop-expr-init t c =
    subst (λ (ys : List Expr). ShowsAll c.args.calls.now.items c.args.calls.now.items [] ys) (sym c.new-out.ensures.items) (none_yet c.args.calls.now.items)

pub show_all-loop-expr-preserved : goal.show_all-loop-expr-preserved
show_all-loop-expr-preserved t c =
    let exprs = c.args.exprs.now in
    let i = c.loop-expr.expr-index in
    let expr = c.expr-item.result in
    let more = take_more exprs i expr c.loop-expr-test.true ∙ ap (λ (x : Expr). take i exprs ++ x ∷ []) (sym c.expr-item.is) in
    subst (λ (ys : List Expr). ShowsAll c.args.calls.now.items c.show.new.calls.items (take (i + 1) exprs) ys) (sym c.in_ok-push.ensures.items)
    (subst (λ (xs : List Expr). ShowsAll c.args.calls.now.items c.show.new.calls.items xs (c.loop-expr.out.items ++ c.in_ok-shown.shown ∷ [])) (sym more)
    (one_more c.args.calls.now.items c.loop-expr.calls.items c.show.new.calls.items (take i exprs) c.loop-expr.out.items expr c.in_ok-shown.shown c.loop-expr.invariant c.in_ok-shown.ensures))

pub show_all-returns : goal.show_all-returns
show_all-returns t c =
    subst (λ (ys : List Expr). ShowsAll c.args.calls.now.items c.loop-expr.calls.items c.args.exprs.now ys) (sym c.from_vec.ensures)
    (subst (λ (xs : List Expr). ShowsAll c.args.calls.now.items c.loop-expr.calls.items xs c.loop-expr.out.items) (take_all c.loop-expr.expr-index c.args.exprs.now c.loop-expr-test.false) c.loop-expr.invariant)

pub show_arms-loop-arm-init : goal.show_arms-loop-arm-init
show_arms-loop-arm-init t c =
    subst (λ (ys : List When). ShowsArms c.args.calls.now.items c.args.calls.now.items [] ys) (sym c.new-out.ensures.items) (no_arms_yet c.args.calls.now.items)

pub show_arms-loop-arm-preserved : goal.show_arms-loop-arm-preserved
show_arms-loop-arm-preserved t c =
    let arms = c.args.arms.now in
    let i = c.loop-arm.arm-index in
    let arm = c.arm-item.result in
    let later = c.show-in-loop-arm.new.calls.items in
    let one : When = record { meeting = c.in_ok-meeting.meeting; when = c.in_ok-when.when; then = c.in_ok-then.then } in
    let more = take_more arms i arm c.loop-arm-test.true ∙ ap (λ (x : When). take i arms ++ x ∷ []) (sym c.arm-item.is) in
    subst (λ (ys : List When). ShowsArms c.args.calls.now.items later (take (i + 1) arms) ys) (sym c.in_ok-push.ensures.items)
    (subst (λ (xs : List When). ShowsArms c.args.calls.now.items later xs (c.loop-arm.out.items ++ one ∷ [])) (sym more)
    (one_arm_more c.args.calls.now.items c.loop-arm.calls.items c.show.new.calls.items later (take i arms) c.loop-arm.out.items arm c.in_ok-when.when c.in_ok-then.then c.in_ok-meeting.meeting c.in_ok-meeting.ensures c.loop-arm.invariant c.in_ok-when.ensures c.in_ok-then.ensures))

pub show_arms-returns : goal.show_arms-returns
show_arms-returns t c =
    subst (λ (ys : List When). ShowsArms c.args.calls.now.items c.loop-arm.calls.items c.args.arms.now ys) (sym c.from_vec.ensures)
    (subst (λ (xs : List When). ShowsArms c.args.calls.now.items c.loop-arm.calls.items xs c.loop-arm.out.items) (take_all c.loop-arm.arm-index c.args.arms.now c.loop-arm-test.false) c.loop-arm.invariant)

pub show_boxed-returns : goal.show_boxed-returns
show_boxed-returns t c =
    boxed c.args.calls.now.items c.show.new.calls.items c.args.expr.now c.in_ok-shown.shown c.new.result c.new.ensures c.in_ok-shown.ensures

pub show_if_any-returns-in_ok-shown-in-Some : goal.show_if_any-returns-in_ok-shown-in-Some
show_if_any-returns-in_ok-shown-in-Some t c =
    some_part c.args.calls.now.items c.show_boxed.new.calls.items c.args.expr.now c.in-Some.expr c.get.result.now c.in_ok-shown-in-Some.shown c.in-Some.is c.get.ensures c.in_ok-shown-in-Some.ensures

pub show_if_any-returns-in-None : goal.show_if_any-returns-in-None
show_if_any-returns-in-None t c = no_part c.args.calls.now.items c.args.expr.now c.in-None.is
