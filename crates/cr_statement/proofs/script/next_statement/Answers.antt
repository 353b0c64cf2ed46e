use Rattle.std.proofs.Common.{◌≡◌, ℕ, ◌-◌, length, take, drop, Ok, Err, sym, ap, ◌∙◌}
use Rattle.std.proofs.lemmas.Result.{err_from_is_err_and}
use Rattle.cr_tree.specs.declared.statement.Statement.{Statement}
use Rattle.cr_statement.specs.declared.error.SqlError.TheVariants as s
use Rattle.cr_statement.specs.Scripts.{semicolons, says_next}
use Rattle.cr_statement.proofs.Told.{told_is}
use Rattle.cr_statement.proofs.Nexts.{next_is, some_left}
use Rattle.cr_statement.proofs.script.next_statement.Goals as goal

pub returns-in_err-tree-clause-value : goal.returns-in_err-tree-clause-value
returns-in_err-tree-clause-value c m =
    let source = c.args.source.now in
    let tokens = c.args.tokens.now in
    let n = c.semicolons-skipped.result in
    let front : n ≡ semicolons source tokens = c.semicolons-skipped.ensures.value ∙ ap (λ b. semicolons b tokens) c.as_bytes.ensures.value in
    let e = c.in_err-tree.field-0.0 in
    let p = err_from_is_err_and c.from_residual.result c.from_residual.ensures.1 in
    let same : c.from_residual.result ≡ Err e = p.1 ∙ ap Err p.2 in
    let said = told_is source (take (length tokens - n) (drop n tokens)) (Err e) (λ h. let is : e ≡ s.Memory = cc in m (same ∙ ap Err is)) tt c.in_err-tree.ensures.syntax c.in_err-tree.ensures.outside c.in_err-tree.ensures.limit in
    ap says_next same ∙ next_is source tokens n front (sym c.is_empty.ensures ∙ c.if-is_empty.false) (Err e) said

pub returns-clause-value : goal.returns-clause-value
returns-clause-value c m =
    let source = c.args.source.now in
    let tokens = c.args.tokens.now in
    let n = c.semicolons-skipped.result in
    let front : n ≡ semicolons source tokens = c.semicolons-skipped.ensures.value ∙ ap (λ b. semicolons b tokens) c.as_bytes.ensures.value in
    let x : Statement × ℕ = (c.in_ok-tree.tree, c.in_ok-tree.len) in
    let said = told_is source (take (length tokens - n) (drop n tokens)) (Ok x) (λ h. cc) c.in_ok-tree.ensures.read c.in_ok-tree.ensures.syntax c.in_ok-tree.ensures.outside c.in_ok-tree.ensures.limit in
    next_is source tokens n front (sym c.is_empty.ensures ∙ c.if-is_empty.false) (Ok x) said

pub returns-in_err-tree-clause-end : goal.returns-in_err-tree-clause-end
returns-in_err-tree-clause-end c none =
    let n = c.semicolons-skipped.result in
    let front : n ≡ semicolons c.args.source.now c.args.tokens.now = c.semicolons-skipped.ensures.value ∙ ap (λ b. semicolons b c.args.tokens.now) c.as_bytes.ensures.value in
    absurd (some_left c.args.source.now c.args.tokens.now n front (sym c.is_empty.ensures ∙ c.if-is_empty.false) none)

pub returns-clause-end : goal.returns-clause-end
returns-clause-end c none =
    let n = c.semicolons-skipped.result in
    let front : n ≡ semicolons c.args.source.now c.args.tokens.now = c.semicolons-skipped.ensures.value ∙ ap (λ b. semicolons b c.args.tokens.now) c.as_bytes.ensures.value in
    absurd (some_left c.args.source.now c.args.tokens.now n front (sym c.is_empty.ensures ∙ c.if-is_empty.false) none)
