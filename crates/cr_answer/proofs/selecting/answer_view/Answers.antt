use Rattle.std.proofs.Common.{◌∙◌, List, ap, length, map, subst, sym}
use Rattle.cr_scalar.specs.Host.{host}
use Rattle.cr_query.specs.Query.{Row, answer}
use Rattle.cr_meaning.specs.View.{query}
use Rattle.cr_term.specs.declared.query.Joined.{Joined}
use Rattle.cr_module.specs.Reading.{tables_between}
use Rattle.cr_exec.specs.Answers.{Faults, IsMeant}
use Rattle.cr_snapshot.specs.Seen.{name_of, rows_seen}
use Rattle.cr_tables.specs.Views.{rows_at}
use Rattle.cr_tables.proofs.Seen.{tables_seen}
use Rattle.cr_answer.proofs.Viewing.{fault_told}
use Rattle.cr_answer.proofs.selecting.answer_view.Goals as goal

pub returns-in-Ok : goal.returns-in-Ok
returns-in-Ok g c =
    let f = g.F.Functions in
    let own = c.args.functions.now in
    let h = host (f.function_of own) (f.scalar own) (f.step own) (f.finish own) (f.order_of own) in
    let s = c.args.snapshot.now in
    let q = c.args.query.now in
    let tables = ap (λ (js : List Joined). tables_between (rows_at s js) 0 (length q.joined)) c.as_slice.ensures ∙ tables_seen s q.joined in
    subst (λ (rows : List Row). IsMeant h c.args.params.now (λ m. answer m (query q) (map (λ j. rows_seen s (name_of j)) q.joined)) rows) (sym c.new.ensures)
    (subst (λ (ts : List (List Row)). IsMeant h c.args.params.now (λ m. answer m (query q) ts) c.in-Ok.rows.items) tables c.in-Ok.ensures.answers)

pub returns-in-Err-Eval : goal.returns-in-Err-Eval
returns-in-Err-Eval g c =
    let f = g.F.Functions in
    let own = c.args.functions.now in
    let h = host (f.function_of own) (f.scalar own) (f.step own) (f.finish own) (f.order_of own) in
    let s = c.args.snapshot.now in
    let q = c.args.query.now in
    let tables = ap (λ (js : List Joined). tables_between (rows_at s js) 0 (length q.joined)) c.as_slice.ensures ∙ tables_seen s q.joined in
    let why = fault_told h c.args.params.now _ (λ m. answer m (query q) (tables_between (rows_at s c.as_slice.result.now) 0 (length q.joined))) c.in-Err-Eval.field-0 c.in-Err-Eval.fault c.in-Err-Eval.field-0-is c.in-Err-Eval.ensures.answers in
    (c.in-Err-Eval.fault, (c.from.ensures, subst (λ (ts : List (List Row)). Faults h c.args.params.now (λ m. answer m (query q) ts) c.in-Err-Eval.fault) tables why))
