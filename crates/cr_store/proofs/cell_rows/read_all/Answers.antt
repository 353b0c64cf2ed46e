use Rattle.std.proofs.Common.{rules, [], ◌∷◌, ◌++◌, ◌∙◌, map, length, ap, sym}
use Rattle.std.proofs.lemmas.Iterator.Adapters.{YieldsList-from_vec}
use Rattle.std.proofs.lemmas.Iterator.Consumers.{YieldsList-turn}
use Rattle.std.proofs.lemmas.List.{map-append}
use Rattle.std.proofs.lemmas.Result.{err_from_is_err_and}
use Rattle.cr_store.specs.Rows.{cell_of}
use Rattle.cr_store.specs.Stored.{IsCellRow}
use Rattle.cr_store.proofs.Damage.{damage_then}
use Rattle.cr_store.proofs.MoveLemmas.{all_get}
use Rattle.cr_store.proofs.StoredLemmas.{all_one_more}
use Rattle.cr_store.proofs.cell_rows.read_all.Goals as goal

pub returns-in_err-cell : goal.returns-in_err-cell
returns-in_err-cell c =
    let rows = c.args.rows.items in
    let all = YieldsList-from_vec {s = c.into_iter-row-iterator.result} rows (search rules) (search rules) in
    let turn = YieldsList-turn all c.loop-row.yielded _ c.loop-row.yielded_by _ c.next.new.self c.in-Some.row c.in-Some.is c.next.ensures.steps in
    let p = err_from_is_err_and c.from_residual.result c.from_residual.ensures.1 in
    rw (p.1, p.2) (damage_then c.in_err-cell.field-0.0
    (λ no each. no (all_get (IsCellRow c.args.format c.args.tables.now) rows (length c.loop-row.yielded) c.in-Some.row each turn.0 turn.1)) c.in_err-cell.ensures)

pub loop-row-preserved : goal.loop-row-preserved
loop-row-preserved c =
    let row = c.in-Some.row in
    let cell = cell_of c.args.format c.args.tables.now in
    rw c.in-Ok.ensures.items (
      ap (λ cells. cells ++ c.in_ok-cell.cell ∷ []) c.loop-row.invariant.0 ∙ ap (λ s. map cell c.loop-row.yielded ++ s ∷ []) c.in_ok-cell.ensures.0 ∙ sym (map-append cell c.loop-row.yielded (row ∷ [])),
      all_one_more (IsCellRow c.args.format c.args.tables.now) c.loop-row.yielded row c.loop-row.invariant.1 c.in_ok-cell.ensures.1,
    )
