use Rattle.std.proofs.Common.{◌≡◌, ◌∙◌, map, refl, rules, subst, sym}
use Rattle.cr_resolve.specs.Reading.{Read, each}
use Rattle.cr_resolve.specs.Told.{Refuses}
use Rattle.cr_resolve.specs.Writes.{insert as meant, insert_row, width}
use Rattle.cr_written.proofs.Wholes.{insert_no_table, insert_no_column, insert_no_row, insert_misplaced, inserted}
use Rattle.cr_written.proofs.insert.insert.Goals as goal

pub returns-in_err-relation : goal.returns-in_err-relation
returns-in_err-relation g c =
    let known = g.K.Naming.known c.args.known.now in
    let i = c.args.insert.now in
    let f = c.in_err-relation.field-0.0 in
    let why : Refuses (meant known i).bad f = insert_no_table known i f c.in_err-relation.ensures in
    search rules

pub returns-in_err-columns : goal.returns-in_err-columns
returns-in_err-columns g c =
    let known = g.K.Naming.known c.args.known.now in
    let i = c.args.insert.now in
    let f = c.in_err-columns.field-0.0 in
    let why : Refuses (meant known i).bad f = insert_no_column known i c.in_ok-relation.relation c.in_ok-relation.ensures f c.in_err-columns.ensures in
    search rules

pub returns-in_err-rows : goal.returns-in_err-rows
returns-in_err-rows g c =
    let known = g.K.Naming.known c.args.known.now in
    let i = c.args.insert.now in
    let r = c.in_ok-relation.relation in
    let f = c.in_err-rows.field-0.0 in
    let same : each (map (insert_row known i.table c.width-width.result) c.as_slice.result.now) ≡ each (map (insert_row known i.table (width r.definition i.columns)) i.rows) =
    λ j. each (map (insert_row known i.table (c.width-width.ensures j)) (c.as_slice.ensures j)) in
    let why : Refuses (meant known i).bad f =
    insert_no_row known i r c.in_ok-relation.ensures c.in_ok-columns.columns c.in_ok-columns.ensures f
    (subst (λ (w : Read _). Refuses w.bad f) same c.in_err-rows.ensures) in
    search rules

pub returns-in_err-check_placed : goal.returns-in_err-check_placed
returns-in_err-check_placed g c =
    let known = g.K.Naming.known c.args.known.now in
    let i = c.args.insert.now in
    let r = c.in_ok-relation.relation in
    let f = c.in_err-check_placed.field-0.0 in
    let same : each (map (insert_row known i.table c.width-width.result) c.as_slice.result.now) ≡ each (map (insert_row known i.table (width r.definition i.columns)) i.rows) =
    λ j. each (map (insert_row known i.table (c.width-width.ensures j)) (c.as_slice.ensures j)) in
    let why : Refuses (meant known i).bad f =
    insert_misplaced known i r c.in_ok-relation.ensures c.in_ok-columns.columns c.in_ok-columns.ensures c.in_ok-rows.rows (sym same ∙ c.in_ok-rows.ensures) f c.in_err-check_placed.ensures in
    search rules

pub returns : goal.returns
returns g c =
    let known = g.K.Naming.known c.args.known.now in
    let i = c.args.insert.now in
    let r = c.in_ok-relation.relation in
    let same : each (map (insert_row known i.table c.width-width.result) c.as_slice.result.now) ≡ each (map (insert_row known i.table (width r.definition i.columns)) i.rows) =
    λ j. each (map (insert_row known i.table (c.width-width.ensures j)) (c.as_slice.ensures j)) in
    inserted known i r c.in_ok-relation.ensures c.in_ok-columns.columns c.in_ok-columns.ensures c.in_ok-rows.rows (sym same ∙ c.in_ok-rows.ensures) c.in_ok-check_placed.ensures

pub same-columns : goal.same-columns
same-columns g c = refl
