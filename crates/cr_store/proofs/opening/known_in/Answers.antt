use Rattle.std.proofs.Common.{◌≡◌, List, map, rules, sym, ap, subst, ◌∙◌, w64, to_z, of_z}
use Rattle.std.specs.List.{AllByRecursion, IsDistinct}
use Rattle.std.proofs.lemmas.Int.{to_z-of_z}
use Rattle.std.proofs.lemmas.Result.{err_from_is_err_and}
use Rattle.sqlite.specs.Order.{Row}
use Rattle.cr_rows.specs.Rows.{Lists}
use Rattle.cr_lattice.specs.declared.stamped.Stamped.{Stamped}
use Rattle.cr_lattice.specs.declared.table.Table.{Table}
use Rattle.cr_lattice.specs.Sets.{set_of}
use Rattle.cr_cells.specs.Holding.{IsSound}
use Rattle.cr_cells.specs.Tables.{same_name}
use Rattle.cr_sound.specs.Sound.{holding}
use Rattle.cr_store.specs.Ordinals.{IsNamed}
use Rattle.cr_store.specs.Rows.{meta_rows, table_rows, cell_row, mark_row}
use Rattle.cr_store.specs.Shows.{cells_in}
use Rattle.cr_store.specs.Stored.{seen_cmp, mark_of}
use Rattle.cr_store.proofs.Damage.{damage_then}
use Rattle.cr_store.proofs.KnownLemmas.{tables_back, one_holding, is_known}
use Rattle.cr_store.proofs.OrdinalLemmas.{named_cells}
use Rattle.cr_store.proofs.ReadBack.{read_back}
use Rattle.cr_store.proofs.opening.known_in.Goals as goal

pub returns-in_err-site : goal.returns-in_err-site
returns-in_err-site c =
    let p = err_from_is_err_and c.from_residual.result c.from_residual.ensures.1 in
    rw (p.1, p.2) (damage_then c.in_err-site.field-0.0
    (λ none h can sound it. none h.site h.version can.site (subst (λ (rows : List Row). Lists rows (meta_rows c.args.format h.site h.version)) (sym c.deref.ensures.value) it.meta_are)) c.in_err-site.ensures)

pub returns-in_err-cells : goal.returns-in_err-cells
returns-in_err-cells c =
    let rows = c.args.rows in
    let f = c.args.format in
    let ts = c.in_ok-tables.tables.items in
    let tables = subst (λ (rs : List Row). Lists rs (table_rows 1 ts)) c.deref-2.ensures.value c.in_ok-tables.ensures.0 in
    let p = err_from_is_err_and c.from_residual-in_err-cells.result c.from_residual-in_err-cells.ensures.1 in
    rw (p.1, p.2) (damage_then c.in_err-cells.field-0.0 (λ none h can sound it.
    let same : h.tables ≡ c.deref-4.result.now = sym (c.deref-4.ensures.value ∙ tables_back read_back rows.tables.items ts h.tables c.in_ok-tables.ensures.1 can.tables tables it.tables_are) in
    none h.cells can.cells (subst (λ (us : List Table). AllByRecursion (IsNamed us) h.cells) same (named_cells h sound))
    (subst (λ (us : List Table). Lists rows.cells.items (map (cell_row f us) h.cells)) same it.cells_are)) c.in_err-cells.ensures)

pub returns-in_err-check : goal.returns-in_err-check
returns-in_err-check c =
    let rows = c.args.rows in
    let f = c.args.format in
    let site = c.in_ok-site.site in
    let same : to_z w64 (of_z w64 c.in_ok-site.version) ≡ c.in_ok-site.version = to_z-of_z w64 c.in_ok-site.version (search rules) in
    let ts = c.in_ok-tables.tables.items in
    let metas = subst (λ n. Lists rows.meta.items (meta_rows f site n)) (sym same) (subst (λ (rs : List Row). Lists rs (meta_rows f site c.in_ok-site.version)) c.deref.ensures.value c.in_ok-site.ensures) in
    let tables = subst (λ (rs : List Row). Lists rs (table_rows 1 ts)) c.deref-2.ensures.value c.in_ok-tables.ensures.0 in
    let cells = c.deref-6.ensures.value ∙ c.in_ok-cells.ensures.1 ∙ ap (λ us. cells_in f us rows.cells.items) c.deref-4.ensures.value in
    let marks = c.in_ok-marks.ensures.1 ∙ ap (λ (rs : List Row). set_of seen_cmp (map mark_of rs)) c.deref-5.ensures.value in
    let one = one_holding read_back f rows.meta.items rows.tables.items rows.old.items rows.cells.items rows.marks.items site _ ts c.deref-6.result.now c.in_ok-marks.marks.items metas tables c.in_ok-tables.ensures.1 cells marks in
    let p = err_from_is_err_and c.from_residual-in_err-check.result c.from_residual-in_err-check.ensures.1 in
    rw (p.1, p.2) (damage_then c.in_err-check.field-0.0 (λ unsound h can sound it. unsound (subst IsSound (sym (one h can sound it)) sound)) (c.in_err-check.ensures site))

pub returns : goal.returns
returns c =
    let rows = c.args.rows in
    let f = c.args.format in
    let site = c.in_ok-site.site in
    let ts = c.in_ok-tables.tables.items in
    let same : to_z w64 (of_z w64 c.in_ok-site.version) ≡ c.in_ok-site.version = to_z-of_z w64 c.in_ok-site.version (search rules) in
    let metas = subst (λ n. Lists rows.meta.items (meta_rows f site n)) (sym same) (subst (λ (rs : List Row). Lists rs (meta_rows f site c.in_ok-site.version)) c.deref.ensures.value c.in_ok-site.ensures) in
    let tables = subst (λ (rs : List Row). Lists rs (table_rows 1 ts)) c.deref-2.ensures.value c.in_ok-tables.ensures.0 in
    let named : c.deref-4.result.now ≡ ts = c.deref-4.ensures.value in
    let cells = λ (distinct : IsDistinct same_name ts). subst (λ (us : List Table). Lists rows.cells.items (map (cell_row f us) c.in_ok-cells.cells.items)) named
    (c.in_ok-cells.ensures.0 (subst (IsDistinct same_name) (sym named) distinct)) in
    let marks = subst (λ (rs : List Row). Lists rs (map mark_row c.in_ok-marks.marks.items)) c.deref-5.ensures.value c.in_ok-marks.ensures.0 in
    let sound = subst (λ (ss : List Stamped). IsSound (holding ts site (to_z w64 (of_z w64 c.in_ok-site.version)) ss c.in_ok-marks.marks.items)) c.deref-6.ensures.value (c.in_ok-check.ensures site) in
    is_known f rows.meta.items rows.tables.items rows.old.items rows.cells.items rows.marks.items _ c.in_ok-cells.cells.items metas tables c.in_ok-tables.ensures.1 (sym c.deref-3.ensures.value ∙ c.has_none.ensures.0 c.if-not-has_none.false) cells marks sound
