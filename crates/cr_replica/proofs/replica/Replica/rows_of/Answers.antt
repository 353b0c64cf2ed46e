use Rattle.std.proofs.Common.{◌≡◌, List, Some, ap, sym, ◌∙◌}
use Rattle.std.specs.Prelude.{find}
use Rattle.cr_lattice.specs.declared.change.Change.{Change}
use Rattle.cr_lattice.specs.Rows.{rows}
use Rattle.cr_cells.specs.Holding.{Holding, changes_of}
use Rattle.cr_cells.specs.Tables.{is_named}
use Rattle.cr_cells.proofs.MemberLemmas.{find_gives}
use Rattle.cr_replica.specs.Showing.{shown_of}
use Rattle.cr_replica.proofs.Shown.{shown_is}
use Rattle.cr_replica.proofs.replica.Replica.rows_of.Goals as goal

pub returns-clause-shows : goal.returns-clause-shows
returns-clause-shows g c = λ clean.
    let before = c.in-Ok-cells_of_table.ensures.device.was_clean clean in
    let first = c.in-Ok.ensures.reads before in
    let second = c.in-Ok-cells_of_table.ensures.reads clean in
    let start = g.C.Cells.holding c.self.inside.cells in
    let h = g.C.Cells.holding c.tables.new.self in
    let t = c.in-Some.table.now in
    let name = c.args.name.now in
    let found : Some t ≡ find (is_named name) start.tables = c.in-Some.ensures ∙ ap (find (is_named name)) (c.deref.ensures.value ∙ first.answers) in
    let named = (find_gives (is_named name) start.tables t (sym found)).1 in
    let shown = shown_is h t name c.in_ok-changes.changes.items c.in_ok-rows.field-0.items c.in_ok-rows-2.rows.items named (c.in_ok-changes.ensures ∙ ap changes_of second.answers)
    (c.in_ok-rows.ensures ∙ ap (λ (l : List Change). rows l t.definition) c.deref-2.ensures.value) c.in_ok-rows-2.ensures c.if-not-table.false in
    rw (← c.self.view_is, ← found) (c.new-2.ensures ∙ shown ∙ ap (λ (held : Holding). shown_of held t) first.same)
