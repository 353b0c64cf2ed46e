use Rattle.std.proofs.Common.{ℕ, List, [], ◌∷◌, ◌++◌, take, sym, ap, ◌∙◌}
use Rattle.std.specs.List.{flat_map}
use Rattle.std.proofs.lemmas.List.{take_more, flat_map_more}
use Rattle.cr_lattice.specs.declared.change.Change.{Change}
use Rattle.cr_cells.specs.Holding.{Holding, changes_of, cells_of_table}
use Rattle.cr_replica.proofs.replica.changes_of_tables.Goals as goal

pub loop-table-preserved : goal.loop-table-preserved
loop-table-preserved g c =
    let ks = c.args.tables.now in
    let i = c.loop-table.table-index in
    let k = c.table-item.result in
    let h = g.C.Cells.holding c.args.cells.now in
    let of : List ℕ → List Change = λ name. changes_of (cells_of_table h.cells name) in
    let cut = ap (λ b. take i ks ++ b ∷ []) c.table-item.is ∙ sym (take_more ks i k c.loop-table-test.true) in
    record {
      was_honest = λ honest. c.loop-table.invariant.was_honest (c.cells_of_table.ensures.device.was_honest honest);
      stays_clean = λ honest clean. c.in_ok-found.ensures.device.stays_clean honest (c.loop-table.invariant.stays_clean (c.cells_of_table.ensures.device.was_honest honest) clean);
      was_clean = λ clean. c.loop-table.invariant.was_clean (c.cells_of_table.ensures.device.was_clean clean);
      same = λ clean. (c.in_ok-found.ensures.reads clean).same ∙ c.loop-table.invariant.same (c.cells_of_table.ensures.device.was_clean clean);
      changes = λ clean. (
          let before = c.cells_of_table.ensures.device.was_clean clean in
          let cells = (c.in_ok-found.ensures.reads clean).answers ∙ ap (λ (t : Holding). cells_of_table t.cells c.as_str.result.now) (c.loop-table.invariant.same before) ∙ ap (cells_of_table h.cells) c.as_str.ensures.value in
          c.in_ok-push_changes.ensures
          ∙ ap (λ (l : List Change). l ++ changes_of c.in_ok-found.found.items) (c.loop-table.invariant.changes before)
          ∙ ap (λ r. flat_map of (take i ks) ++ changes_of r) cells
          ∙ flat_map_more of [] (take i ks) k
          ∙ ap (flat_map of) cut);
    }
