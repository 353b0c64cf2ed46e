use Rattle.std.proofs.Common.{ℕ, List, [], ◌∷◌, ◌++◌, take, sym, ap, ◌∙◌}
use Rattle.std.specs.List.{flat_map}
use Rattle.std.proofs.lemmas.List.{take_more, flat_map_more}
use Rattle.cr_lattice.specs.declared.change.Change.{Change}
use Rattle.cr_cells.specs.Holding.{Holding, changes_of, cells_of}
use Rattle.cr_replica.proofs.replica.changes_of_keys.Goals as goal

pub loop-key-preserved : goal.loop-key-preserved
loop-key-preserved g c =
    let ks = c.args.keys.now in
    let i = c.loop-key.key-index in
    let k = c.key-item.result in
    let h = g.C.Cells.holding c.args.cells.now in
    let of : List ℕ → List Change = λ pk. changes_of (cells_of h.cells c.args.table.now pk) in
    let cut = ap (λ b. take i ks ++ b ∷ []) c.key-item.is ∙ sym (take_more ks i k c.loop-key-test.true) in
    record {
      was_honest = λ honest. c.loop-key.invariant.was_honest (c.cells_of.ensures.device.was_honest honest);
      stays_clean = λ honest clean. c.in_ok-row.ensures.device.stays_clean honest (c.loop-key.invariant.stays_clean (c.cells_of.ensures.device.was_honest honest) clean);
      was_clean = λ clean. c.loop-key.invariant.was_clean (c.cells_of.ensures.device.was_clean clean);
      same = λ clean. (c.in_ok-row.ensures.reads clean).same ∙ c.loop-key.invariant.same (c.cells_of.ensures.device.was_clean clean);
      changes = λ clean. (
          let before = c.cells_of.ensures.device.was_clean clean in
          let row = (c.in_ok-row.ensures.reads clean).answers ∙ ap (λ (t : Holding). cells_of t.cells c.args.table.now c.as_slice.result.now) (c.loop-key.invariant.same before) ∙ ap (cells_of h.cells c.args.table.now) c.as_slice.ensures in
          c.in_ok-push_changes.ensures
          ∙ ap (λ (l : List Change). l ++ changes_of c.in_ok-row.row.items) (c.loop-key.invariant.changes before)
          ∙ ap (λ r. flat_map of (take i ks) ++ changes_of r) row
          ∙ flat_map_more of [] (take i ks) k
          ∙ ap (flat_map of) cut);
    }
