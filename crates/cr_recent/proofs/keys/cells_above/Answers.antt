use Rattle.std.proofs.Common.{ℤ, List, [], ◌∷◌, ◌++◌, refl, take, sym, ap, ◌∙◌, SFits, w64, to_z, of_z, to_z-of_z}
use Rattle.std.specs.Prelude.{filter, int_lt}
use Rattle.std.specs.List.{flat_map}
use Rattle.std.proofs.lemmas.List.{take_all, take_more, flat_map_more}
use Rattle.cr_lattice.specs.declared.stamped.Stamped.{Stamped}
use Rattle.cr_cells.specs.Holding.{Holding, cells_of}
use Rattle.cr_recent.specs.declared.keys.Key.{Key}
use Rattle.cr_recent.specs.Notes.{cells_above}
use Rattle.cr_recent.proofs.keys.cells_above.Goals as goal

pub loop-key-init : goal.loop-key-init
unfolding cells_above
loop-key-init g c = record {
  was_honest = λ honest. honest;
  stays_clean = λ honest clean. clean;
  was_clean = λ clean. clean;
  same = λ clean. refl;
  found = λ clean. c.new-found.ensures.items;
}

pub loop-key-preserved : goal.loop-key-preserved
unfolding cells_above
loop-key-preserved g c =
    let ks = c.args.keys.now in
    let i = c.loop-key.key-index in
    let k = c.key-item.result in
    let h = g.C.Cells.holding c.args.cells.now in
    let v : ℤ = to_z w64 (of_z w64 c.args.version) in
    let of : Key → List Stamped = λ key. filter (λ s. int_lt v s.version) (cells_of h.cells key.table key.pk) in
    let cut = ap (λ b. take i ks ++ b ∷ []) c.key-item.is ∙ sym (take_more ks i k c.loop-key-test.true) in
    record {
      was_honest = λ honest. c.loop-key.invariant.was_honest (c.cells_of.ensures.device.was_honest honest);
      stays_clean = λ honest clean. c.in_ok-row.ensures.device.stays_clean honest (c.loop-key.invariant.stays_clean (c.cells_of.ensures.device.was_honest honest) clean);
      was_clean = λ clean. c.loop-key.invariant.was_clean (c.cells_of.ensures.device.was_clean clean);
      same = λ clean. (c.in_ok-row.ensures.reads clean).same ∙ c.loop-key.invariant.same (c.cells_of.ensures.device.was_clean clean);
      found = λ clean. (
          let before = c.cells_of.ensures.device.was_clean clean in
          let row = (c.in_ok-row.ensures.reads clean).answers ∙ ap (λ (t : Holding). cells_of t.cells c.as_str.result.now c.as_slice.result.now) (c.loop-key.invariant.same before)
          ∙ ap (λ t. cells_of h.cells t c.as_slice.result.now) c.as_str.ensures.value ∙ ap (cells_of h.cells k.table) c.as_slice.ensures in
          c.in_ok-push_above.ensures
          ∙ ap (λ (l : List Stamped). l ++ filter (λ s. int_lt v s.version) c.in_ok-row.row.items) (c.loop-key.invariant.found before)
          ∙ ap (λ r. flat_map of (take i ks) ++ filter (λ s. int_lt v s.version) r) row
          ∙ flat_map_more of [] (take i ks) k
          ∙ ap (flat_map of) cut);
    }

pub returns-clause-reads : goal.returns-clause-reads
returns-clause-reads g c = λ clean.
    let fits : SFits w64 c.args.version = c.ranges.version in
    record {
      same = c.loop-key.invariant.same clean;
      answers = c.loop-key.invariant.found clean ∙ ap (λ ks. cells_above (g.C.Cells.holding c.args.cells.now).cells ks (to_z w64 (of_z w64 c.args.version))) (take_all _ c.args.keys.now c.loop-key-test.false)
          ∙ ap (cells_above (g.C.Cells.holding c.args.cells.now).cells c.args.keys.now) (to_z-of_z fits);
    }
