use Rattle.std.proofs.Common.{◌≤ℤ◌, List, SFits, w64, to_z-of_z, ap, ◌∙◌, rules}
use Rattle.cr_lattice.specs.Sets.{set_of}
use Rattle.cr_cells.specs.Holding.{Holding, stamp_cmp, since}
use Rattle.cr_recent.specs.declared.keys.Key.{Key}
use Rattle.cr_recent.specs.Notes.{cells_above, noted_above}
use Rattle.cr_recent.proofs.NoteLemmas.{notes_tell}
use Rattle.cr_recent.proofs.recent.RecentCells.since.Goals as goal

pub returns-clause-reads : goal.returns-clause-reads
returns-clause-reads g c = λ clean.
    let read = c.in_ok-found.ensures.reads clean in
    let h = g.C.Cells.holding c.self.inside.cells in
    let noted = c.self.inside.notes in
    let version = c.args.version in
    let fits : SFits w64 version = c.ranges.version in
    let from : noted.from ≤ℤ version = search rules in
    let start = ap g.C.Cells.holding c.self.view_is in
    record {
      same = read.same ∙ start;
      answers = c.in_ok-by_stamp.ensures
          ∙ ap (set_of stamp_cmp) (read.answers ∙ ap (cells_above h.cells c.deref.result.now) (to_z-of_z fits) ∙ ap (λ (ks : List Key). cells_above h.cells ks version) (c.deref.ensures.value ∙ c.in_ok-keys.ensures ∙ ap (noted_above noted.notes) (to_z-of_z fits)))
          ∙ notes_tell noted h.cells version (c.self.invariant (c.in_ok-found.ensures.device.was_clean clean)) from
          ∙ ap (λ (k : Holding). since k.cells version) start;
    }
