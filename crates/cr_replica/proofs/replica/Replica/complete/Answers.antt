use Rattle.std.proofs.Common.{◌≡◌, ◌∙◌, pos, ap, sym}
use Rattle.cr_lattice.specs.Keep.{keep}
use Rattle.cr_cells.specs.Holding.{Holding, changes_of, kept_of, since}
use Rattle.cr_replica.proofs.Shown.{kept_listed, kept_once}
use Rattle.cr_replica.proofs.replica.Replica.complete.Goals as goal

pub returns-clause-reads : goal.returns-clause-reads
returns-clause-reads g c = λ clean.
    let read = c.in-Ok.ensures.reads clean in
    let start : g.C.Cells.holding c.self.inside.cells ≡ g.C.Cells.holding c.args.self.now = ap g.C.Cells.holding c.self.view_is in
    let ends : g.C.Cells.holding c.since.new.self ≡ g.C.Cells.holding c.args.self.now = read.same ∙ start in
    let kept = kept_listed (g.C.Cells.holding c.since.new.self) c.in_ok-changes.changes.items c.in_ok-kept.kept.items (c.in-Ok.ensures.sound clean)
    (c.in_ok-changes.ensures ∙ ap changes_of (c.deref.ensures.value ∙ read.answers ∙ ap (λ (h : Holding). since h.cells (pos 0)) (sym read.same))) c.in_ok-kept.ensures in
    record {
      same = ends;
      answers = record {
        cells = c.new.ensures ∙ read.answers ∙ ap (λ (h : Holding). since h.cells (pos 0)) start;
        kept = c.new-2.ensures ∙ kept ∙ ap kept_of ends;
      };
    }

pub returns-clause-kept : goal.returns-clause-kept
returns-clause-kept g c =
    ap keep c.new-2.ensures ∙ kept_once c.in_ok-changes.changes.items c.in_ok-kept.kept.items c.in_ok-kept.ensures ∙ sym c.new-2.ensures
