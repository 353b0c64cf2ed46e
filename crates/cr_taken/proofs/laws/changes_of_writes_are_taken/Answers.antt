use Rattle.cr_cells.specs.Holding.{kept_of}
use Rattle.cr_taken.proofs.Held.{changes_are}
use Rattle.cr_taken.proofs.Tables.{sound_kept}
use Rattle.cr_taken.proofs.laws.changes_of_writes_are_taken.Goals as goal

pub returns : goal.returns
returns c = record {
  store = λ h def wanted taken sound there held t. changes_are h.tables (kept_of h) def (sound_kept h sound) there h.site wanted taken held t;
  kept = λ tables kept site def wanted taken are there held t. changes_are tables kept def are there site wanted taken held t;
}
