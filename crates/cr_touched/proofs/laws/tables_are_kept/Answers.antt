use Rattle.cr_touched.proofs.Tables as lemmas
use Rattle.cr_touched.proofs.laws.tables_are_kept.Goals as goal

pub returns : goal.returns
returns c = record {
  kept = lemmas.tables_are_kept;
  joined = lemmas.tables_are_joined;
  made = lemmas.each_makes_them;
  shown = lemmas.they_show_their_rows;
  led = lemmas.they_lead_alike;
}
