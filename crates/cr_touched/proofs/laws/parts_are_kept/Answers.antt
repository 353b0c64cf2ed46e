use Rattle.cr_touched.proofs.Parts as lemmas
use Rattle.cr_touched.proofs.laws.parts_are_kept.Goals as goal

pub returns : goal.returns
returns c = record { kept = lemmas.parts_are_kept; joined = lemmas.parts_are_joined; made = lemmas.keys_make_their_part; shown = lemmas.parts_show }
