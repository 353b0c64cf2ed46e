use Rattle.cr_touched.specs.Parts.{is_key_of}
use Rattle.cr_touched.proofs.Inserts.{kept_of_part}
use Rattle.cr_sought.proofs.laws.keys_are_kept.Goals as goal

pub returns : goal.returns
returns c = λ def kept keys are. kept_of_part def (is_key_of keys) kept are
