use Rattle.cr_language.proofs.Asking.{look_at_their_names}
use Rattle.cr_language.proofs.laws.selects_look_at_their_names.Goals as goal

pub returns : goal.returns
returns c = look_at_their_names
