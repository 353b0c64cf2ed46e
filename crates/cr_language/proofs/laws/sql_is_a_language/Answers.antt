use Rattle.cr_language.proofs.Instance.{is_language}
use Rattle.cr_language.proofs.laws.sql_is_a_language.Goals as goal

pub returns : goal.returns
returns c = is_language
