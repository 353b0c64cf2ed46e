use Rattle.cr_language.proofs.Texts.{have_tokens}
use Rattle.cr_language.proofs.laws.texts_have_tokens.Goals as goal

pub returns : goal.returns
returns c = have_tokens
