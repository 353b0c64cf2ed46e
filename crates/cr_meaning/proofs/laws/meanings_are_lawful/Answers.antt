use Rattle.cr_meaning.proofs.BagLaw.{lawful}
use Rattle.cr_meaning.proofs.laws.meanings_are_lawful.Goals as goal

pub returns : goal.returns
returns c = λ most host params total. lawful host total most params
