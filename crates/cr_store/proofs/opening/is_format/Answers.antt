use Rattle.cr_store.specs.Rows.{number_of}
use Rattle.cr_store.proofs.opening.is_format.Goals as goal

pub returns-in-None : goal.returns-in-None
returns-in-None c = ((λ e. absurd cc), λ is. absurd (c.in-None.ensures (number_of c.args.format) is))
