use Rattle.cr_lattice.proofs.TableLemmas.{rows_agree}
use Rattle.cr_lattice.proofs.laws.rows_are_of_sets.Goals as goal

pub returns : goal.returns
returns c = λ xs ys def agree. rows_agree def xs ys agree
