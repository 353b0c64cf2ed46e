use Rattle.cr_lattice.proofs.SeqLemmas.{kept_in_seq}
use Rattle.cr_lattice.proofs.laws.kept_changes_stand_in_seq_order.Goals as goal

pub returns : goal.returns
returns c = kept_in_seq
