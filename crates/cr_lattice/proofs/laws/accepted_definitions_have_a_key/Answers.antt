use Rattle.cr_lattice.proofs.ProfileLemmas.{accepted_key, accepted_few, accepted_row}
use Rattle.cr_lattice.proofs.laws.accepted_definitions_have_a_key.Goals as goal

pub returns : goal.returns
returns c = record { key = accepted_key; few = accepted_few; row = accepted_row }
