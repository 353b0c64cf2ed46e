use Rattle.cr_store.proofs.KnownLemmas.{holds_one}
use Rattle.cr_store.proofs.laws.databases_hold_one.Goals as goal

pub returns : goal.returns
returns c = holds_one
