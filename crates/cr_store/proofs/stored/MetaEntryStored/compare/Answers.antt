use Rattle.std.proofs.Common.{rules}
use Rattle.cr_store.specs.Stored.{meta_cmp}
use Rattle.cr_store.proofs.stored.MetaEntryStored.compare.Goals as goal

pub returns : goal.returns
unfolding meta_cmp
returns c = search rules
