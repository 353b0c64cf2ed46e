use Rattle.std.proofs.Common.{rules}
use Rattle.cr_store.specs.Stored.{seen_cmp}
use Rattle.cr_store.proofs.stored.MarkStored.compare.Goals as goal

pub returns : goal.returns
unfolding seen_cmp
returns c = search rules
