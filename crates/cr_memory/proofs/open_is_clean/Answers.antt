use Rattle.std.proofs.Common.{refl}
use Rattle.sqlite_trees.specs.View.{doubt}
use Rattle.sqlite_pool.specs.Pool.{state}
use Rattle.cr_memory.proofs.open_is_clean.Goals as goal

-- what is read of a file in memory is never in doubt
pub returns : goal.returns
unfolding doubt state
returns c = λ is_open. record { clean = refl; is_open = is_open }
