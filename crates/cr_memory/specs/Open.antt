-- Whether the database of a store in memory is still open. Source: this project's own.
use Rattle.std.specs.Prelude.{IsTrue, refl}
use Rattle.sqlite.specs.Held.{state}
use Rattle.sqlite.specs.State.{HasCleanDisk}
use Rattle.sqlite.specs.Files.{over_files}
use Rattle.sqlite_trees.specs.View.{doubt}
use Rattle.sqlite_pool.specs.Pool.{state as pool}
use Rattle.cr_memory.specs.declared.MemoryCells.{MemoryCells}

abbrev pub IsOpen : MemoryCells → Type 0
IsOpen m = IsTrue (state over_files m.store.0).is_open

-- its files gave back what was written
abbrev pub IsHonest : MemoryCells → Type 0
IsHonest m = HasCleanDisk (state over_files m.store.0)

-- what is read of a file in memory is never in doubt
pub always_honest : (m : MemoryCells) → IsHonest m
unfolding doubt pool
always_honest m = refl
