use Rattle.std.proofs.Common.{take}
use Rattle.cr_sound.proofs.TableLemmas.{AreStored}
use Rattle.cr_sound.proofs.tables.are_stored.Given as goal

abbrev pub invariant-loop-place : goal.invariant-loop-place
invariant-loop-place l = AreStored (take l.place l.tables)
