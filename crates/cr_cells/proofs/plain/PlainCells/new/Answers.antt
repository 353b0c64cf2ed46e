use Rattle.cr_cells.proofs.SoundLemmas.{sound_empty}
use Rattle.cr_cells.proofs.plain.PlainCells.new.Goals as goal

pub invariant_of-result : goal.invariant_of-result
invariant_of-result c = rw (c.new.ensures.items, c.new-2.ensures.items, c.new-3.ensures.items) (sound_empty c.args.site)
