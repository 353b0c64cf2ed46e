use Rattle.std.proofs.Common.{false, refl}
use Rattle.cr_cells.specs.Plain.{holding_of}
use Rattle.cr_cells.proofs.SoundLemmas.{sound_added}
use Rattle.cr_cells.proofs.plain.PlainCellsCells.add_table.Goals as goal

pub invariant_of-self-2 : goal.invariant_of-self-2
invariant_of-self-2 c = sound_added (holding_of c.self.inside) c.args.self.now c.add.new.tables.items c.args.def.now false c.self.view_is c.in_ok-add.ensures.ok c.self.invariant (c.requires tt) refl

pub returns-clause-sound : goal.returns-clause-sound
returns-clause-sound c = λ _. sound_added (holding_of c.self.inside) c.args.self.now c.add.new.tables.items c.args.def.now false c.self.view_is c.in_ok-add.ensures.ok c.self.invariant (c.requires tt) refl
