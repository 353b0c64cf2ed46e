use Rattle.std.proofs.Common.{true}
use Rattle.cr_cells.specs.Plain.{holding_of}
use Rattle.cr_cells.proofs.SoundLemmas.{sound_added}
use Rattle.cr_cells.proofs.plain.PlainCellsCells.add_replicated.Goals as goal

pub invariant_of-self-2 : goal.invariant_of-self-2
invariant_of-self-2 c = sound_added (holding_of c.self.inside) c.args.self.now c.add.new.tables.items c.args.def.now true c.self.view_is c.in_ok-add.ensures.ok c.self.invariant (c.requires.is_new tt) c.requires.defaults

pub returns-clause-sound : goal.returns-clause-sound
returns-clause-sound c = λ _. sound_added (holding_of c.self.inside) c.args.self.now c.add.new.tables.items c.args.def.now true c.self.view_is c.in_ok-add.ensures.ok c.self.invariant (c.requires.is_new tt) c.requires.defaults
