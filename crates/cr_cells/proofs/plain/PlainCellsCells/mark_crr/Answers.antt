use Rattle.std.proofs.Common.{◌∙◌, ap}
use Rattle.cr_cells.specs.Tables.{with_replicated}
use Rattle.cr_cells.specs.Plain.{holding_of}
use Rattle.cr_cells.proofs.SoundLemmas.{sound_replicated}
use Rattle.cr_cells.proofs.plain.PlainCellsCells.mark_crr.Goals as goal

pub invariant_of-self : goal.invariant_of-self
invariant_of-self c =
    sound_replicated (holding_of c.self.inside) c.args.self.now c.in_ok-self-inside.field-0.items c.args.name.now c.self.view_is
    (c.in_ok-self-inside.ensures ∙ ap (with_replicated c.args.name.now) c.deref.ensures.value) c.self.invariant (c.requires tt)

pub returns-clause-sound : goal.returns-clause-sound
returns-clause-sound c = λ _.
    sound_replicated (holding_of c.self.inside) c.args.self.now c.in_ok-self-inside.field-0.items c.args.name.now c.self.view_is
    (c.in_ok-self-inside.ensures ∙ ap (with_replicated c.args.name.now) c.deref.ensures.value) c.self.invariant (c.requires tt)
