use Rattle.std.proofs.Common.{◌∙◌, ap}
use Rattle.cr_cells.specs.Tables.{with_added}
use Rattle.cr_cells.specs.Plain.{holding_of}
use Rattle.cr_cells.proofs.ColumnLemmas.{sound_widened}
use Rattle.cr_cells.proofs.plain.PlainCellsCells.add_column.Goals as goal

pub invariant_of-self : goal.invariant_of-self
invariant_of-self c =
    sound_widened (holding_of c.self.inside) c.args.self.now c.in_ok-self-inside.field-0.items c.args.table.now c.args.column.now c.self.view_is
    (c.in_ok-self-inside.ensures ∙ ap (with_added c.args.table.now c.args.column.now) c.deref.ensures.value) c.self.invariant (c.requires tt)

pub returns-clause-sound : goal.returns-clause-sound
returns-clause-sound c = λ _.
    sound_widened (holding_of c.self.inside) c.args.self.now c.in_ok-self-inside.field-0.items c.args.table.now c.args.column.now c.self.view_is
    (c.in_ok-self-inside.ensures ∙ ap (with_added c.args.table.now c.args.column.now) c.deref.ensures.value) c.self.invariant (c.requires tt)
