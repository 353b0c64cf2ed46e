use Rattle.std.specs.Option.{option_map}
use Rattle.cr_questions.specs.Asked.{told}
use Rattle.cr_permitted.proofs.InOrder.{update_from}
use Rattle.cr_permitted.proofs.update.update_denied.Goals as goal

pub returns : goal.returns
returns g c =
    update_from c.args.update.now (g.G.Answering.answers c.args.guard.now) (option_map told c.or_assigned_denied-assigned.result) (option_map told c.or_values_denied-valued.result) (option_map told c.or_any_denied.result)
    (rw c.as_slice-assignments.ensures at c.or_assigned_denied-assigned.ensures) (rw c.as_slice-assignments.ensures at c.or_values_denied-valued.ensures) (rw c.as_slice.ensures at c.or_any_denied.ensures)
