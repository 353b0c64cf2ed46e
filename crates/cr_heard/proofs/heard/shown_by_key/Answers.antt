use Rattle.std.proofs.Common.{sym, subst, ◌∙◌}
use Rattle.std.specs.List.{AllByRecursion}
use Rattle.cr_value.specs.Packing.{IsValue}
use Rattle.cr_guard.specs.Heard.{AreByKey}
use Rattle.cr_heard.proofs.Standing.{stand_by_key}
use Rattle.cr_heard.proofs.heard.shown_by_key.Goals as goal

pub returns-then-not-branch-clause-sound : goal.returns-then-not-branch-clause-sound
returns-then-not-branch-clause-sound c sound =
    let def = c.args.definition.now in
    let values = subst (AllByRecursion (λ row. AllByRecursion IsValue row)) (c.deref.ensures.value ∙ c.in_ok-shown.ensures) c.read_rows.ensures in
    let stand = stand_by_key def sound.key sound.defaults c.args.kept.now sound.are values in
    sym c.if-not-branch.true ∙ c.in_ok-are_by_key.ensures.1 (subst (AreByKey def) (sym (c.deref-2.ensures.value ∙ c.in_ok-shown.ensures)) stand)
