use Rattle.std.proofs.Common.{false, ◌≡◌, ◌∙◌, ◌++◌, List, map, pos, rules, ap, sym, subst, w64, to_z, of_z, to_z-of_z, SFits}
use Rattle.cr_module.specs.declared.plan.Argument.{Argument}
use Rattle.cr_module.specs.declared.plan.Choice.{Choice}
use Rattle.cr_module.specs.Lawful.{IsChoice}
use Rattle.embedding.specs.Counted.{choice_of, passed, place_of}
use Rattle.embedding.proofs.Passing.{choice_made, choice_usable}
use Rattle.embedding.proofs.counted.CountedModule.best_index.Goals as goal

made : (c : goal.After-from-2) → ◌≡◌ {A = Choice} (record { args = c.new.result; index = to_z w64 (of_z w64 c.from.result); cost = c.from-2.result; consumed = false }) (choice_of c.args.self.now.last c.args.constraints.now)
made c =
    let fits : SFits w64 c.from.result = search rules in
    (λ i. record { args = c.new.result; index = to_z w64 (of_z w64 c.from.result); cost = c.from-2.ensures i; consumed = false })
    ∙ choice_made c.args.self.now.last c.args.constraints.now c.first_lower-lower.result c.first_upper-upper.result c.new.result _ c.first_lower-lower.ensures c.first_upper-upper.ensures
    (c.new.ensures
    ∙ c.in_ok-push_place-2.ensures
    ∙ ap (λ (args : List Argument). args ++ map passed (place_of c.first_upper-upper.result))
    (c.in_ok-push_place.ensures ∙ ap (λ (args : List Argument). args ++ map passed (place_of c.first_lower-lower.result)) c.new-args.ensures.items))
    (to_z-of_z fits ∙ c.from.ensures ∙ ap pos c.index_of.ensures)

pub returns-clause-best : goal.returns-clause-best
returns-clause-best c = made c

pub returns-clause-usable : goal.returns-clause-usable
returns-clause-usable c =
    subst (λ (choice : Choice). IsChoice c.args.constraints.now choice) (sym (made c)) (choice_usable c.args.self.now.last c.args.constraints.now)
