use Rattle.std.proofs.Common.{rules, ◌∙◌, refl, sym, ap}
use Rattle.cr_script.specs.Scripts.{second_place}
use Rattle.cr_script.proofs.Executions.{carries_single, does_nothing, empty_is, piece_read, refuses_behind, refuses_more, refuses_unread}
use Rattle.cr_script.proofs.Scripting.{folded, found}
use Rattle.cr_script.proofs.Turning.{takes}
use Rattle.cr_script.proofs.single.single.Goals as goal

pub returns-in-Some-clause-executes : goal.returns-in-Some-clause-executes
returns-in-Some-clause-executes g c = λ has names.
    refuses_more _ _ g.E.Executor.is_honest g.E.Executor.is_clean g.E.Executor.stands c.args.source.now c.args.tokens.now c.args.params.now c.args.executor.now c.in-Some.at (sym c.is_empty.ensures ∙ c.if-is_empty.true) (sym c.second_place.ensures ∙ c.in-Some.is)

pub returns-in-None-clause-executes : goal.returns-in-None-clause-executes
returns-in-None-clause-executes g c = λ has names.
    does_nothing _ _ g.E.Executor.is_honest g.E.Executor.is_clean g.E.Executor.stands c.args.source.now c.args.tokens.now c.args.params.now c.args.executor.now (sym c.is_empty.ensures ∙ c.if-is_empty.true) (sym c.second_place.ensures ∙ c.in-None.is)

pub behind-requires : goal.behind-requires
behind-requires g c = (takes c.args.source.now c.args.tokens.now c.in-Ok-Some.statement c.in-Ok-Some.len (found c.args.source.now c.args.tokens.now c.next_statement-next.result _ c.next_statement-next.ensures.value (search rules))).1

pub returns-in-Some-second_place-clause-executes : goal.returns-in-Some-second_place-clause-executes
returns-in-Some-second_place-clause-executes g c = λ has names.
    refuses_behind _ _ g.E.Executor.is_honest g.E.Executor.is_clean g.E.Executor.stands c.args.source.now c.args.tokens.now c.args.params.now c.args.executor.now c.in-Ok-Some.statement c.in-Ok-Some.len c.in-Some-second_place.at
    (sym c.is_empty.ensures ∙ c.if-is_empty.false) (found c.args.source.now c.args.tokens.now c.next_statement-next.result _ c.next_statement-next.ensures.value (search rules))
    (sym (c.second_place-in-Ok-Some.ensures ∙ ap second_place c.behind.ensures) ∙ c.in-Some-second_place.is)

pub statement-requires-clause-folded : goal.statement-requires-clause-folded
statement-requires-clause-folded g c = folded c.args.source.now c.args.tokens.now c.in-Ok-Some.statement c.in-Ok-Some.len (found c.args.source.now c.args.tokens.now c.next_statement-next.result _ c.next_statement-next.ensures.value (search rules))

pub returns-in-Ok-Some-clause-executes : goal.returns-in-Ok-Some-clause-executes
returns-in-Ok-Some-clause-executes g c = λ has names.
    carries_single _ _ g.E.Executor.is_honest g.E.Executor.is_clean g.E.Executor.stands c.args.source.now c.args.tokens.now c.args.params.now c.args.executor.now c.in-Ok-Some.statement c.in-Ok-Some.len c.statement.new.self
    (sym c.is_empty.ensures ∙ c.if-is_empty.false) (found c.args.source.now c.args.tokens.now c.next_statement-next.result _ c.next_statement-next.ensures.value (search rules))
    (sym (c.second_place-in-Ok-Some.ensures ∙ ap second_place c.behind.ensures) ∙ c.in-None-second_place.is) c.statement.result (c.statement.ensures.carries has names)

pub returns-clause-executes : goal.returns-clause-executes
returns-clause-executes g c = λ has names.
    refuses_unread _ _ g.E.Executor.is_honest g.E.Executor.is_clean g.E.Executor.stands c.args.source.now c.args.tokens.now c.args.params.now c.args.executor.now c.next_statement-next.result c.in-Err.error c.of_unread.result
    (sym c.is_empty.ensures ∙ c.if-is_empty.false) c.next_statement-next.ensures.value c.in-Err.is c.of_unread.ensures.told

pub returns-in-None-clause-heard : goal.returns-in-None-clause-heard
returns-in-None-clause-heard g c = λ clean.
    rw (empty_is c.args.source.now c.args.tokens.now (sym c.is_empty.ensures ∙ c.if-is_empty.true) (sym c.second_place.ensures ∙ c.in-None.is)) (refl, refl)

pub returns-in-Ok-Some-clause-heard : goal.returns-in-Ok-Some-clause-heard
returns-in-Ok-Some-clause-heard g c = λ clean.
    rw (piece_read c.args.source.now c.args.tokens.now c.in-Ok-Some.statement c.in-Ok-Some.len (sym c.is_empty.ensures ∙ c.if-is_empty.false)
    (found c.args.source.now c.args.tokens.now c.next_statement-next.result _ c.next_statement-next.ensures.value (search rules)) (sym (c.second_place-in-Ok-Some.ensures ∙ ap second_place c.behind.ensures) ∙ c.in-None-second_place.is))
    (c.statement.ensures.heard clean)
