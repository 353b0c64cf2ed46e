use Rattle.std.proofs.Common.{rules, refl, None, inl, inr}
use Rattle.cr_script.proofs.Scripting.{folded, found, not_none, stops_unread}
use Rattle.cr_script.proofs.Turning.{takes}
use Rattle.cr_script.proofs.script.turn.Goals as goal

pub returns-in-Ok-None-clause-turns : goal.returns-in-Ok-None-clause-turns
returns-in-Ok-None-clause-turns g c = λ has names. (found _ _ c.next_statement-next.result None c.next_statement-next.ensures.value (search rules), refl)

pub returns-clause-turns : goal.returns-clause-turns
returns-clause-turns g c = λ has names. stops_unread _ _ g.E.Executor.is_honest g.E.Executor.is_clean g.E.Executor.stands _ _ _ c.next_statement-next.result _ _ c.next_statement-next.ensures.value c.next_statement-next.ensures.end (search rules) c.of_unread.ensures.told

pub returns-in-Ok-clause-turns : goal.returns-in-Ok-clause-turns
returns-in-Ok-clause-turns g c = λ has names. record {
  statement = c.in-Ok-Some.statement;
  is = found _ _ c.next_statement-next.result _ c.next_statement-next.ensures.value (search rules);
  carries = c.in-Ok.ensures.carries has names;
}

pub returns-in-Ok-Some-clause-turns : goal.returns-in-Ok-Some-clause-turns
returns-in-Ok-Some-clause-turns g c = λ has names.
    inr (inl (c.in-Ok-Some.statement, c.in-Ok-Some.len, found _ _ c.next_statement-next.result _ c.next_statement-next.ensures.value (search rules), c.in-Err-statement.ensures.carries has names))

pub returns-in-Ok-clause-takes : goal.returns-in-Ok-clause-takes
returns-in-Ok-clause-takes g c = takes _ _ c.in-Ok-Some.statement c.in-Ok-Some.len (found _ _ c.next_statement-next.result _ c.next_statement-next.ensures.value (search rules))

pub statement-requires-clause-folded : goal.statement-requires-clause-folded
statement-requires-clause-folded g c = folded c.args.source.now c.args.tokens.now c.in-Ok-Some.statement c.in-Ok-Some.len (found c.args.source.now c.args.tokens.now c.next_statement-next.result _ c.next_statement-next.ensures.value (search rules))

pub returns-in-Ok-clause-heard : goal.returns-in-Ok-clause-heard
returns-in-Ok-clause-heard g c = λ clean. (c.in-Ok-Some.statement, c.in-Ok-Some.len, found _ _ c.next_statement-next.result _ c.next_statement-next.ensures.value (search rules), c.in-Ok.ensures.heard clean)

pub returns-then-is_err-clause-turns : goal.returns-then-is_err-clause-turns
returns-then-is_err-clause-turns g c = λ has names.
    inr (inr (refl, refl, not_none _ (c.in-Ok-Some.statement, c.in-Ok-Some.len) (found _ _ c.next_statement-next.result _ c.next_statement-next.ensures.value (search rules))))

pub returns-then-is_err-clause-heard : goal.returns-then-is_err-clause-heard
returns-then-is_err-clause-heard g c = λ clean. inl (inl refl)
