use Rattle.std.proofs.Common.{rules, subst, Some, Ok, Err}
use Rattle.cr_script.specs.Scripts.{next}
use Rattle.cr_script.specs.Speaking.{HasHeard}
use Rattle.cr_script.proofs.Heeding.{heard_of, heeded, heeds_more, heeds_none, heeds_refused, turns_alike, was_clean}
use Rattle.cr_script.proofs.Staying.{same_host, stays_put, stays_on}
use Rattle.cr_script.proofs.Turning.{takes_of, fewer, turned, starts, more, ends, stops}
use Rattle.cr_script.proofs.script.turns.Goals as goal

pub loop-reply-init : goal.loop-reply-init
loop-reply-init g c = record {
  led = λ has names. starts _ _ g.E.Executor.is_honest g.E.Executor.is_clean g.E.Executor.stands _ _ _ _ (search rules);
  heeds = λ has names. heeds_none _ _ g.E.Executor.is_honest g.E.Executor.is_clean g.E.Executor.stands (λ from to events. HasHeard g.G.Guarding.noted g.G.Guarding.noting from to events) _ _ _ _ _ (search rules);
  stays = stays_put g.G.Guarding.is_faithful g.G.Guarding.rules g.G.Guarding.allows g.G.Guarding.refuses g.G.Guarding.noting c.args.guard.now c.requires.guard;
}

pub returns-in-Ok-None-clause-carries : goal.returns-in-Ok-None-clause-carries
returns-in-Ok-None-clause-carries g c = λ has names.
    let same = same_host g.G.Guarding.is_faithful g.G.Guarding.rules g.G.Guarding.allows g.G.Guarding.refuses g.G.Guarding.noting _ _ c.loop-reply.invariant.stays in
    let none = turned _ _ g.E.Executor.is_honest g.E.Executor.is_clean g.E.Executor.stands _ _ _ _ _ c.in-Ok-None.field-0-is (c.in-Ok-None.ensures.turns has names) in
    rw none.1 (rw c.turn.ensures.replies (ends _ _ g.E.Executor.is_honest g.E.Executor.is_clean g.E.Executor.stands _ _ _ _ _ _ (c.loop-reply.invariant.led has names) none.0))

pub behind-rest-requires : goal.behind-rest-requires
behind-rest-requires g c = (takes_of _ (c.in-Ok-Some.reply, c.in-Ok-Some.len) _ (search rules) c.in-Ok-Some.ensures.takes).1

pub loop-reply-smaller : goal.loop-reply-smaller
loop-reply-smaller g c = fewer _ _ (c.in-Ok-Some.reply, c.in-Ok-Some.len) c.behind-rest.ensures (takes_of _ (c.in-Ok-Some.reply, c.in-Ok-Some.len) _ (search rules) c.in-Ok-Some.ensures.takes)

pub loop-reply-preserved : goal.loop-reply-preserved
loop-reply-preserved g c = record {
  led = λ has names.
      let same = same_host g.G.Guarding.is_faithful g.G.Guarding.rules g.G.Guarding.allows g.G.Guarding.refuses g.G.Guarding.noting _ _ c.loop-reply.invariant.stays in
      more _ _ g.E.Executor.is_honest g.E.Executor.is_clean g.E.Executor.stands _ _ _ _ _ _ _ _ (c.in-Ok-Some.reply, c.in-Ok-Some.len) _ (c.loop-reply.invariant.led has names)
      (turns_alike _ _ _ g.E.Executor.is_honest g.E.Executor.is_clean g.E.Executor.stands _ _ (Ok (Some (c.in-Ok-Some.reply, c.in-Ok-Some.len))) _ same
      (turned _ _ g.E.Executor.is_honest g.E.Executor.is_clean g.E.Executor.stands _ _ _ _ (Some (c.in-Ok-Some.reply, c.in-Ok-Some.len)) (search rules) (c.in-Ok-Some.ensures.turns has names))) c.behind-rest.ensures (search rules);
  heeds = λ has names.
      let same = same_host g.G.Guarding.is_faithful g.G.Guarding.rules g.G.Guarding.allows g.G.Guarding.refuses g.G.Guarding.noting _ _ c.loop-reply.invariant.stays in
      heeds_more _ _ g.E.Executor.is_honest g.E.Executor.is_clean g.E.Executor.stands (λ from to events. HasHeard g.G.Guarding.noted g.G.Guarding.noting from to events) _ _ _ _ _ _ _ _ _ _ (c.in-Ok-Some.reply, c.in-Ok-Some.len) _ _ (c.loop-reply.invariant.heeds has names)
      (turns_alike _ _ _ g.E.Executor.is_honest g.E.Executor.is_clean g.E.Executor.stands _ _ (Ok (Some (c.in-Ok-Some.reply, c.in-Ok-Some.len))) _ same
      (turned _ _ g.E.Executor.is_honest g.E.Executor.is_clean g.E.Executor.stands _ _ _ _ (Some (c.in-Ok-Some.reply, c.in-Ok-Some.len)) (search rules) (c.in-Ok-Some.ensures.turns has names)))
      (λ clean. heard_of (λ events. HasHeard g.G.Guarding.noted g.G.Guarding.noting c.loop-reply.guard c.turn.new.guard events) (g.E.Executor.stands c.loop-reply.executor) (next c.args.source.now c.loop-reply.rest.now) _ (Some (c.in-Ok-Some.reply, c.in-Ok-Some.len)) (g.E.Executor.stands c.turn.new.executor) (search rules) (c.in-Ok-Some.ensures.heard clean)) c.behind-rest.ensures (search rules);
  stays = stays_on g.G.Guarding.is_faithful g.G.Guarding.rules g.G.Guarding.allows g.G.Guarding.refuses g.G.Guarding.noting _ _ _ c.loop-reply.invariant.stays c.in-Ok-Some.ensures.guard;
}

pub returns-in-Err-clause-carries : goal.returns-in-Err-clause-carries
returns-in-Err-clause-carries g c = λ has names.
    let same = same_host g.G.Guarding.is_faithful g.G.Guarding.rules g.G.Guarding.allows g.G.Guarding.refuses g.G.Guarding.noting _ _ c.loop-reply.invariant.stays in
    rw c.turn.ensures.replies (stops _ _ g.E.Executor.is_honest g.E.Executor.is_clean g.E.Executor.stands _ _ _ _ _ _ _ _ (c.loop-reply.invariant.led has names)
    (turns_alike _ _ _ g.E.Executor.is_honest g.E.Executor.is_clean g.E.Executor.stands _ _ (Err c.in-Err.refusal) _ same (c.in-Err.ensures.turns has names)))

pub returns-in-Ok-None-clause-heard : goal.returns-in-Ok-None-clause-heard
returns-in-Ok-None-clause-heard g c = λ has names clean.
    let none = turned _ _ g.E.Executor.is_honest g.E.Executor.is_clean g.E.Executor.stands _ _ _ _ _ c.in-Ok-None.field-0-is (c.in-Ok-None.ensures.turns has names) in
    rw c.turn.ensures.replies (heeded _ _ g.E.Executor.is_honest g.E.Executor.is_clean g.E.Executor.stands (λ from to events. HasHeard g.G.Guarding.noted g.G.Guarding.noting from to events) _ _ _ _ _ _ _ _ _ (c.loop-reply.invariant.heeds has names) none.0 (subst g.E.Executor.is_clean none.1 clean)
    (heard_of (λ events. HasHeard g.G.Guarding.noted g.G.Guarding.noting c.loop-reply.guard c.turn.new.guard events) (g.E.Executor.stands c.loop-reply.executor) (next c.args.source.now c.loop-reply.rest.now) _ _ (g.E.Executor.stands c.turn.new.executor) c.in-Ok-None.field-0-is (c.in-Ok-None.ensures.heard clean)))

pub returns-in-Err-clause-heard : goal.returns-in-Err-clause-heard
returns-in-Err-clause-heard g c = λ has names clean.
    rw c.turn.ensures.replies (heeds_refused _ _ g.E.Executor.is_honest g.E.Executor.is_clean g.E.Executor.stands (λ from to events. HasHeard g.G.Guarding.noted g.G.Guarding.noting from to events) _ _ _ _ _ _ _ _ _ _ (c.loop-reply.invariant.heeds has names)
    (was_clean _ _ g.E.Executor.is_honest g.E.Executor.is_clean g.E.Executor.stands (λ from to events. HasHeard g.G.Guarding.noted g.G.Guarding.noting from to events) _ _ _ _ _ (c.in-Err.ensures.turns has names) clean) (c.in-Err.ensures.heard clean))
