use Rattle.std.specs.List.{flat_map}
use Rattle.cr_questions.proofs.Collected.{next_act}
use Rattle.cr_resolved.specs.Casts.{or_outside, term_casts}
use Rattle.cr_resolved.proofs.Outside.{or_more, or_nothing}
use Rattle.cr_resolved.proofs.Nodes.{none_left}
use Rattle.cr_resolved.proofs.casts.or_term_casts.Goals as goal

pub loop-term-preserved : goal.loop-term-preserved
loop-term-preserved c =
    next_act or_outside or_more term_casts c.args.terms.now c.loop-term.term-index c.term-item.result
    c.loop-term.found c.in_ok-found.found _ c.loop-term-test.true c.term-item.is c.in_ok-found.ensures c.loop-term.invariant

pub returns : goal.returns
returns c =
    none_left (λ xs. or_outside c.loop-term.found (flat_map term_casts xs)) c.args.terms.now c.loop-term.term-index c.loop-term.found _
    c.loop-term-test.false (or_nothing c.loop-term.found) c.loop-term.invariant
