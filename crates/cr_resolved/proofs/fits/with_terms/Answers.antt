use Rattle.std.specs.List.{flat_map}
use Rattle.cr_questions.proofs.Collected.{next_act}
use Rattle.cr_resolved.specs.Fits.{seen_with, term_params}
use Rattle.cr_resolved.proofs.Seen.{with_more, with_nothing}
use Rattle.cr_resolved.proofs.Nodes.{none_left}
use Rattle.cr_resolved.proofs.fits.with_terms.Goals as goal

pub loop-term-preserved : goal.loop-term-preserved
loop-term-preserved c =
    next_act seen_with with_more term_params c.args.terms.now c.loop-term.term-index c.term-item.result
    c.loop-term.seen c.with_tree-seen.result _ c.loop-term-test.true c.term-item.is c.with_tree-seen.ensures c.loop-term.invariant

pub returns : goal.returns
returns c =
    none_left (λ xs. seen_with c.loop-term.seen (flat_map term_params xs)) c.args.terms.now c.loop-term.term-index c.loop-term.seen _
    c.loop-term-test.false (with_nothing c.loop-term.seen) c.loop-term.invariant
