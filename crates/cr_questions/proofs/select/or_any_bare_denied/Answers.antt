use Rattle.std.specs.Option.{option_map}
use Rattle.cr_questions.specs.Asked.{bare_read_in, or_first_denied, told}
use Rattle.cr_questions.proofs.Denials.{denied_more}
use Rattle.cr_questions.proofs.Collected.{next_act}
use Rattle.cr_questions.proofs.select.or_any_bare_denied.Goals as goal

pub loop-source-preserved : goal.loop-source-preserved
loop-source-preserved g c =
    next_act (or_first_denied (g.G.Answering.answers c.args.guard.now)) (denied_more (g.G.Answering.answers c.args.guard.now)) (bare_read_in c.args.query.now) c.args.joined.now c.loop-source.source-index c.source-item.result
    (option_map told c.loop-source.found) (option_map told c.or_bare_denied-found.result) _ c.loop-source-test.true c.source-item.is
    (rw (c.is_mentioned-is_mentioned.ensures, c.as_str.ensures.value) at c.or_bare_denied-found.ensures)
    c.loop-source.invariant
