use Rattle.std.proofs.Common.{sym}
use Rattle.std.specs.Option.{option_map}
use Rattle.cr_questions.specs.Questions.{asked_all}
use Rattle.cr_questions.specs.Asked.{or_first_denied, relations, told}
use Rattle.cr_questions.proofs.Denials.{denied_more}
use Rattle.cr_questions.proofs.Collected.{next_act}
use Rattle.cr_questions.proofs.select.or_joined_denied.Goals as goal

pub loop-source-preserved : goal.loop-source-preserved
loop-source-preserved g c =
    next_act (or_first_denied (g.G.Answering.answers c.args.guard.now)) (denied_more (g.G.Answering.answers c.args.guard.now)) (λ j. asked_all (relations c.args.sources) j.on) c.args.joined.now c.loop-source.source-index c.source-item.result
    (option_map told c.loop-source.found) (option_map told c.or_any_denied-found.result) _ c.loop-source-test.true c.source-item.is (rw (sym c.as_slice.ensures) c.or_any_denied-found.ensures) c.loop-source.invariant
