use Rattle.std.proofs.Common.{sym}
use Rattle.std.specs.List.{flat_map}
use Rattle.cr_term.specs.Parts.{columns}
use Rattle.cr_questions.specs.Asked.{or_is_read, relations}
use Rattle.cr_questions.proofs.Columns.{or_more}
use Rattle.cr_questions.proofs.Collected.{next_act}
use Rattle.cr_questions.proofs.mentions.or_joined_read.Goals as goal

pub loop-source-preserved : goal.loop-source-preserved
loop-source-preserved c =
    next_act (or_is_read (relations c.args.sources) c.args.name.now) (or_more (relations c.args.sources) c.args.name.now) (λ j. flat_map columns j.on) c.args.joined.now c.loop-source.source-index c.source-item.result
    c.loop-source.found c.or_any_reads-found.result _ c.loop-source-test.true c.source-item.is (rw (sym c.as_slice.ensures) c.or_any_reads-found.ensures) c.loop-source.invariant
