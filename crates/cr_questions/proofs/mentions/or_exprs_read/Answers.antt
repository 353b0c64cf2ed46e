use Rattle.cr_term.specs.Parts.{columns}
use Rattle.cr_questions.specs.Questions.{relations_of}
use Rattle.cr_questions.specs.Asked.{or_is_read}
use Rattle.cr_questions.proofs.Columns.{or_more}
use Rattle.cr_questions.proofs.Wholes.{query_acts}
use Rattle.cr_questions.proofs.mentions.or_exprs_read.Goals as goal

pub returns : goal.returns
returns c =
    query_acts (or_is_read (relations_of c.args.query.now) c.args.name.now) (or_more (relations_of c.args.query.now) c.args.name.now) columns c.args.query.now c.args.found
    c.or_results_read-shown.result c.or_joined_read-joined.result c.or_any_reads-filtered.result c.or_groups_read-grouped.result c.or_having_reads-had.result c.or_order_reads.result
    (rw (c.as_slice.ensures, c.as_slice-2.ensures) at c.or_results_read-shown.ensures)
    (rw (c.as_slice.ensures, c.as_slice-3.ensures) at c.or_joined_read-joined.ensures)
    (rw (c.as_slice.ensures, c.as_slice-4.ensures) at c.or_any_reads-filtered.ensures)
    (rw (c.as_slice.ensures, c.as_slice-5.ensures) at c.or_groups_read-grouped.ensures)
    (rw c.as_slice.ensures at c.or_having_reads-had.ensures)
    (rw (c.as_slice.ensures, c.as_slice-6.ensures) at c.or_order_reads.ensures)
