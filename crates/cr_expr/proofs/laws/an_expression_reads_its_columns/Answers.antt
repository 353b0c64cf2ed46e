use Rattle.cr_expr.proofs.ReadsLaw.{reads_law}
use Rattle.cr_expr.proofs.laws.an_expression_reads_its_columns.Goals as goal

pub returns : goal.returns
returns c = reads_law
