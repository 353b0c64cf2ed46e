use Rattle.cr_query.proofs.Lacking.{answer_lacks, rows_lack, insert_lacks, update_lacks, delete_lacks}
use Rattle.cr_query.proofs.laws.what_has_no_answer_lacks_a_value.Goals as goal

pub returns-clause-queries : goal.returns-clause-queries
returns-clause-queries g c = λ m q tables. answer_lacks m q tables

pub returns-clause-inserts : goal.returns-clause-inserts
returns-clause-inserts g c = λ m columns w rows. (rows_lack m columns w, insert_lacks m columns w rows)

pub returns-clause-updates : goal.returns-clause-updates
returns-clause-updates g c = λ m columns w rows. update_lacks m columns w rows

pub returns-clause-deletes : goal.returns-clause-deletes
returns-clause-deletes g c = λ m w rows. delete_lacks m w rows
