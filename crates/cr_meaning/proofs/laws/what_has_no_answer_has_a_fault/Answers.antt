use Rattle.cr_query.proofs.Lacking.{answer_lacks, rows_lack, insert_lacks, update_lacks, delete_lacks}
use Rattle.cr_query.proofs.Having.{query_has, insert_has, update_has, delete_has}
use Rattle.cr_meaning.proofs.Faulting.{m, on_row, over, true_on_row, true_over}
use Rattle.cr_meaning.proofs.laws.what_has_no_answer_has_a_fault.Goals as goal

pub returns-clause-queries : goal.returns-clause-queries
returns-clause-queries c = λ host params f q tables e.
    query_has (m host params f) _ _ _ _ _ _ _ _ (on_row host params f) (over host params f) (true_on_row host params f) (true_over host params f) q tables (answer_lacks (m host params f) q tables e)

pub returns-clause-inserts : goal.returns-clause-inserts
returns-clause-inserts c = λ host params f columns w rows. (
  λ e. insert_has (m host params f) _ _ _ _ _ _ _ _ (on_row host params f) (over host params f) (true_on_row host params f) (true_over host params f) w (rows_lack (m host params f) columns w e),
  λ e. insert_has (m host params f) _ _ _ _ _ _ _ _ (on_row host params f) (over host params f) (true_on_row host params f) (true_over host params f) w (insert_lacks (m host params f) columns w rows e),
)

pub returns-clause-updates : goal.returns-clause-updates
returns-clause-updates c = λ host params f columns w rows e.
    update_has (m host params f) _ _ _ _ _ _ _ _ (on_row host params f) (over host params f) (true_on_row host params f) (true_over host params f) w rows (update_lacks (m host params f) columns w rows e)

pub returns-clause-deletes : goal.returns-clause-deletes
returns-clause-deletes c = λ host params f w rows e.
    delete_has (m host params f) _ _ _ _ _ _ _ _ (on_row host params f) (over host params f) (true_on_row host params f) (true_over host params f) w rows (delete_lacks (m host params f) w rows e)
