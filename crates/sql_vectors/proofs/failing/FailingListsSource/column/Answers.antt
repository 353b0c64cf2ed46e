use Rattle.std.proofs.Common.{◌∙◌, ℕ, ap}
use Rattle.cr_module.specs.Reading.{table_at}
use Rattle.cr_module.specs.declared.lists.Lists.{Lists}
use Rattle.sql_vectors.proofs.failing.FailingListsSource.column.Goals as goal

pub returns-clause-rows : goal.returns-clause-rows
returns-clause-rows c = c.column.ensures.rows ∙ ap (λ (l : Lists). λ (n : ℕ). table_at n l.tables.now) c.in_ok-count.ensures.lists
