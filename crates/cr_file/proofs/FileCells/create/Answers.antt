use Rattle.std.proofs.Common.{◌≡◌}
use Rattle.sqlite.specs.Held.{state}
use Rattle.sqlite.specs.Files.{over_files}
use Rattle.cr_rows.specs.Schema.{no_schema}
use Rattle.cr_file.proofs.Refusing.{refused_by}
use Rattle.cr_file.proofs.FileCells.create.Goals as goal

pub returns-in-Err-clause-why : goal.returns-in-Err-clause-why
returns-in-Err-clause-why c = λ none.
    refused_by c.in-Err.refused.0 (state over_files c.args.conn).in_transaction ((state over_files c.args.conn).now.schema ≡ no_schema) (λ busy. (c.in-Err.ensures.busy busy).0) (λ free some. (c.in-Err.ensures.foreign free none some).0)
    (λ free nothing. c.in-Err.ensures.why free nothing)
