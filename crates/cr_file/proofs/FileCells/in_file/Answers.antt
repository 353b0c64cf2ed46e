use Rattle.sqlite.specs.Held.{state}
use Rattle.sqlite.specs.Files.{over_files}
use Rattle.cr_store.specs.Making.{has_store}
use Rattle.cr_file.proofs.Refusing.{tells_why}
use Rattle.cr_file.proofs.FileCells.in_file.Goals as goal

pub returns-in-Ok-clause-why : goal.returns-in-Ok-clause-why
returns-in-Ok-clause-why c = tells_why _ _ c.args.site c.open_or_create.result (has_store (state over_files c.in-Ok.conn).now.schema) c.open_or_create.ensures.opens c.open_or_create.ensures.makes
