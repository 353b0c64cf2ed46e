use Rattle.std.proofs.Common.{sym, ap, ◌∙◌}
use Rattle.std.specs.Prelude.{is_some}
use Rattle.cr_cells.specs.Tables.{is_named}
use Rattle.cr_replica.proofs.Definitions.{is_some-find, is_some-copied}
use Rattle.cr_replica.proofs.definition.is_taken.Goals as goal

pub returns : goal.returns
returns c =
    c.is_some.ensures ∙ sym (is_some-copied c.table_named.result) ∙ ap is_some c.table_named.ensures
    ∙ rw c.as_str.ensures.value (is_some-find (is_named c.args.def.now.name) c.args.tables.now)
