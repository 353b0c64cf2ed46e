use Rattle.std.proofs.Common.{◌∙◌, sym}
use Rattle.cr_tables.proofs.Walks.{no_first_key}
use Rattle.cr_tables.proofs.shown.key_values.Goals as goal

pub returns-in_default : goal.returns-in_default
returns-in_default c = c.new.ensures.items ∙ sym (no_first_key c.args.group.now c.in_default.ensures.value)
