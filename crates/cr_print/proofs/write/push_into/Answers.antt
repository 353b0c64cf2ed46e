use Rattle.std.proofs.Common.{append_assoc}
use Rattle.cr_print.proofs.Steps.{last_by}
use Rattle.cr_print.proofs.write.push_into.Goals as goal

pub returns : goal.returns
returns c = last_by _ _ _ _ c.push_columns.ensures
    (simp (c.in_ok-push_name.ensures, c.in_ok-push_str.ensures.bytes, append_assoc))
