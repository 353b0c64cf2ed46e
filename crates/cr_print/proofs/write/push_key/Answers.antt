use Rattle.std.proofs.Common.{codes, append_assoc}
use Rattle.cr_print.proofs.Steps.{last}
use Rattle.cr_print.proofs.write.push_key.Goals as goal

pub returns-in_ok-push_names-in-Some : goal.returns-in_ok-push_names-in-Some
returns-in_ok-push_names-in-Some c = last c.push_str-in-Some.result _ _ (codes ")") _ c.push_str-in-Some.ensures.bytes
    (simp (c.in_ok-push_names-in-Some.ensures, c.as_slice.ensures, c.in_ok-push_str-in-Some.ensures.bytes, c.in-Some.is, append_assoc))
