use Rattle.std.proofs.Common.{sym, ap, ◌∙◌}
use Rattle.std.specs.Option.{option_map}
use Rattle.cr_lattice.proofs.CheckLemmas.{key_read}
use Rattle.cr_lattice.proofs.check.is_key.Goals as goal

pub returns-in-Some : goal.returns-in-Some
returns-in-Some c =
    key_read c.args.def.now c.args.pk.now c.in-Some.values.items c.are_key_values.result
    (sym c.in_ok-values.ensures.exact ∙ ap (option_map (λ values. values.items)) c.in-Some.is)
    (rw c.in-Some.is at c.in_ok-values.ensures.some)
    (rw c.deref.ensures.value at c.are_key_values.ensures)
