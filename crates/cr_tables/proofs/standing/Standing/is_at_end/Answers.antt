use Rattle.std.proofs.Common.{◌∙◌, ap, rules, ℕ, sym}
use Rattle.std.proofs.Math.Dec.{leb}
use Rattle.cr_module.specs.Lawful.{is_at_end}
use Rattle.cr_tables.specs.Views.{rows_before}
use Rattle.cr_tables.specs.declared.standing.Standing.{Standing}
use Rattle.cr_tables.proofs.Places.{end_is}
use Rattle.cr_tables.proofs.standing.Standing.is_at_end.Goals as goal

pub returns-in-Made : goal.returns-in-Made
returns-in-Made c =
    ap (λ (n : ℕ). leb n c.in-Made.at) (search rules) ∙ end_is c.in-Made.rows.items c.in-Made.at
    ∙ ap (λ (s : Standing). is_at_end (rows_before s)) (sym c.in-Made.is)
