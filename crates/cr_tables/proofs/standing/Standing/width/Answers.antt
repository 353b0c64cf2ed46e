use Rattle.std.proofs.Common.{◌∙◌, length, ap, sym}
use Rattle.cr_module.specs.Lawful.{first_row, is_at_end}
use Rattle.cr_tables.specs.Views.{rows_before}
use Rattle.cr_tables.specs.declared.standing.Standing.{Standing}
use Rattle.cr_tables.proofs.Places.{change_width}
use Rattle.cr_tables.proofs.standing.Standing.width.Goals as goal

pub returns-in-Changes : goal.returns-in-Changes
returns-in-Changes c =
    change_width c.in-Changes.field-0.now (ap (λ (s : Standing). is_at_end (rows_before s)) (sym c.in-Changes.is) ∙ c.requires)
    ∙ ap (λ (s : Standing). length (first_row (rows_before s))) (sym c.in-Changes.is)
