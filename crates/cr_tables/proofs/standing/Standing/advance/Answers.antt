use Rattle.std.proofs.Common.{◌∙◌, ap, sym}
use Rattle.cr_module.specs.Lawful.{rest_of}
use Rattle.cr_tables.specs.Views.{rows_before}
use Rattle.cr_tables.specs.declared.standing.Standing.{Standing}
use Rattle.cr_tables.proofs.Places.{rest_from}
use Rattle.cr_tables.proofs.standing.Standing.advance.Goals as goal

pub returns-in-Made : goal.returns-in-Made
returns-in-Made c =
    record {
      goes_on = rest_from c.in-Made.field-0.items c.in-Made.at ∙ ap (λ (s : Standing). rest_of (rows_before s)) (sym c.in-Made.is);
      stands = tt;
    }
