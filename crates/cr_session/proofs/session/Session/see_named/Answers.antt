use Rattle.std.proofs.Common.{◌∙◌, sym}
use Rattle.cr_session.proofs.OfTables.{all_shown, tables_shown}
use Rattle.cr_session.proofs.session.Session.see_named.Goals as goal

pub returns-then-names_changes-clause-looks : goal.returns-then-names_changes-clause-looks
returns-then-names_changes-clause-looks g c = λ clean.
    all_shown c.args.tables.now _ _ c.see.result (sym c.names_changes.ensures ∙ c.if-names_changes.true) (c.see.ensures.sees clean)

pub returns-clause-looks : goal.returns-clause-looks
returns-clause-looks g c = λ clean.
    tables_shown c.args.tables.now _ _ c.see_tables.result (sym c.names_changes.ensures ∙ c.if-names_changes.false) (c.see_tables.ensures.sees clean)
