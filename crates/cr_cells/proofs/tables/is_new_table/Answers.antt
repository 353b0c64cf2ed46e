use Rattle.std.proofs.Common.{◌≡◌, true, false, not, is_some, ap, ◌∙◌, sym}
use Rattle.std.specs.Prelude.{find}
use Rattle.cr_cells.specs.Tables.{is_named}
use Rattle.cr_cells.proofs.TableLemmas.{repeat_not_new, found_not_new, none_unused}
use Rattle.cr_cells.proofs.tables.is_new_table.Goals as goal

pub returns-in-Some-clause-not_new : goal.returns-in-Some-clause-not_new
returns-in-Some-clause-not_new c = λ e new. repeat_not_new c.args.tables.now c.args.def.now c.in-Some.field-0 c.in-Some.ensures.repeated new

pub returns-clause-new : goal.returns-clause-new
returns-clause-new c = λ e.
    let none : is_some c.table_named.result ≡ false = c.is_none.ensures ∙ ap not e in
    record {
      fit = record { folded = sym c.has_folded_names.ensures ∙ c.if-not-has_folded_names.false; profile = c.in-Ok.ensures; names = c.in-None.ensures.distinct };
      unused = none_unused c.args.tables.now c.args.def.now.name c.table_named.result (c.table_named.ensures ∙ ap (λ name. find (is_named name) c.args.tables.now) c.as_str.ensures.value) none;
    }

pub returns-clause-not_new : goal.returns-clause-not_new
returns-clause-not_new c = λ e new.
    let found : is_some c.table_named.result ≡ true = c.is_none.ensures ∙ ap not e in
    found_not_new c.args.tables.now c.args.def.now c.table_named.result (c.table_named.ensures ∙ ap (λ name. find (is_named name) c.args.tables.now) c.as_str.ensures.value) found new
