use Rattle.std.proofs.Common.{◌≡◌, ◌∙◌, ℕ, List, ap, sym, subst, rules}
use Rattle.std.specs.Prelude.{None, Some, slice_get, IfOk}
use Rattle.std.proofs.lemmas.Option.{gets}
use Rattle.cr_lattice.specs.declared.table.ColumnDef.{ColumnDef}
use Rattle.cr_value.specs.declared.value.Value.{Value}
use Rattle.cr_lattice.specs.Rows.{cell}
use Rattle.cr_module.specs.Lawful.{head_value, is_at_end}
use Rattle.cr_tables.specs.Shown.{first_key}
use Rattle.cr_tables.proofs.Walks.{value_missing, value_there}
use Rattle.cr_tables.proofs.shown.Shown.column.Goals as goal

pub returns-in-Some : goal.returns-in-Some
returns-in-Some c =
    let self = c.self.inside in
    let some = ap is_at_end c.self.view_is ∙ c.requires in
    let there = ap (λ (cs : List ColumnDef). slice_get cs c.args.at) (sym c.as_slice.ensures) ∙ (let is : slice_get c.as_slice.result.now c.args.at ≡ Some c.in-Some.column.now = search (rules, gets) in is) in
    let value = value_there self.def.now self.group.now self.later.now self.key.items c.self.invariant c.args.at c.in-Some.column.now some there in
    let name = ap (λ (table : List ℕ). cell self.group.now table (first_key self.group.now) c.in-Some.column.now) c.as_str.ensures.value in
    subst (λ (x : Value). IfOk c.cell.result (λ v. v ≡ x)) (name ∙ sym value ∙ ap (λ (rows : List (List Value)). head_value c.args.at rows) c.self.view_is) c.cell.ensures

pub returns-in-None : goal.returns-in-None
returns-in-None c =
    let self = c.self.inside in
    let some = ap is_at_end c.self.view_is ∙ c.requires in
    let missing = ap (λ (cs : List ColumnDef). slice_get cs c.args.at) (sym c.as_slice.ensures) ∙ (let is : slice_get c.as_slice.result.now c.args.at ≡ None = search (rules, gets) in is) in
    sym (value_missing self.def.now self.group.now self.later.now self.key.items c.self.invariant c.args.at some missing)
    ∙ ap (λ (rows : List (List Value)). head_value c.args.at rows) c.self.view_is
