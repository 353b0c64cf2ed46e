use Rattle.std.proofs.Common.{◌≡◌, ℕ, List, ◌∙◌, ap, subst, sym}
use Rattle.std.specs.Prelude.{filter}
use Rattle.cr_lattice.specs.declared.change.Change.{Change}
use Rattle.cr_lattice.specs.declared.table.TableDef.{TableDef}
use Rattle.cr_lattice.specs.Check.{same_bytes}
use Rattle.cr_lattice.specs.Keep.{keep}
use Rattle.cr_tables.proofs.Walks.{Rises}
use Rattle.cr_pushdown.specs.Scan.{is_of}
use Rattle.cr_pushdown.proofs.Orders.{sorted_of}
use Rattle.cr_pushdown.proofs.Pages.{kept_of_one, kept_rises}
use Rattle.cr_pushdown.proofs.scan.own_changes.Goals as goal

own_is : (name : List ℕ) (def : TableDef) (changes own : List Change) → name ≡ def.name → own ≡ filter (λ c. same_bytes c.table name) changes → own ≡ filter (is_of def) changes
own_is name def changes own named is = is ∙ ap (λ n. filter (λ (c : Change). same_bytes c.table n) changes) named

pub returns-clause-sorted : goal.returns-clause-sorted
returns-clause-sorted c =
    let own = own_is c.as_str.result.now c.args.def.now c.args.changes.now c.in_ok-own.own.items c.as_str.ensures.value c.in_ok-own.ensures in
    sorted_of c.in_ok-kept.kept.items (subst Rises (sym (c.in_ok-kept.ensures ∙ ap keep own)) (kept_rises c.args.def.now c.args.changes.now))

pub returns-clause-of : goal.returns-clause-of
returns-clause-of c =
    let own = own_is c.as_str.result.now c.args.def.now c.args.changes.now c.in_ok-own.own.items c.as_str.ensures.value c.in_ok-own.ensures in
    let is = c.in_ok-kept.ensures ∙ ap keep own in
    ap (filter (is_of c.args.def.now)) is ∙ kept_of_one c.args.def.now c.args.changes.now ∙ sym is
