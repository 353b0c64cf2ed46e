use Rattle.std.proofs.Common.{◌≡◌, ◌+ℤ◌, pos, arith, sym, ap, subst, ◌∙◌, SFits, w64, to_z, of_z, to_z-of_z}
use Rattle.std.proofs.lemmas.Int.{ints}
use Rattle.std.proofs.lemmas.Result.{err_from_is_err_and}
use Rattle.std.specs.List.{list_any}
use Rattle.std.specs.Prelude.{List, Err, true, false, ℤ}
use Rattle.std.specs.Ordering.{int_eq}
use Rattle.cr_lattice.specs.declared.change.Change.{Change}
use Rattle.cr_lattice.specs.declared.stamped.Stamped.{Stamped}
use Rattle.cr_lattice.specs.Keep.{join}
use Rattle.cr_cells.specs.declared.store.CellsError.{CellsError}
use Rattle.cr_cells.specs.declared.store.CellsError.TheVariants as error
use Rattle.cr_cells.specs.Advance.{IsNext, Advances}
use Rattle.cr_cells.specs.Commit.{is_changed}
use Rattle.cr_cells.specs.Holding.{changes_of}
use Rattle.cr_cells.specs.Commit.{greatest_version, cells_after}
use Rattle.cr_cells.proofs.CommitLemmas.{is_new, sorted_kept, is_changed-is, sorted_next, cells_after-is, same_int}
use Rattle.cr_cells.proofs.cells.take_changes.Goals as goal

pub returns-then-not-brings_in : goal.returns-then-not-brings_in
returns-then-not-brings_in c =
    sym (is_changed-is c.args.cells.now c.args.changes.now c.in_ok-kept.kept.items c.in_ok-next.next.items c.brings_in.result c.in_ok-kept.ensures
    (c.in_ok-next.ensures ∙ ap (λ ks. join ks c.args.changes.now) c.deref.ensures.value) (c.brings_in.ensures ∙ ap (list_any (is_new c.args.cells.now)) c.deref-2.ensures.value))
    ∙ c.if-not-brings_in.true

-- why an advance is refused at the greatest version
refused_for : (cells : List Stamped) (version : ℤ) (more : List Change) (e : CellsError) → is_changed (changes_of cells) more ≡ true → IsNext version (Err e) → Advances cells version more (Err e)
refused_for cells version more error.Memory changed limit = absurd limit
refused_for cells version more (error.Store f) changed limit = absurd limit
refused_for cells version more error.VersionLimit changed limit = (changed, limit)

pub returns-in_err-version : goal.returns-in_err-version
returns-in_err-version c =
    let fits : SFits w64 c.args.version = c.ranges.version in
    let told = err_from_is_err_and c.from_residual-in_err-version.result c.from_residual-in_err-version.ensures.1 in
    rw (told.1, told.2)
    (refused_for c.args.cells.now c.args.version c.args.changes.now c.in_err-version.field-0.0
    (sym (is_changed-is c.args.cells.now c.args.changes.now c.in_ok-kept.kept.items c.in_ok-next.next.items c.brings_in.result c.in_ok-kept.ensures
    (c.in_ok-next.ensures ∙ ap (λ ks. join ks c.args.changes.now) c.deref.ensures.value) (c.brings_in.ensures ∙ ap (list_any (is_new c.args.cells.now)) c.deref-2.ensures.value))
    ∙ c.if-not-brings_in.false)
    (subst (λ (v : ℤ). IsNext v (Err c.in_err-version.field-0.0)) (to_z-of_z fits) c.in_err-version.ensures))

pub restamped-requires-clause-cells_in_order : goal.restamped-requires-clause-cells_in_order
restamped-requires-clause-cells_in_order c = sorted_kept c.args.cells.now c.requires

pub restamped-requires-clause-next_in_order : goal.restamped-requires-clause-next_in_order
restamped-requires-clause-next_in_order c = sorted_next c.args.changes.now c.deref.result.now c.deref-3.result.now (c.deref-3.ensures.value ∙ c.in_ok-next.ensures)

pub returns : goal.returns
returns c =
    let fits : SFits w64 c.args.version = c.ranges.version in
    let next = simp to_z-of_z at c.in_ok-version.ensures in
    let v : to_z w64 (of_z w64 c.in_ok-version.version) ≡ (c.args.version +ℤ pos 1) = (let other : c.args.version ≡ pos 9223372036854775807 → ⊥ = (λ e. (let so : int_eq c.args.version greatest_version ≡ true = same_int c.args.version greatest_version e in let not_so : int_eq c.args.version greatest_version ≡ false = next.0 in absurd cc)) in let to = next.1 in let low = c.ranges.version in omega (arith, ints)) in
    record {
      changed =
          sym (is_changed-is c.args.cells.now c.args.changes.now c.in_ok-kept.kept.items c.in_ok-next.next.items c.brings_in.result c.in_ok-kept.ensures
          (c.in_ok-next.ensures ∙ ap (λ ks. join ks c.args.changes.now) c.deref.ensures.value) (c.brings_in.ensures ∙ ap (list_any (is_new c.args.cells.now)) c.deref-2.ensures.value))
          ∙ c.if-not-brings_in.false;
      room = next.0;
      version = v;
      after =
          cells_after-is c.args.cells.now c.args.changes.now c.deref.result.now c.deref-3.result.now _ c.in_ok-cells.cells.items
          (c.deref.ensures.value ∙ c.in_ok-kept.ensures) (c.deref-3.ensures.value ∙ c.in_ok-next.ensures) c.in_ok-cells.ensures ∙ ap (cells_after c.args.cells.now c.args.changes.now) v;
    }
