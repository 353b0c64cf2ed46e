use Rattle.std.proofs.Common.{map, refl, sym, ap, subst, ◌∙◌, true≢false}
use Rattle.std.specs.List.{AllByRecursion}
use Rattle.sqlite.specs.Order.{Row}
use Rattle.sqlite_rules.specs.Edit.{id_in}
use Rattle.sqlite_trees.specs.Tree.{rowid}
use Rattle.cr_lattice.specs.Sets.{set_of}
use Rattle.cr_cells.specs.Holding.{cell_cmp}
use Rattle.cr_store.specs.Stored.{IsInteger}
use Rattle.cr_store.proofs.StoredLemmas.{apart_from_ids, ids_from_apart}
use Rattle.cr_store.proofs.cell_rows.read_cells.Goals as goal

pub returns-then-not-are_distinct : goal.returns-then-not-are_distinct
returns-then-not-are_distinct c =
    let ids = c.in_ok-ids.ensures.0 ∙ ap (map (λ (r : Row). id_in (rowid r))) c.deref.ensures.value in
    (refl, λ it. true≢false (sym (c.are_distinct.ensures.1 (ids_from_apart c.args.rows.items c.in_ok-ids.ids.items ids it.numbered it.apart)) ∙ c.if-not-are_distinct.true))

pub returns : goal.returns
returns c =
    let ids = c.in_ok-ids.ensures.0 ∙ ap (map (λ (r : Row). id_in (rowid r))) c.deref.ensures.value in (
      c.in_ok-by_change.ensures ∙ ap (set_of cell_cmp) c.in_ok-cells.ensures.0,
      record {
        numbered = subst (AllByRecursion (λ (r : Row). IsInteger (rowid r))) c.deref.ensures.value c.in_ok-ids.ensures.1;
        apart = apart_from_ids c.args.rows.items c.in_ok-ids.ids.items ids (c.are_distinct.ensures.0 c.if-not-are_distinct.false);
        each = c.in_ok-cells.ensures.1;
      },
    )
