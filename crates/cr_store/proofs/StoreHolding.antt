-- What a store holds by its rows.
use Rattle.std.proofs.Common.{◌≡◌, ℕ, pos, List, [], ◌∷◌, map, Vec, Global, sym, ap, subst, ◌∙◌}
use Rattle.std.specs.List.Sorted.{IsStrictlySortedBy}
use Rattle.sqlite.specs.declared.types.Value.TheVariants.{Int}
use Rattle.sqlite.specs.Order.{Row}
use Rattle.sqlite.specs.Effect.{Database}
use Rattle.sqlite_rules.specs.Lists.{Has}
use Rattle.std.specs.List.{AllByRecursion}
use Rattle.sqlite_rules.proofs.ListLemmas.{all_has}
use Rattle.sqlite_rules.proofs.ProbeLemmas.{has_mapped, mapped_has}
use Rattle.cr_rows.specs.Rows.{Lists}
use Rattle.cr_lattice.specs.declared.stamped.Stamped.{Stamped}
use Rattle.cr_lattice.specs.declared.table.Table.{Table}
use Rattle.cr_lattice.proofs.SortedSets.{IsStrictlySortedBy-set_of}
use Rattle.cr_cells.specs.Marks.{Mark}
use Rattle.cr_cells.specs.Holding.{cell_cmp, empty_holding, IsSound}
use Rattle.cr_cells.proofs.CellLemmas.{cell_total, cell_exact}
use Rattle.cr_store.specs.declared.known.Known.{Known}
use Rattle.cr_store.specs.declared.format.Format.{Format}
use Rattle.cr_store.specs.declared.format.Format.TheVariants.{Second}
use Rattle.cr_store.specs.Ordinals.{IsNamed}
use Rattle.cr_store.specs.Rows.{cell_row, cell_of}
use Rattle.cr_store.specs.Shows.{Shows, cells_in}
use Rattle.cr_store.specs.Kept.{holding_of}
use Rattle.cr_store.proofs.OrdinalLemmas.{named_cells}
use Rattle.cr_store.proofs.ReadLemmas.{cell_back}
use Rattle.cr_store.proofs.ReadSets.{same_sets, set_of_sorted}

module _ (f : Format) (ts : List Table) where
  pub cells_sorted : (rows : List Row) → IsStrictlySortedBy cell_cmp (cells_in f ts rows)
  cells_sorted rows = IsStrictlySortedBy-set_of cell_total cell_exact (map (cell_of f ts) rows)

  -- the cells of rows are those that they list
  pub cells_back : (rows : List Row) (ss : List Stamped) → Lists rows (map (cell_row f ts) ss) → AllByRecursion (IsNamed ts) ss → IsStrictlySortedBy cell_cmp ss → cells_in f ts rows ≡ ss
  cells_back rows ss it named up = same_sets cell_total cell_exact (map (cell_of f ts) rows) ss to from ∙ set_of_sorted cell_total cell_exact ss up
    where
      there : (s : Stamped) → Has ss s → IsNamed ts s
      there s h = all_has (IsNamed ts) ss s named h

      to : (s : Stamped) → Has (map (cell_of f ts) rows) s → Has ss s
      to s h =
          let r = has_mapped (cell_of f ts) rows s h in
          let l = it.sound r.0 r.1 in
          let a = has_mapped (cell_row f ts) ss l.1 l.3 in
          subst (Has ss) (sym (r.2 ∙ ap (cell_of f ts) l.2 ∙ ap (λ (x : Row). cell_of f ts (Int l.0 ∷ x)) a.2 ∙ cell_back f ts (Int l.0) a.0 (there a.0 a.1))) a.1

      from : (s : Stamped) → Has ss s → Has (map (cell_of f ts) rows) s
      from s h =
          let c = it.complete (cell_row f ts s) (mapped_has (cell_row f ts) ss s h) in
          subst (Has (map (cell_of f ts) rows)) (cell_back f ts (Int c.0) s (there s h)) (mapped_has (cell_of f ts) rows (Int c.0 ∷ cell_row f ts s) c.1)

pub new_holding : (db : Database) (site : List ℕ) (ts : Vec Table Global) (ms : Vec Mark Global) → ts.items ≡ [] → ms.items ≡ [] → Shows db (empty_holding site)
    → holding_of db (record { site = site; version = pos 0; tables = ts; marks = ms }) ≡ empty_holding site
new_holding db site ts ms p q it =
    let cells = cells_back Second ts.items (db.trees 8) [] it.cells_are tt (IsStrictlySortedBy-set_of cell_total cell_exact []) in
    λ i. record { tables = p i; site = site; version = pos 0; cells = cells i; marks = q i }

-- only the tables changed
pub tables_set : (old new : Database) (k : Known) (ts : Vec Table Global) (all : List Table) → ts.items ≡ all → IsSound (record (holding_of old k) { tables = all }) → Shows new (record (holding_of old k) { tables = all })
    → holding_of new (record { site = k.site; version = k.version; tables = ts; marks = k.marks }) ≡ record (holding_of old k) { tables = all }
tables_set old new k ts all p sound it =
    let cells = ap (λ us. cells_in Second us (new.trees 8)) p
    ∙ cells_back Second all (new.trees 8) (cells_in Second k.tables.items (old.trees 8)) it.cells_are (named_cells (record (holding_of old k) { tables = all }) sound) (cells_sorted Second k.tables.items (old.trees 8)) in
    λ i. record { tables = p i; site = k.site; version = k.version; cells = cells i; marks = k.marks.items }
