-- The rows that a store's cells show, however the cells are listed.
use Rattle.std.proofs.Common.{◌≡◌, ◌≤◌, ℕ, pos, Bool, true, false, cond, ◌&&◌, List, [], ◌∷◌, length, map, Option, sym, ap, subst, ◌∙◌, refl}
use Rattle.std.specs.Prelude.{filter}
use Rattle.std.proofs.lemmas.List.Elements.{filter_agree}
use Rattle.cr_value.specs.declared.value.Value.{Value}
use Rattle.cr_lattice.specs.declared.change.Change.{Change}
use Rattle.cr_lattice.specs.declared.table.Table.{Table}
use Rattle.cr_lattice.specs.Keep.{keep}
use Rattle.cr_lattice.specs.declared.stamped.Stamped.{Stamped}
use Rattle.cr_lattice.specs.Rows.{keys_in_order, rows}
use Rattle.cr_lattice.proofs.Filters.{filter-filter}
use Rattle.cr_lattice.proofs.KeepLaws.{keep_members, keep_keep}
use Rattle.cr_lattice.proofs.TableLemmas.{rows_of_table}
use Rattle.cr_cells.specs.Holding.{Holding, changes_of, cells_of_table, is_of_table, kept_of, since, IsSound}
use Rattle.cr_cells.specs.Tables.{is_named}
use Rattle.cr_cells.specs.declared.page.Page.{Page}
use Rattle.cr_cells.specs.Pages as cells
use Rattle.cr_cells.proofs.LawLemmas.{since-all}
use Rattle.cr_cells.proofs.NewLemmas.{same_is}
use Rattle.cr_replica.specs.declared.page.KeptPage.{KeptPage}
use Rattle.cr_replica.specs.Snapshots.{IsKeptPage, is_between, keys_of}
use Rattle.cr_replica.specs.Showing.{in_order, shown_of}

pub kept_listed : (h : Holding) (changes kept : List Change) → IsSound h → changes ≡ changes_of (since h.cells (pos 0)) → kept ≡ keep changes → kept ≡ kept_of h
kept_listed h changes kept sound listed once =
    once ∙ ap keep listed ∙ keep_members _ _ (since-all h sound) ∙ sound.kept

-- what is kept is kept once
pub kept_once : (changes kept : List Change) → kept ≡ keep changes → keep kept ≡ kept
kept_once changes kept e = ap keep e ∙ keep_keep changes ∙ sym e

changes_where : (p : Change → Bool) (ss : List Stamped) → changes_of (filter (λ s. p s.change) ss) ≡ filter p (changes_of ss)
changes_where p [] = refl
changes_where p (s ∷ ss) = by (p s.change) (changes_where p ss) where
  by : (b : Bool) → changes_of (filter (λ s. p s.change) ss) ≡ filter p (changes_of ss)
      → changes_of (cond b (s ∷ filter (λ s. p s.change) ss) (filter (λ s. p s.change) ss)) ≡ cond b (s.change ∷ filter p (changes_of ss)) (filter p (changes_of ss))
  by true e = ap (λ (cs : List Change). s.change ∷ cs) e
  by false e = e

of_table : (h : Holding) (table : List ℕ) → changes_of (cells_of_table h.cells table) ≡ filter (is_of_table table) (kept_of h)
unfolding cells_of_table
of_table h table = changes_where (is_of_table table) h.cells

-- the rows of a table, read of its own cells
pub shown_is : (h : Holding) (t : Table) (name : List ℕ) (changes : List Change) (found sorted : List (List Value)) → is_named name t ≡ true
    → changes ≡ changes_of (cells_of_table h.cells name) → found ≡ rows changes t.definition → sorted ≡ in_order found → t.is_replicated ≡ true
    → sorted ≡ shown_of h t
shown_is h t name changes found sorted named read f s r =
    s ∙ ap in_order (f ∙ ap (λ (cs : List Change). rows cs t.definition) (read ∙ of_table h name) ∙ whole) ∙ sym (rw r refl)
  where
    twice : (b : Bool) → (b && b) ≡ b
    twice true = refl
    twice false = refl

    own : filter (is_of_table t.definition.name) (filter (is_of_table t.definition.name) (kept_of h)) ≡ filter (is_of_table t.definition.name) (kept_of h)
    own =
        filter-filter (is_of_table t.definition.name) (is_of_table t.definition.name) (kept_of h)
        ∙ filter_agree (λ c. is_of_table t.definition.name c && is_of_table t.definition.name c) (is_of_table t.definition.name) (λ c. twice (is_of_table t.definition.name c)) (kept_of h)

    whole : rows (filter (is_of_table name) (kept_of h)) t.definition ≡ rows (kept_of h) t.definition
    whole =
        ap (λ (n : List ℕ). rows (filter (is_of_table n) (kept_of h)) t.definition) (sym (same_is t.definition.name name named))
        ∙ rows_of_table t.definition (filter (is_of_table t.definition.name) (kept_of h)) (kept_of h) own

-- ---- pages

same_keys : (ss : List Stamped) → cells.keys_of ss ≡ keys_of (changes_of ss)
same_keys ss = ap keys_in_order (each ss) where
  each : (ss : List Stamped) → map (λ s. s.change.pk) ss ≡ map (λ c. c.pk) (changes_of ss)
  each [] = refl
  each (s ∷ ss) = ap (λ (ks : List (List ℕ)). s.change.pk ∷ ks) (each ss)

-- a page of cells is one of what is kept
pub kept_page_is : (h : Holding) (table : List ℕ) (after : Option (List ℕ)) (limit : ℕ) (page : Page) (kept : KeptPage) → cells.IsPage h.cells table after limit page
    → kept.kept.items ≡ changes_of page.cells.items → kept.bound ≡ page.bound → IsKeptPage h table after limit kept
kept_page_is h table after limit page kept is same bound =
    let keys : cells.keys_of page.cells.items ≡ keys_of kept.kept.items = same_keys page.cells.items ∙ sym (ap keys_of same) in
    record {
      kept = same ∙ ap changes_of is.cells_are ∙ changes_where (is_between table after page.bound) h.cells ∙ ap (λ b. filter (is_between table after b) (kept_of h)) (sym bound);
      keys = λ b e. subst (λ (ks : List (List ℕ)). limit ≤ length ks) keys (is.keys b (sym bound ∙ e));
    }
