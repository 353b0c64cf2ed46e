-- The rows of a table rest on its own changes alone.
use Rattle.std.proofs.Common.{◌≡◌, ℕ, Bool, true, ◌&&◌, List, map, refl, sym, ap, ◌∙◌}
use Rattle.std.specs.Prelude.{filter}
use Rattle.std.proofs.lemmas.List.Kept.{IsStrictlySortedBy-filter}
use Rattle.cr_lattice.specs.declared.change.Change.{Change}
use Rattle.cr_lattice.specs.declared.table.TableDef.{TableDef}
use Rattle.cr_lattice.specs.Change.{change_cmp, beats}
use Rattle.cr_lattice.specs.ChangeOrder.{change_total, change_exact, row_exact}
use Rattle.cr_lattice.specs.Check.{same_bytes, is_odd}
use Rattle.cr_lattice.specs.Keep.{has, keep}
use Rattle.cr_lattice.specs.Rows.{is_of_row, keys_in_order, alive_keys, row, rows}
use Rattle.cr_lattice.proofs.ChangeLaws.{Beats-beats}
use Rattle.cr_lattice.proofs.Filters.{filter-filter}
use Rattle.cr_lattice.proofs.KeepLaws.{In, kept_from, kept_to, same_lists, sorted-keep}
use Rattle.cr_lattice.proofs.KeyLemmas.{of_table, row_of_table, rows-same_by_row}
use Rattle.cr_lattice.proofs.SortedSets.{has-filter}
use Rattle.cr_lattice.proofs.Tested.{and_true, both_ways}

-- the sets have the same changes of the table
abbrev AgreeOn : List ℕ → List Change → List Change → Type 0
AgreeOn table xs ys = (c : Change) → of_table table c ≡ true → has xs c ≡ has ys c

back : (table : List ℕ) (xs ys : List Change) → AgreeOn table xs ys → AgreeOn table ys xs
back table xs ys agree = λ c of. sym (agree c of)

-- what beats a change of the table is of the table
kept_there : (table : List ℕ) (xs ys : List Change) → AgreeOn table xs ys → (c : Change) → of_table table c ≡ true → In (keep xs) c → In (keep ys) c
kept_there table xs ys agree c of e =
    let k = kept_from xs c e in
    kept_to ys c (record {
      member = sym (agree c of) ∙ k.member;
      unbeaten = λ d in_d b. k.unbeaten d (agree d (ap (λ t. same_bytes t table) (row_exact d c (Beats-beats d c b).row).0 ∙ of) ∙ in_d) b;
    })

has_of_table : (table : List ℕ) (cs : List Change) (c : Change) → has (filter (of_table table) cs) c ≡ (has cs c && of_table table c)
unfolding has
has_of_table table cs c = has-filter change_total change_exact (of_table table) cs c

kept_of_table_there : (table : List ℕ) (xs ys : List Change) → AgreeOn table xs ys → (c : Change)
    → In (filter (of_table table) (keep xs)) c → In (filter (of_table table) (keep ys)) c
kept_of_table_there table xs ys agree c e =
    let p = and_true _ _ (sym (has_of_table table (keep xs) c) ∙ e) in
    has_of_table table (keep ys) c ∙ rw (kept_there table xs ys agree c p.1 p.0, p.1) refl

kept_of_table : (table : List ℕ) (xs ys : List Change) → AgreeOn table xs ys → filter (of_table table) (keep xs) ≡ filter (of_table table) (keep ys)
kept_of_table table xs ys agree =
    same_lists _ _
    (IsStrictlySortedBy-filter change_cmp (of_table table) (keep xs) (sorted-keep xs))
    (IsStrictlySortedBy-filter change_cmp (of_table table) (keep ys) (sorted-keep ys))
    (λ c. both_ways _ _ (kept_of_table_there table xs ys agree c) (kept_of_table_there table ys xs (back table xs ys agree) c))

alive_keys_of_table : (table : List ℕ) (ks ls : List Change) → filter (of_table table) ks ≡ filter (of_table table) ls → alive_keys ks table ≡ alive_keys ls table
unfolding alive_keys
alive_keys_of_table table ks ls same =
    let odd : Change → Bool = λ c. is_odd c.cl in
    ap (λ cs. keys_in_order (map (λ c. c.pk) cs))
    (sym (filter-filter odd (of_table table) ks) ∙ ap (filter odd) same ∙ filter-filter odd (of_table table) ls)

pub rows_of_table : (def : TableDef) (ks ls : List Change) → filter (of_table def.name) ks ≡ filter (of_table def.name) ls → rows ks def ≡ rows ls def
unfolding rows
rows_of_table def ks ls same =
    ap (map (row ks def)) (alive_keys_of_table def.name ks ls same)
    ∙ rows-same_by_row ks ls def (λ pk. sym (row_of_table def.name pk ks) ∙ ap (filter (is_of_row def.name pk)) same ∙ row_of_table def.name pk ls)

-- of sets with the same changes of the table
pub rows_agree : (def : TableDef) (xs ys : List Change) → AgreeOn def.name xs ys → rows (keep xs) def ≡ rows (keep ys) def
rows_agree def xs ys agree = rows_of_table def (keep xs) (keep ys) (kept_of_table def.name xs ys agree)
