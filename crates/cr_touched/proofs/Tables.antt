-- The changes of some tables show the rows of these tables.
use Rattle.std.proofs.Common.{◌≡◌, inl, inr, ℕ, Bool, true, false, ◌&&◌, map, List, [], ◌∷◌, ◌++◌, refl, sym, ap, ◌∙◌, true≢false}
use Rattle.std.specs.Prelude.{filter}
use Rattle.std.specs.List.{flat_map, AllByRecursion}
use Rattle.std.specs.List.Sorted.{IsStrictlySortedBy}
use Rattle.std.proofs.lemmas.List.Kept.{IsStrictlySortedBy-filter}
use Rattle.cr_lattice.specs.declared.change.Change.{Change}
use Rattle.cr_lattice.specs.declared.table.TableDef.{TableDef}
use Rattle.cr_lattice.specs.Change.{change_cmp}
use Rattle.cr_lattice.specs.ChangeOrder.{change_total, change_exact, row_exact}
use Rattle.cr_lattice.specs.Check.{same_bytes}
use Rattle.cr_lattice.specs.Keep.{has, keep}
use Rattle.cr_lattice.specs.Rows.{is_alive, alive_keys, row, rows}
use Rattle.cr_lattice.proofs.Tested.{and_true, and_false, split}
use Rattle.cr_lattice.proofs.ChangeLaws.{Beats-beats}
use Rattle.cr_lattice.proofs.SortedSets.{has-filter}
use Rattle.cr_lattice.proofs.KeepLaws.{In, keep_same, kept_from, kept_to, sorted-keep, keep_is}
use Rattle.cr_lattice.proofs.Filters.{filter-filter}
use Rattle.cr_cells.specs.Holding.{is_of_table}
use Rattle.cr_delta.specs.Delta.{delta}
use Rattle.cr_delta.specs.Key.{key_of}
use Rattle.cr_delta.proofs.Among.{Among-filter, filter_member, Among-flat_map, flat_map_member, any_member, member_of_any, In_Among, Among_In}
use Rattle.cr_delta.proofs.Members.{same_is}
use Rattle.cr_query.specs.Query.{Row}
use Rattle.cr_touched.specs.Parts.{is_at, part}
use Rattle.cr_touched.specs.Tables.{is_name_of, is_of_one, of_tables, TablesAreKept, TablesAreJoined, EachMakesThem, TheyShowTheirRows, TheyLeadAlike}
use Rattle.cr_touched.specs.Touched.{IsShownOutside}
use Rattle.cr_touched.proofs.Parts.{filter-append, rows_part}
use Rattle.cr_touched.proofs.Touches.{delta_of_touched, filter_members}

-- ---- a part of all keys

abbrev every : List ℕ → Bool
every pk = true

filter_every : {X : Type 0} (xs : List X) → filter (λ x. true) xs ≡ xs
filter_every [] = refl
filter_every (x ∷ xs) = ap (λ l. x ∷ l) (filter_every xs)

-- the changes of a table show its rows
rows_of_it : (def : TableDef) (kept : List Change) → rows (part def.name every kept) def ≡ rows kept def
unfolding rows
rows_of_it def kept = rows_part def every kept ∙ ap (map (row kept def)) (filter_every (alive_keys kept def.name))

-- nothing is outside of it
none_outside : (def : TableDef) (kept : List Change) (wanted : List Row) → IsShownOutside kept def wanted every
none_outside def kept wanted = record {
  shown = each wanted;
  all = λ pk e. absurd (true≢false e);
} where
  each : (rs : List Row) → AllByRecursion (λ r. every (key_of def r) ≡ false → (is_alive kept def.name (key_of def r) ≡ true) × (row kept def (key_of def r) ≡ r)) rs
  each [] = tt
  each (r ∷ rs) = (λ e. absurd (true≢false e), each rs)

-- they tell the changes that lead to its rows
changes_of_it : (def : TableDef) (site : List ℕ) (s : List Change) (wanted : List Row) → delta def site (keep s) wanted ≡ delta def site (part def.name every (keep s)) wanted
unfolding delta
changes_of_it def site s wanted =
    delta_of_touched def site s wanted every (none_outside def (keep s) wanted)
    ∙ ap (delta def site (part def.name every (keep s))) (filter_every wanted)

module _ (names : List (List ℕ)) where
  -- ---- what they keep

  of_them : (cs : List Change) (c : Change) → In (of_tables names cs) c → In cs c × (is_of_one names c ≡ true)
  unfolding of_tables has
  of_them cs c e = and_true _ _ (sym (has-filter change_total change_exact (is_of_one names) cs c) ∙ e)

  to_them : (cs : List Change) (c : Change) → In cs c → is_of_one names c ≡ true → In (of_tables names cs) c
  unfolding of_tables has
  to_them cs c i e = has-filter change_total change_exact (is_of_one names) cs c ∙ rw (i, e) refl

  sorted_them : (cs : List Change) → IsStrictlySortedBy change_cmp cs → IsStrictlySortedBy change_cmp (of_tables names cs)
  unfolding of_tables
  sorted_them cs s = IsStrictlySortedBy-filter change_cmp (is_of_one names) cs s

  keep_them : (s : List Change) → of_tables names (keep s) ≡ keep (of_tables names s)
  keep_them s =
      keep_is (of_tables names s) (of_tables names (keep s)) (sorted_them (keep s) (sorted-keep s))
      (λ c i. (
      let a = of_them (keep s) c i in
      let k = kept_from s c a.0 in
      record { member = to_them s c k.member a.1; unbeaten = λ d in_them b. k.unbeaten d (of_them s d in_them).0 b }))
      (λ c k. (
      let a = of_them s c k.member in
      to_them (keep s) c
      (kept_to s c (record {
        member = a.0;
        unbeaten = λ d in_s b. (
            let r = row_exact d c (Beats-beats d c b).row in
            k.unbeaten d (to_them s d in_s (ap (is_name_of names) r.0 ∙ a.1)) b);
      })) a.1))

  them-append : (xs ys : List Change) → of_tables names (xs ++ ys) ≡ of_tables names xs ++ of_tables names ys
  unfolding of_tables
  them-append xs ys = filter-append (is_of_one names) xs ys

  -- ---- each of them

  module _ (s : List Change) where
    abbrev each_of : List Change
    each_of = flat_map (λ name. filter (is_of_table name) s) names

    of_each : (c : Change) → In each_of c → In (of_tables names s) c
    of_each c i =
        let k = Among-flat_map (λ name. filter (is_of_table name) s) names c (Among_In each_of c i) in
        let f = Among-filter (is_of_table k.0) s c k.2 in
        to_them s c (In_Among s c f.0) (any_member (same_bytes c.table) names k.0 k.1 f.1)

    to_each : (c : Change) → In (of_tables names s) c → In each_of c
    to_each c i =
        let f = of_them s c i in
        let k = member_of_any (same_bytes c.table) names f.1 in
        In_Among each_of c
        (flat_map_member (λ name. filter (is_of_table name) s) names k.0 c k.1
        (filter_member (is_of_table k.0) s c (Among_In s c f.0) k.2))

  -- ---- one of them

  module _ (def : TableDef) (there : is_name_of names def.name ≡ true) where
    -- its changes are all of its changes
    its_own : (cs : List Change) → part def.name every (of_tables names cs) ≡ part def.name every cs
    unfolding part of_tables
    its_own cs =
        filter-filter (is_at def.name every) (is_of_one names) cs
        ∙ filter_members _ _ cs (λ c m.
        elim (split (same_bytes c.table def.name)) [
          | inl h ↦ ap (λ b. b && is_at def.name every c) (ap (is_name_of names) (same_is c.table def.name h) ∙ there)
          | inr h ↦ ap (λ b. is_of_one names c && (b && true)) h ∙ and_false (is_of_one names c) ∙ sym (ap (λ b. b && true) h)
        ])

    same_rows : (kept : List Change) → rows (of_tables names kept) def ≡ rows kept def
    same_rows kept =
        sym (rows_of_it def (of_tables names kept)) ∙ ap (λ (k : List Change). rows k def) (its_own kept) ∙ rows_of_it def kept

    same_changes : (site : List ℕ) (s : List Change) (wanted : List Row) → delta def site (of_tables names (keep s)) wanted ≡ delta def site (keep s) wanted
    same_changes site s wanted =
        ap (λ (k : List Change). delta def site k wanted) (keep_them s)
        ∙ changes_of_it def site (of_tables names s) wanted
        ∙ ap (λ (k : List Change). delta def site (part def.name every k) wanted) (sym (keep_them s))
        ∙ ap (λ (k : List Change). delta def site k wanted) (its_own (keep s))
        ∙ sym (changes_of_it def site s wanted)

pub tables_are_kept : TablesAreKept
tables_are_kept names s = sym (keep_them names s)

pub tables_are_joined : TablesAreJoined
tables_are_joined names xs ys = ap keep (sym (them-append names xs ys)) ∙ sym (keep_them names (xs ++ ys))

pub each_makes_them : EachMakesThem
each_makes_them names s = keep_same (each_of names s) (of_tables names s) (of_each names s) (to_each names s) ∙ sym (keep_them names s)

pub they_show_their_rows : TheyShowTheirRows
they_show_their_rows names def kept there = same_rows names def there kept

pub they_lead_alike : TheyLeadAlike
they_lead_alike names def site s wanted there = same_changes names def there site s wanted
