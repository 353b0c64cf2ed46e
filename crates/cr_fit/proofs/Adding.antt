-- A column against which nothing stands as it is added fits in its table.
use Rattle.std.proofs.Common.{◌≡◌, inl, inr, refl, sym, ap, subst, ◌∙◌, ℕ, zero, suc, ◌+◌, ◌<◌, ◌==◌, Bool, true, false, not, ◌||◌, ◌&&◌, nat_lt, nat_le, List, [], ◌∷◌, ◌++◌, length, map, find, get_or, codes, Option, Some, None, if◌then◌else◌, arith}
use Rattle.std.specs.Prelude.{cond, count_by, position}
use Rattle.std.specs.Option.{option_map, is_some}
use Rattle.std.specs.List.{list_any, AllByRecursion, IsDistinct}
use Rattle.std.specs.Str.{bytes_eq}
use Rattle.std.proofs.lemmas.Bool.Decides.{nat_tests}
use Rattle.std.proofs.lemmas.List.{length-append}
use Rattle.std.proofs.lemmas.List.Folds.{list_all-append}
use Rattle.std.proofs.lemmas.List.Quantifiers.{all_pairs_push}
use Rattle.cr_lattice.specs.declared.table.ColumnDef.{ColumnDef}
use Rattle.cr_lattice.specs.declared.table.Table.{Table}
use Rattle.cr_lattice.specs.declared.table.TableDef.{TableDef}
use Rattle.cr_lattice.specs.Check.{same_bytes, is_key_column, stands_at}
use Rattle.cr_lattice.specs.Profile.{key_count, places_once, has_key, is_collated_key, is_named_row, has_row_cid, is_default_too_long, most_columns, profile_fault, rules_of, lacks_default, HasDistinctNames}
use Rattle.cr_lattice.specs.Faults.{first_failed}
use Rattle.cr_lattice.proofs.Tested.{or_false}
use Rattle.cr_cells.specs.Tables.{IsStored, IsNewColumn, is_named, same_name as same_table, is_folded, has_folded_names, has_defaults, with_column, altered, with_added}
use Rattle.cr_cells.proofs.ColumnLemmas.{any_without, count_without, no_place, no_key}
use Rattle.cr_cells.proofs.MemberLemmas.{split, Among, all_at, find_gives, apart_one}
use Rattle.cr_cells.proofs.TableLemmas.{one_named, same_name-equiv}
use Rattle.cr_tree.specs.declared.statement.Alter.{Alter as AlterTree}
use Rattle.cr_questions.specs.Questions.{Name}
use Rattle.cr_resolve.specs.declared.refusal.Refusal.TheVariants.{OutOfProfile, Limit, AmbiguousColumn}
use Rattle.cr_resolve.specs.declared.refusal.Outside.TheVariants as outside
use Rattle.cr_resolve.specs.declared.refusal.Limit.TheVariants as limit
use Rattle.cr_resolve.specs.Reading.{when}
use Rattle.cr_resolve.specs.Known.{Known, table, collation}
use Rattle.cr_resolve.specs.Creates.{alter, column_def, is_primary, is_real, added_out_of_profile, against_column, has_column}
use Rattle.cr_fit.specs.Folded.{IsFoldedColumn}
use Rattle.cr_fit.specs.Suited.{FitsIn}
use Rattle.cr_fit.proofs.Counting.{place_cons}
use Rattle.cr_fit.proofs.Fitting.{same_name, in_profile}
use Rattle.cr_fit.proofs.Keys.{when_none, both_none, turned}

-- ---- the key

key_same : (def : TableDef) (col : ColumnDef) → col.key ≡ None → key_count (with_column col def) ≡ key_count def
key_same def col out = count_without is_key_column def.columns col (no_key col out)

places_same : (def : TableDef) (col : ColumnDef) → col.key ≡ None → (n : ℕ) → places_once (with_column col def) n ≡ places_once def n
places_same def col out zero = refl
places_same def col out (suc n) =
    ap (λ k. (k == 1) && places_once (with_column col def) n) (count_without (stands_at (suc n)) def.columns col (no_place (suc n) col out))
    ∙ ap (λ b. (count_by (stands_at (suc n)) def.columns == 1) && b) (places_same def col out n)

still_keyed : (def : TableDef) (col : ColumnDef) → col.key ≡ None → has_key def ≡ true → has_key (with_column col def) ≡ true
unfolding has_key
still_keyed def col out e =
    ap (λ n. nat_lt 0 n && places_once (with_column col def) n) (key_same def col out) ∙ ap (λ b. nat_lt 0 (key_count def) && b) (places_same def col out (key_count def)) ∙ e

-- ---- the profile

abbrev AllTrue : {F : Type 0} → List (Bool × F) → Type 0
AllTrue ts = AllByRecursion (λ t. t.0 ≡ true) ts

all_passed : {F : Type 0} (ts : List (Bool × F)) → first_failed ts ≡ None → AllTrue ts
all_passed [] e = tt
all_passed ((true, f) ∷ ts) e = (refl, all_passed ts e)
all_passed ((false, f) ∷ ts) e = absurd cc

not_so : (b : Bool) → not b ≡ true → b ≡ false
not_so true e = absurd (let z : ⊥ = cc in z)
not_so false e = refl

one_more : (m : ℕ) → nat_lt m most_columns ≡ true → nat_le (m + 1) most_columns ≡ true
one_more m h = grind (arith, nat_tests)

still_profiled : (def : TableDef) (col : ColumnDef) → col.key ≡ None → is_named_row col ≡ false → is_default_too_long col ≡ false → nat_lt (length def.columns) most_columns ≡ true → profile_fault def ≡ None
    → profile_fault (with_column col def) ≡ None
unfolding profile_fault has_row_cid
still_profiled def col out row long few e =
    let p = all_passed (rules_of def) e in
    let count : length (def.columns ++ col ∷ []) ≡ length def.columns + 1 = length-append def.columns (col ∷ []) in
    in_profile (with_column col def) (still_keyed def col out p.0)
    (any_without is_collated_key def.columns col (ap (λ b. b && not (same_bytes col.collation (codes "binary"))) (no_key col out)) ∙ not_so _ p.1.0)
    (any_without is_named_row def.columns col row ∙ not_so _ p.1.1.0)
    (any_without is_default_too_long def.columns col long ∙ not_so _ p.1.1.1.0)
    (ap (λ n. nat_le n most_columns) count ∙ one_more (length def.columns) few)
    (ap (λ n. nat_le n 8) (key_same def col out) ∙ p.1.1.1.1.1.0)
    (not_so _ p.1.1.1.1.1.1.0)

-- ---- names

none_at : {X : Type 0} (p : X → Bool) (xs : List X) (k : ℕ) (d : X) → list_any p xs ≡ false → k < length xs → p (get_or xs k d) ≡ false
none_at p [] k d e lt = absurd (omega (arith, lt))
none_at p (x ∷ xs) zero d e lt = (or_false (p x) (list_any p xs) e).0
none_at p (x ∷ xs) (suc k) d e lt = none_at p xs k d (or_false (p x) (list_any p xs) e).1 (omega (arith, lt))

apart : (name : Name) (c : ColumnDef) → bytes_eq name c.name ≡ false → same_bytes c.name name ≡ false
apart name c e = sym (same_name c.name name) ∙ turned c.name name ∙ e

still_distinct : (def : TableDef) (col : ColumnDef) → has_column def col.name ≡ false → HasDistinctNames def → HasDistinctNames (with_column col def)
still_distinct def col e names =
    all_pairs_push (λ (a b : ColumnDef). same_bytes a.name b.name ≡ false) def.columns col names
    (λ k d lt. apart col.name (get_or def.columns k d) (none_at (λ c. bytes_eq col.name c.name) def.columns k d e lt))

both_true : (a b : Bool) → (a && b) ≡ true → (a ≡ true) × (b ≡ true)
both_true true b e = (refl, e)
both_true false b e = absurd (let z : ⊥ = cc in z)

still_folded : (def : TableDef) (col : ColumnDef) → IsFoldedColumn col → has_folded_names def ≡ true → has_folded_names (with_column col def) ≡ true
unfolding has_folded_names
still_folded def col folded e =
    let p = both_true (is_folded def.name) _ e in
    let columns = list_all-append (λ (c : ColumnDef). is_folded c.name && is_folded c.collation) def.columns (col ∷ []) in
    rw (p.0, columns, p.1, folded) refl

-- ---- a column against which nothing stands

pub fits_in : (known : Known) (a : AlterTree) → IsFoldedColumn (column_def None a.column) → (alter known a).bad ≡ [] → FitsIn (table known a.table).made.definition (column_def None a.column)
fits_in known a folded e =
    let col : ColumnDef = column_def None a.column in
    let def : TableDef = (table known a.table).made.definition in
    let whole = both_none (added_out_of_profile a.column col ++ (table known a.table).bad) (against_column known def col) e in
    let outside_profile = (both_none (added_out_of_profile a.column col) (table known a.table).bad whole.0).0 in
    let defaults = both_none _ (when (is_default_too_long col) (OutOfProfile outside.Default)) outside_profile in
    let rows = both_none _ (when (is_named_row col) (OutOfProfile outside.RowCid)) defaults.0 in
    let primary = both_none (when (is_real a.column) (OutOfProfile outside.Real)) (when (list_any is_primary a.column.constraints) (OutOfProfile outside.PrimaryKey)) rows.0 in
    let columns = both_none _ (when (not (nat_lt (length def.columns) most_columns)) (Limit limit.Columns)) whole.1 in
    let named = both_none (when (has_column def col.name) (AmbiguousColumn col.name)) (collation known col.collation) columns.0 in
    let no_primary : list_any is_primary a.column.constraints ≡ false = when_none _ (OutOfProfile outside.PrimaryKey) primary.1 in
    let out : col.key ≡ None = ap (λ (b : Bool). if b then Some 1 else None) no_primary in (
      out,
      λ fit. record {
        folded = still_folded def col folded fit.folded;
        profile = still_profiled def col out (when_none (is_named_row col) (OutOfProfile outside.RowCid) rows.1) (when_none (is_default_too_long col) (OutOfProfile outside.Default) defaults.1)
            (few (nat_lt (length def.columns) most_columns) (when_none _ (Limit limit.Columns) columns.1)) fit.profile;
        names = still_distinct def col (when_none (has_column def col.name) (AmbiguousColumn col.name) named.0) fit.names;
      },
    )
  where
    few : (b : Bool) → not b ≡ false → b ≡ true
    few true e = refl
    few false e = absurd (let z : ⊥ = cc in z)

-- ---- as a store takes it

some_map : (o : Option ℕ) → is_some (option_map suc o) ≡ is_some o
some_map (Some x) = refl
some_map None = refl

position_is : {X : Type 0} (p : X → Bool) (xs : List X) → is_some (position p xs) ≡ list_any p xs
position_is p [] = refl
position_is p (x ∷ xs) = ap (λ (o : Option ℕ). is_some o) (place_cons p x xs) ∙ by (p x) (position_is p xs)
  where
    by : (b : Bool) → is_some (position p xs) ≡ list_any p xs → is_some (if b then Some 0 else option_map suc (position p xs)) ≡ (b || list_any p xs)
    by true rest = refl
    by false rest = some_map (position p xs) ∙ rest

defaults_same : (def : TableDef) (col : ColumnDef) → lacks_default col ≡ false → has_defaults (with_column col def) ≡ has_defaults def
unfolding has_defaults
defaults_same def col e = ap not (position_is lacks_default (def.columns ++ col ∷ []) ∙ any_without lacks_default def.columns col e ∙ sym (position_is lacks_default def.columns))

module _ (ts : List Table) (def : TableDef) (b : Bool) (col : ColumnDef) where
  all_altered : (us : List Table) → ((t : Table) → Among us t → IsStored (altered def.name col t)) → AllByRecursion IsStored (map (altered def.name col) us)
  all_altered [] f = tt
  all_altered (u ∷ us) f = (f u (inl refl), all_altered us (λ t m. f t (inr m)))

  -- a column that fits in a table, and has a default where it wants a value, is one that a store takes
  pub new_column : IsDistinct same_table ts → AllByRecursion IsStored ts → find (is_named def.name) ts ≡ Some (record { definition = def; is_replicated = b }) → FitsIn def col → lacks_default col ≡ false
      → IsNewColumn ts def.name col
  unfolding with_added
  new_column distinct stored found fits default =
      let this : Table = record { definition = def; is_replicated = b } in
      let given = find_gives (is_named def.name) ts this found in
      let kept : IsStored this = all_at IsStored ts this stored given.0 in
      let wider : IsStored (record { definition = with_column col def; is_replicated = b }) = record {
        fit = fits.1 kept.fit;
        defaults = ap (λ d. not b || d) (defaults_same def col default) ∙ kept.defaults;
      } in
      record {
        outside = fits.0;
        stored = all_altered ts (λ t m. elim (split (is_named def.name t)) [
          | inl so ↦ (
              let one : t ≡ this = apart_one same_table same_name-equiv.symm ts t this distinct m given.0 (one_named def.name t this so given.1) in
              let is : altered def.name col t ≡ record { definition = with_column col def; is_replicated = b } =
              ap (λ c. cond c (record t { definition = with_column col t.definition }) t) so ∙ ap (λ (u : Table). record u { definition = with_column col u.definition }) one in
              subst IsStored (sym is) wider)
          | inr not_it ↦ (
              let is : altered def.name col t ≡ t = ap (λ c. cond c (record t { definition = with_column col t.definition }) t) not_it in
              subst IsStored (sym is) (all_at IsStored ts t stored m))
        ]);
      }
