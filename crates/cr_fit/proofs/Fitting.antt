-- A table against which nothing stands as it is created is fit.
use Rattle.std.proofs.Common.{◌≡◌, refl, sym, ap, ◌∙◌, ℕ, zero, suc, ◌+◌, ◌<◌, ◌≤◌, ◌==◌, Bool, true, false, not, ◌||◌, ◌&&◌, nat_lt, nat_le, List, [], ◌∷◌, ◌++◌, length, map, Option, Some, None, if◌then◌else◌, arith, max, min}
use Rattle.std.specs.Prelude.{cond, count_by, sum_by}
use Rattle.std.specs.Option.{option_map, option_map_or, option_or, is_some}
use Rattle.std.specs.List.{list_any, All, AllPairs}
use Rattle.std.specs.Str.{bytes_eq}
use Rattle.std.proofs.lemmas.Bool.Decides.{nat_tests}
use Rattle.std.proofs.lemmas.Map.Text.{is_eq-slice_cmp}
use Rattle.std.proofs.lemmas.List.Kept.{AllPairs-cons}
use Rattle.cr_lattice.specs.declared.table.ColumnDef.{ColumnDef}
use Rattle.cr_lattice.specs.declared.table.Table.{Table}
use Rattle.cr_lattice.specs.declared.table.TableDef.{TableDef}
use Rattle.cr_lattice.specs.Check.{same_bytes, is_key_column, stands_at}
use Rattle.cr_lattice.specs.Profile.{key_count, places_once, has_key, is_collated_key, is_named_row, has_row_cid, is_default_too_long, is_reserved, most_columns, profile_fault}
use Rattle.cr_cells.specs.Tables.{IsFit, is_named, has_folded_names}
use Rattle.cr_tree.specs.declared.statement.Column.{Column}
use Rattle.cr_tree.specs.declared.statement.Create.{Create}
use Rattle.cr_term.specs.declared.query.Held.TheVariants as held
use Rattle.cr_term.specs.declared.query.Relation.{Relation}
use Rattle.cr_questions.specs.Questions.{Name}
use Rattle.cr_resolve.specs.declared.refusal.Refusal.TheVariants.{OutOfProfile, Limit, BadName, TableExists}
use Rattle.cr_resolve.specs.declared.refusal.Outside.TheVariants as outside
use Rattle.cr_resolve.specs.declared.refusal.Limit.TheVariants as limit
use Rattle.cr_resolve.specs.Reading.{when}
use Rattle.cr_resolve.specs.Known.{Known, table_at, module_at, collations}
use Rattle.cr_resolve.specs.Creates.{create, definition, column_def, clauses, out_of_profile, over_limits, against_names, is_taken, is_primary, listed_place, key_place, or_none, repeats, missing, is_real}
use Rattle.cr_fit.specs.Fit.{CreatedAreNew}
use Rattle.cr_fit.proofs.Counting.{count, counts, count_map, count_same, no_sums, one_sum}
use Rattle.cr_fit.proofs.Keys.{when_none, both_none, turned, Fresh, fresh, AreOf, are_of, place, is_listed, is_at, same_suc, listed_count, each_place}

abbrev names_of : Create → List Name
names_of c = map (λ col. col.name) c.columns

abbrev listed : Create → List Name
listed c = or_none c.key

abbrev says_primary : Column → Bool
says_primary col = list_any is_primary col.constraints

-- ---- the key

listed_is : (key : Option (List Name)) (n : Name) → listed_place key n ≡ option_map suc (place (or_none key) n)
listed_is None n = refl
listed_is (Some ns) n = refl

-- without a list, the column that says so
keyed_alone : (key : Option (List Name)) (col : Column) → or_none key ≡ [] → key_place key col ≡ (if says_primary col then Some 1 else None)
keyed_alone key col e = ap (λ (o : Option ℕ). option_or o (if says_primary col then Some 1 else None)) (listed_is key col.name ∙ ap (λ (ns : List Name). option_map suc (place ns col.name)) e)

-- with a list, the listed ones
or_nothing : (o : Option ℕ) → option_or o None ≡ o
or_nothing (Some x) = refl
or_nothing None = refl

keyed_by_list : (key : Option (List Name)) (col : Column) → says_primary col ≡ false → key_place key col ≡ option_map suc (place (or_none key) col.name)
keyed_by_list key col e =
    ap (λ (b : Bool). option_or (listed_place key col.name) (if b then Some 1 else None)) e ∙ or_nothing (listed_place key col.name) ∙ listed_is key col.name

is_some_map : (o : Option ℕ) → is_some (option_map suc o) ≡ is_some o
is_some_map (Some x) = refl
is_some_map None = refl

at_map : (j : ℕ) (o : Option ℕ) → option_map_or (λ p. p == suc j) (option_map suc o) false ≡ is_at j o
at_map j (Some x) = same_suc x j
at_map j None = refl

-- the test of a column, by what the tree of it says
column_count : (c : Create) (p : ColumnDef → Bool) (q : Column → Bool) → ((col : Column) → p (column_def c.key col) ≡ q col) → count_by p (definition c).columns ≡ count q c.columns
column_count c p q e = counts p (definition c).columns ∙ count_map (column_def c.key) p c.columns ∙ count_same (λ col. p (column_def c.key col)) q e c.columns

no_primary : (col : Column) (cols : List Column) → count says_primary (col ∷ cols) ≡ 0 → (says_primary col ≡ false) × (count says_primary cols ≡ 0)
no_primary col cols e = by (says_primary col) refl e
  where
    by : (b : Bool) → says_primary col ≡ b → cond b (suc (count says_primary cols)) (count says_primary cols) ≡ 0 → (says_primary col ≡ false) × (count says_primary cols ≡ 0)
    by true f g = absurd (let z : ⊥ = cc in z)
    by false f g = (f, g)

-- the same where no column says so itself
count_listed : (c : Create) (p : ColumnDef → Bool) (q : Name → Bool) → ((col : Column) → says_primary col ≡ false → p (column_def c.key col) ≡ q col.name) → (cols : List Column) → count says_primary cols ≡ 0
    → count (λ col. p (column_def c.key col)) cols ≡ count q (map (λ col. col.name) cols)
count_listed c p q e [] z = refl
count_listed c p q e (col ∷ cols) z =
    let none = no_primary col cols z in
    ap (λ b. cond b (suc (count (λ col. p (column_def c.key col)) cols)) (count (λ col. p (column_def c.key col)) cols)) (e col none.0)
    ∙ ap (λ n. cond (q col.name) (suc n) n) (count_listed c p q e cols none.1)

by_list : (c : Create) (p : ColumnDef → Bool) (q : Name → Bool) → ((col : Column) → says_primary col ≡ false → p (column_def c.key col) ≡ q col.name) → count says_primary c.columns ≡ 0
    → count_by p (definition c).columns ≡ count q (names_of c)
by_list c p q e z = counts p (definition c).columns ∙ count_map (column_def c.key) p c.columns ∙ count_listed c p q e c.columns z

once_from : (def : TableDef) (m n : ℕ) → n ≤ m → ((j : ℕ) → j < m → count_by (stands_at (suc j)) def.columns ≡ 1) → places_once def n ≡ true
once_from def m zero h e = refl
once_from def m (suc n) h e = rw (e n (omega (arith, h))) (once_from def m n (omega (arith, h)) e)

some_below : (n : ℕ) → nat_lt 0 (suc n) ≡ true
some_below n = grind (arith, nat_tests)

keyed : (def : TableDef) (n : ℕ) → key_count def ≡ suc n → places_once def (suc n) ≡ true → has_key def ≡ true
unfolding has_key
keyed def n e o = ap (λ k. nat_lt 0 k && places_once def k) e ∙ ap (λ b. b && places_once def (suc n)) (some_below n) ∙ o

key_alone : (c : Create) → listed c ≡ [] → count says_primary c.columns ≡ 1 → has_key (definition c) ≡ true
key_alone c e one =
    let some = column_count c is_key_column says_primary (λ col. ap (λ (o : Option ℕ). is_some o) (keyed_alone c.key col e) ∙ some_if (says_primary col)) ∙ one in
    let first = column_count c (stands_at 1) says_primary (λ col. ap (λ (o : Option ℕ). option_map_or (λ p. p == 1) o false) (keyed_alone c.key col e) ∙ at_if (says_primary col)) ∙ one in
    keyed (definition c) 0 some (rw first refl)
  where
    some_if : (b : Bool) → is_some {T = ℕ} (if b then Some 1 else None) ≡ b
    some_if true = refl
    some_if false = refl

    at_if : (b : Bool) → option_map_or {T = ℕ} (λ p. p == 1) (if b then Some 1 else None) false ≡ b
    at_if true = refl
    at_if false = refl

key_listed : (c : Create) (n : Name) (ns : List Name) → listed c ≡ n ∷ ns → count says_primary c.columns ≡ 0 → Fresh (names_of c) → Fresh (listed c) → AreOf (names_of c) (listed c) → has_key (definition c) ≡ true
key_listed c n ns e none f g a =
    let number = by_list c is_key_column (is_listed (listed c)) (λ col z. ap (λ (o : Option ℕ). is_some o) (keyed_by_list c.key col z) ∙ is_some_map (place (listed c) col.name)) none
    ∙ listed_count (names_of c) (listed c) f g a ∙ ap (λ (xs : List Name). length xs) e in
    let places : (j : ℕ) → j < length (listed c) → count_by (stands_at (suc j)) (definition c).columns ≡ 1 = λ j h.
    by_list c (stands_at (suc j)) (λ m. is_at j (place (listed c) m)) (λ col z. ap (λ (o : Option ℕ). option_map_or (λ p. p == suc j) o false) (keyed_by_list c.key col z) ∙ at_map j (place (listed c) col.name)) none
    ∙ each_place (names_of c) (listed c) f g a j h in
    keyed (definition c) (length ns) number (once_from (definition c) (length (listed c)) (suc (length ns)) (omega (arith, ap (λ (xs : List Name). length xs) e)) places)

one_at_most : (n : ℕ) → min 1 (suc n) ≡ 1
one_at_most n = omega arith

key_there : (c : Create) (ns : List Name) → listed c ≡ ns → clauses c ≡ 1 → Fresh (names_of c) → Fresh (listed c) → AreOf (names_of c) (listed c) → has_key (definition c) ≡ true
key_there c [] e one f g a =
    let written : sum_by (λ col. count_by is_primary col.constraints) c.columns + min 1 (length (listed c)) ≡ 1 = one in
    let none : min 1 (length (listed c)) ≡ 0 = ap (λ (xs : List Name). min 1 (length xs)) e in
    key_alone c e (one_sum (λ (col : Column). col.constraints) is_primary c.columns (omega (arith, written, none)))
key_there c (n ∷ ns) e one f g a =
    let written : sum_by (λ col. count_by is_primary col.constraints) c.columns + min 1 (length (listed c)) ≡ 1 = one in
    let some : min 1 (length (listed c)) ≡ 1 = ap (λ (xs : List Name). min 1 (length xs)) e ∙ one_at_most (length ns) in
    key_listed c n ns e (no_sums (λ (col : Column). col.constraints) is_primary c.columns (omega (arith, written, some))) f g a

-- ---- names

pub same_name : (m n : Name) → bytes_eq m n ≡ same_bytes m n
same_name m n = sym (is_eq-slice_cmp m n)

left_not : (b c : Bool) → (b || c) ≡ false → (b ≡ false) × (c ≡ false)
left_not true c g = absurd (let z : ⊥ = cc in z)
left_not false c g = (refl, g)

apart_at : (key : Option (List Name)) (name : Name) (x : Column) (xs : List ColumnDef) → bytes_eq name x.name ≡ false → All (λ (b : ColumnDef). same_bytes name b.name ≡ false) xs
    → All (λ (b : ColumnDef). same_bytes name b.name ≡ false) (column_def key x ∷ xs)
apart_at key name x xs e more zero d h = sym (same_name name x.name) ∙ e
apart_at key name x xs e more (suc i) d h = more i d (omega (arith, h))

all_apart : (key : Option (List Name)) (name : Name) (cols : List Column) → list_any (bytes_eq name) (map (λ x. x.name) cols) ≡ false
    → All (λ (b : ColumnDef). same_bytes name b.name ≡ false) (map (column_def key) cols)
all_apart key name [] e = λ i d h. absurd (omega (arith, h))
all_apart key name (x ∷ xs) e =
    let parts = left_not (bytes_eq name x.name) (list_any (bytes_eq name) (map (λ x. x.name) xs)) e in
    apart_at key name x (map (column_def key) xs) parts.0 (all_apart key name xs parts.1)

distinct : (key : Option (List Name)) (cols : List Column) → Fresh (map (λ col. col.name) cols) → AllPairs (λ a b. same_bytes a.name b.name ≡ false) (map (column_def key) cols)
distinct key [] f = λ i j d h k. absurd (omega (arith, k))
distinct key (col ∷ cols) f =
    AllPairs-cons (λ (a b : ColumnDef). same_bytes a.name b.name ≡ false) (column_def key col) (map (column_def key) cols) (all_apart key col.name cols f.0) (distinct key cols f.1)

-- ---- the profile

fits_within : (n m : ℕ) → nat_lt m n ≡ false → nat_le n m ≡ true
fits_within n m h = grind (arith, nat_tests)

first_of_two : (a b m : ℕ) → nat_lt m (max a b) ≡ false → nat_le a m ≡ true
first_of_two a b m h = grind (arith, nat_tests)

pub in_profile : (def : TableDef) → has_key def ≡ true → list_any is_collated_key def.columns ≡ false → list_any is_named_row def.columns ≡ false → list_any is_default_too_long def.columns ≡ false
    → nat_le (length def.columns) most_columns ≡ true → nat_le (key_count def) 8 ≡ true → is_reserved def.name ≡ false → profile_fault def ≡ None
unfolding profile_fault has_row_cid
in_profile def key collated row default columns keys name = rw key (rw collated (rw row (rw default (rw columns (rw keys (rw name refl))))))

-- ---- no table has its name

there_by : (b c : Bool) (o p : Option Relation) → b ≡ c → is_some o ≡ true → is_some (if b then o else p) ≡ false → (c ≡ false) × (is_some p ≡ false)
there_by true true o p e some f = absurd (let z : true ≡ false = sym some ∙ f in let y : ⊥ = cc in y)
there_by false false o p e some f = (refl, f)
there_by true false o p e some f = absurd (let z : ⊥ = cc in z)
there_by false true o p e some f = absurd (let z : ⊥ = cc in z)

not_there : (name : Name) (at : ℕ) (ts : List Table) → is_some (table_at name at ts) ≡ false → list_any (is_named name) ts ≡ false
not_there name at [] e = refl
not_there name at (t ∷ ts) e =
    let parts = there_by (bytes_eq name t.definition.name) (is_named name t) (Some (record { held = held.Table at t.is_replicated; definition = t.definition })) (table_at name (suc at) ts)
    (turned name t.definition.name ∙ same_name t.definition.name name) refl e in
    ap (λ b. b || list_any (is_named name) ts) parts.0 ∙ not_there name (suc at) ts parts.1

first_none : (o p : Option Relation) → is_some (option_or o p) ≡ false → is_some o ≡ false
first_none None p e = refl
first_none (Some x) p e = e

is_unused : (known : Known) (c : Create) → is_taken known c ≡ false → list_any (is_named c.table) known.catalog.tables ≡ false
is_unused known c e = not_there c.table 0 known.catalog.tables (first_none (table_at c.table 0 known.catalog.tables) (module_at c.table 0 known.catalog.modules) e)

-- ---- the whole

is_one : (n : ℕ) → not (n == 1) ≡ false → n ≡ 1
is_one n e = grind (arith, nat_tests)

fit : (known : Known) (c : Create) → has_folded_names (definition c) ≡ true → (create known c).bad ≡ [] → IsFit (definition c)
fit known c folded e =
    let def : TableDef = definition c in
    let one = both_none (out_of_profile c def ++ over_limits c def) (against_names known c def) e in
    let two = both_none (out_of_profile c def) (over_limits c def) one.0 in
    let defaults = both_none _ (when (list_any is_default_too_long def.columns) (OutOfProfile outside.Default)) two.0 in
    let rows = both_none _ (when (list_any is_named_row def.columns) (OutOfProfile outside.RowCid)) defaults.0 in
    let collated = both_none _ (when (list_any is_collated_key def.columns) (OutOfProfile outside.Collate)) rows.0 in
    let primary = both_none (when (list_any is_real c.columns) (OutOfProfile outside.Real)) (when (not (clauses c == 1)) (OutOfProfile outside.PrimaryKey)) collated.0 in
    let limits = both_none (when (nat_lt most_columns (length def.columns)) (Limit limit.Columns)) (when (nat_lt 8 (max (count_by is_key_column def.columns) (length (or_none c.key)))) (Limit limit.KeyColumns)) two.1 in
    let collations_known = both_none _ (collations known (map (λ col. col.collation) def.columns)) one.1 in
    let listed_once = both_none _ (repeats [] (or_none c.key)) collations_known.0 in
    let listed_there = both_none _ (missing (names_of c) (or_none c.key)) listed_once.0 in
    let named_once = both_none _ (repeats [] (names_of c)) listed_there.0 in
    let new = both_none (when (is_reserved c.table) (BadName c.table)) (when (is_taken known c && not c.if_not_exists) (TableExists c.table)) named_once.0 in
    let names : Fresh (names_of c) = fresh (names_of c) named_once.1 in
    let key = key_there c (listed c) refl (is_one (clauses c) (when_none (not (clauses c == 1)) (OutOfProfile outside.PrimaryKey) primary.1)) names (fresh (listed c) listed_once.1) (are_of (names_of c) (listed c) listed_there.1) in
    record {
      folded = folded;
      profile = in_profile def key (when_none (list_any is_collated_key def.columns) (OutOfProfile outside.Collate) collated.1) (when_none (list_any is_named_row def.columns) (OutOfProfile outside.RowCid) rows.1)
          (when_none (list_any is_default_too_long def.columns) (OutOfProfile outside.Default) defaults.1)
          (fits_within (length def.columns) most_columns (when_none (nat_lt most_columns (length def.columns)) (Limit limit.Columns) limits.0))
          (first_of_two (key_count def) (length (or_none c.key)) 8 (when_none (nat_lt 8 (max (count_by is_key_column def.columns) (length (or_none c.key)))) (Limit limit.KeyColumns) limits.1))
          (when_none (is_reserved c.table) (BadName c.table) new.0);
      names = distinct c.key c.columns names;
    }

pub created_are_new : CreatedAreNew
created_are_new known c folded e free = record { fit = fit known c folded e; unused = is_unused known c free }
