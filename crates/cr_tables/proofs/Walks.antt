-- The rows of changes that stand by their keys, one key after another.
use Rattle.std.proofs.Common.{◌≡◌, ◌⊎◌, inl, inr, ℕ, zero, suc, ◌+◌, ◌<◌, ◌≤◌, Bool, true, false, cond, ◌||◌, List, [], ◌∷◌, ◌++◌, length, take, drop, map, filter, refl, sym, ap, subst, ◌∙◌, Ordering, Less, Equal, Greater, arith}
use Rattle.std.specs.Prelude.{Option, Some, None, option_map, unwrap_or, slice_get, slice_index_or}
use Rattle.std.specs.Bool.{◌==◌}
use Rattle.std.proofs.Common.{true≢false}
use Rattle.std.proofs.lemmas.Bool.{eqb-true, false_from_ne_true}
use Rattle.std.proofs.lemmas.List.{append_cancel_left, length-map}
use Rattle.std.proofs.lemmas.Option.{slice_get-map}
use Rattle.std.specs.List.{AllByRecursion}
use Rattle.std.specs.List.Sorted.{IsSortedBy}
use Rattle.std.specs.Ordering.{is_eq, is_lt, match_ordering, ordering_reverse}
use Rattle.std.specs.BTreeSet.{insert_key}
use Rattle.std.proofs.lemmas.List.Sorted.{sorted_far}
use Rattle.cr_value.specs.declared.value.Value.{Value}
use Rattle.cr_value.specs.declared.value.Value.TheVariants.{Null}
use Rattle.cr_value.specs.Order.{bytes_cmp}
use Rattle.cr_value.specs.OrderLaws.{bytes_total, bytes_exact}
use Rattle.cr_lattice.specs.declared.change.Change.{Change}
use Rattle.cr_lattice.specs.declared.table.ColumnDef.{ColumnDef}
use Rattle.cr_lattice.specs.declared.table.TableDef.{TableDef}
use Rattle.cr_lattice.specs.Sets.{set_of}
use Rattle.cr_lattice.specs.Rows.{alive_keys, cell, has_lesser_key, is_below, is_present, is_under, row, rows}
use Rattle.cr_lattice.proofs.KeyLemmas.{by_key_order, row-under}
use Rattle.cr_value.specs.Unpacking.{unpacked}
use Rattle.cr_module.specs.Lawful.{first_row, head_value, is_at_end, rest_of}
use Rattle.cr_tables.specs.Shown.{Stands, front, behind, first_key, first_group, key_values, later_groups, is_shown}

-- ---- the two parts

pub parts : (pk : List ℕ) (cs : List Change) → front pk cs ++ behind pk cs ≡ cs
parts pk [] = refl
parts pk (c ∷ cs) = by (is_under pk c) (parts pk cs) where
  by : (b : Bool) → front pk cs ++ behind pk cs ≡ cs → cond b (c ∷ front pk cs) [] ++ cond b (behind pk cs) (c ∷ cs) ≡ c ∷ cs
  by true e = ap (λ (ds : List Change). c ∷ ds) e
  by false e = refl

pub taken_front : (pk : List ℕ) (cs : List Change) → take (length (front pk cs)) cs ≡ front pk cs
taken_front pk [] = refl
taken_front pk (c ∷ cs) = by (is_under pk c) (taken_front pk cs) where
  by : (b : Bool) → take (length (front pk cs)) cs ≡ front pk cs → take (length (cond b (c ∷ front pk cs) [])) (c ∷ cs) ≡ cond b (c ∷ front pk cs) []
  by true e = ap (λ (ds : List Change). c ∷ ds) e
  by false e = refl

pub dropped_front : (pk : List ℕ) (cs : List Change) → drop (length (front pk cs)) cs ≡ behind pk cs
dropped_front pk [] = refl
dropped_front pk (c ∷ cs) = by (is_under pk c) (dropped_front pk cs) where
  by : (b : Bool) → drop (length (front pk cs)) cs ≡ behind pk cs → drop (length (cond b (c ∷ front pk cs) [])) (c ∷ cs) ≡ cond b (behind pk cs) (c ∷ cs)
  by true e = e
  by false e = refl

-- ---- which keys stand there

abbrev pub All : {X : Type 0} → (X → Type 0) → List X → Type 0
All P xs = AllByRecursion P xs

-- no change stands below one before it
abbrev pub Rises : List Change → Type 0
Rises [] = Unit {0}
Rises (c ∷ cs) = All (λ d. is_below c.pk d ≡ false) cs × Rises cs

by_place : {X : Type 0} (P : X → Type 0) (xs : List X) → ((j : ℕ) (d : X) → j < length xs → P (slice_index_or xs j d)) → All P xs
by_place P [] f = tt
by_place P (x ∷ xs) f = (f zero x (omega arith), by_place P xs (λ j d lt. f (suc j) d (omega (arith, lt))))

first_rises : (c : Change) (cs : List Change) → IsSortedBy has_lesser_key (c ∷ cs) → All (λ d. is_below c.pk d ≡ false) cs
first_rises c cs sorted = by_place (λ d. is_below c.pk d ≡ false) cs (λ j d lt. sorted_far has_lesser_key by_key_order (c ∷ cs) sorted zero (suc j) d (omega arith) (omega (arith, lt)))

tail_sorted : (c : Change) (cs : List Change) → IsSortedBy has_lesser_key (c ∷ cs) → IsSortedBy has_lesser_key cs
tail_sorted c cs sorted =
    λ k d low lt. subst (λ (n : ℕ). has_lesser_key (slice_index_or (c ∷ cs) n d) (slice_index_or cs k d) ≡ false) {x = suc k + 1} {y = suc (k + 1)} (omega arith) (sorted (suc k) d (omega arith) (omega (arith, lt)))

pub rises : (cs : List Change) → IsSortedBy has_lesser_key cs → Rises cs
rises [] sorted = tt
rises (c ∷ cs) sorted = (first_rises c cs sorted, rises cs (tail_sorted c cs sorted))

pub behind_sorted : (pk : List ℕ) (cs : List Change) → IsSortedBy has_lesser_key cs → IsSortedBy has_lesser_key (behind pk cs)
behind_sorted pk [] sorted = sorted
behind_sorted pk (c ∷ cs) sorted = by (is_under pk c) (behind_sorted pk cs (tail_sorted c cs sorted)) where
  by : (b : Bool) → IsSortedBy has_lesser_key (behind pk cs) → IsSortedBy has_lesser_key (cond b (behind pk cs) (c ∷ cs))
  by true s = s
  by false s = sorted

abbrev pub IsAbove : List ℕ → List ℕ → Type 0
IsAbove pk k = bytes_cmp pk k ≡ Less

-- k is neither below pk nor pk
above : (pk k : List ℕ) → is_lt (bytes_cmp k pk) ≡ false → is_eq (bytes_cmp k pk) ≡ false → IsAbove pk k
above pk k low same =
    elim (bytes_cmp k pk) as (λ r. bytes_cmp k pk ≡ r → is_lt r ≡ false → is_eq r ≡ false → IsAbove pk k) [
      | Less ↦ λ e f g. absurd (let z : ⊥ = cc in z)
      | Equal ↦ λ e f g. absurd (let z : ⊥ = cc in z)
      | Greater ↦ λ e f g. bytes_total.antisymm pk k ∙ ap ordering_reverse e
    ] refl low same

-- above one that is above
above_more : (pk k l : List ℕ) → IsAbove pk k → is_lt (bytes_cmp l k) ≡ false → IsAbove pk l
above_more pk k l up low =
    elim (bytes_cmp l k) as (λ r. bytes_cmp l k ≡ r → is_lt r ≡ false → IsAbove pk l) [
      | Less ↦ λ e f. absurd (let z : ⊥ = cc in z)
      | Equal ↦ λ e f. subst (IsAbove pk) (sym (bytes_exact l k e)) up
      | Greater ↦ λ e f. bytes_total.trans pk k l up (bytes_total.antisymm k l ∙ ap ordering_reverse e)
    ] refl low

all_above : (pk k : List ℕ) (cs : List Change) → IsAbove pk k → All (λ d. is_below k d ≡ false) cs → All (λ d. IsAbove pk d.pk) cs
all_above pk k [] up low = tt
all_above pk k (c ∷ cs) up low = (above_more pk k c.pk up low.0, all_above pk k cs up low.1)

pub behind_above : (pk : List ℕ) (cs : List Change) → All (λ d. is_below pk d ≡ false) cs → Rises cs → All (λ d. IsAbove pk d.pk) (behind pk cs)
behind_above pk [] low up = tt
behind_above pk (c ∷ cs) low up =
    elim (is_under pk c) as (λ b. is_under pk c ≡ b → All (λ d. IsAbove pk d.pk) (cond b (behind pk cs) (c ∷ cs))) [
      | true ↦ λ e. behind_above pk cs low.1 up.1
      | false ↦ λ e. (let first = above pk c.pk low.0 e in (first, all_above pk c.pk cs first up.0))
    ] refl

pub front_under : (pk : List ℕ) (cs : List Change) → All (λ d. is_under pk d ≡ true) (front pk cs)
front_under pk [] = tt
front_under pk (c ∷ cs) =
    elim (is_under pk c) as (λ b. is_under pk c ≡ b → All (λ d. is_under pk d ≡ true) (cond b (c ∷ front pk cs) [])) [
      | true ↦ λ e. (e, front_under pk cs)
      | false ↦ λ e. tt
    ] refl

equal_is : (r : Ordering) → is_eq r ≡ true → r ≡ Equal
equal_is Less e = absurd (let z : ⊥ = cc in z)
equal_is Equal e = refl
equal_is Greater e = absurd (let z : ⊥ = cc in z)

pub key_is : (pk : List ℕ) (c : Change) → is_under pk c ≡ true → c.pk ≡ pk
key_is pk c e = bytes_exact c.pk pk (equal_is _ e)

pub self_compared : (pk : List ℕ) → bytes_cmp pk pk ≡ Equal
self_compared pk =
    elim (bytes_cmp pk pk) as (λ r. bytes_cmp pk pk ≡ r → bytes_cmp pk pk ≡ Equal) [
      | Less ↦ λ e. absurd (let z : Less ≡ Greater = sym e ∙ bytes_total.antisymm pk pk ∙ ap ordering_reverse e in cc)
      | Equal ↦ λ e. e
      | Greater ↦ λ e. absurd (let z : Greater ≡ Less = sym e ∙ bytes_total.antisymm pk pk ∙ ap ordering_reverse e in cc)
    ] refl

-- ---- the keys in order

put_above : (pk k : List ℕ) (ks : List (List ℕ)) → IsAbove pk k → All (IsAbove pk) ks → All (IsAbove pk) (insert_key bytes_cmp ks k)
put_above pk k [] h b = (h, tt)
put_above pk k (y ∷ ys) h b =
    elim (bytes_cmp k y) as (λ r. All (IsAbove pk) (match_ordering r (k ∷ y ∷ ys) (y ∷ ys) (y ∷ insert_key bytes_cmp ys k))) [
      | Less ↦ (h, b)
      | Equal ↦ b
      | Greater ↦ (b.0, put_above pk k ys h b.1)
    ]

keys_above : (table pk : List ℕ) (cs : List Change) → All (λ d. IsAbove pk d.pk) cs → All (IsAbove pk) (set_of bytes_cmp (map (λ c. c.pk) (filter (is_present table) cs)))
keys_above table pk [] up = tt
keys_above table pk (c ∷ cs) up =
    elim (is_present table c) as (λ b. All (IsAbove pk) (set_of bytes_cmp (map (λ c. c.pk) (cond b (c ∷ filter (is_present table) cs) (filter (is_present table) cs))))) [
      | true ↦ put_above pk c.pk _ up.0 (keys_above table pk cs up.1)
      | false ↦ keys_above table pk cs up.1
    ]

put_first : (pk : List ℕ) (ks : List (List ℕ)) → All (IsAbove pk) ks → insert_key bytes_cmp ks pk ≡ pk ∷ ks
put_first pk [] up = refl
put_first pk (k ∷ ks) up = ap (λ r. match_ordering r (pk ∷ k ∷ ks) (k ∷ ks) (k ∷ insert_key bytes_cmp ks pk)) up.0

put_again : (pk : List ℕ) (ks : List (List ℕ)) → insert_key bytes_cmp (pk ∷ ks) pk ≡ pk ∷ ks
put_again pk ks = ap (λ r. match_ordering r (pk ∷ pk ∷ ks) (pk ∷ ks) (pk ∷ insert_key bytes_cmp ks pk)) (self_compared pk)

put_there : (pk : List ℕ) (ks : List (List ℕ)) (b : Bool) → All (IsAbove pk) ks → insert_key bytes_cmp (cond b (pk ∷ ks) ks) pk ≡ pk ∷ ks
put_there pk ks true up = put_again pk ks
put_there pk ks false up = put_first pk ks up

abbrev keys_shown : List ℕ → List Change → List (List ℕ)
keys_shown table cs = set_of bytes_cmp (map (λ c. c.pk) (filter (is_present table) cs))

keys_first : (table pk : List ℕ) (g l : List Change) → All (λ d. is_under pk d ≡ true) g → All (λ d. IsAbove pk d.pk) l
    → keys_shown table (g ++ l) ≡ cond (is_shown table g) (pk ∷ keys_shown table l) (keys_shown table l)
keys_first table pk [] l under up = refl
keys_first table pk (c ∷ g) l under up =
    let later : List (List ℕ) = keys_shown table l in
    let rest : keys_shown table (g ++ l) ≡ cond (is_shown table g) (pk ∷ later) later = keys_first table pk g l under.1 up in
    elim (is_present table c) as (λ b. set_of bytes_cmp (map (λ c. c.pk) (cond b (c ∷ filter (is_present table) (g ++ l)) (filter (is_present table) (g ++ l)))) ≡ cond (b || is_shown table g) (pk ∷ later) later) [
      | true ↦ (λ i. insert_key bytes_cmp (rest i) (key_is pk c under.0 i)) ∙ put_there pk later (is_shown table g) (keys_above table pk l up)
      | false ↦ rest
    ]

-- ---- the rows

pub apart : (pk k : List ℕ) (c : Change) → is_under pk c ≡ true → IsAbove pk k → is_under k c ≡ false
apart pk k c under up = ap (λ p. is_eq (bytes_cmp p k)) (key_is pk c under) ∙ ap is_eq up

none_under : (pk k : List ℕ) (g l : List Change) → All (λ d. is_under pk d ≡ true) g → IsAbove pk k → filter (is_under k) (g ++ l) ≡ filter (is_under k) l
none_under pk k [] l under up = refl
none_under pk k (c ∷ g) l under up =
    ap (λ b. cond b (c ∷ filter (is_under k) (g ++ l)) (filter (is_under k) (g ++ l))) (apart pk k c under.0 up) ∙ none_under pk k g l under.1 up

pub no_longer : (pk k : List ℕ) → IsAbove pk k → is_eq (bytes_cmp k pk) ≡ false
no_longer pk k up = ap is_eq (bytes_total.antisymm k pk ∙ ap ordering_reverse up)

no_more : (pk : List ℕ) (l : List Change) → All (λ d. IsAbove pk d.pk) l → filter (is_under pk) l ≡ []
no_more pk [] up = refl
no_more pk (c ∷ l) up = ap (λ b. cond b (c ∷ filter (is_under pk) l) (filter (is_under pk) l)) (no_longer pk c.pk up.0) ∙ no_more pk l up.1

all_under : (pk : List ℕ) (g l : List Change) → All (λ d. is_under pk d ≡ true) g → All (λ d. IsAbove pk d.pk) l → filter (is_under pk) (g ++ l) ≡ g
all_under pk [] l under up = no_more pk l up
all_under pk (c ∷ g) l under up =
    ap (λ b. cond b (c ∷ filter (is_under pk) (g ++ l)) (filter (is_under pk) (g ++ l))) under.0 ∙ ap (λ (ds : List Change). c ∷ ds) (all_under pk g l under.1 up)

module _ (def : TableDef) where
  pub row_later : (pk k : List ℕ) (g l : List Change) → All (λ d. is_under pk d ≡ true) g → IsAbove pk k → row (g ++ l) def k ≡ row l def k
  row_later pk k g l under up =
      sym (row-under (g ++ l) def k) ∙ ap (λ (cs : List Change). row cs def k) (none_under pk k g l under up) ∙ row-under l def k

  pub row_first : (pk : List ℕ) (g l : List Change) → All (λ d. is_under pk d ≡ true) g → All (λ d. IsAbove pk d.pk) l → row (g ++ l) def pk ≡ row g def pk
  row_first pk g l under up = sym (row-under (g ++ l) def pk) ∙ ap (λ (cs : List Change). row cs def pk) (all_under pk g l under up)

  rows_later : (pk : List ℕ) (g l : List Change) (ks : List (List ℕ)) → All (λ d. is_under pk d ≡ true) g → All (IsAbove pk) ks → map (row (g ++ l) def) ks ≡ map (row l def) ks
  rows_later pk g l [] under up = refl
  rows_later pk g l (k ∷ ks) under up = λ i. row_later pk k g l under up.0 i ∷ rows_later pk g l ks under up.1 i

  pub rows_of_parts : (pk : List ℕ) (g l : List Change) → All (λ d. is_under pk d ≡ true) g → All (λ d. IsAbove pk d.pk) l
      → rows (g ++ l) def ≡ cond (is_shown def.name g) (row g def pk ∷ rows l def) (rows l def)
  unfolding rows alive_keys
  rows_of_parts pk g l under up =
      let later : List (List ℕ) = keys_shown def.name l in
      let same : map (row (g ++ l) def) later ≡ map (row l def) later = rows_later pk g l later under (keys_above def.name pk l up) in
      ap (map (row (g ++ l) def)) (keys_first def.name pk g l under up)
      ∙ elim (is_shown def.name g) as (λ b. map (row (g ++ l) def) (cond b (pk ∷ later) later) ≡ cond b (row g def pk ∷ map (row l def) later) (map (row l def) later)) [
        | true ↦ λ i. row_first pk g l under up i ∷ same i
        | false ↦ same
      ]

  -- the row of the first key, where it is present, before those of the later ones
  pub rows_first : (cs : List Change) → IsSortedBy has_lesser_key cs
      → rows cs def ≡ cond (is_shown def.name (first_group cs)) (row (first_group cs) def (first_key cs) ∷ rows (later_groups cs) def) (rows (later_groups cs) def)
  rows_first [] sorted = refl
  rows_first (c ∷ cs) sorted =
      let up = rises (c ∷ cs) sorted in
      let low : is_below c.pk c ≡ false = ap is_lt (self_compared c.pk) in
      ap (λ (ds : List Change). rows ds def) (sym (parts c.pk (c ∷ cs)))
      ∙ rows_of_parts c.pk (front c.pk (c ∷ cs)) (behind c.pk (c ∷ cs)) (front_under c.pk (c ∷ cs)) (behind_above c.pk (c ∷ cs) (low, up.0) up)

-- ---- where a reading stands

-- the empty list of bytes is no key
pub no_key : key_values [] ≡ []
unfolding unpacked
no_key = refl

pub no_more_than : (pk : List ℕ) (cs : List Change) → length (front pk cs) ≤ length cs
no_more_than pk [] = omega arith
no_more_than pk (c ∷ cs) = by (is_under pk c) (no_more_than pk cs) where
  by : (b : Bool) → length (front pk cs) ≤ length cs → length (cond b (c ∷ front pk cs) []) ≤ suc (length cs)
  by true le = omega (arith, le)
  by false le = omega arith

pub starts : (table : List ℕ) (cs group later : List Change) (key : List Value) → IsSortedBy has_lesser_key cs → group ≡ first_group cs → later ≡ later_groups cs
    → is_shown table group ≡ true → key ≡ key_values group → Stands table group later key
starts table cs group later key sorted g l shown k =
    let whole : group ++ later ≡ cs = (λ i. g i ++ l i) ∙ parts (first_key cs) cs in
    record { sorted = subst (IsSortedBy has_lesser_key) (sym whole) sorted; first = g ∙ ap first_group (sym whole); there = inl shown; key_is = k }

pub ends : (table : List ℕ) (group later : List Change) (key : List Value) → group ≡ [] → later ≡ [] → key ≡ [] → Stands table group later key
ends table group later key g l k =
    let whole : group ++ later ≡ [] = λ i. g i ++ l i in
    record {
      sorted = subst (IsSortedBy has_lesser_key) (sym whole) (λ n d low lt. absurd (omega (arith, lt)));
      first = g ∙ ap first_group (sym whole);
      there = inr (g, l);
      key_is = k ∙ sym no_key ∙ ap key_values (sym g);
    }

pub whole_is : (def : TableDef) (cs group later : List Change) → group ≡ first_group cs → later ≡ later_groups cs → rows (group ++ later) def ≡ rows cs def
whole_is def cs group later g l = ap (λ (ds : List Change). rows ds def) ((λ i. g i ++ l i) ∙ parts (first_key cs) cs)

pub skipped : (def : TableDef) (cs : List Change) → IsSortedBy has_lesser_key cs → is_shown def.name (first_group cs) ≡ false → rows (later_groups cs) def ≡ rows cs def
skipped def cs sorted none =
    sym (rows_first def cs sorted ∙ ap (λ b. cond b (row (first_group cs) def (first_key cs) ∷ rows (later_groups cs) def) (rows (later_groups cs) def)) none)

no_longer_behind : (pk : List ℕ) (cs : List Change) → length (behind pk cs) ≤ length cs
no_longer_behind pk [] = omega arith
no_longer_behind pk (c ∷ cs) = by (is_under pk c) (no_longer_behind pk cs) where
  by : (b : Bool) → length (behind pk cs) ≤ length cs → length (cond b (behind pk cs) (c ∷ cs)) ≤ suc (length cs)
  by true le = omega (arith, le)
  by false le = omega arith

pub shorter : (cs : List Change) → zero < length cs → length (later_groups cs) < length cs
shorter [] some = absurd (omega (arith, some))
shorter (c ∷ cs) some =
    let first : is_under c.pk c ≡ true = ap is_eq (self_compared c.pk) in
    let le : length (behind c.pk cs) ≤ length cs = no_longer_behind c.pk cs in
    let is : length (later_groups (c ∷ cs)) ≡ length (behind c.pk cs) = ap (λ b. length (cond b (behind c.pk cs) (c ∷ cs))) first in
    omega (arith, le, is)

pub no_first_key : (cs : List Change) → None ≡ slice_get cs 0 → key_values cs ≡ []
no_first_key [] none = no_key
no_first_key (c ∷ cs) none = absurd (let z : ⊥ = cc in z)

pub emptied : (cs : List Change) → length cs ≡ 0 → cs ≡ []
emptied [] e = refl
emptied (c ∷ cs) e = absurd (omega (arith, e))

-- ---- the row on which a reading stands

some_change : (table : List ℕ) (group : List Change) → is_shown table group ≡ true → 0 < length group
some_change table [] shown = absurd (let z : ⊥ = cc in z)
some_change table (c ∷ group) shown = omega arith

not_none : (n : ℕ) → 0 < n → (n == 0) ≡ false
not_none n some = false_from_ne_true (n == 0) (λ e. absurd (omega (arith, some, eqb-true n 0 e)))

module _ (def : TableDef) (group later : List Change) (key : List Value) (stands : Stands def.name group later key) where
  abbrev pub left : List (List Value)
  left = rows (group ++ later) def

  later_is : later ≡ later_groups (group ++ later)
  later_is =
      let whole : List Change = group ++ later in
      append_cancel_left group later (later_groups whole) (sym (parts (first_key whole) whole) ∙ ap (λ (cs : List Change). cs ++ later_groups whole) (sym stands.first))

  first_key_is : (g : List Change) → 0 < length g → first_key (g ++ later) ≡ first_key g
  first_key_is [] some = absurd (omega (arith, some))
  first_key_is (c ∷ g) some = refl

  pub standing : is_shown def.name group ≡ true → left ≡ row group def (first_key group) ∷ rows later def
  standing shown =
      let whole : List Change = group ++ later in
      let key_same : first_key whole ≡ first_key group = first_key_is group (some_change def.name group shown) in
      rows_first def whole stands.sorted
      ∙ (λ i. cond (is_shown def.name (sym stands.first i)) (row (sym stands.first i) def (key_same i) ∷ rows (sym later_is i) def) (rows (sym later_is i) def))
      ∙ ap (λ b. cond b (row group def (first_key group) ∷ rows later def) (rows later def)) shown

  at_end : (group ≡ []) → (later ≡ []) → left ≡ []
  unfolding rows alive_keys
  at_end g l = ap (λ (cs : List Change). rows cs def) (λ i. g i ++ l i)

  pub end_told : (length group == 0) ≡ is_at_end left
  end_told = by stands.there where
    by : (is_shown def.name group ≡ true) ⊎ ((group ≡ []) × (later ≡ [])) → (length group == 0) ≡ is_at_end left
    by (inl shown) = not_none (length group) (some_change def.name group shown) ∙ ap is_at_end (sym (standing shown))
    by (inr none) = ap (λ (cs : List Change). length cs == 0) none.0 ∙ ap is_at_end (sym (at_end none.0 none.1))

  pub shown_there : is_at_end left ≡ false → is_shown def.name group ≡ true
  shown_there some = by stands.there where
    by : (is_shown def.name group ≡ true) ⊎ ((group ≡ []) × (later ≡ [])) → is_shown def.name group ≡ true
    by (inl shown) = shown
    by (inr none) = absurd (let z : true ≡ false = ap is_at_end (sym (at_end none.0 none.1)) ∙ some in true≢false z)

  pub first_row_is : is_at_end left ≡ false → first_row left ≡ row group def (first_key group)
  first_row_is some = ap first_row (standing (shown_there some))

  pub rest_is : is_at_end left ≡ false → rest_of left ≡ rows later def
  rest_is some = ap rest_of (standing (shown_there some))

  pub width_is : is_at_end left ≡ false → length (first_row left) ≡ length def.columns
  unfolding row
  width_is some = ap (λ (r : List Value). length r) (first_row_is some) ∙ length-map def.columns (cell group def.name (first_key group))

  value_is : (at : ℕ) → is_at_end left ≡ false → head_value at left ≡ unwrap_or (option_map (cell group def.name (first_key group)) (slice_get def.columns at)) Null
  unfolding row
  value_is at some =
      ap (λ (r : List Value). unwrap_or (slice_get r at) Null) (first_row_is some)
      ∙ ap (λ (o : Option Value). unwrap_or o Null) (slice_get-map (cell group def.name (first_key group)) def.columns at)

  pub value_there : (at : ℕ) (column : ColumnDef) → is_at_end left ≡ false → slice_get def.columns at ≡ Some column → head_value at left ≡ cell group def.name (first_key group) column
  value_there at column some is = value_is at some ∙ ap (λ (o : Option ColumnDef). unwrap_or (option_map (cell group def.name (first_key group)) o) Null) is

  pub value_missing : (at : ℕ) → is_at_end left ≡ false → slice_get def.columns at ≡ None → head_value at left ≡ Null
  value_missing at some is = value_is at some ∙ ap (λ (o : Option ColumnDef). unwrap_or (option_map (cell group def.name (first_key group)) o) Null) is

  tail_of_sorted : (g l : List Change) → IsSortedBy has_lesser_key (g ++ l) → IsSortedBy has_lesser_key l
  tail_of_sorted [] l sorted = sorted
  tail_of_sorted (c ∷ g) l sorted = tail_of_sorted g l (tail_sorted c (g ++ l) sorted)

  pub later_sorted : IsSortedBy has_lesser_key later
  later_sorted = tail_of_sorted group later stands.sorted
