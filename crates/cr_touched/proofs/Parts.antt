-- The changes of a part of a table show the rows of that part.
use Rattle.std.proofs.Common.{◌≡◌, inl, inr, ℕ, Bool, true, false, cond, ◌&&◌, ◌||◌, map, List, [], ◌∷◌, ◌++◌, refl, sym, ap, subst, ◌∙◌}
use Rattle.std.specs.Prelude.{filter}
use Rattle.std.specs.List.{list_any, flat_map}
use Rattle.std.specs.List.Sorted.{IsStrictlySortedBy}
use Rattle.std.proofs.lemmas.List.Kept.{IsStrictlySortedBy-filter}
use Rattle.cr_value.specs.Order.{bytes_cmp}
use Rattle.cr_value.specs.OrderLaws.{bytes_total, bytes_exact}
use Rattle.cr_lattice.specs.declared.change.Change.{Change}
use Rattle.cr_lattice.specs.declared.table.ColumnDef.{ColumnDef}
use Rattle.cr_lattice.specs.declared.table.TableDef.{TableDef}
use Rattle.cr_lattice.specs.Change.{change_cmp}
use Rattle.cr_lattice.specs.ChangeOrder.{change_total, change_exact, row_exact}
use Rattle.cr_lattice.specs.Check.{same_bytes, is_odd}
use Rattle.cr_lattice.specs.Keep.{has, keep}
use Rattle.cr_lattice.specs.Rows.{is_of_row, is_alive, is_present, is_cell, alive_keys, kept_change, cell, row, rows}
use Rattle.cr_lattice.proofs.Tested.{and_true, and_false, split}
use Rattle.cr_lattice.proofs.ChangeLaws.{Beats-beats}
use Rattle.cr_lattice.proofs.SortedSets.{has-filter, same_sorted, IsStrictlySortedBy-set_of}
use Rattle.cr_lattice.proofs.KeepLaws.{In, keep_same, kept_from, kept_to, sorted-keep, keep_is}
use Rattle.cr_lattice.proofs.Filters.{find-filter}
use Rattle.cr_lattice.proofs.RowLemmas.{any_alive_key}
use Rattle.cr_delta.proofs.Among.{Among-filter, filter_member, Among-flat_map, flat_map_member, any_member, member_of_any, In_Among, Among_In}
use Rattle.cr_delta.proofs.Members.{same_is}
use Rattle.cr_touched.specs.Parts.{is_at, part, is_key_of, PartsAreKept, PartsAreJoined, KeysMakeTheirPart, PartsShowTheirRows}

-- ---- filters

pub filter-append : {X : Type 0} (p : X → Bool) (xs ys : List X) → filter p (xs ++ ys) ≡ filter p xs ++ filter p ys
filter-append p [] ys = refl
filter-append p (x ∷ xs) ys =
    elim (p x) as (λ b. cond b (x ∷ filter p (xs ++ ys)) (filter p (xs ++ ys)) ≡ cond b (x ∷ filter p xs) (filter p xs) ++ filter p ys) [
      | true ↦ ap (λ l. x ∷ l) (filter-append p xs ys)
      | false ↦ filter-append p xs ys
    ]

-- where all that passes a passes b alike
pub any_filter : {X : Type 0} (a b : X → Bool) (t : Bool) → ((x : X) → a x ≡ true → b x ≡ t) → (xs : List X) → list_any a (filter b xs) ≡ (list_any a xs && t)
any_filter a b t h [] = refl
any_filter {X} a b t h (x ∷ xs) =
    elim (split (a x)) [
      | inl e ↦ (
          let goal : Bool → Type 0 = λ s. list_any a (cond s (x ∷ filter b xs) (filter b xs)) ≡ ((a x || list_any a xs) && t) in
          subst goal (sym (h x e)) (elim t as (λ t. ((y : X) → a y ≡ true → b y ≡ t) → list_any a (cond t (x ∷ filter b xs) (filter b xs)) ≡ ((a x || list_any a xs) && t)) [
            | true ↦ λ h. rw e refl
            | false ↦ λ h. any_filter a b false h xs ∙ and_false (list_any a xs) ∙ sym (and_false (a x || list_any a xs))
          ] h))
      | inr e ↦ (
          let skip : (s : Bool) → list_any a (cond s (x ∷ filter b xs) (filter b xs)) ≡ list_any a (filter b xs) = λ s. elim s as (λ s. list_any a (cond s (x ∷ filter b xs) (filter b xs)) ≡ list_any a (filter b xs)) [ true ↦ rw e refl | false ↦ refl ] in
          skip (b x) ∙ any_filter a b t h xs ∙ rw e refl)
    ]

pub map_filter : {X Y : Type 0} (f g : X → Y) (p : X → Bool) → ((x : X) → p x ≡ true → f x ≡ g x) → (xs : List X) → map f (filter p xs) ≡ map g (filter p xs)
map_filter f g p h [] = refl
map_filter f g p h (x ∷ xs) =
    elim (p x) as (λ b. p x ≡ b → map f (cond b (x ∷ filter p xs) (filter p xs)) ≡ map g (cond b (x ∷ filter p xs) (filter p xs))) [
      | true ↦ λ e i. h x e i ∷ map_filter f g p h xs i
      | false ↦ λ e. map_filter f g p h xs
    ] refl

module _ (table : List ℕ) (p : List ℕ → Bool) where
  -- ---- what a part keeps

  pub of_part : (cs : List Change) (c : Change) → In (part table p cs) c → In cs c × (is_at table p c ≡ true)
  unfolding part has
  of_part cs c e = and_true _ _ (sym (has-filter change_total change_exact (is_at table p) cs c) ∙ e)

  pub to_part : (cs : List Change) (c : Change) → In cs c → is_at table p c ≡ true → In (part table p cs) c
  unfolding part has
  to_part cs c i e = has-filter change_total change_exact (is_at table p) cs c ∙ rw (i, e) refl

  same_part : (c d : Change) → c.table ≡ d.table → c.pk ≡ d.pk → is_at table p c ≡ is_at table p d
  same_part c d t k = λ i. same_bytes (t i) table && p (k i)

  sorted_part : (cs : List Change) → IsStrictlySortedBy change_cmp cs → IsStrictlySortedBy change_cmp (part table p cs)
  unfolding part
  sorted_part cs s = IsStrictlySortedBy-filter change_cmp (is_at table p) cs s

  -- a part keeps what is kept of it
  pub keep_part : (s : List Change) → part table p (keep s) ≡ keep (part table p s)
  keep_part s =
      keep_is (part table p s) (part table p (keep s)) (sorted_part (keep s) (sorted-keep s))
      (λ c i. (
      let a = of_part (keep s) c i in
      let k = kept_from s c a.0 in
      record { member = to_part s c k.member a.1; unbeaten = λ d in_part b. k.unbeaten d (of_part s d in_part).0 b }))
      (λ c k. (
      let a = of_part s c k.member in
      to_part (keep s) c
      (kept_to s c (record {
        member = a.0;
        unbeaten = λ d in_s b. (
            let r = row_exact d c (Beats-beats d c b).row in
            k.unbeaten d (to_part s d in_s (same_part d c r.0 r.1 ∙ a.1)) b);
      })) a.1))

  pub part-append : (xs ys : List Change) → part table p (xs ++ ys) ≡ part table p xs ++ part table p ys
  unfolding part
  part-append xs ys = filter-append (is_at table p) xs ys

  -- ---- its rows

  pub of_row_part : (pk : List ℕ) (c : Change) → is_of_row table pk c ≡ true → is_at table p c ≡ p pk
  of_row_part pk c e = let a : (same_bytes c.table table ≡ true) × (same_bytes c.pk pk ≡ true) = and_true _ _ e in (λ i. a.0 i && p (same_is c.pk pk a.1 i))

  pub alive_part : (k : List Change) (pk : List ℕ) → is_alive (part table p k) table pk ≡ (is_alive k table pk && p pk)
  unfolding part is_alive
  alive_part k pk = any_filter (λ c. is_of_row table pk c && is_odd c.cl) (is_at table p) (p pk) (λ c e. of_row_part pk c (and_true _ _ e).0) k

  pub sorted_keys : (k : List Change) → IsStrictlySortedBy bytes_cmp (alive_keys k table)
  unfolding alive_keys
  sorted_keys k = IsStrictlySortedBy-set_of bytes_total bytes_exact (map (λ c. c.pk) (filter (is_present table) k))

  pub keys_part : (k : List Change) → alive_keys (part table p k) table ≡ filter p (alive_keys k table)
  keys_part k =
      same_sorted bytes_total bytes_exact (alive_keys (part table p k) table) (filter p (alive_keys k table)) (sorted_keys (part table p k))
      (IsStrictlySortedBy-filter bytes_cmp p (alive_keys k table) (sorted_keys k))
      (λ pk.
      any_alive_key (part table p k) table pk
      ∙ alive_part k pk
      ∙ ap (λ b. b && p pk) (sym (any_alive_key k table pk))
      ∙ sym (has-filter bytes_total bytes_exact p (alive_keys k table) pk))

  found_part : (k : List Change) (pk cid : List ℕ) → p pk ≡ true → kept_change (part table p k) table pk cid ≡ kept_change k table pk cid
  unfolding kept_change part
  found_part k pk cid e = find-filter (is_cell table pk cid) (is_at table p) (λ c h. of_row_part pk c (and_true _ _ h).0 ∙ e) k

cell_same : (ks xs : List Change) (table pk : List ℕ) (col : ColumnDef) → kept_change ks table pk col.name ≡ kept_change xs table pk col.name → cell ks table pk col ≡ cell xs table pk col
cell_same ks xs table pk col e = simp e

pub row_part : (def : TableDef) (p : List ℕ → Bool) (k : List Change) (pk : List ℕ) → p pk ≡ true → row (part def.name p k) def pk ≡ row k def pk
unfolding row
row_part def p k pk e = ap (λ g. map g def.columns) (λ i col. cell_same (part def.name p k) k def.name pk col (found_part def.name p k pk col.name e) i)

pub rows_part : (def : TableDef) (p : List ℕ → Bool) (k : List Change) → rows (part def.name p k) def ≡ map (row k def) (filter p (alive_keys k def.name))
unfolding rows
rows_part def p k =
    ap (map (row (part def.name p k) def)) (keys_part def.name p k)
    ∙ map_filter (row (part def.name p k) def) (row k def) p (λ pk e. row_part def p k pk e) (alive_keys k def.name)

pub parts_are_kept : PartsAreKept
parts_are_kept table p s = sym (keep_part table p s)

pub parts_are_joined : PartsAreJoined
parts_are_joined table p xs ys = ap keep (sym (part-append table p xs ys)) ∙ sym (keep_part table p (xs ++ ys))

module _ (table : List ℕ) (keys : List (List ℕ)) (s : List Change) where
  of_keys : (c : Change) → In (flat_map (λ pk. filter (is_of_row table pk) s) keys) c → In (part table (is_key_of keys) s) c
  unfolding part
  of_keys c i =
      let k = Among-flat_map (λ pk. filter (is_of_row table pk) s) keys c (Among_In (flat_map (λ pk. filter (is_of_row table pk) s) keys) c i) in
      let f = Among-filter (is_of_row table k.0) s c k.2 in
      let of = and_true (same_bytes c.table table) (same_bytes c.pk k.0) f.1 in
      to_part table (is_key_of keys) s c (In_Among s c f.0) (both of.0 (any_member (same_bytes c.pk) keys k.0 k.1 of.1))
    where
      both : {a b : Bool} → a ≡ true → b ≡ true → (a && b) ≡ true
      both e f = rw (e, f) refl

  to_keys : (c : Change) → In (part table (is_key_of keys) s) c → In (flat_map (λ pk. filter (is_of_row table pk) s) keys) c
  to_keys c i =
      let f = of_part table (is_key_of keys) s c i in
      let of = and_true (same_bytes c.table table) (is_key_of keys c.pk) f.1 in
      let k = member_of_any (same_bytes c.pk) keys of.1 in
      In_Among (flat_map (λ pk. filter (is_of_row table pk) s) keys) c
      (flat_map_member (λ pk. filter (is_of_row table pk) s) keys k.0 c k.1
      (filter_member (is_of_row table k.0) s c (Among_In s c f.0) (both of.0 k.2)))
    where
      both : {a b : Bool} → a ≡ true → b ≡ true → (a && b) ≡ true
      both e f = rw (e, f) refl

pub keys_make_their_part : KeysMakeTheirPart
keys_make_their_part table keys s =
    keep_same (flat_map (λ pk. filter (is_of_row table pk) s) keys) (part table (is_key_of keys) s) (of_keys table keys s) (to_keys table keys s)
    ∙ sym (keep_part table (is_key_of keys) s)

pub parts_show : PartsShowTheirRows
parts_show def p kept = rows_part def p kept
