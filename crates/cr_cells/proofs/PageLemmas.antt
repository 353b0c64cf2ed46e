-- How many keys a page has, and which cells.
use Rattle.std.proofs.Common.{◌≡◌, ℕ, zero, suc, ◌<◌, Bool, true, false, cond, ◌&&◌, length, map, List, [], ◌∷◌, Option, Some, None, get_or, refl, sym, ap, subst, ◌∙◌, ◌⊎◌, inl, inr, ◌||◌, Ordering, Less, Equal, Greater, arith}
use Rattle.std.specs.Prelude.{filter}
use Rattle.std.specs.List.{list_any, AllByRecursion}
use Rattle.std.specs.List.Sorted.{IsStrictlySortedBy}
use Rattle.std.specs.Ordering.{is_le, is_eq, eq_by_cmp, ordering_reverse}
use Rattle.std.specs.Cmp.{tied_itself}
use Rattle.std.proofs.lemmas.List.Kept.{IsStrictlySortedBy-filter}
use Rattle.cr_value.specs.Order.{bytes_cmp}
use Rattle.cr_value.specs.OrderLaws.{bytes_total, bytes_exact}
use Rattle.cr_lattice.specs.declared.stamped.Stamped.{Stamped}
use Rattle.cr_lattice.specs.Check.{same_bytes}
use Rattle.cr_lattice.specs.Sets.{set_of}
use Rattle.cr_lattice.proofs.SortedSets.{same_sorted, list_any-set_of, IsStrictlySortedBy-set_of, has-filter}
use Rattle.cr_cells.specs.declared.page.Page.{Page}
use Rattle.cr_cells.specs.Pages.{above, up_to, between, is_at, keys_of, IsCut, IsPage}
use Rattle.cr_cells.proofs.MemberLemmas.{Among, any_gives, Among-filter}
use Rattle.cr_cells.proofs.CellLemmas.{eq_true}

-- ---- keys

abbrev Key : Type 0
Key = List ℕ

reversed : (o : Ordering) → o ≡ Less → is_le (ordering_reverse o) ≡ false
reversed Less e = refl
reversed Equal e = absurd cc
reversed Greater e = absurd cc

past : (b y : Key) → bytes_cmp b y ≡ Less → is_le (bytes_cmp y b) ≡ false
past b y l = ap is_le (bytes_total.antisymm y b) ∙ reversed (bytes_cmp b y) l

less_is_le : (o : Ordering) → o ≡ Less → is_le o ≡ true
less_is_le o e = ap is_le e

none_up_to : (b : Key) (ks : List Key) → AllByRecursion (λ y. bytes_cmp b y ≡ Less) ks → filter (up_to (Some b)) ks ≡ []
none_up_to b [] a = refl
none_up_to b (y ∷ ys) a = ap (λ t. cond t (y ∷ filter (up_to (Some b)) ys) (filter (up_to (Some b)) ys)) (past b y a.0) ∙ none_up_to b ys a.1

all_at : (P : Key → Type 0) (ks : List Key) (n : ℕ) (d : Key) → AllByRecursion P ks → n < length ks → P (get_or ks n d)
all_at P [] n d a h = absurd (omega arith)
all_at P (k ∷ ks) zero d a h = a.0
all_at P (k ∷ ks) (suc n) d a h = all_at P ks n d a.1 (omega arith)

-- of keys in strict order as many are up to one of them as stand before it, and itself
pub first_keys : (ks : List Key) (n : ℕ) (b : Key) → IsStrictlySortedBy bytes_cmp ks → n < length ks → b ≡ get_or ks n b → length (filter (up_to (Some b)) ks) ≡ suc n
unfolding IsStrictlySortedBy
first_keys [] n b s h e = absurd (omega arith)
first_keys (k ∷ ks) zero b s h e =
    let same : bytes_cmp k b ≡ Equal = ap (bytes_cmp k) e ∙ tied_itself bytes_total k in
    ap (λ t. length (cond t (k ∷ filter (up_to (Some b)) ks) (filter (up_to (Some b)) ks))) (ap is_le same)
    ∙ ap (λ l. suc (length l)) (none_up_to b ks (subst (λ x. AllByRecursion (λ y. bytes_cmp x y ≡ Less) ks) (sym e) s.0))
first_keys (k ∷ ks) (suc n) b s h e =
    let below : bytes_cmp k b ≡ Less = subst (λ x. bytes_cmp k x ≡ Less) (sym e) (all_at (λ y. bytes_cmp k y ≡ Less) ks n b s.0 (omega arith)) in
    ap (λ t. length (cond t (k ∷ filter (up_to (Some b)) ks) (filter (up_to (Some b)) ks))) (less_is_le (bytes_cmp k b) below)
    ∙ ap suc (first_keys ks n b s.1 (omega arith) e)

-- ---- the keys of a part

keys_filter : (p : Key → Bool) (ss : List Stamped) → map (λ s. s.change.pk) (filter (λ s. p s.change.pk) ss) ≡ filter p (map (λ s. s.change.pk) ss)
keys_filter p [] = refl
keys_filter p (s ∷ ss) = go (p s.change.pk) ∙ ap (λ l. cond (p s.change.pk) (s.change.pk ∷ l) l) (keys_filter p ss)
  where
    go : (b : Bool) → map (λ (t : Stamped). t.change.pk) (cond b (s ∷ filter (λ t. p t.change.pk) ss) (filter (λ t. p t.change.pk) ss))
        ≡ cond b (s.change.pk ∷ map (λ (t : Stamped). t.change.pk) (filter (λ t. p t.change.pk) ss)) (map (λ (t : Stamped). t.change.pk) (filter (λ t. p t.change.pk) ss))
    go true = refl
    go false = refl

-- the keys of the cells whose keys pass are the keys that pass
pub keys_of_part : (p : Key → Bool) (ss : List Stamped) → keys_of (filter (λ s. p s.change.pk) ss) ≡ filter p (keys_of ss)
keys_of_part p ss =
    let ks : List Key = map (λ s. s.change.pk) ss in
    ap (set_of bytes_cmp) (keys_filter p ss)
    ∙ same_sorted bytes_total bytes_exact (set_of bytes_cmp (filter p ks)) (filter p (set_of bytes_cmp ks))
    (IsStrictlySortedBy-set_of bytes_total bytes_exact (filter p ks))
    (IsStrictlySortedBy-filter _ _ (set_of bytes_cmp ks) (IsStrictlySortedBy-set_of bytes_total bytes_exact ks))
    (λ q. list_any-set_of bytes_total bytes_exact (eq_by_cmp bytes_cmp q) (filter p ks)
    ∙ has-filter bytes_total bytes_exact p ks q
    ∙ ap (λ t. t && p q) (sym (list_any-set_of bytes_total bytes_exact (eq_by_cmp bytes_cmp q) ks))
    ∙ sym (has-filter bytes_total bytes_exact p (set_of bytes_cmp ks) q))

or_last : (a b : Bool) → b ≡ true → (a || b) ≡ true
or_last true b e = refl
or_last false b e = e

or_first : (a b : Bool) → a ≡ true → (a || b) ≡ true
or_first true b e = refl
or_first false b e = absurd cc

any_at : (ks : List Key) (n : ℕ) (b : Key) → n < length ks → b ≡ get_or ks n b → list_any (eq_by_cmp bytes_cmp b) ks ≡ true
any_at [] n b h e = absurd (omega arith)
any_at (k ∷ ks) zero b h e = or_first (eq_by_cmp bytes_cmp b k) (list_any (eq_by_cmp bytes_cmp b) ks) (ap is_eq (ap (bytes_cmp b) (sym e) ∙ tied_itself bytes_total b))
any_at (k ∷ ks) (suc n) b h e = or_last (eq_by_cmp bytes_cmp b k) (list_any (eq_by_cmp bytes_cmp b) ks) (any_at ks n b (omega arith) e)

any_key : (b : Key) (ss : List Stamped) → list_any (eq_by_cmp bytes_cmp b) (map (λ s. s.change.pk) ss) ≡ list_any (λ s. same_bytes b s.change.pk) ss
any_key b [] = refl
any_key b (s ∷ ss) = ap (λ t. same_bytes b s.change.pk || t) (any_key b ss)

-- a key that cells have is the key of one of them
pub key_of_some : (ss : List Stamped) (n : ℕ) (b : Key) → n < length (keys_of ss) → b ≡ get_or (keys_of ss) n b → list_any (λ s. same_bytes b s.change.pk) ss ≡ true
key_of_some ss n b h e =
    sym (any_key b ss) ∙ sym (list_any-set_of bytes_total bytes_exact (eq_by_cmp bytes_cmp b) (map (λ s. s.change.pk) ss)) ∙ any_at (keys_of ss) n b h e

-- ---- the cells of a part

all_pass : (ss : List Stamped) → filter (λ s. up_to None s.change.pk) ss ≡ ss
all_pass [] = refl
all_pass (s ∷ ss) = ap (λ l. s ∷ l) (all_pass ss)

-- nothing is left out where there is no end
pub without_end : (ss : List Stamped) → ss ≡ filter (λ s. up_to None s.change.pk) ss
without_end ss = sym (all_pass ss)

le_split : (o : Ordering) → is_le o ≡ true → (o ≡ Less) ⊎ (o ≡ Equal)
le_split Less e = inl refl
le_split Equal e = inr refl
le_split Greater e = absurd cc

le_trans : (x y z : Key) → is_le (bytes_cmp x y) ≡ true → is_le (bytes_cmp y z) ≡ true → is_le (bytes_cmp x z) ≡ true
le_trans x y z l m =
    elim (le_split (bytes_cmp x y) l) [
      | inl a ↦ elim (le_split (bytes_cmp y z) m) [
        | inl b ↦ ap is_le (bytes_total.trans x y z a b)
        | inr b ↦ subst (λ w. is_le (bytes_cmp x w) ≡ true) (bytes_exact y z b) l
      ]
      | inr a ↦ subst (λ w. is_le (bytes_cmp w z) ≡ true) (sym (bytes_exact x y a)) m
    ]

within : (range : Option Key) (b k : Key) → up_to range b ≡ true → is_le (bytes_cmp k b) ≡ true → up_to range k ≡ true
within None b k h l = refl
within (Some r) b k h l = le_trans k b r l h

choose : (x y r u : Bool) (s : Stamped) (l : List Stamped) → (u ≡ true → r ≡ true) → cond (x && (y && r)) (cond u (s ∷ l) l) l ≡ cond (x && (y && u)) (s ∷ l) l
choose false y r u s l f = refl
choose true false r u s l f = refl
choose true true true u s l f = refl
choose true true false true s l f = let no : false ≡ true = f refl in absurd cc
choose true true false false s l f = refl

-- of the cells from above a key up to another the ones up to a lesser one
pub narrowed : (table : Key) (after range : Option Key) (b : Key) (ss : List Stamped) → up_to range b ≡ true
    → filter (λ s. up_to (Some b) s.change.pk) (filter (is_at table (between after range)) ss) ≡ filter (is_at table (between after (Some b))) ss
narrowed table after range b [] h = refl
narrowed table after range b (s ∷ ss) h =
    opened (is_at table (between after range) s)
    ∙ choose (same_bytes s.change.table table) (above after s.change.pk) (up_to range s.change.pk) (up_to (Some b) s.change.pk) s (filter up more) (within range b s.change.pk h)
    ∙ ap (λ l. cond (is_at table (between after (Some b)) s) (s ∷ l) l) (narrowed table after range b ss h)
  where
    up : Stamped → Bool
    up t = up_to (Some b) t.change.pk

    more : List Stamped
    more = filter (is_at table (between after range)) ss

    opened : (t : Bool) → filter up (cond t (s ∷ more) more) ≡ cond t (filter up (s ∷ more)) (filter up more)
    opened true = refl
    opened false = refl

and_true : (b : Bool) → b ≡ (b && true)
and_true true = refl
and_true false = refl

-- above a key is from above it without an end
pub open_ended : (table : Key) (after : Option Key) (ss : List Stamped) → filter (is_at table (above after)) ss ≡ filter (is_at table (between after None)) ss
open_ended table after [] = refl
open_ended table after (s ∷ ss) =
    ap (λ t. cond (same_bytes s.change.table table && t) (s ∷ filter (is_at table (above after)) ss) (filter (is_at table (above after)) ss)) (and_true (above after s.change.pk))
    ∙ ap (λ l. cond (is_at table (between after None) s) (s ∷ l) l) (open_ended table after ss)

last_of : (x y r : Bool) → (x && (y && r)) ≡ true → r ≡ true
last_of true true r e = e
last_of true false r e = absurd cc
last_of false y r e = absurd cc

-- What is cut off cells from above a key up to another is the page after the key, but where all of them are left and there may be more.
pub page_of_cut : (table : Key) (after range : Option Key) (ss found : List Stamped) (limit : ℕ) (page : Page) → found ≡ filter (is_at table (between after range)) ss → IsCut found limit page
    → (page.bound ≡ None → range ≡ None) → IsPage ss table after limit page
page_of_cut table after range ss found limit page is c last = record { cells_are = go page.bound refl; keys = c.keys }
  where
    in_range : (b : Key) → page.bound ≡ Some b → up_to range b ≡ true
    in_range b e =
        let some = any_gives (λ (s : Stamped). same_bytes b s.change.pk) found (c.bound b e) in
        let of = Among-filter (is_at table (between after range)) ss some.0 (subst (λ l. Among l some.0) is some.1) in
        subst (λ k. up_to range k ≡ true) (sym (bytes_exact b some.0.change.pk (eq_true (bytes_cmp b some.0.change.pk) some.2)))
        (last_of (same_bytes some.0.change.table table) (above after some.0.change.pk) (up_to range some.0.change.pk) of.1)

    go : (bound : Option Key) → page.bound ≡ bound → page.cells.items ≡ filter (is_at table (between after bound)) ss
    go None e = c.cells_are ∙ ap (λ o. filter (λ s. up_to o s.change.pk) found) e ∙ all_pass found ∙ is ∙ ap (λ r. filter (is_at table (between after r)) ss) (last e)
    go (Some b) e = c.cells_are ∙ ap (λ o. filter (λ s. up_to o s.change.pk) found) e ∙ ap (filter (λ s. up_to (Some b) s.change.pk)) is ∙ narrowed table after range b ss (in_range b e)
