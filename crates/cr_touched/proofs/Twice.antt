-- Whether a write gives a key twice is told by looking its keys up.
use Rattle.std.proofs.Common.{◌≡◌, ℕ, Bool, true, false, cond, not, ◌&&◌, ◌||◌, map, List, [], ◌∷◌, ◌++◌, refl, sym, ap, ◌∙◌}
use Rattle.std.specs.Prelude.{filter}
use Rattle.std.specs.List.{list_any}
use Rattle.std.specs.Cmp.{eq_by_cmp_equiv}
use Rattle.std.proofs.lemmas.List.{map-append}
use Rattle.std.proofs.lemmas.List.Folds.{list_any-append}
use Rattle.cr_value.specs.OrderLaws.{bytes_total, bytes_exact}
use Rattle.cr_lattice.specs.Check.{same_bytes}
use Rattle.cr_lattice.proofs.Tested.{or_false}
use Rattle.cr_lattice.proofs.SortedSets.{has-filter}
use Rattle.cr_delta.specs.Key.{key_of}
use Rattle.cr_query.specs.Writes.{repeats, has_twice}
use Rattle.cr_touched.specs.Parts.{keys_of, is_key_of}
use Rattle.cr_touched.specs.Touched.{stays, KeysByLookUps}

abbrev Keys : Type 0
Keys = List (List ℕ)

same_back : (x y : List ℕ) → same_bytes x y ≡ same_bytes y x
same_back x y = (eq_by_cmp_equiv bytes_total).symm x y

any_or : {X : Type 0} (f g : X → Bool) (xs : List X) → list_any (λ x. f x || g x) xs ≡ (list_any f xs || list_any g xs)
any_or f g [] = refl
any_or f g (x ∷ xs) = ap (λ b. (f x || g x) || b) (any_or f g xs) ∙ mix (f x) (g x) (list_any f xs) (list_any g xs) where
  mix : (a b c d : Bool) → ((a || b) || (c || d)) ≡ ((a || c) || (b || d))
  mix true b c d = refl
  mix false true true d = refl
  mix false true false d = refl
  mix false false c d = refl

any_none : {X : Type 0} (xs : List X) → list_any (λ x. false) xs ≡ false
any_none [] = refl
any_none (x ∷ xs) = any_none xs

any_same : {X : Type 0} (f g : X → Bool) → ((x : X) → f x ≡ g x) → (xs : List X) → list_any f xs ≡ list_any g xs
any_same f g h xs = λ i. list_any (λ x. h x i) xs

or_swap : (a b c : Bool) → (a || (b || c)) ≡ (b || (a || c))
or_swap true true c = refl
or_swap true false c = refl
or_swap false b c = refl

or_none : (b : Bool) → b ≡ (b || false)
or_none true = refl
or_none false = refl

-- keys that stand once, and others
pub repeats-append : (ks ls : Keys) → repeats ks ≡ false → repeats (ks ++ ls) ≡ (repeats ls || list_any (is_key_of ks) ls)
repeats-append [] ls h = or_none (repeats ls) ∙ ap (λ b. repeats ls || b) (sym (any_none ls))
repeats-append (k ∷ ks) ls h =
    let p = or_false (list_any (same_bytes k) ks) (repeats ks) h in
    let ih = repeats-append ks ls p.1 in
    ap (λ b. b || repeats (ks ++ ls)) (list_any-append (same_bytes k) ks ls ∙ ap (λ b. b || list_any (same_bytes k) ls) p.0)
    ∙ ap (λ b. list_any (same_bytes k) ls || b) ih
    ∙ or_swap (list_any (same_bytes k) ls) (repeats ls) (list_any (is_key_of ks) ls)
    ∙ ap (λ b. repeats ls || (b || list_any (is_key_of ks) ls)) (any_same (same_bytes k) (λ l. same_bytes l k) (λ l. same_back k l) ls)
    ∙ ap (λ b. repeats ls || b) (sym (any_or (λ l. same_bytes l k) (is_key_of ks) ls))

-- fewer keys stand once, too
repeats-filter : (p : List ℕ → Bool) (ks : Keys) → repeats ks ≡ false → repeats (filter p ks) ≡ false
repeats-filter p [] h = refl
repeats-filter p (k ∷ ks) h =
    let q = or_false (list_any (same_bytes k) ks) (repeats ks) h in
    let rest = repeats-filter p ks q.1 in
    let none : list_any (same_bytes k) (filter p ks) ≡ false = has-filter bytes_total bytes_exact p ks k ∙ ap (λ b. b && p k) q.0 in
    elim (p k) as (λ b. repeats (cond b (k ∷ filter p ks) (filter p ks)) ≡ false) [
      | true ↦ ap (λ b. b || repeats (filter p ks)) none ∙ rest
      | false ↦ rest
    ]

pub map-filter : {X Y : Type 0} (f : X → Y) (p : Y → Bool) (xs : List X) → map f (filter (λ x. p (f x)) xs) ≡ filter p (map f xs)
map-filter f p [] = refl
map-filter f p (x ∷ xs) =
    elim (p (f x)) as (λ b. map f (cond b (x ∷ filter (λ x. p (f x)) xs) (filter (λ x. p (f x)) xs)) ≡ cond b (f x ∷ filter p (map f xs)) (filter p (map f xs))) [
      | true ↦ ap (λ l. f x ∷ l) (map-filter f p xs)
      | false ↦ map-filter f p xs
    ]

pub keys_by_look_ups : KeysByLookUps
unfolding has_twice
keys_by_look_ups def rows before after once =
    let staying : List ℕ → Bool = λ pk. not (is_key_of (keys_of def before) pk) in
    let ks = map (key_of def) rows in
    let new = keys_of def after in
    ap repeats (map-append (key_of def) (filter (stays def before) rows) after ∙ ap (λ l. l ++ new) (map-filter (key_of def) staying rows))
    ∙ repeats-append (filter staying ks) new (repeats-filter staying ks once)
    ∙ ap (λ b. repeats new || b) (any_same (is_key_of (filter staying ks)) (λ pk. is_key_of ks pk && staying pk) (λ pk. has-filter bytes_total bytes_exact staying ks pk) new)
