-- The members of a world and the sessions of a fleet, place by place.
use Rattle.std.proofs.Common.{◌≡◌, ◌≤◌, ℕ, zero, suc, ◌+◌, ◌<◌, arith, Bool, not, ◌||◌, cond, List, [], ◌∷◌, ◌++◌, Some, None, refl, sym, ap, subst, ◌∙◌, map, position, length, nat_lt, slice_get, slice_set, get_or}
use Rattle.std.specs.List.{AllByRecursion, list_any, position_or_len}
use Rattle.std.proofs.lemmas.List.{length-map}
use Rattle.std.proofs.lemmas.Option.{slice_get-get_or}
use Rattle.cr_fleet.specs.declared.fleet.Named.{Named}
use Rattle.cr_world.specs.State.{State}
use Rattle.cr_world.specs.World.{Member, Keeps, changed_at}
use Rattle.cr_session.specs.Sessions.{SessionOf}
use Rattle.cr_fleet.specs.Fleets.{FleetOf, seen, name_and_state}

-- ---- a list and what is made of it

pub map_set : {X Y : Type 0} (f : X → Y) (xs : List X) (i : ℕ) (x : X) → map f (slice_set xs i x) ≡ slice_set (map f xs) i (f x)
map_set f [] i x = refl
map_set f (y ∷ ys) zero x = refl
map_set f (y ∷ ys) (suc i) x = ap (λ l. f y ∷ l) (map_set f ys i x)

pub map_any : {X Y : Type 0} (f : X → Y) (p : Y → Bool) (xs : List X) → list_any p (map f xs) ≡ list_any (λ x. p (f x)) xs
map_any f p [] = refl
map_any f p (x ∷ xs) = ap (λ b. p (f x) || b) (map_any f p xs)

pub map_append : {X Y : Type 0} (f : X → Y) (xs ys : List X) → map f (xs ++ ys) ≡ map f xs ++ map f ys
map_append f [] ys = refl
map_append f (x ∷ xs) ys = ap (λ l. f x ∷ l) (map_append f xs ys)

pub all_map : {X Y : Type 0} (f : X → Y) (P : Y → Type 0) (xs : List X) → AllByRecursion P (map f xs) → AllByRecursion (λ x. P (f x)) xs
all_map f P [] a = tt
all_map f P (x ∷ xs) a = (a.0, all_map f P xs a.1)

pub all_append : {X : Type 0} (P : X → Type 0) (xs ys : List X) → AllByRecursion P xs → AllByRecursion P ys → AllByRecursion P (xs ++ ys)
all_append P [] ys a b = b
all_append P (x ∷ xs) ys a b = (a.0, all_append P xs ys a.1 b)

pub all_front : {X : Type 0} (P : X → Type 0) (xs ys : List X) → AllByRecursion P (xs ++ ys) → AllByRecursion P xs
all_front P [] ys a = tt
all_front P (x ∷ xs) ys a = (a.0, all_front P xs ys a.1)

pub all_last : {X : Type 0} (P : X → Type 0) (xs : List X) (y : X) → AllByRecursion P (xs ++ y ∷ []) → P y
all_last P [] y a = a.0
all_last P (x ∷ xs) y a = all_last P xs y a.1

pub all_at : {X : Type 0} (P : X → Type 0) (xs : List X) (i : ℕ) (x : X) → AllByRecursion P xs → slice_get xs i ≡ Some x → P x
all_at P [] i x a e = absurd (let q : ⊥ = cc in q)
all_at P (y ∷ ys) zero x a e = subst P (let q : y ≡ x = cc in q) a.0
all_at P (y ∷ ys) (suc i) x a e = all_at P ys i x a.1 e

-- one item is another
pub all_set : {X : Type 0} (P : X → Type 0) (xs : List X) (i : ℕ) (x x' : X) → AllByRecursion P (slice_set xs i x') → slice_get xs i ≡ Some x → P x'
all_set P [] i x x' a e = absurd (let q : ⊥ = cc in q)
all_set P (y ∷ ys) zero x x' a e = a.0
all_set P (y ∷ ys) (suc i) x x' a e = all_set P ys i x x' a.1 e

pub all_before : {X : Type 0} (P : X → Type 0) (xs : List X) (i : ℕ) (x x' : X) → AllByRecursion P (slice_set xs i x') → slice_get xs i ≡ Some x → (P x' → P x) → AllByRecursion P xs
all_before P [] i x x' a e f = tt
all_before P (y ∷ ys) zero x x' a e f = (subst P (let q : x ≡ y = cc in q) (f a.0), a.1)
all_before P (y ∷ ys) (suc i) x x' a e f = (a.0, all_before P ys i x x' a.1 e f)

pub all_after : {X : Type 0} (P : X → Type 0) (xs : List X) (i : ℕ) (x x' : X) → AllByRecursion P xs → slice_get xs i ≡ Some x → (P x → P x') → AllByRecursion P (slice_set xs i x')
all_after P [] i x x' a e f = tt
all_after P (y ∷ ys) zero x x' a e f = (f (subst P (let q : y ≡ x = cc in q) a.0), a.1)
all_after P (y ∷ ys) (suc i) x x' a e f = (a.0, all_after P ys i x x' a.1 e f)

pub some_within : {X : Type 0} (xs : List X) (i : ℕ) → i < length xs → (x : X) × (slice_get xs i ≡ Some x)
some_within [] i h = absurd (omega (arith, h))
some_within (y ∷ ys) zero h = (y, refl)
some_within (y ∷ ys) (suc i) h = some_within ys i (omega (arith, h))

pub within : {X : Type 0} (xs : List X) (i : ℕ) (x : X) → slice_get xs i ≡ Some x → i < length xs
within [] i x e = absurd (let q : ⊥ = cc in q)
within (y ∷ ys) zero x e = omega arith
within (y ∷ ys) (suc i) x e = let h = within ys i x e in omega (arith, h)

pub set_there : {X : Type 0} (xs : List X) (i : ℕ) (x x' : X) → slice_get xs i ≡ Some x → slice_get (slice_set xs i x') i ≡ Some x'
set_there [] i x x' e = absurd (let q : ⊥ = cc in q)
set_there (y ∷ ys) zero x x' e = refl
set_there (y ∷ ys) (suc i) x x' e = set_there ys i x x' e

-- ---- where something is found

prefix_map : {X Y : Type 0} (f : X → Y) (p : Y → Bool) (xs : List X) → position_or_len p (map f xs) ≡ position_or_len (λ x. p (f x)) xs
prefix_map f p [] = refl
prefix_map f p (x ∷ xs) = ap (λ n. cond (not (p (f x))) (1 + n) 0) (prefix_map f p xs)

pub position_map : {X Y : Type 0} (f : X → Y) (p : Y → Bool) (xs : List X) → position p (map f xs) ≡ position (λ x. p (f x)) xs
position_map f p xs = (λ i. cond (nat_lt (prefix_map f p xs i) (length-map xs f i)) (Some (prefix_map f p xs i)) None)

-- what a look-up through a reference finds
pub found_there : {X : Type 0} (there items : List X) (i : ℕ) (x : X) → there ≡ items → i < length there → x ≡ get_or there i x → slice_get items i ≡ Some x
found_there {X} there items i x e h g = subst (λ (xs : List X). slice_get xs i ≡ Some x) e (slice_get-get_or there i x h ∙ ap Some (sym g))

none_past : {X : Type 0} (xs : List X) (i : ℕ) → length xs ≤ i → slice_get xs i ≡ None
none_past [] i h = refl
none_past (y ∷ ys) zero h = absurd (omega (arith, h))
none_past (y ∷ ys) (suc i) h = none_past ys i (omega (arith, h))

pub none_found : {X : Type 0} (there items : List X) (i : ℕ) → there ≡ items → length there ≤ i → slice_get items i ≡ None
none_found {X} there items i e h = subst (λ (xs : List X). slice_get xs i ≡ None) e (none_past there i h)

-- ---- members and sessions

-- a named session
abbrev pub pair : {C : Type 0} → Named C → List ℕ × SessionOf C
pair n = (n.name, n.session)

module _ {C : Type 0} (stands : C → State) where
  pub same_at : (ms : List Member) (rs : List (List ℕ × C)) (i : ℕ) (r : List ℕ × C) → map name_and_state ms ≡ map (seen stands) rs → slice_get rs i ≡ Some r
      → (m : Member) × (slice_get ms i ≡ Some m) × (name_and_state m ≡ seen stands r)
  same_at [] [] i r e g = absurd (let q : ⊥ = cc in q)
  same_at [] (x ∷ xs) i r e g = absurd (let q : ⊥ = cc in q)
  same_at (m ∷ ms) [] i r e g = absurd (let q : ⊥ = cc in q)
  same_at (m ∷ ms) (x ∷ xs) zero r e g = (m, refl, (let h : name_and_state m ≡ seen stands x = cc in let q : x ≡ r = cc in h ∙ ap (seen stands) q))
  same_at (m ∷ ms) (x ∷ xs) (suc i) r e g = same_at ms xs i r (let t : map name_and_state ms ≡ map (seen stands) xs = cc in t) g

  pub none_at : (ms : List Member) (rs : List (List ℕ × C)) (i : ℕ) → map name_and_state ms ≡ map (seen stands) rs → slice_get rs i ≡ None → slice_get ms i ≡ None
  none_at [] rs i e g = refl
  none_at (m ∷ ms) [] i e g = absurd (let q : ⊥ = cc in q)
  none_at (m ∷ ms) (x ∷ xs) zero e g = absurd (let q : ⊥ = cc in q)
  none_at (m ∷ ms) (x ∷ xs) (suc i) e g = none_at ms xs i (let t : map name_and_state ms ≡ map (seen stands) xs = cc in t) g

  pub set_at : (f : Member → Member) (ms : List Member) (rs : List (List ℕ × C)) (i : ℕ) (m : Member) (r : List ℕ × C) → map name_and_state ms ≡ map (seen stands) rs → slice_get ms i ≡ Some m
      → name_and_state (f m) ≡ seen stands r → map name_and_state (changed_at i f ms) ≡ map (seen stands) (slice_set rs i r)
  set_at f [] [] i m r e g s = refl
  set_at f [] (x ∷ xs) i m r e g s = absurd (let q : ⊥ = cc in q)
  set_at f (n ∷ ms) [] i m r e g s = absurd (let q : ⊥ = cc in q)
  set_at f (n ∷ ms) (x ∷ xs) zero m r e g s =
      let q : m ≡ n = cc in
      let h : name_and_state (f n) ≡ seen stands r = subst (λ (k : Member). name_and_state (f k) ≡ seen stands r) q s in
      let t : map name_and_state ms ≡ map (seen stands) xs = cc in
      cc
  set_at f (n ∷ ms) (x ∷ xs) (suc i) m r e g s =
      let h : name_and_state n ≡ seen stands x = cc in
      let t : map name_and_state ms ≡ map (seen stands) xs = cc in
      let u : map name_and_state (changed_at i f ms) ≡ map (seen stands) (slice_set xs i r) = set_at f ms xs i m r t g s in
      cc

  -- a session that stands where it stood is the same to a world
  pub stays_at : (rs : List (List ℕ × C)) (i : ℕ) (r r' : List ℕ × C) → slice_get rs i ≡ Some r → seen stands r' ≡ seen stands r → map (seen stands) (slice_set rs i r') ≡ map (seen stands) rs
  stays_at [] i r r' g s = refl
  stays_at (x ∷ xs) zero r r' g s = let q : r ≡ x = cc in ap (λ h. h ∷ map (seen stands) xs) (s ∙ ap (seen stands) q)
  stays_at (x ∷ xs) (suc i) r r' g s = ap (λ l. seen stands x ∷ l) (stays_at xs i r r' g s)

pub keeps_set : (f : Member → Member) (ms : List Member) (i : ℕ) (m : Member) → AllByRecursion Keeps ms → slice_get ms i ≡ Some m → Keeps (f m) → AllByRecursion Keeps (changed_at i f ms)
keeps_set f [] i m a g k = tt
keeps_set f (n ∷ ms) zero m a g k = (subst (λ (x : Member). Keeps (f x)) (let q : m ≡ n = cc in q) k, a.1)
keeps_set f (n ∷ ms) (suc i) m a g k = (a.0, keeps_set f ms i m a.1 g k)

-- the sessions with one more, which is in use
pub one_more_there : {C : Type 0} (items new : List (Named C)) (at : ℕ) (n : Named C) (name : List ℕ) → new ≡ items ++ n ∷ [] → n.name ≡ name → at ≡ length items
    → ◌≡◌ {A = FleetOf (SessionOf C)} (map pair new, Some at) (map pair items ++ (name, n.session) ∷ [], Some (length (map pair items)))
one_more_there {C} items new at n name pushed named place =
    let there : map pair new ≡ map pair items ++ (name, n.session) ∷ [] = ap (map pair) pushed ∙ map_append pair items (n ∷ []) ∙ (λ i. map pair items ++ (named i, n.session) ∷ []) in
    let last : at ≡ length (map pair items) = place ∙ sym (length-map items pair) in
    (λ i. (there i, Some (last i)))
