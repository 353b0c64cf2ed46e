-- Lists of options, and what holds of all of a list's members.
use Rattle.std.proofs.Common.{◌≡◌, ℕ, zero, suc, Bool, true, false, ◌||◌, List, [], ◌∷◌, ◌++◌, map, take, length, refl, ap}
use Rattle.std.specs.Prelude.{get_or}
use Rattle.std.specs.List.{AllByRecursion, list_any, flat_map}

pub both : {A B C : Type 0} (f : A → B → C) (a a' : A) (b b' : B) → a ≡ a' → b ≡ b' → f a b ≡ f a' b'
both f a a' b b' p q = λ i. f (p i) (q i)

pub three : {A B C D : Type 0} (f : A → B → C → D) (a a' : A) (b b' : B) (c c' : C) → a ≡ a' → b ≡ b' → c ≡ c' → f a b c ≡ f a' b' c'
three f a a' b b' c c' p q r = λ i. f (p i) (q i) (r i)

-- ---- all members

pub all_left : {X : Type 0} (P : X → Type 0) (xs ys : List X) → AllByRecursion P (xs ++ ys) → AllByRecursion P xs
all_left P [] ys h = tt
all_left P (x ∷ xs) ys h = (h.0, all_left P xs ys h.1)

pub all_right : {X : Type 0} (P : X → Type 0) (xs ys : List X) → AllByRecursion P (xs ++ ys) → AllByRecursion P ys
all_right P [] ys h = h
all_right P (x ∷ xs) ys h = all_right P xs ys h.1

or_first : (a b : Bool) → (a || b) ≡ false → a ≡ false
or_first true b e = e
or_first false b e = refl

or_second : (a b : Bool) → (a || b) ≡ false → b ≡ false
or_second true b e = absurd (let q : ⊥ = cc in q)
or_second false b e = e

pub none_are : {X : Type 0} (f : X → Bool) (xs : List X) → list_any f xs ≡ false → AllByRecursion (λ x. f x ≡ false) xs
none_are f [] e = tt
none_are f (x ∷ xs) e = (or_first (f x) (list_any f xs) e, none_are f xs (or_second (f x) (list_any f xs) e))

-- what holds of each part holds of each part of each
pub all_parts : {X Y : Type 0} (P : Y → Type 0) (f : X → List Y) (xs : List X) → AllByRecursion P (flat_map f xs) → AllByRecursion (λ x. AllByRecursion P (f x)) xs
all_parts P f [] h = tt
all_parts P f (x ∷ xs) h = (all_left P (f x) (flat_map f xs) h, all_parts P f xs (all_right P (f x) (flat_map f xs) h))

-- ---- maps

pub map_same : {X Y : Type 0} (f g : X → Y) (xs : List X) → AllByRecursion (λ x. f x ≡ g x) xs → map f xs ≡ map g xs
map_same f g [] h = refl
map_same f g (x ∷ xs) h = λ i. h.0 i ∷ map_same f g xs h.1 i

pub map_map : {X Y Z : Type 0} (f : X → Y) (g : Y → Z) (h : X → Z) → ((x : X) → g (f x) ≡ h x) → (xs : List X) → map g (map f xs) ≡ map h xs
map_map f g h e [] = refl
map_map f g h e (x ∷ xs) = λ i. e x i ∷ map_map f g h e xs i

pub map_one : {X : Type 0} (f : X → X) → ((x : X) → f x ≡ x) → (xs : List X) → map f xs ≡ xs
map_one f e [] = refl
map_one f e (x ∷ xs) = λ i. e x i ∷ map_one f e xs i

pub flat_map_map : {X Y Z : Type 0} (f : X → Y) (g : Y → List Z) (h : X → List Z) → ((x : X) → g (f x) ≡ h x) → (xs : List X) → flat_map g (map f xs) ≡ flat_map h xs
flat_map_map f g h e [] = refl
flat_map_map f g h e (x ∷ xs) = λ i. e x i ++ flat_map_map f g h e xs i

pub any_map : {X Y : Type 0} (f : X → Y) (g : Y → Bool) (h : X → Bool) → ((x : X) → g (f x) ≡ h x) → (xs : List X) → list_any g (map f xs) ≡ list_any h xs
any_map f g h e [] = refl
any_map f g h e (x ∷ xs) = λ i. e x i || any_map f g h e xs i

pub take_map : {X Y : Type 0} (f : X → Y) (n : ℕ) (xs : List X) → map f (take n xs) ≡ take n (map f xs)
take_map f zero xs = refl
take_map f (suc n) [] = refl
take_map f (suc n) (x ∷ xs) = ap (λ ys. f x ∷ ys) (take_map f n xs)

pub get_map : {X Y : Type 0} (f : X → Y) (xs : List X) (n : ℕ) (d : X) → get_or (map f xs) n (f d) ≡ f (get_or xs n d)
get_map f [] n d = refl
get_map f (x ∷ xs) zero d = refl
get_map f (x ∷ xs) (suc n) d = get_map f xs n d

pub length_map : {X Y : Type 0} (f : X → Y) (xs : List X) → length (map f xs) ≡ length xs
length_map f [] = refl
length_map f (x ∷ xs) = ap suc (length_map f xs)
