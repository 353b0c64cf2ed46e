-- The places of a key that is listed behind the columns: each from 1 to their number is one column's.
use Rattle.std.proofs.Common.{◌≡◌, refl, sym, ap, ◌∙◌, ℕ, zero, suc, ◌+◌, ◌<◌, ◌==◌, Bool, true, false, not, ◌||◌, List, [], ◌∷◌, ◌++◌, length, Option, Some, None, if◌then◌else◌, arith}
use Rattle.std.specs.Prelude.{cond, position}
use Rattle.std.specs.Option.{option_map, option_map_or, is_some}
use Rattle.std.specs.List.{list_any}
use Rattle.std.specs.Str.{bytes_eq}
use Rattle.std.proofs.lemmas.Bool.Decides.{nat_tests}
use Rattle.std.proofs.lemmas.Slice.Eq.{bytes_eq-Decides}
use Rattle.cr_questions.specs.Questions.{Name}
use Rattle.cr_resolve.specs.declared.refusal.Refusal.TheVariants.{AmbiguousColumn, NoSuchColumn}
use Rattle.cr_resolve.specs.Reading.{when}
use Rattle.cr_resolve.specs.Creates.{repeats, missing}
use Rattle.cr_fit.proofs.Counting.{count, count_same, count_none, count_either, none_counted, place_cons}

-- ---- lists of complaints

pub when_none : {A : Type 0} (b : Bool) (x : A) → when b x ≡ [] → b ≡ false
when_none true x e = absurd (let z : ⊥ = cc in z)
when_none false x e = refl

pub both_none : {A : Type 0} (xs ys : List A) → xs ++ ys ≡ [] → (xs ≡ []) × (ys ≡ [])
both_none [] ys e = (refl, e)
both_none (x ∷ xs) ys e = absurd (let z : ⊥ = cc in z)

neither : (b c : Bool) → (b || c) ≡ false → (b ≡ false) × (c ≡ false)
neither true c e = absurd (let z : ⊥ = cc in z)
neither false c e = (refl, e)

-- ---- names

pub same : (m n : Name) → bytes_eq m n ≡ true → m ≡ n
same m n e = (bytes_eq-Decides m n).0 e

pub itself : (m : Name) → bytes_eq m m ≡ true
itself m = (bytes_eq-Decides m m).1 refl

pub turned : (m n : Name) → bytes_eq m n ≡ bytes_eq n m
turned m n = by (bytes_eq m n) (bytes_eq n m) refl refl
  where
    by : (b c : Bool) → bytes_eq m n ≡ b → bytes_eq n m ≡ c → b ≡ c
    by true true e f = refl
    by false false e f = refl
    by true false e f = absurd (let z : true ≡ false = sym (ap (bytes_eq n) (same m n e) ∙ itself n) ∙ f in let y : ⊥ = cc in y)
    by false true e f = absurd (let z : true ≡ false = sym (ap (bytes_eq m) (same n m f) ∙ itself m) ∙ e in let y : ⊥ = cc in y)

-- none of these is one of those
abbrev pub Apart : List Name → List Name → Type 0
Apart before [] = Unit {0}
Apart before (n ∷ ns) = (list_any (bytes_eq n) before ≡ false) × Apart before ns

-- no name stands twice
abbrev pub Fresh : List Name → Type 0
Fresh [] = Unit {0}
Fresh (n ∷ ns) = (list_any (bytes_eq n) ns ≡ false) × Fresh ns

apart_one : (m : Name) (before ns : List Name) → Apart (m ∷ before) ns → Apart before ns × (list_any (bytes_eq m) ns ≡ false)
apart_one m before [] a = (tt, refl)
apart_one m before (n ∷ ns) a =
    let here = neither (bytes_eq n m) (list_any (bytes_eq n) before) a.0 in
    let rest = apart_one m before ns a.1 in
    ((here.1, rest.0), ap (λ b. b || list_any (bytes_eq m) ns) (turned m n ∙ here.0) ∙ rest.1)

not_repeated : (before ns : List Name) → repeats before ns ≡ [] → Apart before ns × Fresh ns
not_repeated before [] e = (tt, tt)
not_repeated before (n ∷ ns) e =
    let parts = both_none (when (list_any (bytes_eq n) before) (AmbiguousColumn n)) (repeats (n ∷ before) ns) e in
    let rest = not_repeated (n ∷ before) ns parts.1 in
    let others = apart_one n before ns rest.0 in
    ((when_none (list_any (bytes_eq n) before) (AmbiguousColumn n) parts.0, others.0), (others.1, rest.1))

pub fresh : (ns : List Name) → repeats [] ns ≡ [] → Fresh ns
fresh ns e = (not_repeated [] ns e).1

-- each stands among these
abbrev pub AreOf : List Name → List Name → Type 0
AreOf names [] = Unit {0}
AreOf names (n ∷ ns) = (list_any (bytes_eq n) names ≡ true) × AreOf names ns

of_by : (names ns : List Name) (n : Name) (b : Bool) → list_any (bytes_eq n) names ≡ b → (missing names ns ≡ [] → AreOf names ns) → when (not b) (NoSuchColumn n) ++ missing names ns ≡ [] → AreOf names (n ∷ ns)
of_by names ns n true f more e = (f, more e)
of_by names ns n false f more e = absurd (let z : ⊥ = cc in z)

pub are_of : (names ns : List Name) → missing names ns ≡ [] → AreOf names ns
are_of names [] e = tt
are_of names (n ∷ ns) e = of_by names ns n (list_any (bytes_eq n) names) refl (are_of names ns) e

-- ---- places

abbrev pub place : List Name → Name → Option ℕ
place names n = position (bytes_eq n) names

abbrev pub is_listed : List Name → Name → Bool
is_listed names n = is_some (place names n)

abbrev pub is_at : ℕ → Option ℕ → Bool
is_at j o = option_map_or (λ p. p == j) o false

map_some : (o : Option ℕ) → is_some (option_map suc o) ≡ is_some o
map_some (Some x) = refl
map_some None = refl

listed_cons : (m : Name) (ms : List Name) (n : Name) → is_listed (m ∷ ms) n ≡ (bytes_eq n m || is_listed ms n)
listed_cons m ms n = ap (λ (o : Option ℕ). is_some o) (place_cons (bytes_eq n) m ms) ∙ by (bytes_eq n m)
  where
    by : (b : Bool) → is_some (if b then Some 0 else option_map suc (place ms n)) ≡ (b || is_listed ms n)
    by true = refl
    by false = map_some (place ms n)

-- a name that is none of these is not listed
not_listed : (ms : List Name) (n : Name) → list_any (bytes_eq n) ms ≡ false → place ms n ≡ None
not_listed [] n e = refl
not_listed (m ∷ ms) n e =
    let parts = neither (bytes_eq n m) (list_any (bytes_eq n) ms) e in
    place_cons (bytes_eq n) m ms ∙ ap (λ b. if b then Some 0 else option_map suc (place ms n)) parts.0 ∙ ap (option_map suc) (not_listed ms n parts.1)

-- the first of them is not listed again
first_once : (m : Name) (ms : List Name) → list_any (bytes_eq m) ms ≡ false → (n : Name) → bytes_eq n m ≡ true → place ms n ≡ None
first_once m ms e n f = ap (place ms) (same n m f) ∙ not_listed ms m e

others : (c : Name) (xs : List Name) → list_any (bytes_eq c) xs ≡ false → list_any (λ n. bytes_eq n c) xs ≡ false
others c [] i = refl
others c (x ∷ xs) i = let parts = neither (bytes_eq c x) (list_any (bytes_eq c) xs) i in ap (λ b. b || list_any (λ n. bytes_eq n c) xs) (turned x c ∙ parts.0) ∙ others c xs parts.1

one_by : (m c : Name) (cs : List Name) (b : Bool) → bytes_eq m c ≡ b → list_any (bytes_eq c) cs ≡ false → (list_any (bytes_eq m) cs ≡ true → count (λ n. bytes_eq n m) cs ≡ 1)
    → (b || list_any (bytes_eq m) cs) ≡ true → count (λ n. bytes_eq n m) (c ∷ cs) ≡ 1
one_by m c cs true g alone more h =
    let none : list_any (λ n. bytes_eq n m) cs ≡ false = ap (λ (k : Name). list_any (λ n. bytes_eq n k) cs) (same m c g) ∙ others c cs alone in
    ap (λ b. cond b (suc (count (λ n. bytes_eq n m) cs)) (count (λ n. bytes_eq n m) cs)) (turned c m ∙ g) ∙ ap suc (none_counted (λ n. bytes_eq n m) cs none)
one_by m c cs false g alone more h = ap (λ b. cond b (suc (count (λ n. bytes_eq n m) cs)) (count (λ n. bytes_eq n m) cs)) (turned c m ∙ g) ∙ more h

-- among columns of which each has a name of its own, one has this name
pub one_named : (m : Name) (cs : List Name) → Fresh cs → list_any (bytes_eq m) cs ≡ true → count (λ n. bytes_eq n m) cs ≡ 1
one_named m [] f e = absurd (let z : ⊥ = cc in z)
one_named m (c ∷ cs) f e = one_by m c cs (bytes_eq m c) refl f.0 (one_named m cs f.1) e

one_longer : (a b : ℕ) → a ≡ b → 1 + a ≡ suc b
one_longer a b e = omega (arith, e)

-- as many columns are listed as names
pub listed_count : (cs names : List Name) → Fresh cs → Fresh names → AreOf cs names → count (is_listed names) cs ≡ length names
listed_count cs [] f g a = count_none (is_listed []) (λ n. refl) cs
listed_count cs (m ∷ ms) f g a =
    count_same (is_listed (m ∷ ms)) (λ n. bytes_eq n m || is_listed ms n) (listed_cons m ms) cs
    ∙ count_either (λ n. bytes_eq n m) (is_listed ms) (λ n e. ap (λ (o : Option ℕ). is_some o) (first_once m ms g.0 n e)) cs
    ∙ ap (λ k. k + count (is_listed ms) cs) (one_named m cs f a.0) ∙ one_longer (count (is_listed ms) cs) (length ms) (listed_count cs ms f g.1 a.1)

pub same_suc : (x j : ℕ) → (suc x == suc j) ≡ (x == j)
same_suc x j = grind (arith, nat_tests)

not_first : (x : ℕ) → (suc x == 0) ≡ false
not_first x = grind (arith, nat_tests)

none_first : (j : ℕ) → (0 == suc j) ≡ false
none_first j = grind (arith, nat_tests)

at_cons : (m : Name) (ms : List Name) → list_any (bytes_eq m) ms ≡ false → (j : ℕ) (n : Name) → is_at (suc j) (place (m ∷ ms) n) ≡ is_at j (place ms n)
at_cons m ms e j n = ap (is_at (suc j)) (place_cons (bytes_eq n) m ms) ∙ by (bytes_eq n m) refl
  where
    moved : (o : Option ℕ) → is_at (suc j) (option_map suc o) ≡ is_at j o
    moved (Some x) = same_suc x j
    moved None = refl

    by : (b : Bool) → bytes_eq n m ≡ b → is_at (suc j) (if b then Some 0 else option_map suc (place ms n)) ≡ is_at j (place ms n)
    by true f = none_first j ∙ sym (ap (is_at j) (first_once m ms e n f))
    by false f = moved (place ms n)

at_first : (m : Name) (ms : List Name) (n : Name) → is_at 0 (place (m ∷ ms) n) ≡ bytes_eq n m
at_first m ms n = ap (is_at 0) (place_cons (bytes_eq n) m ms) ∙ by (bytes_eq n m)
  where
    moved : (o : Option ℕ) → is_at 0 (option_map suc o) ≡ false
    moved (Some x) = not_first x
    moved None = refl

    by : (b : Bool) → is_at 0 (if b then Some 0 else option_map suc (place ms n)) ≡ b
    by true = refl
    by false = moved (place ms n)

-- each place is one column's
pub each_place : (cs names : List Name) → Fresh cs → Fresh names → AreOf cs names → (j : ℕ) → j < length names → count (λ n. is_at j (place names n)) cs ≡ 1
each_place cs [] f g a j h = absurd (omega (arith, h))
each_place cs (m ∷ ms) f g a zero h = count_same (λ n. is_at 0 (place (m ∷ ms) n)) (λ n. bytes_eq n m) (at_first m ms) cs ∙ one_named m cs f a.0
each_place cs (m ∷ ms) f g a (suc j) h =
    count_same (λ n. is_at (suc j) (place (m ∷ ms) n)) (λ n. is_at j (place ms n)) (at_cons m ms g.0 j) cs ∙ each_place cs ms f g.1 a.1 j (omega (arith, h))
