-- Names that stand before themselves: which of those before comes first does not matter.
use Rattle.std.proofs.Common.{◌≡◌, ◌∙◌, ℕ, ◌+◌, ◌<◌, Bool, true, false, ◌||◌, List, [], ◌∷◌, ◌++◌, length, take, drop, get_or, Some, refl, sym, ap}
use Rattle.std.specs.List.{list_any}
use Rattle.std.specs.Str.{bytes_eq}
use Rattle.std.proofs.lemmas.List.{take_more}
use Rattle.std.proofs.lemmas.List.Folds.{list_any-append}
use Rattle.cr_questions.specs.Questions.{Name}
use Rattle.cr_resolve.specs.declared.refusal.Refusal.{Refusal}
use Rattle.cr_resolve.specs.declared.refusal.Refusal.TheVariants.{AmbiguousColumn}
use Rattle.cr_resolve.specs.Reading.{when}
use Rattle.cr_resolve.specs.Told.{first}
use Rattle.cr_resolve.specs.Creates.{repeats}
use Rattle.cr_resolve.proofs.InSight.{rest_at}

abbrev Alike : List Name → List Name → Type 0
Alike xs ys = (n : Name) → list_any (bytes_eq n) xs ≡ list_any (bytes_eq n) ys

-- the same names stand before, in another order
repeats_alike : (ns xs ys : List Name) → Alike xs ys → repeats xs ns ≡ repeats ys ns
repeats_alike [] xs ys same = refl
repeats_alike (n ∷ ns) xs ys same =
    (λ i. when (same n i) (AmbiguousColumn n) ++ repeats (n ∷ xs) ns)
    ∙ ap (λ (fs : List Refusal). when (list_any (bytes_eq n) ys) (AmbiguousColumn n) ++ fs) (repeats_alike ns (n ∷ xs) (n ∷ ys) (λ m. ap (λ b. bytes_eq m n || b) (same m)))

turned : (a b : Bool) → (a || b) ≡ (b || (a || false))
turned true true = refl
turned true false = refl
turned false true = refl
turned false false = refl

-- the last of those before stands at their end as well
pub at_end : (n : Name) (before ns : List Name) → repeats (n ∷ before) ns ≡ repeats (before ++ n ∷ []) ns
at_end n before ns = repeats_alike ns (n ∷ before) (before ++ n ∷ []) (λ m. turned (bytes_eq m n) (list_any (bytes_eq m) before) ∙ sym (list_any-append (bytes_eq m) before (n ∷ [])))

-- the names from one on, behind those before it
opened : (names : List Name) (i : ℕ) (n : Name) → i < length names → n ≡ get_or names i n
    → repeats (take i names) (drop i names) ≡ repeats (take i names) (n ∷ drop (i + 1) names)
opened names i n h e = ap (repeats (take i names)) (rest_at names i n h e)

pub next_name : (names : List Name) (i : ℕ) (n : Name) (whole : List Refusal) → i < length names → n ≡ get_or names i n → list_any (bytes_eq n) (take i names) ≡ false
    → repeats (take i names) (drop i names) ≡ whole → repeats (take (i + 1) names) (drop (i + 1) names) ≡ whole
next_name names i n whole h e new k =
    let taken : take (i + 1) names ≡ take i names ++ n ∷ [] = take_more names i n h ∙ ap (λ (m : Name). take i names ++ m ∷ []) (sym e) in
    ap (λ (before : List Name). repeats before (drop (i + 1) names)) taken ∙ sym (at_end n (take i names) (drop (i + 1) names))
    ∙ ap (λ (b : Bool). when b (AmbiguousColumn n) ++ repeats (n ∷ take i names) (drop (i + 1) names)) (sym new)
    ∙ sym (opened names i n h e) ∙ k

pub repeated_name : (names : List Name) (i : ℕ) (n : Name) (whole : List Refusal) → i < length names → n ≡ get_or names i n → list_any (bytes_eq n) (take i names) ≡ true
    → repeats (take i names) (drop i names) ≡ whole → first whole ≡ Some (AmbiguousColumn n)
repeated_name names i n whole h e old k =
    ap first (sym k ∙ opened names i n h e)
    ∙ ap (λ (b : Bool). first (when b (AmbiguousColumn n) ++ repeats (n ∷ take i names) (drop (i + 1) names))) old
