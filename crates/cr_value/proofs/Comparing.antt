-- Comparing two lists of bytes from the front, and cutting spaces off the end of one.
use Rattle.std.proofs.Common.{◌≡◌, ℕ, suc, ◌+◌, ◌<◌, min, true, false, List, [], ◌∷◌, ◌++◌, length, drop, get_or, map, reverse, Ordering, Less, Equal, Greater, nat_cmp, refl, sym, ap, ◌∙◌, arith}
use Rattle.std.specs.Ordering.{ordering_then, is_ne}
use Rattle.std.specs.Cmp.{nat_cmp_is}
use Rattle.std.proofs.lemmas.List.{drop_more, get_or-map, length-map, length-drop, reverse-append}
use Rattle.cr_value.specs.Bytes.{bytes_cmp}
use Rattle.cr_value.specs.Collation.{without_trailing_spaces}

pub one_more : (f : ℕ → ℕ) (xs ys : List ℕ) (i : ℕ) → i < length xs → i < length ys
    → bytes_cmp (drop i (map f xs)) (drop i (map f ys)) ≡ ordering_then (nat_cmp (f (get_or xs i 0)) (f (get_or ys i 0))) (bytes_cmp (drop (i + 1) (map f xs)) (drop (i + 1) (map f ys)))
one_more f xs ys i p q =
    let a = drop_more (map f xs) i 0 (mapped xs p) ∙ ap (λ (h : ℕ). h ∷ drop (i + 1) (map f xs)) (get_or-map f xs i 0 0 p) in
    let b = drop_more (map f ys) i 0 (mapped ys q) ∙ ap (λ (h : ℕ). h ∷ drop (i + 1) (map f ys)) (get_or-map f ys i 0 0 q) in
    rw (a, b) refl
  where
    mapped : (zs : List ℕ) → i < length zs → i < length (map f zs)
    mapped zs lt = rw length-map lt

decided : (o r : Ordering) → is_ne o ≡ true → o ≡ ordering_then o r
decided Less r e = refl
decided Equal r e = absurd cc
decided Greater r e = refl

pub told : (f : ℕ → ℕ) (xs ys : List ℕ) (i : ℕ) (o : Ordering) → i < length xs → i < length ys → o ≡ nat_cmp (f (get_or xs i 0)) (f (get_or ys i 0)) → is_ne o ≡ true
    → bytes_cmp (drop i (map f xs)) (drop i (map f ys)) ≡ o
told f xs ys i o p q e n = one_more f xs ys i p q ∙ ap (λ (t : Ordering). ordering_then t (bytes_cmp (drop (i + 1) (map f xs)) (drop (i + 1) (map f ys)))) (sym e) ∙ sym (decided o _ n)

tied : (o r : Ordering) → is_ne o ≡ false → ordering_then o r ≡ r
tied Less r e = absurd cc
tied Equal r e = refl
tied Greater r e = absurd cc

pub goes_on : (f : ℕ → ℕ) (xs ys : List ℕ) (i : ℕ) (o : Ordering) → i < length xs → i < length ys → o ≡ nat_cmp (f (get_or xs i 0)) (f (get_or ys i 0)) → is_ne o ≡ false
    → bytes_cmp (drop (i + 1) (map f xs)) (drop (i + 1) (map f ys)) ≡ bytes_cmp (drop i (map f xs)) (drop i (map f ys))
goes_on f xs ys i o p q e n = sym (one_more f xs ys i p q ∙ ap (λ (t : Ordering). ordering_then t (bytes_cmp (drop (i + 1) (map f xs)) (drop (i + 1) (map f ys)))) (sym e) ∙ tied o _ n)

-- where one list has ended, the longer one is the greater
rest_cmp : (n p q : ℕ) (us vs : List ℕ) → p ≡ n + length us → q ≡ n + length vs → min (length us) (length vs) ≡ 0 → bytes_cmp us vs ≡ nat_cmp p q
rest_cmp n p q [] [] e f z = nat_cmp_is p q Equal (omega arith)
rest_cmp n p q [] (v ∷ vs) e f z = nat_cmp_is p q Less (omega arith)
rest_cmp n p q (u ∷ us) [] e f z = nat_cmp_is p q Greater (omega arith)
rest_cmp n p q (u ∷ us) (v ∷ vs) e f z = absurd (omega arith)

pub by_length : (f : ℕ → ℕ) (xs ys : List ℕ) (i : ℕ) → i ≡ min (length xs) (length ys) → bytes_cmp (drop i (map f xs)) (drop i (map f ys)) ≡ nat_cmp (length xs) (length ys)
by_length f xs ys i e =
    rest_cmp i (length xs) (length ys) (drop i (map f xs)) (drop i (map f ys)) (omega (arith, length-drop i (map f xs), length-map xs f)) (omega (arith, length-drop i (map f ys), length-map ys f))
    (omega (arith, length-drop i (map f xs), length-map xs f, length-drop i (map f ys), length-map ys f))

drop_one_more : (n x : ℕ) (xs : List ℕ) → drop (1 + n) (x ∷ xs) ≡ drop n xs
drop_one_more n x xs = let e : 1 + n ≡ suc n = omega arith in rw e refl

pub one_space : (front : List ℕ) → without_trailing_spaces (front ++ 32 ∷ []) ≡ without_trailing_spaces front
one_space front = rw (reverse-append front (32 ∷ [])) (ap reverse (drop_one_more _ 32 (reverse front)))
