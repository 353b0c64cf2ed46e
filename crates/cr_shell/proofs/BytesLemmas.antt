use Rattle.std.proofs.Common.{◌≡◌, ◌≢◌, ◌<◌, ℕ, List, [], ◌++◌, Option, Some, None, refl, sym, ap, ◌∙◌, append_assoc, take, drop, append-nil, length, ◌-◌, ◌+◌, arith, subst, length-drop}
use Rattle.std.proofs.lemmas.List.{take_all, take-append-drop}
use Rattle.std.proofs.Math.Seq.{take-add}
use Rattle.std.specs.Io.KnownBytes.{Appends, Consumes, Keeps}
use Rattle.cr_shell.specs.Printing.{AppendsPart}

pub appends_none : (a : Option (List ℕ)) → Appends a a []
appends_none None = tt
appends_none (Some xs) = sym (append-nil xs)

pub appends_more : (a b c : Option (List ℕ)) (x y : List ℕ) → Appends a b x → Appends b c y → Appends a c (x ++ y)
appends_more None b c x y p q = tt
appends_more (Some a) None c x y p q = absurd p
appends_more (Some a) (Some b) None x y p q = absurd q
appends_more (Some a) (Some b) (Some c) x y p q = q ∙ ap (λ l. l ++ y) p ∙ append_assoc a x y

pub appends_kept : (a b c : Option (List ℕ)) (x : List ℕ) → Appends a b x → Keeps b c → Appends a c x
appends_kept None b c x p q = tt
appends_kept (Some a) None c x p q = absurd p
appends_kept (Some a) (Some b) None x p q = absurd q
appends_kept (Some a) (Some b) (Some c) x p q = q ∙ p

pub consumes_none : (a : Option (List ℕ)) → Consumes a a []
consumes_none None = tt
consumes_none (Some xs) = refl

pub consumes_more : (a b c : Option (List ℕ)) (x y : List ℕ) → Consumes a b x → Consumes b c y → Consumes a c (x ++ y)
consumes_more None b c x y p q = tt
consumes_more (Some a) None c x y p q = absurd p
consumes_more (Some a) (Some b) None x y p q = absurd q
consumes_more (Some a) (Some b) (Some c) x y p q = p ∙ ap (λ l. x ++ l) q ∙ sym (append_assoc x y c)

pub consumes_kept : (a b c : Option (List ℕ)) (x : List ℕ) → Consumes a b x → Keeps b c → Consumes a c x
consumes_kept None b c x p q = tt
consumes_kept (Some a) None c x p q = absurd p
consumes_kept (Some a) (Some b) None x p q = absurd q
consumes_kept (Some a) (Some b) (Some c) x p q = p ∙ ap (λ l. x ++ l) (sym q)

-- the rest of a list from a place, as a slice of it is written
pub rest_from : (at : ℕ) (xs : List ℕ) → take (length xs - at) (drop at xs) ≡ drop at xs
rest_from at xs = take_all (length xs - at) (drop at xs) (omega (arith, length-drop at xs))

-- n more are written from a place on
pub appends_next : (a b c : Option (List ℕ)) (at n : ℕ) (xs : List ℕ) → Appends a b (take at xs) → Appends b c (take n (take (length xs - at) (drop at xs))) → Appends a c (take (at + n) xs)
appends_next a b c at n xs p q =
    subst (Appends a c) (sym (take-add at n xs)) (appends_more a b c (take at xs) (take n (drop at xs)) p (subst (λ (l : List ℕ). Appends b c (take n l)) (rest_from at xs) q))

-- no more is
some_left : (at : ℕ) (xs : List ℕ) → at < length xs → drop at xs ≢ []
some_left at xs h = λ e. (let n : length (drop at xs) ≡ 0 = ap length e in omega (arith, h, n, length-drop at xs))

pub part_of : (a b c : Option (List ℕ)) (at : ℕ) (xs : List ℕ) → at < length xs → Appends a b (take at xs) → Keeps b c → AppendsPart a c xs
part_of a b c at xs h p q = (take at xs, drop at xs, sym (take-append-drop at xs), some_left at xs h, appends_kept a b c (take at xs) p q)

pub part_next : (a b c : Option (List ℕ)) (at : ℕ) (xs : List ℕ) → at < length xs → Appends a b (take at xs) → Appends b c [] → AppendsPart a c xs
part_next a b c at xs h p q = (take at xs, drop at xs, sym (take-append-drop at xs), some_left at xs h, subst (Appends a c) (append-nil (take at xs)) (appends_more a b c (take at xs) [] p q))
