-- Every column of a query's expressions stands in the query.
use Rattle.std.proofs.Common.{◌≡◌, ◌∙◌, ℕ, zero, suc, ◌+◌, Bool, true, false, cond, List, [], ◌∷◌, ◌++◌, map, refl, ap, sym, subst, arith}
use Rattle.std.specs.Prelude.{get_or, ◌==◌, ◌||◌}
use Rattle.std.specs.Option.{option_to_list}
use Rattle.std.proofs.lemmas.Bool.Decides.{Decides-eqb}
use Rattle.std.specs.List.{AllByRecursion, flat_map, list_any, range_with_len}
use Rattle.cr_value.specs.declared.value.Value.TheVariants.{Null}
use Rattle.cr_query.specs.Queries.{Query, Joining, Term}
use Rattle.cr_query.specs.Query.{Row}
use Rattle.cr_query.specs.Plans.{masked}
use Rattle.cr_language.specs.Standing.{total, exprs, is_at, mask_of}
use Rattle.cr_language.proofs.Lists.{all_left, all_right, all_parts}

or_true : (a : Bool) → (a || true) ≡ true
or_true true = refl
or_true false = refl

same_place : (n : ℕ) → (n == n) ≡ true
same_place n = (Decides-eqb n n).1 refl

-- ---- a mask by places

plus_suc : (a n : ℕ) → a + suc n ≡ (a + 1) + n
plus_suc a n = omega arith

zero_plus : (a : ℕ) → 0 + a ≡ a
zero_plus a = omega arith

plus_zero : (a : ℕ) → a + 0 ≡ a
plus_zero a = omega arith

-- true at a place where g is, and past its end
mask_at : (g : ℕ → Bool) (a n p : ℕ) → g (a + p) ≡ true → get_or (map g (range_with_len a n)) p true ≡ true
mask_at g a zero p e = refl
mask_at g a (suc n) zero e = ap g (sym (plus_zero a)) ∙ e
mask_at g a (suc n) (suc p) e = mask_at g (a + 1) n p (ap g (sym (plus_suc a p)) ∙ e)

pub masked_at : (mask : List Bool) (row : Row) (p : ℕ) → get_or mask p true ≡ true → get_or (masked mask row) p Null ≡ get_or row p Null
masked_at [] row p e = refl
masked_at (b ∷ bs) [] p e = refl
masked_at (b ∷ bs) (v ∷ vs) zero e = ap (λ (x : Bool). cond x v Null) e
masked_at (b ∷ bs) (v ∷ vs) (suc p) e = masked_at bs vs p e

-- ---- places

module _ {E : Type 0} (places : E → List ℕ) where
  -- each place of an expression is seen
  abbrev pub Seen : List Bool → E → Type 0
  Seen mask e = AllByRecursion (λ p. get_or mask p true ≡ true) (places e)

  place_is : (ps : List ℕ) (pre : List ℕ) → AllByRecursion (λ p. list_any (λ x. x == p) (pre ++ ps) ≡ true) ps
  place_is [] pre = tt
  place_is (p ∷ ps) pre = (here pre, subst (λ (all : List ℕ). AllByRecursion (λ q. list_any (λ x. x == q) all ≡ true) ps) (shift pre) (place_is ps (pre ++ p ∷ []))) where
    here : (xs : List ℕ) → list_any (λ x. x == p) (xs ++ p ∷ ps) ≡ true
    here [] = ap (λ b. b || list_any (λ x. x == p) ps) (same_place p)
    here (x ∷ xs) = ap (λ b. (x == p) || b) (here xs) ∙ or_true (x == p)

    shift : (xs : List ℕ) → (xs ++ p ∷ []) ++ ps ≡ xs ++ p ∷ ps
    shift [] = refl
    shift (x ∷ xs) = ap (λ l. x ∷ l) (shift xs)

  -- an expression's own places are among all
  abbrev At : List E → E → Type 0
  At es e = AllByRecursion (λ p. is_at places es p ≡ true) (places e)

  weaken : (P Q : ℕ → Type 0) → ((p : ℕ) → P p → Q p) → (ps : List ℕ) → AllByRecursion P ps → AllByRecursion Q ps
  weaken P Q f [] h = tt
  weaken P Q f (p ∷ ps) h = (f p h.0, weaken P Q f ps h.1)

  all_at : (es : List E) (pre : List E) → AllByRecursion (At (pre ++ es)) es
  all_at [] pre = tt
  all_at (e ∷ es) pre = (weaken _ _ (λ p here. found p here pre) (places e) (place_is (places e) []), subst (λ (all : List E). AllByRecursion (At all) es) (shift pre) (all_at es (pre ++ e ∷ []))) where
    found : (p : ℕ) → list_any (λ x. x == p) (places e) ≡ true → (xs : List E) → is_at places (xs ++ e ∷ es) p ≡ true
    found p here [] = ap (λ b. b || is_at places es p) here
    found p here (x ∷ xs) = ap (λ b. list_any (λ q. q == p) (places x) || b) (found p here xs) ∙ or_true (list_any (λ q. q == p) (places x))

    shift : (xs : List E) → (xs ++ e ∷ []) ++ es ≡ xs ++ e ∷ es
    shift [] = refl
    shift (x ∷ xs) = ap (λ l. x ∷ l) (shift xs)

  all_seen : (q : Query E) (es : List E) → AllByRecursion (At (exprs q)) es → AllByRecursion (Seen (mask_of places q)) es
  all_seen q [] h = tt
  all_seen q (e ∷ es) h =
      (weaken (λ p. is_at places (exprs q) p ≡ true) (λ p. get_or (mask_of places q) p true ≡ true) (λ p here. mask_at (is_at places (exprs q)) 0 (total q.sources) p (ap (is_at places (exprs q)) (zero_plus p) ∙ here)) (places e) h.0, all_seen q es h.1)

  -- every expression of a query is seen
  pub record AreSeen (q : Query E) : Type 0 where
    pub on : AllByRecursion (λ j. AllByRecursion (Seen (mask_of places q)) j.on) q.sources
    pub terms : AllByRecursion (Seen (mask_of places q)) q.terms
    pub group : AllByRecursion (Seen (mask_of places q)) q.group
    pub having : AllByRecursion (Seen (mask_of places q)) (option_to_list q.having)
    pub results : AllByRecursion (Seen (mask_of places q)) q.results
    pub order : AllByRecursion (Seen (mask_of places q)) (map (λ t. t.expr) q.order)

  pub are_seen : (q : Query E) → AreSeen q
  are_seen q =
      let on = flat_map (λ (j : Joining E). j.on) q.sources in
      let order = map (λ (t : Term E). t.expr) q.order in
      let P : E → Type 0 = Seen (mask_of places q) in
      let h = all_seen q (exprs q) (all_at (exprs q) []) in
      let h5 = all_left P (on ++ q.terms ++ q.group ++ option_to_list q.having ++ q.results) order h in
      let h4 = all_left P (on ++ q.terms ++ q.group ++ option_to_list q.having) q.results h5 in
      let h3 = all_left P (on ++ q.terms ++ q.group) (option_to_list q.having) h4 in
      let h2 = all_left P (on ++ q.terms) q.group h3 in
      record {
        on = all_parts P (λ j. j.on) q.sources (all_left P on q.terms h2);
        terms = all_right P on q.terms h2;
        group = all_right P (on ++ q.terms) q.group h3;
        having = all_right P (on ++ q.terms ++ q.group) (option_to_list q.having) h4;
        results = all_right P (on ++ q.terms ++ q.group ++ option_to_list q.having) q.results h5;
        order = all_right P (on ++ q.terms ++ q.group ++ option_to_list q.having ++ q.results) order h;
      }
