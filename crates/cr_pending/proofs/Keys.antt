-- The keys that are looked up.
use Rattle.std.proofs.Common.{Bool, arith, ◌+◌, ◌<◌, ◌==◌, ◌++◌, ◌&&◌, true, false, cond, get_or, take, length, sym, add-one, ◌≡◌, ℕ, List, [], ◌∷◌, ◌||◌, refl, ap, ◌∙◌, Ordering, Less, Equal, Greater}
use Rattle.std.specs.Prelude.{filter}
use Rattle.std.specs.List.{list_any, AllByRecursion}
use Rattle.std.specs.BTreeSet.{insert_key}
use Rattle.std.proofs.Math.Seq.{take-suc}
use Rattle.std.proofs.lemmas.Bool.{eqb-true}
use Rattle.std.specs.Ordering.{is_eq, ordering_reverse}
use Rattle.cr_value.specs.Order.{bytes_cmp}
use Rattle.cr_value.specs.OrderLaws.{bytes_total, bytes_exact}
use Rattle.cr_lattice.specs.declared.change.Change.{Change}
use Rattle.cr_lattice.specs.Check.{same_bytes}
use Rattle.cr_lattice.specs.Rows.{keys_in_order}
use Rattle.cr_lattice.proofs.SortedSets.{has-filter, list_any-insert_key, list_any-set_of}
use Rattle.cr_delta.proofs.Members.{is_same}
use Rattle.cr_touched.specs.Parts.{is_at, is_key_of, part}
use Rattle.cr_pending.specs.Touched.{AreUnder}

-- equality of bytes goes either way
turned : (o : Ordering) → is_eq (ordering_reverse o) ≡ is_eq o
turned Less = refl
turned Equal = refl
turned Greater = refl

back : (x y : List ℕ) → same_bytes x y ≡ same_bytes y x
back x y = ap is_eq (bytes_total.antisymm x y) ∙ turned (bytes_cmp y x)

pub either_way : (keys : List (List ℕ)) (pk : List ℕ) → list_any (λ k. same_bytes k pk) keys ≡ is_key_of keys pk
either_way [] pk = refl
either_way (k ∷ ks) pk = λ i. back k pk i || either_way ks pk i

-- in order and each once, they are the same keys
pub part_in_order : (table : List ℕ) (keys : List (List ℕ)) (changes : List Change) → part table (is_key_of (keys_in_order keys)) changes ≡ part table (is_key_of keys) changes
part_in_order table keys changes = λ i. part table (λ pk. list_any-set_of bytes_total bytes_exact (same_bytes pk) keys i) changes

-- ---- keys that are added

or_right : (a b : Bool) → b ≡ true → (a || b) ≡ true
or_right true b e = refl
or_right false b e = e

added : (keys : List (List ℕ)) (key pk : List ℕ) → is_key_of (insert_key bytes_cmp keys key) pk ≡ (same_bytes pk key || is_key_of keys pk)
added keys key pk = list_any-insert_key bytes_total bytes_exact (same_bytes pk) keys key

pub stays : (keys : List (List ℕ)) (key pk : List ℕ) → is_key_of keys pk ≡ true → is_key_of (insert_key bytes_cmp keys key) pk ≡ true
stays keys key pk e = added keys key pk ∙ or_right (same_bytes pk key) (is_key_of keys pk) e

pub comes : (keys : List (List ℕ)) (key : List ℕ) → is_key_of (insert_key bytes_cmp keys key) key ≡ true
comes keys key = added keys key key ∙ ap (λ b. b || is_key_of keys key) (is_same key key refl)

-- ---- changes under them

pub still_under : (keys more : List (List ℕ)) (changes : List Change) → ((pk : List ℕ) → is_key_of keys pk ≡ true → is_key_of more pk ≡ true) → AreUnder keys changes → AreUnder more changes
still_under keys more [] stay under = tt
still_under keys more (c ∷ cs) stay under = (stay c.pk under.0, still_under keys more cs stay under.1)

pub under_both : (keys : List (List ℕ)) (xs ys : List Change) → AreUnder keys xs → AreUnder keys ys → AreUnder keys (xs ++ ys)
under_both keys [] ys a b = b
under_both keys (x ∷ xs) ys a b = (a.0, under_both keys xs ys a.1 b)

pub one_more : (changes : List Change) (i : ℕ) (c : Change) → i < length changes → c ≡ get_or changes i c → take (i + 1) changes ≡ take i changes ++ c ∷ []
one_more changes i c lt is = ap (λ n. take n changes) (add-one i) ∙ take-suc changes i c lt ∙ ap (λ x. take i changes ++ x ∷ []) (sym is)

-- ---- their part

same_filter : (p q : Change → Bool) (cs : List Change) → AllByRecursion (λ c. p c ≡ q c) cs → filter p cs ≡ filter q cs
same_filter p q [] same = refl
same_filter p q (c ∷ cs) same = λ i. cond (same.0 i) (c ∷ same_filter p q cs same.1 i) (same_filter p q cs same.1 i)

and_is : (b : Bool) → (b && true) ≡ b
and_is true = refl
and_is false = refl

and_not : (b : Bool) → (b && false) ≡ false
and_not true = refl
and_not false = refl

module _ (table : List ℕ) (others keys : List (List ℕ)) where
  -- a key among others is one of the keys just where it is one of those that are among the others
  key_is : (pk : List ℕ) → is_key_of others pk ≡ true → is_key_of (filter (is_key_of others) keys) pk ≡ is_key_of keys pk
  key_is pk e = has-filter bytes_total bytes_exact (is_key_of others) keys pk ∙ ap (λ b. is_key_of keys pk && b) e ∙ and_is (is_key_of keys pk)

  each_is : (cs : List Change) → AreUnder others cs → AllByRecursion (λ c. is_at table (is_key_of (filter (is_key_of others) keys)) c ≡ is_at table (is_key_of keys) c) cs
  each_is [] under = tt
  each_is (c ∷ cs) under = (ap (λ b. same_bytes c.table table && b) (key_is c.pk under.0), each_is cs under.1)

  -- the keys that are not among the others have no changes
  pub part_among : (changes : List Change) → AreUnder others changes → part table (is_key_of (filter (is_key_of others) keys)) changes ≡ part table (is_key_of keys) changes
  unfolding part
  part_among changes under = same_filter _ _ changes (each_is changes under)

-- under no key is no change
pub part_none : (table : List ℕ) (changes : List Change) → part table (is_key_of []) changes ≡ []
unfolding part
part_none table [] = refl
part_none table (c ∷ cs) = ap (λ b. cond b (c ∷ filter (is_at table (is_key_of [])) cs) (filter (is_at table (is_key_of [])) cs)) (and_not (same_bytes c.table table)) ∙ part_none table cs

pub none_is : (keys : List (List ℕ)) → (length keys == 0) ≡ true → keys ≡ []
none_is [] e = refl
none_is (k ∷ ks) e = (let none : length (k ∷ ks) ≡ 0 = eqb-true (length (k ∷ ks)) 0 e in absurd (omega (arith, none)))
