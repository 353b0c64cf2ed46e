use Rattle.std.proofs.Common.{◌≡◌, ◌+◌, ◌≤◌, ℕ, Bool, true, false, List, [], ◌∷◌, zero, suc, map, refl, sym, ap, ◌∙◌, subst, if◌then◌else◌, cond, slice_get, position, length, nat_lt, nat_le, not, Option, Some, None, filter, ◌&&◌, ◌||◌, inl, inr, Ordering, arith, rules}
use Rattle.std.specs.Str.{bytes_eq}
use Rattle.std.proofs.lemmas.List.{length-map}
use Rattle.std.proofs.lemmas.Option.{slice_get-map, slice_get_cases}
use Rattle.cr_value.specs.Bytes.{bytes_cmp}
use Rattle.cr_host.specs.declared.folded.FoldedName.{FoldedName}
use Rattle.cr_host.specs.declared.function.Definition.{Definition}
use Rattle.cr_host.specs.declared.arity.Arity.{Arity}
use Rattle.cr_host.specs.declared.arity.Arity.TheVariants.{Any, Exactly}
use Rattle.cr_host.specs.contracts.arity.ArityPartialEq.TheImpl as arity_eq
use Rattle.cr_host.specs.Names.{folded}
use Rattle.cr_host.specs.Registry.{Listed, Named, same_arity, entry_at, function_for, is_collation_key, number_at, order_at}
use Rattle.std.specs.Map.{lookup, keys_of, values_of}
use Rattle.std.specs.List.{AllByRecursion, prefix_len, list_any}
use Rattle.std.specs.Cmp.Lexicographic.{same_text}
use Rattle.std.specs.Option.{option_map, is_some}
use Rattle.indexmap.specs.IndexMap.{insert_entry}
use Rattle.indexmap.proofs.MapLemmas.{Found-position, Missing-position}

module _ {K X R : Type 0} (test : K → Bool) (shown : X → R) (at : List (K × X) → Option R)
    (none : at [] ≡ None) (next : (e : K × X) (es : List (K × X)) → at (e ∷ es) ≡ (if test e.0 then Some (shown e.1) else at es)) where
  -- what a list of entries shows under a key, by a look-up
  pub shown-lookup : (es : List (K × X)) → at es ≡ option_map shown (lookup test es)
  shown-lookup [] = none
  shown-lookup (e ∷ es) = next e es ∙ by (shown-lookup es) (test e.0)
    where
      by : at es ≡ option_map shown (lookup test es) → (b : Bool) → (if b then Some (shown e.1) else at es) ≡ option_map shown (if b then Some e.1 else lookup test es)
      by h true = refl
      by h false = h

  -- where a key stands nowhere
  pub shown-missing : (es : List (K × X)) → position test (keys_of es) ≡ None → at es ≡ None
  shown-missing es p = shown-lookup es ∙ ap (option_map shown) (Missing-position test es p).value

  -- where it stands at a place
  pub shown-found : (es : List (K × X)) (i : ℕ) (x : X) → position test (keys_of es) ≡ Some i → slice_get (values_of es) i ≡ Some x → at es ≡ Some (shown x)
  shown-found es i x p v = shown-lookup es ∙ ap (option_map shown) ((Found-position test es i p).value ∙ v)

-- the value at a place, where the entry there is known
pub value_at : {K X : Type 0} (es : List (K × X)) (i : ℕ) (p : K × X) → slice_get es i ≡ Some p → slice_get (map (λ e. e.1) es) i ≡ Some p.1
value_at [] i p h = cc
value_at (e ∷ es) zero p h = let q : e ≡ p = cc in ap (λ (x : _). Some x.1) q
value_at (e ∷ es) (suc i) p h = value_at es i p h

-- what holds of each element holds of the one at a place
pub holds_at : {X : Type 0} (P : X → Type 0) (xs : List X) (i : ℕ) (x : X) → AllByRecursion P xs → slice_get xs i ≡ Some x → P x
holds_at P [] i x h at = cc
holds_at P (y ∷ ys) zero x h at = let q : y ≡ x = cc in subst P q h.0
holds_at P (y ∷ ys) (suc i) x h at = holds_at P ys i x h.1 at

-- what is listed after an insert, where `with` puts an entry in the place of its like, else last
module _ {K X L : Type 0} (eq : K → K → Bool) (shown : K × X → L) (k : K) (v : X) (is : L → Bool) (put : L → L) (fresh : L) (with : List L → List L)
    (with-none : with [] ≡ fresh ∷ []) (with-next : (l : L) (ls : List L) → with (l ∷ ls) ≡ (if is l then put l ∷ ls else l ∷ with ls))
    (same : (e : K × X) → eq k e.0 ≡ is (shown e)) (replaced : (e : K × X) → shown (e.0, v) ≡ put (shown e)) (last : shown (k, v) ≡ fresh) where
  pub shown-insert : (es : List (K × X)) → map shown (insert_entry eq es k v) ≡ with (map shown es)
  shown-insert [] = ap (λ l. l ∷ []) last ∙ sym with-none
  shown-insert (e ∷ es) = by (shown-insert es) (eq k e.0) ∙ ap (λ b. if b then put (shown e) ∷ map shown es else shown e ∷ with (map shown es)) (same e) ∙ sym (with-next (shown e) (map shown es))
    where
      by : map shown (insert_entry eq es k v) ≡ with (map shown es) → (b : Bool) → map shown (if b then (e.0, v) ∷ es else e ∷ insert_entry eq es k v) ≡ (if b then put (shown e) ∷ map shown es else shown e ∷ with (map shown es))
      by h true = ap (λ l. l ∷ map shown es) (replaced e)
      by h false = ap (λ l. shown e ∷ l) h

-- what holds of each value and of the new one holds after an insert
pub each-insert : {K X : Type 0} (P : X → Type 0) (eq : K → K → Bool) (k : K) (v : X) → P v → (es : List (K × X)) → AllByRecursion P (map (λ e. e.1) es) → AllByRecursion P (map (λ e. e.1) (insert_entry eq es k v))
each-insert P eq k v p [] h = (p, tt)
each-insert P eq k v p (e ∷ es) h = by (each-insert P eq k v p es h.1) (eq k e.0)
  where
    by : AllByRecursion P (map (λ e. e.1) (insert_entry eq es k v)) → (b : Bool) → AllByRecursion P (map (λ e. e.1) (if b then (e.0, v) ∷ es else e ∷ insert_entry eq es k v))
    by rest true = (p, h.1)
    by rest false = (h.0, rest)

-- what is shown of the entries that pass a test
pub shown-filter : {E L : Type 0} (shown : E → L) (test : L → Bool) (es : List E) → map shown (filter (λ e. test (shown e)) es) ≡ filter test (map shown es)
shown-filter shown test [] = refl
shown-filter shown test (e ∷ es) = by (shown-filter shown test es) (test (shown e))
  where
    by : map shown (filter (λ e. test (shown e)) es) ≡ filter test (map shown es) → (b : Bool) → map shown (if b then e ∷ filter (λ e. test (shown e)) es else filter (λ e. test (shown e)) es) ≡ (if b then shown e ∷ filter test (map shown es) else filter test (map shown es))
    by h true = ap (λ l. shown e ∷ l) h
    by h false = h

-- what holds of each value holds of those of the entries that pass a test
pub each-filter : {K X : Type 0} (P : X → Type 0) (test : K × X → Bool) (es : List (K × X)) → AllByRecursion P (map (λ e. e.1) es) → AllByRecursion P (map (λ e. e.1) (filter test es))
each-filter P test [] h = h
each-filter P test (e ∷ es) h = by (each-filter P test es h.1) (test e)
  where
    by : AllByRecursion P (map (λ e. e.1) (filter test es)) → (b : Bool) → AllByRecursion P (map (λ e. e.1) (if b then e ∷ filter test es else filter test es))
    by rest true = (h.0, rest)
    by rest false = rest

-- equality of arities, as it is derived
pub same_derived : (a b : Arity) → arity_eq.ghosts.eq a b ≡ same_arity a b
same_derived Any Any = refl
same_derived Any (Exactly n) = refl
same_derived (Exactly m) Any = refl
same_derived (Exactly m) (Exactly n) = refl

-- two keys are equal where the one has the other's name and count
pub same_key : (k l name : List ℕ) (a b : Arity) → k ≡ name → bytes_eq k l && arity_eq.ghosts.eq a b ≡ bytes_eq name l && same_arity a b
same_key k l name a b e = ap (λ n. bytes_eq n l && arity_eq.ghosts.eq a b) e ∙ ap (λ s. bytes_eq name l && s) (same_derived a b)

-- two tests that agree find the same place
prefix-same : {X : Type 0} (p q : X → Bool) → ((x : X) → p x ≡ q x) → (xs : List X) → prefix_len p xs ≡ prefix_len q xs
prefix-same p q same [] = refl
prefix-same p q same (x ∷ xs) = ap (λ b. cond b (1 + prefix_len p xs) 0) (same x) ∙ ap (λ n. cond (q x) (1 + n) 0) (prefix-same p q same xs)

pub position-same : {X : Type 0} (p q : X → Bool) → ((x : X) → p x ≡ q x) → (xs : List X) → position p xs ≡ position q xs
position-same p q same xs = ap (λ n. cond (nat_lt n (length xs)) (Some n) None) (prefix-same (λ x. not (p x)) (λ x. not (q x)) (λ x. ap not (same x)) xs)

-- a test that nothing passes finds none
prefix-all : {X : Type 0} (p : X → Bool) → ((x : X) → p x ≡ true) → (xs : List X) → prefix_len p xs ≡ length xs
prefix-all p all [] = refl
prefix-all p all (x ∷ xs) = ap (λ b. cond b (1 + prefix_len p xs) 0) (all x) ∙ ap (λ n. 1 + n) (prefix-all p all xs) ∙ (omega arith)

not-below : (n : ℕ) → nat_lt n n ≡ false
not-below n = search rules

pub position-none : {X : Type 0} (p : X → Bool) → ((x : X) → p x ≡ false) → (xs : List X) → position p xs ≡ None
position-none p none xs = ap (λ n. cond (nat_lt n (length xs)) (Some n) None) (prefix-all (λ x. not (p x)) (λ x. ap not (none x)) xs) ∙ ap (λ b. cond b (Some (length xs)) None) (not-below (length xs))

-- a name that is too long is no key's
pub longer : (name key : List ℕ) → nat_le (length name) 255 ≡ false → length key ≤ 255 → bytes_eq (folded name) key ≡ false
longer name key long fits = by (bytes_eq (folded name) key) refl
  where
    by : (b : Bool) → bytes_eq (folded name) key ≡ b → b ≡ false
    by false e = refl
    by true e =
        let same : folded name ≡ key = same_text (folded name) key (sym e) in
        let lengths : length key ≡ length name = sym (ap length same) ∙ length-map name _ in
        grind arith

-- a function has that name
abbrev pub has_name : List ℕ → Listed → Bool
has_name name l = bytes_eq (folded name) l.name

same-itself : (arity : Arity) → same_arity arity arity ≡ true
same-itself Any = refl
same-itself (Exactly n) = search rules

-- a function of that name is the entry of its own count
some_entry : (name : List ℕ) (ls : List Listed) → list_any (has_name name) ls ≡ true → (arity : Arity) × (is_some (entry_at name arity ls) ≡ true)
some_entry name [] h = cc
some_entry name (l ∷ ls) h = by (bytes_eq (folded name) l.name) refl (some_entry name ls)
  where
    by : (b : Bool) → bytes_eq (folded name) l.name ≡ b → (list_any (has_name name) ls ≡ true → (arity : Arity) × (is_some (entry_at name arity ls) ≡ true)) → (arity : Arity) × (is_some (entry_at name arity (l ∷ ls)) ≡ true)
    by true e rest = (l.arity, ap (λ b. is_some (if b then Some l.definition else entry_at name l.arity ls)) (ap (λ b. b && same_arity l.arity l.arity) e ∙ same-itself l.arity))
    by false e rest =
        let found = rest (sym (ap (λ b. b || list_any (has_name name) ls) e) ∙ h) in
        (found.0, ap (λ b. is_some (if b then Some l.definition else entry_at name found.0 ls)) (ap (λ b. b && same_arity found.0 l.arity) e) ∙ found.1)

entry_named : (name : List ℕ) (arity : Arity) (ls : List Listed) → is_some (entry_at name arity ls) ≡ true → list_any (has_name name) ls ≡ true
entry_named name arity [] h = cc
entry_named name arity (l ∷ ls) h = by (bytes_eq (folded name) l.name) refl (entry_named name arity ls)
  where
    by : (b : Bool) → bytes_eq (folded name) l.name ≡ b → (is_some (entry_at name arity ls) ≡ true → list_any (has_name name) ls ≡ true) → list_any (has_name name) (l ∷ ls) ≡ true
    by true e rest = ap (λ b. b || list_any (has_name name) ls) e
    by false e rest = ap (λ b. b || list_any (has_name name) ls) e ∙ rest (sym (ap (λ b. is_some (if b then Some l.definition else entry_at name arity ls)) (ap (λ b. b && same_arity arity l.arity) e)) ∙ h)

first_there : (o p : Option Definition) → is_some o ≡ true → is_some (elim o as (λ _. Option Definition) [ Some d ↦ Some d | None ↦ p ]) ≡ true
first_there (Some d) p h = refl
first_there None p h = cc

second_there : (o p : Option Definition) → is_some p ≡ true → is_some (elim o as (λ _. Option Definition) [ Some d ↦ Some d | None ↦ p ]) ≡ true
second_there (Some d) p h = refl
second_there None p h = h

-- there is a function of that name for some count just where one has it
pub named-found : (name : List ℕ) (ls : List Listed) → list_any (has_name name) ls ≡ true → (count : ℕ) × (is_some (function_for name count ls) ≡ true)
named-found name ls h = by (some_entry name ls h).0 (some_entry name ls h).1
  where
    by : (arity : Arity) → is_some (entry_at name arity ls) ≡ true → (count : ℕ) × (is_some (function_for name count ls) ≡ true)
    by (Exactly n) e = (n, first_there (entry_at name (Exactly n) ls) (entry_at name Any ls) e)
    by Any e = (0, second_there (entry_at name (Exactly 0) ls) (entry_at name Any ls) e)

pub found-named : (name : List ℕ) (count : ℕ) (ls : List Listed) → is_some (function_for name count ls) ≡ true → list_any (has_name name) ls ≡ true
found-named name count ls h = by (entry_at name (Exactly count) ls) refl h
  where
    by : (o : Option Definition) → entry_at name (Exactly count) ls ≡ o → is_some (elim o as (λ _. Option Definition) [ Some d ↦ Some d | None ↦ entry_at name Any ls ]) ≡ true → list_any (has_name name) ls ≡ true
    by (Some d) e there = entry_named name (Exactly count) ls (ap is_some e)
    by None e there = entry_named name Any ls there

-- a test of names, of the keys as of what is listed
pub any-shown : {K X L : Type 0} (shown : K × X → L) (p : L → Bool) (q : K → Bool) → ((e : K × X) → q e.0 ≡ p (shown e)) → (es : List (K × X)) → list_any q (keys_of es) ≡ list_any p (map shown es)
any-shown shown p q same [] = refl
any-shown shown p q same (e ∷ es) = ap (λ b. b || list_any q (keys_of es)) (same e) ∙ ap (λ b. p (shown e) || b) (any-shown shown p q same es)

-- and the place where one passes
prefix-shown : {K X L : Type 0} (shown : K × X → L) (p : L → Bool) (q : K → Bool) → ((e : K × X) → q e.0 ≡ p (shown e)) → (es : List (K × X)) → prefix_len q (keys_of es) ≡ prefix_len p (map shown es)
prefix-shown shown p q same [] = refl
prefix-shown shown p q same (e ∷ es) = ap (λ b. cond b (1 + prefix_len q (keys_of es)) 0) (same e) ∙ ap (λ n. cond (p (shown e)) (1 + n) 0) (prefix-shown shown p q same es)

pub position-shown : {K X L : Type 0} (shown : K × X → L) (p : L → Bool) (q : K → Bool) → ((e : K × X) → q e.0 ≡ p (shown e)) → (es : List (K × X)) → position q (keys_of es) ≡ position p (map shown es)
position-shown shown p q same es =
    let lengths : length (keys_of es) ≡ length (map shown es) = length-map es _ ∙ sym (length-map es shown) in
    let before = prefix-shown shown (λ l. not (p l)) (λ k. not (q k)) (λ e. ap not (same e)) es in
    ap (λ n. cond (nat_lt n (length (keys_of es))) (Some n) None) before ∙ ap (λ m. cond (nat_lt (prefix_len (λ l. not (p l)) (map shown es)) m) (Some (prefix_len (λ l. not (p l)) (map shown es))) None) lengths

module _ {X : Type 0} (number : X → ℕ) (order : ℕ → List ℕ → List ℕ → Ordering) where
  -- a collation as it is listed
  abbrev pub named : FoldedName × X → Named
  named e = record { name = e.0.bytes.items; number = number e.1 }

  -- the order of the collation at a place
  pub order-at : (es : List (FoldedName × X)) (i : ℕ) (e : FoldedName × X) → slice_get es i ≡ Some e → order_at order (map named es) i ≡ order (number e.1)
  order-at es i e at = ap (λ (o : Option Named). elim o as (λ _. List ℕ → List ℕ → Ordering) [ Some c ↦ order c.number | None ↦ bytes_cmp ]) (slice_get-map named es i ∙ ap (option_map named) at)

  -- it is the order of the name that led to the place
  pub order-placed : (name : List ℕ) (es : List (FoldedName × X)) (place : Option ℕ) → position (is_collation_key name) (keys_of es) ≡ place
      → option_map (order_at order (map named es)) place ≡ option_map order (number_at name (map named es))
  order-placed name es None e = sym (ap (option_map order) (shown-missing (is_collation_key name) number (λ ls. number_at name (map named ls)) refl (λ x xs. refl) es e))
  order-placed name es (Some i) e =
      let found = Found-position (is_collation_key name) es i e in
      elim ((slice_get_cases es i).1) [
        | inl a ↦
            ap Some (order-at es i a.0 a.2)
            ∙ sym (ap (option_map order) (shown-found (is_collation_key name) number (λ ls. number_at name (map named ls)) refl (λ x xs. refl) es i a.0.1 e (value_at es i a.0 a.2)))
        | inr a ↦ absurd (omega (arith, found.within, a.0))
      ]

pub is_some-shown : {A B : Type 0} (f : A → B) (o : Option A) → is_some (option_map f o) ≡ is_some o
is_some-shown f None = refl
is_some-shown f (Some x) = refl
