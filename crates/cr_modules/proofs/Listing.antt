-- The modules that a query sees.
use Rattle.std.proofs.Common.{◌≡◌, ℕ, zero, suc, ◌+◌, ◌<◌, ◌≤◌, arith, Bool, true, false, ◌||◌, cond, find, length, List, [], ◌∷◌, ◌++◌, map, slice_index_or, take, Option, Some, None, refl, sym, ap, subst, ◌∙◌}
use Rattle.cr_value.specs.declared.value.Value.{Value}
use Rattle.cr_lattice.specs.declared.table.TableDef.{TableDef}
use Rattle.cr_replica.specs.declared.snapshot.Listing.{Listing}
use Rattle.cr_cells.proofs.NewLemmas.{same_is}
use Rattle.cr_plan.specs.Orders.{orders_for}
use Rattle.cr_snapshot.specs.Seen.{is_listing, name_of}
use Rattle.cr_term.specs.declared.query.Query.{Query}
use Rattle.cr_world.specs.State.{ModuleState, is_module}
use Rattle.cr_lattice.specs.Check.{same_bytes}
use Rattle.cr_lattice.proofs.Tested.{or_left, or_right}
use Rattle.cr_modules.specs.States.{AreListed, Best, HasNone, IsListed, is_among, module_in, offered}

module _ {X : Type 0} (name : X → List ℕ) (n : List ℕ) where
  abbrev called : X → Bool
  called x = same_bytes n (name x)

  pub none_among : (xs : List X) (i : ℕ) → length xs ≤ i → HasNone called (take i xs) → is_among (map name xs) n ≡ false
  none_among [] i all none = refl
  none_among (x ∷ xs) zero all none = absurd (omega (arith, all))
  none_among (x ∷ xs) (suc i) all none = ap (λ (b : Bool). b || is_among (map name xs) n) none.0 ∙ none_among xs i (omega (arith, all)) none.1

  pub one_among : (xs : List X) (i : ℕ) (x : X) → i < length xs → x ≡ slice_index_or xs i x → called x ≡ true → is_among (map name xs) n ≡ true
  one_among [] i x few is e = absurd (omega (arith, few))
  one_among (y ∷ xs) zero x few is e = or_left (called y) (is_among (map name xs) n) (ap called (sym is) ∙ e)
  one_among (y ∷ xs) (suc i) x few is e = or_right (called y) (is_among (map name xs) n) (one_among xs i x (omega (arith, few)) is e)

-- ---- one module more

module _ {X : Type 0} (may_offer : Bool) (params : List Value) (q : Query) (best : X → Best) (f : X → ModuleState) where
  abbrev Listed : List X → List Listing → Type 0
  Listed xs ls = AreListed may_offer params q (map best xs) (map f xs) ls

  abbrev IsOne : X → Listing → Type 0
  IsOne x l = IsListed (is_among (map name_of q.joined) (f x).name) (best x) (offered may_offer params q (f x).name) (orders_for q) (f x) l

  listed_then : (xs : List X) (i : ℕ) (x : X) (ls : List Listing) (l : Listing) → i < length xs → x ≡ slice_index_or xs i x → Listed (take i xs) ls → IsOne x l
      → Listed (take (suc i) xs) (ls ++ l ∷ [])
  listed_then [] i x ls l few is listed one = absurd (omega (arith, few))
  listed_then (y ∷ xs) zero x [] l few is listed one = (subst (λ (z : X). IsOne z l) is one, tt)
  listed_then (y ∷ xs) zero x (k ∷ ls) l few is listed one = absurd listed
  listed_then (y ∷ xs) (suc i) x [] l few is listed one = absurd listed
  listed_then (y ∷ xs) (suc i) x (k ∷ ls) l few is listed one = (listed.0, listed_then xs i x ls l (omega (arith, few)) is listed.1 one)

  pub next_listed : (xs : List X) (i : ℕ) (x : X) (ls : List Listing) (l : Listing) → i < length xs → x ≡ slice_index_or xs i x → Listed (take i xs) ls → IsOne x l
      → Listed (take (i + 1) xs) (ls ++ l ∷ [])
  next_listed xs i x ls l few is listed one =
      let e : suc i ≡ i + 1 = omega arith in
      subst (λ (k : ℕ). Listed (take k xs) (ls ++ l ∷ [])) e (listed_then xs i x ls l few is listed one)

-- ---- the module of a name

module _ (may_offer : Bool) (params : List Value) (q : Query) (name : List ℕ) where
  -- a module of the name, which was read by what the query offers it
  abbrev pub IsGiven : Option ModuleState → Option Listing → Type 0
  IsGiven None None = Unit {0}
  IsGiven None (Some l) = ⊥
  IsGiven (Some m) None = ⊥
  IsGiven (Some m) (Some l) = (best : Best) × IsListed true best (offered may_offer params q name) (orders_for q) m l

  -- a query that has the name sees what the module of the name gave, if there is one
  pub read_of_name : (cs : List Best) (ms : List ModuleState) (ls : List Listing) → is_among (map name_of q.joined) name ≡ true → AreListed may_offer params q cs ms ls
      → IsGiven (module_in ms name) (find (is_listing name) ls)
  read_of_name [] [] [] among listed = tt
  read_of_name [] [] (l ∷ ls) among listed = absurd listed
  read_of_name [] (m ∷ ms) ls among listed = absurd listed
  read_of_name (c ∷ cs) [] ls among listed = absurd listed
  read_of_name (c ∷ cs) (m ∷ ms) [] among listed = absurd listed
  read_of_name (c ∷ cs) (m ∷ ms) (l ∷ ls) among listed = by (read_of_name cs ms ls among listed.1) (is_module name m) refl where
    called : is_listing name l ≡ is_module name m
    called = ap (λ (d : TableDef). same_bytes d.name name) listed.0.definition

    own : m.name ≡ name → IsListed true c (offered may_offer params q name) (orders_for q) m l
    own is =
        subst (λ (b : Bool). IsListed b c (offered may_offer params q name) (orders_for q) m l) (ap (is_among (map name_of q.joined)) is ∙ among)
        (subst (λ (n : List ℕ). IsListed (is_among (map name_of q.joined) m.name) c (offered may_offer params q n) (orders_for q) m l) is listed.0)

    by : IsGiven (module_in ms name) (find (is_listing name) ls) → (b : Bool) → is_module name m ≡ b
        → IsGiven (cond (is_module name m) (Some m) (module_in ms name)) (cond (is_listing name l) (Some l) (find (is_listing name) ls))
    by rest true is =
        subst (λ (b : Bool). IsGiven (cond (is_module name m) (Some m) (module_in ms name)) (cond b (Some l) (find (is_listing name) ls))) (sym (called ∙ is))
        (subst (λ (b : Bool). IsGiven (cond b (Some m) (module_in ms name)) (Some l)) (sym is) (c, own (same_is m.name name is)))
    by rest false is =
        subst (λ (b : Bool). IsGiven (cond (is_module name m) (Some m) (module_in ms name)) (cond b (Some l) (find (is_listing name) ls))) (sym (called ∙ is))
        (subst (λ (b : Bool). IsGiven (cond b (Some m) (module_in ms name)) (find (is_listing name) ls)) (sym is) rest)
