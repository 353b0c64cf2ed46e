-- The module that stands at a place, and an update of it.
use Rattle.std.proofs.Common.{◌≡◌, ◌⊎◌, inl, inr, ℕ, zero, suc, ◌<◌, arith, Bool, true, false, cond, find, not, length, List, [], ◌∷◌, map, take, slice_index_or, slice_set, Option, Some, None, Result, Ok, Err, is_some, refl, sym, ap, subst, ◌∙◌}
use Rattle.std.specs.List.{list_all}
use Rattle.cr_lattice.specs.Check.{same_bytes}
use Rattle.cr_lattice.specs.declared.table.Table.{Table}
use Rattle.cr_lattice.specs.Profile.{is_reserved}
use Rattle.cr_lattice.proofs.Tested.{and_true, or_false}
use Rattle.cr_cells.specs.Tables.{is_named}
use Rattle.cr_cells.proofs.NewLemmas.{same_is}
use Rattle.cr_query.specs.Query.{Row}
use Rattle.cr_world.specs.declared.refusal.Refusal.{Refusal}
use Rattle.cr_world.specs.declared.refusal.Refusal.TheVariants as refusal
use Rattle.cr_world.specs.Causes.{Free, or_else, where_true}
use Rattle.cr_world.specs.State.{ModuleState, is_module}
use Rattle.cr_world.specs.Statement.{ModuleLeaves, ModulesLeave}
use Rattle.cr_modules.specs.States.{HasNone, IsPlace, IsRefusedBy, Updates, UpdatesTo, are_distinct, is_taken, module_in, register_cause}
use Rattle.cr_modules.proofs.Naming.{has_none}

-- an item that is like the one in whose place it is set
pub alike_set : {X Y : Type 0} (g : X → Y) (xs : List X) (i : ℕ) (d y : X) → g y ≡ g (slice_index_or xs i d) → map g (slice_set xs i y) ≡ map g xs
alike_set g [] i d y e = refl
alike_set g (x ∷ xs) zero d y e = λ i. e i ∷ map g xs
alike_set {X} {Y} g (x ∷ xs) (suc i) d y e = ap (λ (ys : List Y). g x ∷ ys) (alike_set g xs i d y e)

-- names stay, each another
pub still_distinct : {X : Type 0} (name_of : X → List ℕ) (xs : List X) (i : ℕ) (x y : X) → x ≡ slice_index_or xs i x → name_of y ≡ name_of x → are_distinct (map name_of xs) ≡ true → are_distinct (map name_of (slice_set xs i y)) ≡ true
still_distinct name_of xs i x y is stays distinct = ap are_distinct (alike_set name_of xs i x y (stays ∙ ap name_of is)) ∙ distinct

module _ {X : Type 0} (f : X → ModuleState) (name : List ℕ) where
  abbrev named : X → Bool
  named x = is_module name (f x)

  -- ---- which module has the name

  pub none_found : (xs : List X) → HasNone named xs → module_in (map f xs) name ≡ None
  none_found [] none = refl
  none_found (x ∷ xs) none = ap (λ (b : Bool). cond b (Some (f x)) (module_in (map f xs) name)) none.0 ∙ none_found xs none.1

  pub found_at : (xs : List X) (i : ℕ) (d : X) → i < length xs → named (slice_index_or xs i d) ≡ true → HasNone named (take i xs) → module_in (map f xs) name ≡ Some (f (slice_index_or xs i d))
  found_at [] i d few is none = absurd (omega (arith, few))
  found_at (x ∷ xs) zero d few is none = ap (λ (b : Bool). cond b (Some (f x)) (module_in (map f xs) name)) is
  found_at (x ∷ xs) (suc i) d few is none = ap (λ (b : Bool). cond b (Some (f x)) (module_in (map f xs) name)) none.0 ∙ found_at xs i d (omega (arith, few)) is none.1

  found_some : (xs : List X) (i : ℕ) → i < length xs → ((x : X) → named (slice_index_or xs i x) ≡ true) → HasNone named (take i xs) → is_some (module_in (map f xs) name) ≡ true
  found_some [] i few is none = absurd (omega (arith, few))
  found_some (x ∷ xs) i few is none = ap is_some (found_at (x ∷ xs) i x few (is x) none)

  some_found : (xs : List X) (place : Option ℕ) → IsPlace named xs place → is_some place ≡ is_some (module_in (map f xs) name)
  some_found xs None none = ap is_some (sym (none_found xs none))
  some_found xs (Some i) at = sym (found_some xs i at.0 at.1 at.2)

  none_there : (xs : List X) → is_some (module_in (map f xs) name) ≡ false → HasNone named xs
  none_there [] e = tt
  none_there (x ∷ xs) e = by_name (named x) refl e (none_there xs) where
    by_name : (b : Bool) → named x ≡ b → is_some (cond b (Some (f x)) (module_in (map f xs) name)) ≡ false → (is_some (module_in (map f xs) name) ≡ false → HasNone named xs) → HasNone named (x ∷ xs)
    by_name true is e rest = absurd (let z : ⊥ = cc in z)
    by_name false is e rest = (is, rest e)

  -- no module has a name under which one may be registered
  pub free_name : (ts : List Table) (xs : List X) → register_cause ts (map f xs) name ≡ Free → HasNone named xs
  free_name ts xs e = none_there xs (or_false (is_some (find (is_named name) ts)) (is_some (module_in (map f xs) name)) (not_taken (is_reserved name) (is_taken ts (map f xs) name) e)).1 where
    not_taken : (r t : Bool) → or_else (where_true r (refusal.BadName name)) (where_true t (refusal.TableExists name)) ≡ Free → t ≡ false
    not_taken true t e = absurd (let z : ⊥ = cc in z)
    not_taken false true e = absurd (let z : ⊥ = cc in z)
    not_taken false false e = refl

  -- a place that was looked for in a list that equals this one
  module _ (looked xs : List X) (same : looked ≡ xs) where
    pub has_place : (place : Option ℕ) → IsPlace named looked place → is_some place ≡ is_some (module_in (map f xs) name)
    has_place place at = some_found xs place (subst (λ (l : List X). IsPlace named l place) same at)

    pub not_there : IsPlace named looked None → module_in (map f xs) name ≡ None
    not_there none = none_found xs (subst (HasNone named) same none)

    pub there : (i : ℕ) (x : X) → IsPlace named looked (Some i) → x ≡ slice_index_or xs i x → module_in (map f xs) name ≡ Some (f x)
    there i x place is =
        let at : IsPlace named xs (Some i) = subst (λ (l : List X). IsPlace named l (Some i)) same place in
        found_at xs i x at.0 (at.1 x) at.2 ∙ ap (λ (x : X). Some (f x)) (sym is)

  -- ---- an update

  module _ (rows : List Row) where
    abbrev Took : ModuleState → ModuleState → Type 0
    Took old new = (new.name ≡ old.name) × (new.columns ≡ old.columns) × (old.updated (rows ∷ []) ≡ Ok new.rows) × (new.updated ≡ (λ more. old.updated (rows ∷ more)))

    -- a module of another name stays, and one that has it shows what its update says
    abbrev leaves_if : ModuleState → ModuleState → Bool → Type 0
    leaves_if old new b = elim b as (λ _. Type 0) [ true ↦ Took old new | false ↦ new ≡ old ]

    stays : (m : ModuleState) → is_module name m ≡ false → ModuleLeaves (Some name) rows m m
    stays m e = subst (leaves_if m m) (sym e) refl

    changes : (old new : ModuleState) → is_module name old ≡ true → Took old new → ModuleLeaves (Some name) rows old new
    changes old new e to = subst (leaves_if old new) (sym e) to

    all_stay : (xs : List X) → HasNone named xs → ModulesLeave (Some name) rows (map f xs) (map f xs)
    all_stay [] none = tt
    all_stay (x ∷ xs) none = (stays (f x) none.0, all_stay xs none.1)

    abbrev names : List X → List (List ℕ)
    names xs = map (λ x. (f x).name) xs

    -- no module behind one of the name has it
    others : (x : X) (xs : List X) → named x ≡ true → are_distinct (names (x ∷ xs)) ≡ true → HasNone named xs
    others x xs is distinct =
        let parts = and_true (list_all (λ o. not (same_bytes o (f x).name)) (names xs)) (are_distinct (names xs)) distinct in
        has_none (λ x. (f x).name) name xs (subst (λ (n : List ℕ). list_all (λ o. not (same_bytes o n)) (names xs) ≡ true) (same_is (f x).name name is) parts.0)

    leaves : (xs : List X) (i : ℕ) (d y : X) → i < length xs → named (slice_index_or xs i d) ≡ true → HasNone named (take i xs) → are_distinct (names xs) ≡ true
        → UpdatesTo (f (slice_index_or xs i d)) rows (Ok tt) (f y) → ModulesLeave (Some name) rows (map f xs) (map f (slice_set xs i y))
    leaves [] i d y few is none distinct to = absurd (omega (arith, few))
    leaves (x ∷ xs) zero d y few is none distinct to = (changes (f x) (f y) is to, all_stay xs (others x xs is distinct))
    leaves (x ∷ xs) (suc i) d y few is none distinct to =
        (stays (f x) none.0, leaves xs i d y (omega (arith, few)) is none.1 (and_true (list_all (λ o. not (same_bytes o (f x).name)) (names xs)) (are_distinct (names xs)) distinct).1 to)

    refused_by : (xs : List X) (i : ℕ) (d : X) (r : Refusal) → i < length xs → named (slice_index_or xs i d) ≡ true → HasNone named (take i xs)
        → (r ≡ refusal.Memory) ⊎ ((f (slice_index_or xs i d)).updated (rows ∷ []) ≡ Err r) → (r ≡ refusal.Memory) ⊎ IsRefusedBy (module_in (map f xs) name) rows r
    refused_by xs i d r few is none (inl e) = inl e
    refused_by xs i d r few is none (inr e) = inr (subst (λ (o : Option ModuleState). IsRefusedBy o rows r) (sym (found_at xs i d few is none)) e)

    updates_set : (xs : List X) (i : ℕ) (d y : X) (result : Result (Unit {0}) Refusal) → IsPlace named xs (Some i) → are_distinct (names xs) ≡ true
        → UpdatesTo (f (slice_index_or xs i d)) rows result (f y) → Updates name rows (map f xs) result (map f (slice_set xs i y))
    updates_set xs i d y (Ok u) at distinct to = leaves xs i d y at.0 (at.1 d) at.2 distinct to
    updates_set xs i d y (Err r) at distinct to = (refused_by xs i d r at.0 (at.1 d) at.2 to.0, alike_set f xs i d y to.1)

    module _ (looked xs : List X) (same : looked ≡ xs) where
      pub updates : (i : ℕ) (x y : X) (result : Result (Unit {0}) Refusal) → IsPlace named looked (Some i) → x ≡ slice_index_or xs i x → are_distinct (names xs) ≡ true
          → UpdatesTo (f x) rows result (f y) → Updates name rows (map f xs) result (map f (slice_set xs i y))
      updates i x y result place is distinct to =
          updates_set xs i x y result (subst (λ (l : List X). IsPlace named l (Some i)) same place) distinct (subst (λ (z : X). UpdatesTo (f z) rows result (f y)) is to)

      pub updates_none : IsPlace named looked None → ModulesLeave (Some name) rows (map f xs) (map f xs)
      updates_none none = all_stay xs (subst (HasNone named) same none)
