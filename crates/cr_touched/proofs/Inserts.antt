-- An INSERT looks at what is kept of the keys of its rows.
use Rattle.std.proofs.Common.{◌≡◌, ◌⊎◌, ℕ, Bool, true, false, cond, ◌&&◌, ◌||◌, map, List, [], ◌∷◌, ◌++◌, inl, inr, refl, sym, ap, subst, ◌∙◌, Equal}
use Rattle.std.specs.Prelude.{filter}
use Rattle.std.specs.List.{list_any, AllByRecursion}
use Rattle.std.specs.Ordering.{on}
use Rattle.std.proofs.lemmas.Cmp.{on_total}
use Rattle.std.proofs.lemmas.List.{map-append}
use Rattle.std.proofs.lemmas.List.Folds.{list_any-append}
use Rattle.cr_value.specs.Order.{bytes_cmp}
use Rattle.cr_value.specs.OrderLaws.{bytes_total, bytes_exact}
use Rattle.cr_lattice.specs.declared.change.Change.{Change}
use Rattle.cr_lattice.specs.declared.table.TableDef.{TableDef}
use Rattle.cr_lattice.specs.Check.{same_bytes, IsWellFormed}
use Rattle.cr_lattice.specs.Sets.{set_of}
use Rattle.cr_lattice.specs.Profile.{has_key}
use Rattle.cr_lattice.specs.Rows.{is_alive, alive_keys, row, rows}
use Rattle.cr_lattice.proofs.RowLemmas.{any_alive_key}
use Rattle.cr_cells.specs.Tables.{has_defaults}
use Rattle.cr_delta.specs.Key.{key_of}
use Rattle.cr_delta.specs.Delta.{is_wanted, delta}
use Rattle.cr_delta.proofs.Among.{Among, Among-map, member_has, any_member, member_of_any, map_member, append_left}
use Rattle.cr_delta.proofs.Members.{same_is, is_same}
use Rattle.cr_query.specs.Query.{Row}
use Rattle.cr_query.specs.Writes.{repeats, has_twice, has_long_key, lacks_value, by_key}
use Rattle.cr_touched.specs.Parts.{is_at, part, keys_of, is_key_of}
use Rattle.cr_touched.specs.Touched.{passes, IsShownOutside}
use Rattle.cr_touched.specs.Shown.{AreKeptOf}
use Rattle.cr_touched.specs.Inserts.{verdict_with}
use Rattle.cr_touched.proofs.Parts.{filter-append, keep_part, alive_part, rows_part}
use Rattle.cr_touched.proofs.Sets.{all_set, any_set, filter_set}
use Rattle.cr_touched.proofs.Shown.{is_present, is_its_key, keys_shown, short, whole, once}
use Rattle.cr_touched.proofs.Touches.{delta_of_touched}
use Rattle.cr_touched.proofs.Twice.{repeats-append}

and_is : (b : Bool) → (b && true) ≡ b
and_is true = refl
and_is false = refl

all_filter : {A : Type 0} (P : A → Type 0) (p : A → Bool) (xs : List A) → AllByRecursion P xs → AllByRecursion P (filter p xs)
all_filter P p [] all = tt
all_filter P p (x ∷ xs) all =
    elim (p x) as (λ b. AllByRecursion P (cond b (x ∷ filter p xs) (filter p xs))) [
      | true ↦ (all.0, all_filter P p xs all.1)
      | false ↦ all_filter P p xs all.1
    ]

all_members : {A : Type 0} (P : A → Type 0) (xs : List A) → ((x : A) → Among xs x → P x) → AllByRecursion P xs
all_members P [] each = tt
all_members P (x ∷ xs) each = (each x (inl refl), all_members P xs (λ y m. each y (inr m)))

all_map : {A B : Type 0} (P : B → Type 0) (f : A → B) (xs : List A) → ((x : A) → Among xs x → P (f x)) → AllByRecursion P (map f xs)
all_map P f [] each = tt
all_map P f (x ∷ xs) each = (each x (inl refl), all_map P f xs (λ y m. each y (inr m)))

all_append : {A : Type 0} (P : A → Type 0) (xs ys : List A) → AllByRecursion P xs → AllByRecursion P ys → AllByRecursion P (xs ++ ys)
all_append P [] ys a b = b
all_append P (x ∷ xs) ys a b = (a.0, all_append P xs ys a.1 b)

any_members : {A : Type 0} (p q : A → Bool) (xs : List A) → ((x : A) → Among xs x → p x ≡ q x) → list_any p xs ≡ list_any q xs
any_members p q [] each = refl
any_members p q (x ∷ xs) each = (λ i. each x (inl refl) i || any_members p q xs (λ y m. each y (inr m)) i)

filter_all : {A : Type 0} (p : A → Bool) (xs : List A) → ((x : A) → Among xs x → p x ≡ true) → filter p xs ≡ xs
filter_all p [] each = refl
filter_all p (x ∷ xs) each = let so = each x (inl refl) in rw so (ap (λ l. x ∷ l) (filter_all p xs (λ y m. each y (inr m))))

-- a filter of what a map gives, where the one test says as much as the other
filter_map_members : {A B : Type 0} (f : A → B) (p : B → Bool) (q : A → Bool) (xs : List A) → ((x : A) → Among xs x → p (f x) ≡ q x) → filter p (map f xs) ≡ map f (filter q xs)
filter_map_members f p q [] each = refl
filter_map_members f p q (x ∷ xs) each =
    ap (λ b. cond b (f x ∷ filter p (map f xs)) (filter p (map f xs))) (each x (inl refl))
    ∙ elim (q x) as (λ b. cond b (f x ∷ filter p (map f xs)) (filter p (map f xs)) ≡ map f (cond b (x ∷ filter q xs) (filter q xs))) [
      | true ↦ ap (λ l. f x ∷ l) (filter_map_members f p q xs (λ y m. each y (inr m)))
      | false ↦ filter_map_members f p q xs (λ y m. each y (inr m))
    ]

-- ---- what is kept of a part

pub kept_of_part : (def : TableDef) (p : List ℕ → Bool) (kept : List Change) → AreKeptOf def kept → AreKeptOf def (part def.name p kept)
unfolding part
kept_of_part def p kept are = record {
  unbeaten = sym (keep_part def.name p kept) ∙ ap (part def.name p) are.unbeaten;
  well_formed = all_filter (λ c. IsWellFormed c def ⊎ (same_bytes c.table def.name ≡ false)) (is_at def.name p) kept are.well_formed;
}

-- ---- rows that come

module _ (def : TableDef) (keyed : has_key def ≡ true) (defaults : has_defaults def ≡ true) (kept : List Change) (are : AreKeptOf def kept) (more : List Row) (p : List ℕ → Bool) (pass : AllByRecursion (λ r. p (key_of def r) ≡ true) more) where
  abbrev some : List Change
  some = part def.name p kept

  some_are : AreKeptOf def (part def.name p kept)
  some_are = kept_of_part def p kept are

  comes : (r : Row) → Among more r → p (key_of def r) ≡ true
  comes r m = member_has (λ r. p (key_of def r) ≡ true) more r pass m

  -- ---- what stands against them

  by_more : (f : Row → Bool) (xs ys : List Row) → list_any f xs ≡ false → list_any f ys ≡ false → list_any f (xs ++ more) ≡ list_any f (ys ++ more)
  by_more f xs ys e h =
      list_any-append f xs more ∙ ap (λ b. b || list_any f more) (e ∙ sym h) ∙ sym (list_any-append f ys more)

  long : has_long_key def (rows kept def ++ more) ≡ has_long_key def (rows some def ++ more)
  unfolding has_long_key
  long = by_more _ (rows kept def) (rows some def) (short def keyed kept are defaults) (short def keyed some some_are defaults)

  lacking : lacks_value def (rows kept def ++ more) ≡ lacks_value def (rows some def ++ more)
  unfolding lacks_value
  lacking = by_more _ (rows kept def) (rows some def) (whole def keyed kept are defaults) (whole def keyed some some_are defaults)

  -- the keys that are shown, and those that come
  twice_by_keys : (cs : List Change) → AreKeptOf def cs → has_twice def (rows cs def ++ more) ≡ (repeats (keys_of def more) || list_any (λ k. is_alive cs def.name k) (keys_of def more))
  unfolding has_twice
  twice_by_keys cs c =
      ap repeats (map-append (key_of def) (rows cs def) more)
      ∙ repeats-append (keys_of def (rows cs def)) (keys_of def more) (once def keyed cs c)
      ∙ ap (λ b. repeats (keys_of def more) || b) (any_members _ _ (keys_of def more) (λ k m. ap (list_any (same_bytes k)) (keys_shown def keyed cs c) ∙ any_alive_key cs def.name k))

  twice : has_twice def (rows kept def ++ more) ≡ has_twice def (rows some def ++ more)
  twice =
      twice_by_keys kept are
      ∙ ap (λ b. repeats (keys_of def more) || b) (any_members (λ k. is_alive kept def.name k) (λ k. is_alive some def.name k) (keys_of def more) (λ k m. sym (alive_part def.name p kept k ∙ ap (λ b. is_alive kept def.name k && b) (is_there (Among-map (key_of def) more k m)) ∙ and_is (is_alive kept def.name k))))
      ∙ sym (twice_by_keys some some_are)
    where
      is_there : {k : List ℕ} → (r : Row) × Among more r × (k ≡ key_of def r) → p k ≡ true
      is_there r = ap p r.2 ∙ comes r.0 r.1

  -- ---- the changes that lead to them

  -- rows of one key pass alike
  tied : (t : List ℕ → Bool) (r q : Row) → on (key_of def) bytes_cmp r q ≡ Equal → t (key_of def r) ≡ t (key_of def q)
  tied t r q e = ap t (bytes_exact (key_of def r) (key_of def q) e)

  abbrev wanted : List Row
  wanted = by_key def (rows kept def ++ more)

  abbrev Shown : Row → Type 0
  Shown r = p (key_of def r) ≡ false → (is_alive kept def.name (key_of def r) ≡ true) × (row kept def (key_of def r) ≡ r)

  are_shown : AllByRecursion Shown (by_key def (rows kept def ++ more))
  unfolding by_key rows
  are_shown =
      all_set (on (key_of def) bytes_cmp) Shown (rows kept def ++ more)
      (all_append Shown (rows kept def) more
      (all_map Shown (row kept def) (alive_keys kept def.name) (λ pk m out. (
      let alive = is_present def keyed kept are pk m in
      let own = is_its_key def keyed kept are pk alive in
      (ap (is_alive kept def.name) own ∙ alive, ap (row kept def) own))))
      (all_members Shown more (λ r m out. absurd (let passed = comes r m in cc))))

  all_wanted : (pk : List ℕ) → is_alive kept def.name pk ≡ true → is_wanted def (by_key def (rows kept def ++ more)) pk ≡ true
  unfolding is_wanted by_key rows
  all_wanted pk alive =
      any_set (on_total (key_of def) bytes_total) (λ r. same_bytes (key_of def r) pk) (tied (λ k. same_bytes k pk)) (rows kept def ++ more)
      ∙ any_member (λ r. same_bytes (key_of def r) pk) (rows kept def ++ more) (row kept def pk)
      (append_left (rows kept def) more (row kept def pk) (map_member (row kept def) (alive_keys kept def.name) pk (there (member_of_any (same_bytes pk) (alive_keys kept def.name) (any_alive_key kept def.name pk ∙ alive)))))
      (is_same (key_of def (row kept def pk)) pk (is_its_key def keyed kept are pk alive))
    where
      there : (k : List ℕ) × Among (alive_keys kept def.name) k × (same_bytes pk k ≡ true) → Among (alive_keys kept def.name) pk
      there r = subst (λ k. Among (alive_keys kept def.name) k) (sym (same_is pk r.0 r.2)) r.1

  outside : IsShownOutside kept def (by_key def (rows kept def ++ more)) p
  outside = record { shown = are_shown; all = λ pk out alive. all_wanted pk alive }

  passing : filter (passes def p) (rows kept def ++ more) ≡ rows some def ++ more
  unfolding rows
  passing =
      filter-append (passes def p) (rows kept def) more
      ∙ ap (λ l. filter (passes def p) (rows kept def) ++ l) (filter_all (passes def p) more comes)
      ∙ ap (λ l. l ++ more) (filter_map_members (row kept def) (passes def p) p (alive_keys kept def.name) (λ pk m. ap p (is_its_key def keyed kept are pk (is_present def keyed kept are pk m))) ∙ sym (rows_part def p kept))

  passing_set : filter (passes def p) (by_key def (rows kept def ++ more)) ≡ by_key def (rows some def ++ more)
  unfolding by_key
  passing_set = filter_set (on_total (key_of def) bytes_total) (passes def p) (tied p) (rows kept def ++ more) ∙ ap (set_of (on (key_of def) bytes_cmp)) passing

  changes : (site : List ℕ) → delta def site kept (by_key def (rows kept def ++ more)) ≡ delta def site some (by_key def (rows some def ++ more))
  changes site =
      ap (λ cs. delta def site cs wanted) (sym are.unbeaten)
      ∙ delta_of_touched def site kept wanted p (subst (λ cs. IsShownOutside cs def wanted p) (sym are.unbeaten) outside)
      ∙ ap (λ cs. delta def site (part def.name p cs) (filter (passes def p) wanted)) are.unbeaten
      ∙ ap (delta def site some) passing_set

  pub same_verdict : (site : List ℕ) → verdict_with def site more kept ≡ verdict_with def site more (part def.name p kept)
  same_verdict site = λ i. record { long = long i; lacking = lacking i; twice = twice i; changes = changes site i }

-- the keys of rows are among them
pub keys_pass : (def : TableDef) (more : List Row) → AllByRecursion (λ r. is_key_of (keys_of def more) (key_of def r) ≡ true) more
keys_pass def more =
    all_members (λ r. is_key_of (keys_of def more) (key_of def r) ≡ true) more
    (λ r m. any_member (same_bytes (key_of def r)) (keys_of def more) (key_of def r) (map_member (key_of def) more r m) (is_same (key_of def r) (key_of def r) refl))
