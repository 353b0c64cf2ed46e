-- Where each column of a query may be read, the columns that stand in it are among those that may be.
use Rattle.std.proofs.Common.{◌≡◌, ◌∙◌, ℕ, zero, suc, ◌+◌, Bool, true, false, cond, List, [], ◌∷◌, ◌++◌, map, length, take, drop, Option, Some, None, refl, ap, sym, subst, arith}
use Rattle.std.specs.Prelude.{slice_get, ◌==◌, ◌||◌}
use Rattle.std.specs.Option.{option_map, option_to_list}
use Rattle.std.specs.List.{AllByRecursion, flat_map, list_any, range_with_len}
use Rattle.std.proofs.lemmas.Bool.Decides.{Decides-eqb}
use Rattle.cr_lattice.specs.declared.table.ColumnDef.{ColumnDef}
use Rattle.cr_host.specs.declared.meaning.Action.TheVariants.{Read}
use Rattle.cr_term.specs.declared.expr.Column.{Column as Field}
use Rattle.cr_term.specs.declared.expr.Expr.{Expr}
use Rattle.cr_term.specs.declared.query.Relation.{Relation}
use Rattle.cr_term.specs.declared.query.Joined.{Joined}
use Rattle.cr_term.specs.declared.query.GroupTerm.{GroupTerm}
use Rattle.cr_term.specs.declared.query.OrderTerm.{OrderTerm}
use Rattle.cr_term.specs.declared.query.ResultColumn.{ResultColumn}
use Rattle.cr_term.specs.declared.query.Query.{Query as Resolving}
use Rattle.cr_term.specs.Parts.{columns}
use Rattle.cr_query.specs.Plans.{Within, AllWithin}
use Rattle.cr_query.specs.Queries.{Joining, Term}
use Rattle.cr_meaning.specs.View.{Ordered, plain, result_term, group_term, order_term, joining, inner_terms, query}
use Rattle.cr_questions.specs.Questions.{Answers, relations_of, exprs_of}
use Rattle.cr_language.specs.Reads.{first_place, MayBeRead}
use Rattle.cr_language.specs.Readable.{is_ok, readable}
use Rattle.cr_language.specs.Sql.{places}
use Rattle.cr_language.specs.Standing.{split, total, exprs, is_at, standing}
use Rattle.cr_language.proofs.Lists.{all_left, all_right, all_parts}
use Rattle.cr_language.proofs.Members.{all_append, all_weaker, all_map}

-- ---- members by their places

zero_plus : (n : ℕ) → 0 + n ≡ n
zero_plus n = omega arith

suc_plus : (m n : ℕ) → suc m + n ≡ suc (m + n)
suc_plus m n = omega arith

front : {X : Type 0} (xs ys : List X) (n : ℕ) (x : X) → slice_get xs n ≡ Some x → slice_get (xs ++ ys) n ≡ Some x
front [] ys n x e = absurd (let z : ⊥ = cc in z)
front (w ∷ xs) ys zero x e = e
front (w ∷ xs) ys (suc n) x e = front xs ys n x e

past : {X Y : Type 0} (f : X → Y) (xs : List X) (ys : List Y) (n : ℕ) → slice_get (map f xs ++ ys) (length xs + n) ≡ slice_get ys n
past f [] ys n = ap (slice_get ys) (zero_plus n)
past f (x ∷ xs) ys n = ap (slice_get (f x ∷ map f xs ++ ys)) (suc_plus (length xs) n) ∙ past f xs ys n

mapped_at : {X Y : Type 0} (f : X → Y) (xs : List X) (n : ℕ) (x : X) → slice_get xs n ≡ Some x → slice_get (map f xs) n ≡ Some (f x)
mapped_at f [] n x e = absurd (let z : ⊥ = cc in z)
mapped_at f (w ∷ xs) zero x e = let same : w ≡ x = cc in ap (λ y. Some (f y)) same
mapped_at f (w ∷ xs) (suc n) x e = mapped_at f xs n x e

module _ (answers : Answers) where
  -- which of the columns of all tables may be read, at their places
  abbrev pub flat : List Relation → List Bool
  flat tables = flat_map (λ t. readable answers t.definition) tables

  abbrev ok : Relation → ColumnDef → Bool
  ok t d = is_ok (answers Read t.definition.name d.name)

  plus_more : (w first place : ℕ) → (w + first) + place ≡ w + (first + place)
  plus_more w first place = omega arith

  flat_at : (tables : List Relation) (n place : ℕ) (t : Relation) (d : ColumnDef) → slice_get tables n ≡ Some t → slice_get t.definition.columns place ≡ Some d
      → slice_get (flat tables) (first_place tables n + place) ≡ Some (ok t d)
  flat_at [] n place t d e h = absurd (let z : ⊥ = cc in z)
  flat_at (u ∷ us) zero place t d e h =
      let same : u ≡ t = cc in
      ap (slice_get (readable answers u.definition ++ flat us)) (zero_plus place)
      ∙ front (readable answers u.definition) (flat us) place (ok t d)
      (subst (λ (v : Relation). slice_get (readable answers v.definition) place ≡ Some (ok t d)) (sym same) (mapped_at (ok t) t.definition.columns place d h))
  flat_at (u ∷ us) (suc n) place t d e h =
      ap (slice_get (readable answers u.definition ++ flat us)) (plus_more (length u.definition.columns) (first_place us n) place)
      ∙ past (ok u) u.definition.columns (flat us) (first_place us n + place) ∙ flat_at us n place t d e h

  -- ---- the expressions of a query

  module _ (z : Resolving) where
    abbrev pub IsOpen : ℕ → Type 0
    IsOpen p = slice_get (flat (relations_of z)) p ≡ Some true

    abbrev AreOpen : Ordered → Type 0
    AreOpen o = AllByRecursion IsOpen (places o)

    abbrev IsRead : Expr → Type 0
    IsRead x = AllByRecursion (MayBeRead answers (relations_of z)) (columns x)

    open_at : (c : Field) → MayBeRead answers (relations_of z) c → IsOpen c.at
    open_at c h =
        ap (slice_get (flat (relations_of z))) h.at ∙ flat_at (relations_of z) c.source c.place h.table h.column h.is_of h.is_in ∙ ap (λ a. Some (is_ok a)) h.is_allowed

    ordered : (o : Ordered) → IsRead o.expr → AreOpen o
    ordered o h = all_map IsOpen (λ c. c.at) (columns o.expr) (all_weaker (MayBeRead answers (relations_of z)) (λ c. IsOpen c.at) open_at (columns o.expr) h)

    all_ordered : {X : Type 0} (f : X → Expr) (g : X → Ordered) → ((x : X) → IsRead (f x) → AreOpen (g x)) → (xs : List X) → AllByRecursion IsRead (map f xs) → AllByRecursion AreOpen (map g xs)
    all_ordered f g h [] k = tt
    all_ordered f g h (x ∷ xs) k = (h x k.0, all_ordered f g h xs k.1)

    all_plain : (es : List Expr) → AllByRecursion IsRead es → AllByRecursion AreOpen (map plain es)
    all_plain [] h = tt
    all_plain (x ∷ es) h = (ordered (plain x) h.0, all_plain es h.1)

    some_plain : (o : Option Expr) → AllByRecursion IsRead (option_to_list o) → AllByRecursion AreOpen (option_to_list (option_map plain o))
    some_plain None h = tt
    some_plain (Some x) h = (ordered (plain x) h.0, tt)

    either : (b : Bool) (os : List Ordered) → AllByRecursion AreOpen os → AllByRecursion AreOpen (cond b os [])
    either true os h = h
    either false os h = tt

    or_else : (b : Bool) (os : List Ordered) → AllByRecursion AreOpen os → AllByRecursion AreOpen (cond b [] os)
    or_else true os h = tt
    or_else false os h = h

    outer : (js : List Joined) → AllByRecursion (λ j. AllByRecursion IsRead j.on) js → AllByRecursion AreOpen (flat_map (λ j. j.on) (map joining js))
    outer [] h = tt
    outer (j ∷ js) h = all_append AreOpen (joining j).on (flat_map (λ j. j.on) (map joining js)) (either j.is_left (map plain j.on) (all_plain j.on h.0)) (outer js h.1)

    inner : (js : List Joined) → AllByRecursion (λ j. AllByRecursion IsRead j.on) js → AllByRecursion AreOpen (flat_map inner_terms js)
    inner [] h = tt
    inner (j ∷ js) h = all_append AreOpen (inner_terms j) (flat_map inner_terms js) (or_else j.is_left (map plain j.on) (all_plain j.on h.0)) (inner js h.1)

    all_orders : (ts : List OrderTerm) → AllByRecursion IsRead (map (λ t. t.expr) ts) → AllByRecursion AreOpen (map (λ t. t.expr) (map order_term ts))
    all_orders [] h = tt
    all_orders (t ∷ ts) h = (ordered (order_term t).expr h.0, all_orders ts h.1)

    all_open : AllByRecursion IsRead (exprs_of z) → AllByRecursion AreOpen (exprs (query z))
    all_open h =
        let q = query z in
        let results = map (λ (c : ResultColumn). c.expr) z.results in
        let ons = flat_map (λ (j : Joined). j.on) z.joined in
        let groups = map (λ (g : GroupTerm). g.expr) z.groups in
        let having = option_to_list z.having in
        let order = map (λ (t : OrderTerm). t.expr) z.order in
        let h4 = all_left IsRead (results ++ ons ++ z.filter ++ groups ++ having) order h in
        let h3 = all_left IsRead (results ++ ons ++ z.filter ++ groups) having h4 in
        let h2 = all_left IsRead (results ++ ons ++ z.filter) groups h3 in
        let h1 = all_left IsRead (results ++ ons) z.filter h2 in
        let joins = all_parts IsRead (λ (j : Joined). j.on) z.joined (all_right IsRead results ons h1) in
        let on = flat_map (λ (j : Joining Ordered). j.on) q.sources in
        all_append AreOpen (on ++ q.terms ++ q.group ++ option_to_list q.having ++ q.results) (map (λ (t : Term Ordered). t.expr) q.order)
        (all_append AreOpen (on ++ q.terms ++ q.group ++ option_to_list q.having) q.results
        (all_append AreOpen (on ++ q.terms ++ q.group) (option_to_list q.having)
        (all_append AreOpen (on ++ q.terms) q.group
        (all_append AreOpen on q.terms (outer z.joined joins)
        (all_append AreOpen (flat_map inner_terms z.joined) (map plain z.filter) (inner z.joined joins) (all_plain z.filter (all_right IsRead (results ++ ons) z.filter h2))))
        (all_ordered (λ (g : GroupTerm). g.expr) group_term (λ g k. ordered (group_term g) k) z.groups (all_right IsRead (results ++ ons ++ z.filter) groups h3)))
        (some_plain z.having (all_right IsRead (results ++ ons ++ z.filter ++ groups) having h4)))
        (all_ordered (λ (c : ResultColumn). c.expr) result_term (λ c k. ordered (result_term c) k) z.results (all_left IsRead results ons h1)))
        (all_orders z.order (all_right IsRead (results ++ ons ++ z.filter ++ groups ++ having) order h))

    -- ---- places that stand

    one_at : (p : ℕ) (ps : List ℕ) → AllByRecursion IsOpen ps → list_any (λ n. n == p) ps ≡ true → IsOpen p
    one_at p [] h e = absurd (let x : ⊥ = cc in x)
    one_at p (n ∷ ns) h e = by (n == p) refl e (one_at p ns h.1) where
      by : (b : Bool) → (n == p) ≡ b → (b || list_any (λ n. n == p) ns) ≡ true → (list_any (λ n. n == p) ns ≡ true → IsOpen p) → IsOpen p
      by true is k more = subst IsOpen ((Decides-eqb n p).0 is) h.0
      by false is k more = more k

    any_at : (p : ℕ) (os : List Ordered) → AllByRecursion AreOpen os → is_at places os p ≡ true → IsOpen p
    any_at p [] h e = absurd (let x : ⊥ = cc in x)
    any_at p (o ∷ os) h e = by (list_any (λ n. n == p) (places o)) refl e (any_at p os h.1) where
      by : (b : Bool) → list_any (λ n. n == p) (places o) ≡ b → (b || is_at places os p) ≡ true → (is_at places os p ≡ true → IsOpen p) → IsOpen p
      by true is k more = one_at p (places o) h.0 is
      by false is k more = more k

  -- ---- masks

  module _ (g : ℕ → Bool) where
    abbrev from : ℕ → ℕ → List Bool
    from a n = map g (range_with_len a n)

    plus_suc : (a n : ℕ) → a + suc n ≡ (a + 1) + n
    plus_suc a n = omega arith

    plus_zero : (a : ℕ) → a + 0 ≡ a
    plus_zero a = omega arith

    taken : (a w n : ℕ) → take w (from a (w + n)) ≡ from a w
    taken a zero n = refl
    taken a (suc w) n = ap (λ k. take (suc w) (from a k)) (suc_plus w n) ∙ ap (λ xs. g a ∷ xs) (taken (a + 1) w n)

    dropped : (a w n : ℕ) → drop w (from a (w + n)) ≡ from (a + w) n
    dropped a zero n = ap (from a) (zero_plus n) ∙ ap (λ k. from k n) (sym (plus_zero a))
    dropped a (suc w) n = ap (λ k. drop (suc w) (from a k)) (suc_plus w n) ∙ dropped (a + 1) w n ∙ ap (λ k. from k n) (sym (plus_suc a w))

    some_is : (a b : Bool) → Some a ≡ Some b → a ≡ b
    some_is a b e = cc

    one_within : {X : Type 0} (f : X → Bool) (xs : List X) (a : ℕ) (ys : List Bool) → ((i : ℕ) → g (a + i) ≡ true → slice_get (map f xs ++ ys) i ≡ Some true) → Within (from a (length xs)) (map f xs)
    one_within f [] a ys h = tt
    one_within f (x ∷ xs) a ys h = (
      λ e. some_is (f x) true (h 0 (ap g (plus_zero a) ∙ e)),
      one_within f xs (a + 1) ys (λ i e. h (suc i) (ap g (plus_suc a i) ∙ e)),
    )

    after : (a w i : ℕ) → (a + w) + i ≡ a + (w + i)
    after a w i = omega arith

    all_within : (js : List Joined) (a : ℕ) → ((i : ℕ) → g (a + i) ≡ true → slice_get (flat (map (λ j. j.relation) js)) i ≡ Some true)
        → AllWithin (split (map joining js) (from a (total (map joining js)))) (map (λ t. readable answers t.definition) (map (λ j. j.relation) js))
    all_within [] a h = tt
    all_within (j ∷ js) a h =
        let cols = j.relation.definition.columns in
        let w = length cols in
        let rest = flat (map (λ (j : Joined). j.relation) js) in
        let n = total (map joining js) in
        let masks = map (λ (t : Relation). readable answers t.definition) (map (λ (j : Joined). j.relation) js) in (
          subst (λ m. Within m (readable answers j.relation.definition)) (sym (taken a w n)) (one_within (ok j.relation) cols a rest h),
          subst (λ m. AllWithin (split (map joining js) m) masks) (sym (dropped a w n))
              (all_within js (a + w) (λ i e. sym (past (ok j.relation) cols rest i) ∙ h (w + i) (ap g (sym (after a w i)) ∙ e))),
        )

  pub stand_within : (z : Resolving) → AllByRecursion (MayBeRead answers (relations_of z)) (flat_map columns (exprs_of z))
      → AllWithin (standing places (query z)) (map (λ t. readable answers t.definition) (relations_of z))
  stand_within z h =
      let seen = all_open z (all_parts (MayBeRead answers (relations_of z)) columns (exprs_of z) h) in
      let g = is_at places (exprs (query z)) in
      all_within g z.joined 0 (λ i e. any_at z i (exprs (query z)) seen (ap g (sym (zero_plus i)) ∙ e))
