-- A join answers the same over the rows whose keys are told as over all rows of a table.
use Rattle.std.proofs.Common.{◌≡◌, ◌⊎◌, inl, inr, ◌∙◌, ℕ, ◌+◌, ◌≤◌, nat_le, arith, Bool, true, false, cond, List, [], ◌∷◌, ◌++◌, length, length-append, append_assoc, append-nil, map, get_or, Option, Some, None, refl, sym, ap, subst}
use Rattle.std.specs.Prelude.{◌-◌, filter, nat_lt, slice_get}
use Rattle.std.specs.List.{flat_map, list_any, list_all, AllByRecursion}
use Rattle.std.specs.Option.{option_or}
use Rattle.std.proofs.lemmas.List.{get_or-append-add, get_or_append_left, length-map}
use Rattle.std.proofs.lemmas.List.Folds.{list_any-append}
use Rattle.std.proofs.lemmas.Bool.{ltb-false}
use Rattle.std.proofs.lemmas.Option.{get_or_from_slice_get, slice_get_within}
use Rattle.cr_value.specs.declared.value.Value.{Value}
use Rattle.cr_value.specs.declared.value.Value.TheVariants.{Null}
use Rattle.cr_lattice.specs.declared.change.Change.{Change}
use Rattle.cr_lattice.specs.declared.table.TableDef.{TableDef}
use Rattle.cr_lattice.specs.Check.{same_bytes}
use Rattle.cr_lattice.specs.Profile.{has_key}
use Rattle.cr_lattice.specs.Rows.{alive_keys, cell, row, rows}
use Rattle.cr_lattice.proofs.Tested.{and_true, or_left, or_right, split}
use Rattle.cr_delta.specs.Key.{key_of}
use Rattle.cr_delta.proofs.Among.{Among-map, Among, append_left, append_right}
use Rattle.cr_term.specs.declared.expr.Expr.{Expr}
use Rattle.cr_term.specs.declared.query.Joined.{Joined}
use Rattle.cr_term.specs.declared.query.Query.{Query}
use Rattle.cr_scalar.specs.Host.{Host}
use Rattle.cr_bags.specs.Bags.{joins, gather, single}
use Rattle.cr_query.specs.Query.{answer, Row, nulls}
use Rattle.cr_meaning.specs.View.{Ordered}
use Rattle.cr_meaning.specs.View as view
use Rattle.cr_meaning.specs.Meaning.{Regard, regarded}
use Rattle.cr_exec.specs.Equalities.{OrdersBytes}
use Rattle.cr_touched.specs.Parts.{is_key_of, part}
use Rattle.cr_touched.specs.Shown.{AreKeptOf}
use Rattle.cr_touched.specs.Touched.{passes}
use Rattle.cr_touched.proofs.Parts.{rows_part}
use Rattle.cr_touched.proofs.Shown.{is_present, is_its_key}
use Rattle.cr_sought.specs.declared.joined.Partner.{Partner}
use Rattle.cr_sought.specs.Sought.{Beside, joined_keys, keys_beside, keys_by, pinned}
use Rattle.cr_sought.specs.Joins.{AreWide, JoinsByKeys, MayLeaveOut, is_safe, most_rows, no_row, partner, partner_rows, partners, partners_from, width, widths}
use Rattle.cr_sought.proofs.Gathered.{all_append}
use Rattle.cr_sought.proofs.Keys.{Differs, StandsFrom, told_or_differs as of_told}
use Rattle.cr_sought.proofs.LeftOut.{IsRowOf, LeavesOut, Made, each_member, inner_leaves_out, left_leaves_out, made_long, row_wide}
use Rattle.cr_sought.proofs.Pins.{StandsIn, alone_stands, any_missed, differing, is_missed}

-- ---- lists that are put together

pub joins_two : {B : Type 0} (xs ys : List B) (o : Option (List B)) → joins (Some (xs ++ ys)) o ≡ joins (Some xs) (joins (Some ys) o)
joins_two xs ys None = refl
joins_two xs ys (Some zs) = ap (λ l. Some l) (append_assoc xs ys zs)

-- ---- partners in a combination

-- the rows stand in what is made of the combination
abbrev Stands : Row → ℕ → Row → Type 0
Stands f start r = (more : Row) → StandsIn (f ++ more) (record { start = start; row = r })

abbrev HasOne : Row → Partner → Type 0
HasOne f p = (r : Row) × Among p.rows r × Stands f p.start r

-- what is made of a combination begins with it
made_from : (before : List Joined) (front : List (List Row)) (c f : Row) → Made before front c f → (more : Row) × (f ≡ c ++ more)
made_from [] front c f made = ([], made ∙ sym (append-nil c))
made_from (j ∷ before) [] c f made = absurd made
made_from (j ∷ before) (t ∷ front) c f made =
    let k = made_from before front (c ++ made.0) f made.2 in
    (made.0 ++ k.0, k.1 ∙ append_assoc c made.0 k.0)

-- a row stands behind a combination from its end on
stands_behind : (c r : Row) (n : ℕ) → length c ≡ n → Stands (c ++ r) n r
stands_behind c r n long more at v h = by (nat_lt at n) refl h where
  placed : n ≤ at → slice_get r (at - n) ≡ Some v → get_or ((c ++ r) ++ more) at Null ≡ v
  placed far k =
      let near = slice_get_within r (at - n) v k in
      let is : at ≡ length c + (at - n) = omega (arith, far, long) in
      ap (λ (p : ℕ). get_or ((c ++ r) ++ more) p Null) is
      ∙ get_or_append_left (c ++ r) more Null (length c + (at - n)) (omega (arith, near, length-append c r))
      ∙ get_or-append-add c r (at - n) Null
      ∙ get_or_from_slice_get r (at - n) v Null k

  by : (b : Bool) → nat_lt at n ≡ b → cond b None (slice_get r (at - n)) ≡ Some v → get_or ((c ++ r) ++ more) at Null ≡ v
  by true is k = absurd cc
  by false is k = placed (ltb-false at n is) k

-- what stands in a combination stands in what is made of it
stands_on : (c more : Row) (start : ℕ) (r : Row) → Stands c start r → Stands (c ++ more) start r
stands_on c more start r stands rest = subst (λ d. StandsIn d (record { start = start; row = r })) (sym (append_assoc c more rest)) (stands (more ++ rest))

partner_of : (start : ℕ) (j : Joined) (t : List Row) (f r : Row) → IsRowOf j t r → Stands f start r → AllByRecursion (HasOne f) (partner start j t)
partner_of start j t f r of stands = by (nat_le (length t) most_rows) where
  among : IsRowOf j t r → Among (partner_rows j t) r
  among (inl m) = append_left t (cond j.is_left (single (nulls (width j))) []) r m
  among (inr n) = append_right t (cond j.is_left (single (nulls (width j))) []) r
      (subst (λ b. Among (cond b (single (nulls (width j))) []) r) (sym n.0) (inl n.1))

  by : (b : Bool) → AllByRecursion (HasOne f) (cond b (single (record { start = start; rows = partner_rows j t })) [])
  by true = ((r, among of, stands), tt)
  by false = tt

-- what stands in a combination
partners_in : (before : List Joined) (front : List (List Row)) (n : ℕ) (c f : Row) → AreWide before front → length c ≡ n → Made before front c f
    → AllByRecursion (HasOne f) (partners_from n before front)
partners_in [] [] n c f wide long made = tt
partners_in [] (t ∷ front) n c f wide long made = absurd wide
partners_in (j ∷ before) [] n c f wide long made = absurd wide
partners_in (j ∷ before) (t ∷ front) n c f wide long made =
    let r = made.0 in
    let near = row_wide j t wide.0 r made.1 in
    let next : length (c ++ r) ≡ n + width j = omega (arith, length-append c r, long, near) in
    let rest = made_from before front (c ++ r) f made.2 in
    let stands : Stands f n r = subst (λ d. Stands d n r) (sym rest.1) (stands_on (c ++ r) rest.0 n r (stands_behind c r n long)) in
    all_append (HasOne f) (partner n j t) (partners_from (n + width j) before front) (partner_of n j t f r made.1 stands)
    (partners_in before front (n + width j) (c ++ r) f wide.1 next made.2)

no_row_in : (f : Row) → HasOne f no_row
no_row_in f = ([], inl refl, λ more. alone_stands (f ++ more))

-- ---- rows whose keys are not told

-- among what is gathered is what is given of each member
gathered_of : {A B : Type 0} (f : A → Option (List B)) (xs : List A) (us : List B) (q : B → Bool) (x : A) → Among xs x → gather f xs ≡ Some us
    → (vs : List B) × (f x ≡ Some vs) × (list_any q vs ≡ true → list_any q us ≡ true)
gathered_of f [] us q x m e = absurd m
gathered_of {A} {B} f (y ∷ ys) us q x m e = by (λ ws k among. gathered_of f ys ws q x among k) (f y) (gather f ys) refl refl e where
  by : ((ws : List B) → gather f ys ≡ Some ws → Among ys x → (vs : List B) × (f x ≡ Some vs) × (list_any q vs ≡ true → list_any q ws ≡ true))
      → (o p : Option (List B)) → f y ≡ o → gather f ys ≡ p → joins o p ≡ Some us
      → (vs : List B) × (f x ≡ Some vs) × (list_any q vs ≡ true → list_any q us ≡ true)
  by rest None p is all k = absurd cc
  by rest (Some vs) None is all k = absurd cc
  by rest (Some vs) (Some ws) is all k =
      let same : vs ++ ws ≡ us = cc in
      elim m [
        | inl own ↦ (vs, ap f own ∙ is, λ h. ap (list_any q) (sym same) ∙ list_any-append q vs ws ∙ or_left _ _ h)
        | inr among ↦ (
            let g = rest ws all among in
            (g.0, g.1, λ h. ap (list_any q) (sym same) ∙ list_any-append q vs ws ∙ or_right (list_any q vs) _ (g.2 h)))
      ]

-- a row stands behind what is made of the tables further left
pub stands_from : (base : ℕ) (def : TableDef) (f : Row) → length f ≡ base → (r more : Row) → length r ≡ length def.columns → StandsFrom base r ((f ++ r) ++ more)
stands_from base def f long r more wide at near =
    (λ i. get_or ((f ++ r) ++ more) (sym long i + at) Null)
    ∙ get_or_append_left (f ++ r) more Null (length f + at) (omega (arith, near, length-append f r))
    ∙ get_or-append-add f r at Null

module _ (base : ℕ) (def : TableDef) (params : List Value) (terms : List Expr) (f : Row) (long : length f ≡ base) (r more : Row)
    (wide : length r ≡ length def.columns) where
  abbrev whole : Row
  whole = (f ++ r) ++ more

  abbrev Found : List (List ℕ) → Type 0
  Found keys = (list_any (same_bytes (key_of def r)) keys ≡ true) ⊎ ((b : Beside) × StandsIn whole b × Differs (pinned b params terms) whole)

  by_partner : (p : Partner) → HasOne f p → (keys : List (List ℕ)) → keys_by base def params terms p ≡ Some keys → Found keys
  by_partner p one keys e =
      let b : Beside = record { start = p.start; row = one.0 } in
      let g = gathered_of (λ r. keys_beside base def params terms (record { start = p.start; row = r })) p.rows keys (same_bytes (key_of def r)) one.0 one.1 e in
      elim (of_told (pinned b params terms) base def r whole wide (stands_from base def f long r more wide) g.0 g.1) [
        | inl own ↦ inl (g.2 own)
        | inr d ↦ inr (b, (λ at v h. stands at v h), d)
      ] where
        stands : StandsIn whole (record { start = p.start; row = one.0 })
        stands = subst (λ d. StandsIn d (record { start = p.start; row = one.0 })) (sym (append_assoc f r more)) (one.2 (r ++ more))

  told_or_differs : (ps : List Partner) → AllByRecursion (HasOne f) ps → (keys : List (List ℕ)) → joined_keys base def params terms ps ≡ Some keys → Found keys
  told_or_differs [] all keys e = absurd cc
  told_or_differs (p ∷ ps) all keys e = by (told_or_differs ps all.1 keys) (keys_by base def params terms p) refl e where
    by : (joined_keys base def params terms ps ≡ Some keys → Found keys) → (o : Option (List (List ℕ))) → keys_by base def params terms p ≡ o
        → option_or o (joined_keys base def params terms ps) ≡ Some keys → Found keys
    by rest None is k = rest k
    by rest (Some us) is k = by_partner p all.0 keys (is ∙ k)

-- ---- the law

-- a term of the ON of an inner join, or of WHERE, is one of the query
of_query : (q : Ordered → Bool) (joined : List Joined) (before : List Joined) (j : Joined) (after : List Joined) (filters : List Ordered)
    → joined ≡ before ++ (j ∷ after) → j.is_left ≡ false → list_any q (map view.plain j.on) ≡ true
    → list_any q (flat_map view.inner_terms joined ++ filters) ≡ true
of_query q joined before j after filters is inner h =
    list_any-append q (flat_map view.inner_terms joined) filters
    ∙ or_left _ _ (ap (λ js. list_any q (flat_map view.inner_terms js)) is ∙ go before) where
      own : list_any q (view.inner_terms j) ≡ true
      own = ap (λ b. list_any q (cond b [] (map view.plain j.on))) inner ∙ h

      go : (js : List Joined) → list_any q (flat_map view.inner_terms (js ++ (j ∷ after))) ≡ true
      go [] = list_any-append q (view.inner_terms j) (flat_map view.inner_terms after) ∙ or_left _ _ own
      go (k ∷ js) = list_any-append q (view.inner_terms k) (flat_map view.inner_terms (js ++ (j ∷ after))) ∙ or_right (list_any q (view.inner_terms k)) _ (go js)

pub all_behind : (p : Joined → Bool) (before : List Joined) (j : Joined) (after : List Joined) → list_all p (before ++ (j ∷ after)) ≡ true
    → list_all p after ≡ true
all_behind p [] j after h = (and_true (p j) (list_all p after) h).1
all_behind p (k ∷ before) j after h = all_behind p before j after (and_true (p k) (list_all p (before ++ (j ∷ after))) h).1

-- of what is made of members, what passes is made of those that pass
filter_made : {A B : Type 0} (f : A → B) (p : B → Bool) (q : A → Bool) (xs : List A) → AllByRecursion (λ x. p (f x) ≡ q x) xs
    → filter p (map f xs) ≡ map f (filter q xs)
filter_made f p q [] all = refl
filter_made {A} {B} f p q (x ∷ xs) all =
    ap (λ b. cond b (f x ∷ filter p (map f xs)) (filter p (map f xs))) all.0 ∙ by (filter_made f p q xs all.1) (q x) where
      by : filter p (map f xs) ≡ map f (filter q xs) → (b : Bool)
          → cond b (f x ∷ filter p (map f xs)) (filter p (map f xs)) ≡ map f (cond b (x ∷ filter q xs) (filter q xs))
      by rest true = ap (λ (ys : List B). f x ∷ ys) rest
      by rest false = rest

-- ---- rows that are shown

pub row_width : (def : TableDef) (kept : List Change) (k : List ℕ) → length (row kept def k) ≡ length def.columns
unfolding row
row_width def kept k = length-map def.columns (cell kept def.name k)

-- a row that is shown is that of its key
pub of_row : (def : TableDef) (kept : List Change) (r : Row) → Among (rows kept def) r
    → (k : List ℕ) × Among (alive_keys kept def.name) k × (r ≡ row kept def k)
unfolding rows
of_row def kept r m = Among-map (row kept def) (alive_keys kept def.name) r m

-- those of some keys are the rows that what is kept of these keys shows
pub told_rows : (def : TableDef) → has_key def ≡ true → (kept : List Change) → AreKeptOf def kept → (p : List ℕ → Bool)
    → filter (passes def p) (rows kept def) ≡ rows (part def.name p kept) def
unfolding rows
told_rows def keyed kept are p =
    filter_made (row kept def) (passes def p) p (alive_keys kept def.name)
    (each_member (λ k. passes def p (row kept def k) ≡ p k) (alive_keys kept def.name)
    (λ k m. ap p (is_its_key def keyed kept are k (is_present def keyed kept are k m))))
    ∙ sym (rows_part def p kept)

module _ (host : Host) (params : List Value) (regard : Regard) (def : TableDef) (q : Query) (before : List Joined) (j : Joined)
    (after : List Joined) (front : List (List Row)) (kept : List Change) (back : List (List Row)) (terms : List Expr) (keys : List (List ℕ))
    (bytes : OrdersBytes host) (keyed : has_key def ≡ true) (are : AreKeptOf def kept) (is : q.joined ≡ before ++ (j ∷ after))
    (all_safe : list_all is_safe q.joined ≡ true) (wide : AreWide before front) (may : MayLeaveOut q j terms)
    (told : joined_keys (widths before) def params terms (partners before front) ≡ Some keys) where
  abbrev there : List Row
  there = rows kept def

  -- the row of a key that is told
  abbrev is_told : Row → Bool
  is_told r = is_key_of keys (key_of def r)

  -- on a combination with a row of another key some of the terms is not true
  misses : (f : Row) → Made before front [] f → (r : Row) → Among there r → is_told r ≡ false → (more : Row)
      → any_missed host params ((f ++ r) ++ more) regard terms ≡ true
  misses f made r among out more =
      let k = of_row def kept r among in
      let long = made_long before front f wide made in
      let w : length r ≡ length def.columns = ap length k.2 ∙ row_width def kept k.0 in
      elim (told_or_differs (widths before) def params terms f long r more w (partners before front) (no_row_in f, partners_in before front 0 [] f wide refl made) keys told) [
        | inl so ↦ absurd (let e : true ≡ false = sym so ∙ out in cc)
        | inr d ↦ differing host params ((f ++ r) ++ more) regard bytes d.0 d.1 terms d.2
      ]

  abbrev missed : Row → Ordered → Bool
  missed c = is_missed host params c regard

  of_all : j.is_left ≡ false → (terms ≡ j.on) ⊎ (terms ≡ q.filter) → (c : Row) → any_missed host params c regard terms ≡ true
      → list_any (missed c) (view.terms q) ≡ true
  of_all inner (inl on) c h =
      of_query (missed c) q.joined before j after (map view.plain q.filter) is inner
      (ap (λ (es : List Expr). list_any (missed c) (map view.plain es)) (sym on) ∙ h)
  of_all inner (inr where_) c h =
      list_any-append (missed c) (flat_map view.inner_terms q.joined) (map view.plain q.filter)
      ∙ or_right (list_any (missed c) (flat_map view.inner_terms q.joined)) _
      (ap (λ (es : List Expr). list_any (missed c) (map view.plain es)) (sym where_) ∙ h)

  abbrev Alike : Type 0
  Alike = LeavesOut host params regard q before j after front there is_told back is wide

  inner_alike : j.is_left ≡ false → (terms ≡ j.on) ⊎ (terms ≡ q.filter) → Alike
  inner_alike inner which =
      inner_leaves_out host params regard q before j after front there is_told back is wide inner
      (all_behind is_safe before j after (ap (list_all is_safe) (sym is) ∙ all_safe))
      (λ f made r among out more. of_all inner which ((f ++ r) ++ more) (misses f made r among out more))

  left_alike : j.is_left ≡ true → terms ≡ j.on → Alike
  left_alike brought on =
      left_leaves_out host params regard q before j after front there is_told back is wide brought
      (λ f made r among out more.
      ap (λ (es : List Expr). list_any (missed ((f ++ r) ++ more)) (map view.plain es)) (sym on) ∙ misses f made r among out more)

  alike : Alike
  alike = elim may [
    | inl on ↦ elim (split j.is_left) [
      | inl brought ↦ left_alike brought on
      | inr inner ↦ inner_alike inner (inl on)
    ]
    | inr r ↦ inner_alike r.0 (inr r.1)
  ]

pub joins_by_keys : JoinsByKeys
joins_by_keys host params regard def q before j after front kept back terms keys bytes keyed are is all_safe wide may told =
    alike host params regard def q before j after front kept back terms keys bytes keyed are is all_safe wide may told
    ∙ ap (λ (rs : List Row). answer (regarded regard host params) (view.query q) (front ++ (rs ∷ back)))
    (told_rows def keyed kept are (is_key_of keys))
