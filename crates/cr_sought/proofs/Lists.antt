-- On rows of other keys than are sought the terms are not all true, and do not fault; a join answers the same over the rows of the
-- keys that a list tells as over all rows of a table.
use Rattle.std.proofs.Common.{◌≡◌, ◌⊎◌, inl, inr, ◌∙◌, ℕ, zero, suc, ◌-◌, ◌≤◌, ◌<◌, nat_lt, arith, Bool, ◌&&◌, ◌||◌, true, false, not, cond, List, [], ◌∷◌, ◌++◌, length, length-append, map, get_or, Option, Some, None, Ok, Err, refl, sym, ap, subst, if◌then◌else◌}
use Rattle.std.specs.Prelude.{◌==◌, filter, nat_le, slice_get}
use Rattle.std.specs.List.{flat_map, list_any, list_all, AllByRecursion}
use Rattle.std.specs.Option.{option_and_then, option_map, option_map_or, option_or, is_some}
use Rattle.std.specs.Int.{w32, to_be_bytes}
use Rattle.std.proofs.lemmas.Bool.{eqb-true, le-leb, ltb-false}
use Rattle.std.proofs.lemmas.List.Elements.{filter-append}
use Rattle.std.proofs.lemmas.List.Folds.{list_any-append}
use Rattle.std.proofs.lemmas.Option.{get_or_from_slice_get, slice_get-map, slice_get_within}
use Rattle.cr_value.specs.declared.value.Value.{Value}
use Rattle.cr_value.specs.declared.value.Value.TheVariants.{Null, Int, Text, Blob}
use Rattle.cr_value.specs.Packing.{packed, packed_value, size_limit}
use Rattle.cr_value.proofs.Fields.{provided, some_is}
use Rattle.cr_lattice.specs.declared.change.Change.{Change}
use Rattle.cr_lattice.specs.declared.table.ColumnDef.{ColumnDef}
use Rattle.cr_lattice.specs.declared.table.TableDef.{TableDef}
use Rattle.cr_lattice.specs.Check.{is_key_column, same_bytes}
use Rattle.cr_lattice.specs.Profile.{has_key}
use Rattle.cr_lattice.specs.Rows.{alive_keys, cell, row, rows}
use Rattle.cr_lattice.proofs.Tested.{and_true, or_false, or_right}
use Rattle.cr_delta.specs.Key.{key_of}
use Rattle.cr_delta.proofs.Among.{Among}
use Rattle.cr_term.specs.declared.operator.Logic.TheVariants as logic
use Rattle.cr_term.specs.declared.operator.Meeting.{Meeting}
use Rattle.cr_term.specs.declared.expr.Expr.{Expr, out-Expr, map-Expr}
use Rattle.cr_term.specs.declared.expr.Expr.TheOpen.{When-F, Literal, Param, Column, In}
use Rattle.cr_term.specs.declared.query.Joined.{Joined}
use Rattle.cr_term.specs.Operands.{binary}
use Rattle.cr_term.specs.Same.{Layer}
use Rattle.cr_term.specs.Terms.{quiet, quiet_layer}
use Rattle.cr_scalar.specs.Host.{Host}
use Rattle.cr_scalar.specs.declared.fault.EvalFault.TheVariants.{TooBig}
use Rattle.cr_value.specs.Size.{value_len}
use Rattle.cr_scalar.specs.Meaning.{Meant, and_then, bounded}
use Rattle.cr_scalar.specs.Numbers.{decides, either, truth, truth_value}
use Rattle.cr_expr.specs.Setting.{Setting}
use Rattle.cr_expr.specs.Eval.{Meaning, Arm, meaning, arm_of, layer, eval_of, equals, in_of}
use Rattle.cr_expr.proofs.Nodes.{one_node}
use Rattle.cr_bags.specs.Bags.{gather, single}
use Rattle.cr_query.specs.Query.{Row, Meaning as Meant_by, is_true, and_so, all_true, holds, answer}
use Rattle.cr_query.specs.Plans.{QuietIsSafe}
use Rattle.cr_meaning.specs.View.{Ordered}
use Rattle.cr_meaning.specs.View as view
use Rattle.cr_meaning.specs.Meaning as queries
use Rattle.cr_meaning.proofs.Limits.{known_so, safe}
use Rattle.cr_exec.specs.Equalities.{OrdersBytes}
use Rattle.cr_touched.specs.Parts.{is_key_of}
use Rattle.cr_touched.specs.Shown.{AreKeptOf}
use Rattle.cr_touched.specs.Touched.{passes}
use Rattle.cr_touched.proofs.Keys.{Spells, key_cell}
use Rattle.cr_touched.proofs.Shown.{alive_spells, is_present}
use Rattle.cr_sought.specs.Sought.{alone, given, is_of_key, keys_told, on_right, pinned}
use Rattle.cr_sought.specs.Joins.{JoinsByList, has_quiet_on, is_safe, widths}
use Rattle.cr_sought.specs.Lists.{first_not_quiet, is_key_at, item, item_in, items_of, keys_in, list_in, list_of, listed_keys, most_items, place_in, sought_keys, within_limit}
use Rattle.cr_sought.proofs.Gathered.{parted}
use Rattle.cr_sought.proofs.Joins.{all_behind, of_row, row_width, stands_from, told_rows}
use Rattle.cr_sought.proofs.Keys.{Differs, StandsFrom, stands_alone, told_or_differs}
use Rattle.cr_sought.proofs.LeftOut.{made_long, rejects_out}
use Rattle.cr_sought.proofs.Pins.{met, null_left, of_right, rejects, then_some, untrue}

-- ---- parts

abbrev at_place : Option (List Value) → ℕ → Option (ℕ × List Value)
at_place o at = option_map {U = ℕ × List Value} (λ vs. (at, vs)) o

one_of : {X : Type 0} (o : Option X) (xs : List X) → option_map single o ≡ Some xs → (x : X) × (o ≡ Some x) × (single x ≡ xs)
one_of None xs e = absurd cc
one_of (Some x) xs e = (x, refl, some_is (single x) xs e)

-- ---- the first term that isn't quiet

module _ {E : Type 0} (m : Meant_by E) (never : QuietIsSafe m) where
  all_filtered : (p : E → Bool) (es : List E) → AllByRecursion (λ e. p e ≡ true) (filter p es)
  all_filtered p [] = tt
  all_filtered p (e ∷ es) = by (all_filtered p es) (p e) refl where
    by : AllByRecursion (λ e. p e ≡ true) (filter p es) → (b : Bool) → p e ≡ b → AllByRecursion (λ e. p e ≡ true) (cond b (e ∷ filter p es) (filter p es))
    by rest true so = (so, rest)
    by rest false so = rest

  behind_quiet : (qs : List E) (e : E) (es : List E) (r : Row) → AllByRecursion (λ q. m.quiet q ≡ true) qs → is_true m e r ≡ Some false
      → all_true m (qs ++ (e ∷ es)) r ≡ Some false
  behind_quiet [] e es r are fails = ap (λ o. and_so o (all_true m es r)) fails
  behind_quiet (q ∷ qs) e es r are fails = by (behind_quiet qs e es r are.1 fails) (is_true m q r) refl where
    by : all_true m (qs ++ (e ∷ es)) r ≡ Some false → (o : Option Bool) → is_true m q r ≡ o → and_so o (all_true m (qs ++ (e ∷ es)) r) ≡ Some false
    by rest None is = absurd (never q r are.0 is)
    by rest (Some true) is = rest
    by rest (Some false) is = refl

  -- a row on which it is not true comes to nothing: quiet terms are tested before it, and have no fault
  pub first_rejects : (terms : List E) (e : E) (es : List E) (r : Row) → filter (λ t. not (m.quiet t)) terms ≡ e ∷ es → is_true m e r ≡ Some false
      → holds m terms r ≡ Some false
  first_rejects terms e es r first fails =
      ap (λ ts. all_true m (filter m.quiet terms ++ ts) r) first ∙ behind_quiet (filter m.quiet terms) e es r (all_filtered m.quiet terms) fails

first_is : (terms : List Expr) (e : Expr) → first_not_quiet terms ≡ Some e
    → (es : List Ordered) × (filter (λ t. not (quiet t.expr)) (map view.plain terms) ≡ view.plain e ∷ es)
first_is [] e h = absurd cc
first_is (t ∷ ts) e h = by (first_is ts e) (quiet t) h where
  others : List Ordered
  others = filter (λ t. not (quiet t.expr)) (map view.plain ts)

  by : (first_not_quiet ts ≡ Some e → (es : List Ordered) × (others ≡ view.plain e ∷ es)) → (b : Bool) → cond (not b) (Some t) (first_not_quiet ts) ≡ Some e
      → (es : List Ordered) × (cond (not b) (view.plain t ∷ others) others ≡ view.plain e ∷ es)
  by rest true k = rest k
  by rest false k = (others, ap (λ x. view.plain x ∷ others) (some_is t e k))

-- ---- a list on a row

module _ (host : Host) (bytes : OrdersBytes host) (params : List Value) (r : Row) (most : Option ℕ) (limit : queries.IsLimit most) where
  abbrev here : Setting
  here = queries.at_row most host params r

  abbrev value_here : Layer → Meant
  value_here y = and_then (layer (map-Expr Expr (When-F Expr (Unit {0})) Meaning Arm meaning arm_of y) here) (bounded most)

  fits : (v : Value) → nat_le (value_len v) size_limit ≡ true → bounded most v ≡ Ok v
  fits v small = elim limit [
    | inl none ↦ ap (λ o. bounded o v) none
    | inr some ↦ ap (λ o. bounded o v) some ∙ ap (λ (b : Bool). if b then Ok v else Err TooBig) small
  ]

  item_has : (e : Expr) (v : Value) → item params e ≡ Some v → eval_of here e ≡ Ok v
  item_has e v h = one_node here e ∙ by (out-Expr e) h where
    small : (u : Value) → within_limit u ≡ Some v → bounded most u ≡ Ok v
    small u k = let p = provided (nat_le (value_len u) size_limit) (Some u) v k in fits u p.0 ∙ ap Ok (some_is u v p.1)

    by : (y : Layer) → item_in params y ≡ Some v → value_here y ≡ Ok v
    by (Literal u) k = small u k
    by (Param n) k = small (get_or params (n - 1) Null) k
    by _ k = absurd cc

  column_has : (x : Expr) (at : ℕ) → place_in (out-Expr x) ≡ Some at → nat_le (value_len (get_or r at Null)) size_limit ≡ true
      → eval_of here x ≡ Ok (get_or r at Null)
  column_has x at h small = one_node here x ∙ by (out-Expr x) h where
    by : (y : Layer) → place_in y ≡ Some at → value_here y ≡ Ok (get_or r at Null)
    by (Column f) k = ap (λ n. bounded most (get_or r n Null)) (some_is f.at at k) ∙ fits (get_or r at Null) small
    by _ k = absurd cc

  module _ (m : Meeting) (is : same_bytes m.collation binary ≡ true) (v : Value) where
    -- the value is that of no item, or that is NULL
    abbrev Apart : Value → Type 0
    Apart w = v ≡ w → w ≡ Null

    unequal : (u w : Value) → on_right m.adjusted u ≡ Some w → Apart w → equals host.order v m u ≡ Some true → ⊥
    unequal u w told apart so =
        let same = of_right m.adjusted v u w told (met host bytes m is v u so) in
        null_left host.order m v u (same ∙ apart same) so

    neither : (a b : Option Bool) → (a ≡ Some true → ⊥) → (b ≡ Some true → ⊥) → either a b ≡ Some true → ⊥
    neither (Some true) b na nb e = na refl
    neither (Some false) b na nb e = nb e
    neither None (Some true) na nb e = nb refl
    neither None (Some false) na nb e = absurd cc
    neither None None na nb e = absurd cc

    abbrev values : List Expr → List Meant
    values es = map (λ f. f here) (map meaning es)

    abbrev Untrue : Option Bool → List Meant → Type 0
    Untrue so_far ms = (t : Option Bool) × (in_of (equals host.order v m) so_far ms ≡ Ok t) × (t ≡ Some true → ⊥)

    none_in : (es : List Expr) (ws : List Value) → items_of params m.adjusted es ≡ Some ws → AllByRecursion Apart ws
        → (so_far : Option Bool) → (so_far ≡ Some true → ⊥) → Untrue so_far (values es)
    none_in [] ws h apart so_far never = (so_far, refl, never)
    none_in (e ∷ es) ws h apart so_far never =
        let j = parted (option_map single (option_and_then (on_right m.adjusted) (item params e))) (items_of params m.adjusted es) ws h in
        let w = one_of (option_and_then (on_right m.adjusted) (item params e)) j.0 j.2 in
        let u = then_some (on_right m.adjusted) (item params e) w.0 w.1 in
        let all : AllByRecursion Apart (w.0 ∷ j.1) = subst (AllByRecursion Apart) (sym (ap (λ us. us ++ j.1) w.2 ∙ j.4)) apart in
        let next = either so_far (equals host.order v m u.0) in
        let rest = none_in es j.1 j.3 all.1 next (neither so_far (equals host.order v m u.0) never (unequal u.0 w.0 u.2 all.0)) in
        by u.0 (item_has e u.0 u.1) rest (decides logic.Or so_far)
      where
        by : (u : Value) → eval_of here e ≡ Ok u → Untrue (either so_far (equals host.order v m u)) (values es) → (b : Bool)
            → (t : Option Bool) × ((if b then Ok so_far else and_then (eval_of here e) (λ w. in_of (equals host.order v m) (either so_far (equals host.order v m w)) (values es))) ≡ Ok t) × (t ≡ Some true → ⊥)
        by u has rest true = (so_far, refl, never)
        by u has rest false = (rest.0, ap (λ o. and_then o (λ w. in_of (equals host.order v m) (either so_far (equals host.order v m w)) (values es))) has ∙ rest.1, rest.2)

  truth_small : (t : Option Bool) → bounded most (truth_value t) ≡ Ok (truth_value t)
  truth_small (Some true) = fits (truth_value (Some true)) refl
  truth_small (Some false) = fits (truth_value (Some false)) refl
  truth_small None = fits Null refl

  abbrev so : Meant → Option Bool
  so m = option_and_then (λ v. queries.is_so (truth v)) (queries.value_of m)

  -- a list that has not the column's value is not true
  pub list_misses : (e : Expr) (at : ℕ) (ws : List Value) → list_of params e ≡ Some (at, ws) → nat_le (value_len (get_or r at Null)) size_limit ≡ true
      → AllByRecursion (λ w. get_or r at Null ≡ w → w ≡ Null) ws → is_true (queries.meaning most host params) (view.plain e) r ≡ Some false
  list_misses e at ws h small apart = by (out-Expr e) refl h where
    v : Value
    v = get_or r at Null

    untold : (y : Layer) → out-Expr e ≡ y → quiet_layer y ≡ false → so (value_here y) ≡ Some false
        → so (eval_of (queries.at_row (cond (quiet e) None most) host params r) e) ≡ Some false
    untold y is loud told =
        ap (λ b. so (eval_of (queries.at_row (cond b None most) host params r) e)) (ap quiet_layer is ∙ loud)
        ∙ ap so (one_node here e) ∙ ap (λ z. so (value_here z)) is ∙ told

    by : (y : Layer) → out-Expr e ≡ y → list_in params y ≡ Some (at, ws)
        → so (eval_of (queries.at_row (cond (quiet e) None most) host params r) e) ≡ Some false
    by (In false m x items) is k =
        let p = provided (same_bytes m.collation binary && nat_le (length items) most_items) (option_and_then (at_place (items_of params m.adjusted items)) (place_in (out-Expr x))) (at, ws) k in
        let b = (and_true (same_bytes m.collation binary) (nat_le (length items) most_items) p.0).0 in
        let column = then_some (at_place (items_of params m.adjusted items)) (place_in (out-Expr x)) (at, ws) p.1 in
        let told = mapped column.0 (items_of params m.adjusted items) column.2 in
        let n = none_in m b v items ws told.1 apart (Some false) (λ e. absurd cc) in
        untold (In false m x items) is refl
        (ap (λ o. so (and_then (and_then o (λ v. and_then (in_of (equals host.order v m) (Some false) (values m b v items)) (λ t. Ok (truth_value t)))) (bounded most)))
        (column_has x at (column.1 ∙ ap Some told.0) small)
        ∙ ap (λ o. so (and_then (and_then o (λ t. Ok (truth_value t))) (bounded most))) n.1
        ∙ ap so (truth_small n.0)
        ∙ untrue n.0 n.2)
      where
        mapped : (place : ℕ) (o : Option (List Value)) → at_place o place ≡ Some (at, ws) → (place ≡ at) × (o ≡ Some ws)
        mapped place None e = absurd cc
        mapped place (Some vs) e = let same = some_is {A = ℕ × List Value} (place, vs) (at, ws) e in (ap (λ p. p.0) same, ap (λ p. Some p.1) same)
    by _ is k = absurd cc

-- ---- a row of another key

-- the row of a table whose columns begin at this place of the combination
module _ (base : ℕ) (def : TableDef) (params : List Value) (terms : List Expr) (at : ℕ) (r c : Row) (wide : length r ≡ length def.columns)
    (stands : StandsFrom base r c) where
  abbrev told : ℕ → Option Value
  told = pinned alone params terms

  abbrev Apart_there : Value → Type 0
  Apart_there v = get_or c at Null ≡ v → v ≡ Null

  apart_or_differs : (v : Value) → Differs (given at v told) c → Differs told c ⊎ Apart_there v
  apart_or_differs v d = by (d.at == at) refl d.tells where
    by : (b : Bool) → (d.at == at) ≡ b → cond b (Some v) (told d.at) ≡ Some d.wanted → Differs told c ⊎ Apart_there v
    by true is k =
        let same = some_is v d.wanted k in
        inr (λ e. same ∙ d.differs (ap (λ n. get_or c n Null) (eqb-true d.at at is) ∙ e ∙ same))
    by false is k = inl (record { at = d.at; wanted = d.wanted; tells = k; differs = d.differs })

  -- a row of none of the keys has another value than a term pins a column to, or none of the list's
  others : (vs : List Value) (keys : List (List ℕ)) → gather (λ v. keys_told (given at v told) base def) vs ≡ Some keys
      → is_key_of keys (key_of def r) ≡ false → Differs told c ⊎ AllByRecursion Apart_there vs
  others [] keys h out = inr tt
  others (v ∷ vs) keys h out =
      let q = same_bytes (key_of def r) in
      let j = parted (keys_told (given at v told) base def) (gather (λ v. keys_told (given at v told) base def) vs) keys h in
      let o = or_false (list_any q j.0) (list_any q j.1) (sym (list_any-append q j.0 j.1) ∙ ap (list_any q) j.4 ∙ out) in
      let first : Differs told c ⊎ Apart_there v = elim (told_or_differs (given at v told) base def r c wide stands j.0 j.2) [
        | inl own ↦ absurd (let e : true ≡ false = sym own ∙ o.0 in cc)
        | inr d ↦ apart_or_differs v d
      ] in
      elim first [
        | inl d ↦ inl d
        | inr apart ↦ elim (others vs j.1 j.3 o.1) [
          | inl d ↦ inl d
          | inr rest ↦ inr (apart, rest)
        ]
      ]

-- ---- no part of a key is too large

value_small : (v : Value) → value_len v ≤ length (packed_value v)
value_small Null = omega arith
value_small (Int n) = omega arith
value_small (Text t) = omega (arith, length-append (to_be_bytes w32 (length t)) t)
value_small (Blob b) = omega (arith, length-append (to_be_bytes w32 (length b)) b)

part_small : (vs : List Value) (i : ℕ) → value_len (get_or vs i Null) ≤ length (flat_map packed_value vs)
part_small [] i = omega arith
part_small (v ∷ vs) zero = omega (arith, value_small v, length-append (packed_value v) (flat_map packed_value vs))
part_small (v ∷ vs) (suc i) = omega (arith, part_small vs i, length-append (packed_value v) (flat_map packed_value vs))

key_small : (def : TableDef) → has_key def ≡ true → (kept : List Change) → AreKeptOf def kept → (k : List ℕ) → Among (alive_keys kept def.name) k
    → (at : ℕ) → is_of_key def at ≡ true → nat_le (value_len (get_or (row kept def k) at Null)) size_limit ≡ true
unfolding row
key_small def keyed kept are k among at of = by (slice_get def.columns at) refl of where
  there : (vs : List Value) × Spells def k vs
  there = alive_spells def keyed kept are k (is_present def keyed kept are k among)

  f : ColumnDef → Value
  f = cell kept def.name k

  small : (i : ℕ) → nat_le (value_len (get_or there.0 i Null)) size_limit ≡ true
  small i =
      let spelled : length (packed there.0) ≡ length k = ap length there.1.spelled in
      le-leb (value_len (get_or there.0 i Null)) size_limit (omega (arith, part_small there.0 i, spelled, there.1.are.size))

  in_key : (col : ColumnDef) → slice_get def.columns at ≡ Some col → (o : Option ℕ) → col.key ≡ o → is_some o ≡ true
      → nat_le (value_len (get_or (map f def.columns) at Null)) size_limit ≡ true
  in_key col is None key so = absurd cc
  in_key col is (Some place) key so =
      ap (λ v. nat_le (value_len v) size_limit)
      (get_or_from_slice_get (map f def.columns) at (f col) Null (slice_get-map f def.columns at ∙ ap (option_map f) is)
      ∙ key_cell def keyed kept k there.0 there.1 col place key)
      ∙ small (place - 1)

  by : (o : Option ColumnDef) → slice_get def.columns at ≡ o → option_map_or is_key_column o false ≡ true
      → nat_le (value_len (get_or (map f def.columns) at Null)) size_limit ≡ true
  by None is h = absurd cc
  by (Some col) is h = in_key col is col.key refl h

-- ---- rows of other keys

pub its_width : (def : TableDef) (kept : List Change) (r : Row) → Among (rows kept def) r → length r ≡ length def.columns
its_width def kept r among = let k = of_row def kept r among in ap length k.2 ∙ row_width def kept k.0

module _ (host : Host) (params : List Value) (regard : queries.Regard) (limit : queries.IsLimit regard.most) (bytes : OrdersBytes host) (def : TableDef)
    (keyed : has_key def ≡ true) (kept : List Change) (are : AreKeptOf def kept) (terms : List Expr) (keys : List (List ℕ)) where
  abbrev m : Meant_by Ordered
  m = queries.regarded regard host params

  -- terms before these that are quiet
  module _ (front : List Ordered) (all_quiet : filter (λ t. not (quiet t.expr)) front ≡ []) (base : ℕ) where
    abbrev Rejects : Type 0
    Rejects = (r c : Row) → Among (rows kept def) r → StandsFrom base r c → is_key_of keys (key_of def r) ≡ false
        → holds m (front ++ map view.plain terms) c ≡ Some false

    by_list : (e : Expr) → first_not_quiet terms ≡ Some e → (at : ℕ) (ws : List Value) → list_of params e ≡ Some (at, ws)
        → keys_in base def params terms (at, ws) ≡ Some keys → Rejects
    by_list e first at ws list told_keys r c among stands out =
        let g = provided (is_key_at base def at) (gather (λ v. keys_told (given at v (pinned alone params terms)) base def) ws) keys told_keys in
        let i = in_table g.0 in
        let k = of_row def kept r among in
        let wide = its_width def kept r among in
        let value : get_or c at Null ≡ get_or r (at - base) Null =
        ap (λ n. get_or c n Null) (omega (arith, i.0)) ∙ stands (at - base) (omega (arith, wide, within (at - base) i.1)) in
        let small =
        ap (λ v. nat_le (value_len v) size_limit) value
        ∙ ap (λ (r : Row). nat_le (value_len (get_or r (at - base) Null)) size_limit) k.2
        ∙ key_small def keyed kept are k.0 k.1 (at - base) i.1 in
        let f = first_is terms e first in
        let whole : filter (λ t. not (quiet t.expr)) (front ++ map view.plain terms) ≡ view.plain e ∷ f.0 =
        filter-append (λ t. not (quiet t.expr)) front (map view.plain terms) ∙ (λ i. all_quiet i ++ f.1 i) in
        elim (others base def params terms at r c wide stands ws keys g.1 out) [
          | inl d ↦ rejects host params c regard bytes front terms d
          | inr apart ↦
              first_rejects m (safe regard host params) (front ++ map view.plain terms) (view.plain e) f.0 c whole
              (known_so regard (eval_of (queries.at_row (queries.limit_of regard.most e) host params c) e) false (list_misses host bytes params c regard.most limit e at ws list small apart))
        ] where
          in_table : is_key_at base def at ≡ true → (base ≤ at) × (is_of_key def (at - base) ≡ true)
          in_table h = by (nat_lt at base) refl h where
            by : (b : Bool) → nat_lt at base ≡ b → cond b false (is_of_key def (at - base)) ≡ true → (base ≤ at) × (is_of_key def (at - base) ≡ true)
            by true is h = absurd cc
            by false is h = (ltb-false at base is, h)

          within : (place : ℕ) → is_of_key def place ≡ true → place < length def.columns
          within place h = by (slice_get def.columns place) refl h where
            by : (o : Option ColumnDef) → slice_get def.columns place ≡ o → option_map_or is_key_column o false ≡ true → place < length def.columns
            by None is h = absurd cc
            by (Some col) is h = slice_get_within def.columns place col is

    pub listed_rejects : listed_keys base def params terms ≡ Some keys → Rejects
    unfolding listed_keys
    listed_rejects told_keys =
        let l = then_some (keys_in base def params terms) (option_and_then (list_of params) (first_not_quiet terms)) keys told_keys in
        let e = then_some (list_of params) (first_not_quiet terms) l.0 l.1 in
        by_list e.0 e.1 l.0.0 l.0.1 e.2 l.2

  abbrev RejectsAlone : Type 0
  RejectsAlone = (r : Row) → Among (rows kept def) r → is_key_of keys (key_of def r) ≡ false → holds m (map view.plain terms) r ≡ Some false

  by_values : keys_told (pinned alone params terms) 0 def ≡ Some keys → RejectsAlone
  by_values told_keys r among out =
      elim (told_or_differs (pinned alone params terms) 0 def r r (its_width def kept r among) (stands_alone r) keys told_keys) [
        | inl own ↦ absurd (let e : true ≡ false = sym own ∙ out in cc)
        | inr d ↦ rejects host params r regard bytes [] terms d
      ]

  -- on a row of none of the keys that are sought the terms are not all true, and do not fault
  pub sought_rejects : sought_keys def params terms ≡ Some keys → RejectsAlone
  unfolding sought_keys
  sought_rejects sought = by (keys_told (pinned alone params terms) 0 def) refl sought where
    by : (o : Option (List (List ℕ))) → keys_told (pinned alone params terms) 0 def ≡ o → option_or o (listed_keys 0 def params terms) ≡ Some keys → RejectsAlone
    by None is k = λ r among out. listed_rejects [] refl 0 k r r among (stands_alone r) out
    by (Some us) is k = by_values (is ∙ k)

-- ---- joins

quiet_ons : (js : List Joined) → list_all has_quiet_on js ≡ true → filter (λ t. not (quiet t.expr)) (flat_map view.inner_terms js) ≡ []
quiet_ons [] h = refl
quiet_ons (j ∷ js) h =
    let b = and_true (has_quiet_on j) (list_all has_quiet_on js) h in
    filter-append (λ t. not (quiet t.expr)) (view.inner_terms j) (flat_map view.inner_terms js)
    ∙ (λ i. of_join j.is_left i ++ quiet_ons js b.1 i)
  where
    none : (es : List Expr) → list_all quiet es ≡ true → filter (λ t. not (quiet t.expr)) (map view.plain es) ≡ []
    none [] q = refl
    none (e ∷ es) q = let b = and_true (quiet e) (list_all quiet es) q in (λ i. cond (not (b.0 i)) (view.plain e ∷ none es b.1 i) (none es b.1 i))

    of_join : (b : Bool) → filter (λ t. not (quiet t.expr)) (cond b [] (map view.plain j.on)) ≡ []
    of_join true = refl
    of_join false = none j.on (and_true (has_quiet_on j) (list_all has_quiet_on js) h).0

all_safe : (js : List Joined) → list_all has_quiet_on js ≡ true → list_all is_safe js ≡ true
all_safe [] h = refl
all_safe (j ∷ js) h =
    let b = and_true (has_quiet_on j) (list_all has_quiet_on js) h in
    (λ i. (not j.is_left || b.0 i) && all_safe js b.1 i) ∙ ap (λ t. t && true) (or_right (not j.is_left) true refl)

pub joins_by_list : JoinsByList
joins_by_list host params regard def q before j after front kept back keys limit bytes keyed are is quiet_on wide inner sought =
    let p = passes def (is_key_of keys) in
    let safe_after = all_behind is_safe before j after (ap (list_all is_safe) (sym is) ∙ all_safe q.joined quiet_on) in
    rejects_out host params regard q before j after front (rows kept def) p back is wide inner safe_after
    (λ f made r among out more.
    listed_rejects host params regard limit bytes def keyed kept are q.filter keys (flat_map view.inner_terms q.joined) (quiet_ons q.joined quiet_on)
    (widths before) sought r ((f ++ r) ++ more) among
    (stands_from (widths before) def f (made_long before front f wide made) r more (its_width def kept r among)) out)
    ∙ ap (λ (rs : List Row). answer (queries.regarded regard host params) (view.query q) (front ++ (rs ∷ back))) (told_rows def keyed kept are (is_key_of keys))
