-- Where a query has no answer, or a write wants no rows, an expression of it lacks a value there.
use Rattle.std.proofs.Common.{◌≡◌, ◌⊎◌, inl, inr, Bool, true, false, cond, not, List, [], ◌∷◌, ◌++◌, map, Option, Some, None, IsSomeAnd, option_map, refl, sym, subst}
use Rattle.std.specs.Option.{option_and_then, option_to_list}
use Rattle.cr_value.specs.declared.value.Value.{Value}
use Rattle.cr_lattice.specs.declared.table.ColumnDef.{ColumnDef}
use Rattle.cr_bags.specs.Bags.{joins, gather, each, those, single}
use Rattle.cr_query.specs.Queries.{Query, Joining, Insert, Update, Delete}
use Rattle.cr_query.specs.Query.{Row, Group, Meaning, and_so, is_true, all_true, quiet_first, holds, nulls, or_padded, with_rows, joined_with, combined, joined, keyed, groups_of, groups, has, pair, shows, judged, shown_groups, shown, finished, answer}
use Rattle.cr_query.specs.Writes.{put_all, defaults, values, inserted, inserted_rows, assigned, updated, wanted_by_insert, wanted_by_update, wanted_by_delete}
use Rattle.cr_query.specs.Faults.{OfOne, operands, OneHas, TermsHave, OnsHave, GroupHas, KeptHave, Valueless, ValuelessOver, Truthless, TruthlessOver, QueryLacks, InsertLacks, UpdateLacks, DeleteLacks}

-- ---- one of a list

pub one_map : {X : Type 0} (P Q : X → Type 0) → ((x : X) → P x → Q x) → (xs : List X) → OfOne P xs → OfOne Q xs
one_map P Q f [] h = absurd h
one_map P Q f (x ∷ xs) (inl p) = inl (f x p)
one_map P Q f (x ∷ xs) (inr h) = inr (one_map P Q f xs h)

one_left : {X : Type 0} (P : X → Type 0) (xs ys : List X) → OfOne P xs → OfOne P (xs ++ ys)
one_left P [] ys h = absurd h
one_left P (x ∷ xs) ys (inl p) = inl p
one_left P (x ∷ xs) ys (inr h) = inr (one_left P xs ys h)

one_right : {X : Type 0} (P : X → Type 0) (xs ys : List X) → OfOne P ys → OfOne P (xs ++ ys)
one_right P [] ys h = h
one_right P (x ∷ xs) ys h = inr (one_right P xs ys h)

one_over : {X Y : Type 0} (P : Y → Type 0) (f : X → Y) (xs : List X) → OfOne (λ x. P (f x)) xs → OfOne P (map f xs)
one_over P f [] h = absurd h
one_over P f (x ∷ xs) (inl p) = inl p
one_over P f (x ∷ xs) (inr h) = inr (one_over P f xs h)

one_apart : {X : Type 0} (A : Type 0) (P : X → Type 0) (xs : List X) → OfOne (λ x. A × P x) xs → A × OfOne P xs
one_apart A P [] h = absurd h
one_apart A P (x ∷ xs) (inl p) = (p.0, inl p.1)
one_apart A P (x ∷ xs) (inr h) = let k = one_apart A P xs h in (k.0, inr k.1)

-- ---- where there is none

some_lacks : {A : Type 0} {B : Type 0} (a : A) → Some a ≡ None → B
some_lacks a e = absurd (let q : ⊥ = cc in q)

joins_lacks : {X : Type 0} (o p : Option (List X)) → joins o p ≡ None → (o ≡ None) ⊎ (p ≡ None)
joins_lacks None p e = inl refl
joins_lacks (Some xs) None e = inr refl
joins_lacks (Some xs) (Some ys) e = some_lacks _ e

map_lacks : {A B : Type 0} (f : A → B) (o : Option A) → option_map f o ≡ None → o ≡ None
map_lacks f None e = refl
map_lacks f (Some a) e = some_lacks _ e

then_lacks : {A B : Type 0} (f : A → Option B) (o : Option A) → option_and_then f o ≡ None → (o ≡ None) ⊎ ((a : A) × ((o ≡ Some a) × (f a ≡ None)))
then_lacks f None e = inl refl
then_lacks f (Some a) e = inr (a, (refl, e))

and_lacks : (a b : Option Bool) → and_so a b ≡ None → (a ≡ None) ⊎ ((a ≡ Some true) × (b ≡ None))
and_lacks None b e = inl refl
and_lacks (Some true) b e = inr (refl, e)
and_lacks (Some false) b e = some_lacks _ e

pair_lacks : (a b : Option Row) → pair a b ≡ None → (a ≡ None) ⊎ (b ≡ None)
pair_lacks None b e = inl refl
pair_lacks (Some r) None e = inr refl
pair_lacks (Some r) (Some s) e = some_lacks _ e

gather_lacks : {X Y : Type 0} (f : X → Option (List Y)) (xs : List X) → gather f xs ≡ None → OfOne (λ x. f x ≡ None) xs
gather_lacks f [] e = some_lacks _ e
gather_lacks f (x ∷ xs) e = by (gather_lacks f xs) (joins_lacks (f x) (gather f xs) e) where
  by : (gather f xs ≡ None → OfOne (λ y. f y ≡ None) xs) → (f x ≡ None) ⊎ (gather f xs ≡ None) → OfOne (λ y. f y ≡ None) (x ∷ xs)
  by later (inl h) = inl h
  by later (inr h) = inr (later h)

each_lacks : {X Y : Type 0} (f : X → Option Y) (xs : List X) → each f xs ≡ None → OfOne (λ x. f x ≡ None) xs
each_lacks f xs e = one_map _ (λ x. f x ≡ None) (λ x. map_lacks single (f x)) xs (gather_lacks _ xs e)

those_lacks : {X : Type 0} (p : X → Option Bool) (xs : List X) → those p xs ≡ None → OfOne (λ x. p x ≡ None) xs
those_lacks p xs e = one_map _ (λ x. p x ≡ None) (λ x. map_lacks (λ b. cond b (single x) []) (p x)) xs (gather_lacks _ xs e)

-- ---- queries

module _ {E : Type 0} (m : Meaning E) where
  abbrev TermsLack : List E → Row → Type 0
  TermsLack = TermsHave m (Valueless m) (ValuelessOver m) (Truthless m) (TruthlessOver m)

  abbrev OnsLack : List (Joining E) → List (List Row) → List Row → Type 0
  OnsLack = OnsHave m (Valueless m) (ValuelessOver m) (Truthless m) (TruthlessOver m)

  abbrev GroupLacks : Query E → Group → Type 0
  GroupLacks = GroupHas m (Valueless m) (ValuelessOver m) (Truthless m) (TruthlessOver m)

  abbrev KeptLack : Bool → Query E → List Row → Type 0
  KeptLack = KeptHave m (Valueless m) (ValuelessOver m) (Truthless m) (TruthlessOver m)

  all_lacks : (es : List E) (c : Row) → all_true m es c ≡ None → OneHas m (Valueless m) (ValuelessOver m) (Truthless m) (TruthlessOver m) es c
  all_lacks [] c h = some_lacks _ h
  all_lacks (e ∷ es) c h = by (all_lacks es c) (and_lacks (is_true m e c) (all_true m es c) h) where
    by : (all_true m es c ≡ None → OneHas m (Valueless m) (ValuelessOver m) (Truthless m) (TruthlessOver m) es c) → (is_true m e c ≡ None) ⊎ ((is_true m e c ≡ Some true) × (all_true m es c ≡ None))
        → OneHas m (Valueless m) (ValuelessOver m) (Truthless m) (TruthlessOver m) (e ∷ es) c
    by later (inl k) = inl k
    by later (inr k) = inr (k.0, later k.1)

  terms_lack : (es : List E) (c : Row) → holds m es c ≡ None → TermsLack es c
  terms_lack es c h = all_lacks (quiet_first m es) c h

  with_lacks : (j : Joining E) (rows : List Row) (c : Row) → joined_with m j rows c ≡ None → (j.left ≡ true) × OfOne (TermsLack j.on) (with_rows c rows)
  with_lacks j rows c h = by j.left refl h where
    by : (b : Bool) → j.left ≡ b → cond b (option_map (or_padded (nulls j.width) c) (those (holds m j.on) (with_rows c rows))) (Some (with_rows c rows)) ≡ None → (j.left ≡ true) × OfOne (TermsLack j.on) (with_rows c rows)
    by true left k = (left, one_map _ (TermsLack j.on) (terms_lack j.on) (with_rows c rows) (those_lacks (holds m j.on) (with_rows c rows) (map_lacks (or_padded (nulls j.width) c) _ k)))
    by false left k = some_lacks _ k

  ons_lack : (js : List (Joining E)) (tables : List (List Row)) (cs : List Row) → combined m js tables cs ≡ None → OnsLack js tables cs
  ons_lack [] tables cs e = some_lacks _ e
  ons_lack (j ∷ js) [] cs e = some_lacks _ e
  ons_lack (j ∷ js) (rows ∷ tables) cs e = by (ons_lack js tables) (then_lacks (combined m js tables) (gather (joined_with m j rows) cs) e) where
    by : ((ds : List Row) → combined m js tables ds ≡ None → OnsLack js tables ds)
        → (gather (joined_with m j rows) cs ≡ None) ⊎ ((ds : List Row) × ((gather (joined_with m j rows) cs ≡ Some ds) × (combined m js tables ds ≡ None))) → OnsLack (j ∷ js) (rows ∷ tables) cs
    by more (inl h) =
        inl (one_apart (j.left ≡ true) (λ c. OfOne (TermsLack j.on) (with_rows c rows)) cs
        (one_map _ (λ c. (j.left ≡ true) × OfOne (TermsLack j.on) (with_rows c rows)) (with_lacks j rows) cs (gather_lacks (joined_with m j rows) cs h)))
    by more (inr h) = inr (subst (λ o. IsSomeAnd o (OnsLack js tables)) (sym h.1.0) (more h.0 h.1.1))

  -- a result or a term of ORDER BY
  shows_lacks : (q : Query E) (f : E → Option Value) → shows m q f ≡ None → OfOne (λ e. f e ≡ None) (operands q)
  shows_lacks q f e = by (pair_lacks (each f q.results) (each (λ t. f t.expr) q.order) e) where
    by : (each f q.results ≡ None) ⊎ (each (λ t. f t.expr) q.order ≡ None) → OfOne (λ e. f e ≡ None) (operands q)
    by (inl h) = one_left (λ e. f e ≡ None) q.results (map (λ t. t.expr) q.order) (each_lacks f q.results h)
    by (inr h) = one_right (λ e. f e ≡ None) q.results (map (λ t. t.expr) q.order) (one_over (λ e. f e ≡ None) (λ t. t.expr) q.order (each_lacks (λ t. f t.expr) q.order h))

  group_lacks : (q : Query E) (g : Group) → judged m q (λ e. m.over e g) ≡ None → GroupLacks q g
  group_lacks q g e = by (then_lacks (λ b. cond b (option_map single (shows m q (λ e. m.over e g))) (Some [])) (has m q.having (λ e. m.over e g)) e) where
    of_having : (o : Option E) → has m o (λ e. m.over e g) ≡ None → OfOne (λ e. TruthlessOver m e g) (option_to_list o)
    of_having None h = some_lacks _ h
    of_having (Some e) h = inl h

    of_shown : (b : Bool) → has m q.having (λ e. m.over e g) ≡ Some b → cond b (option_map single (shows m q (λ e. m.over e g))) (Some []) ≡ None → GroupLacks q g
    of_shown true is h = inr (is, shows_lacks q (λ e. m.over e g) (map_lacks single (shows m q (λ e. m.over e g)) h))
    of_shown false is h = some_lacks _ h

    by : (has m q.having (λ e. m.over e g) ≡ None) ⊎ ((b : Bool) × ((has m q.having (λ e. m.over e g) ≡ Some b) × (cond b (option_map single (shows m q (λ e. m.over e g))) (Some []) ≡ None))) → GroupLacks q g
    by (inl h) = inl (of_having q.having h)
    by (inr h) = of_shown h.0 h.1.0 h.1.1

  keys_lack : (es : List E) (cs : List Row) → groups m es cs ≡ None → OfOne (λ c. OfOne (λ e. m.value e c ≡ None) es) cs
  keys_lack [] cs e = some_lacks _ e
  keys_lack (x ∷ xs) cs e =
      one_map _ (λ c. OfOne (λ y. m.value y c ≡ None) (x ∷ xs)) (λ c k. each_lacks (λ y. m.value y c) (x ∷ xs) (map_lacks (λ r. (r, c)) (each (λ y. m.value y c) (x ∷ xs)) k)) cs
      (each_lacks (keyed m (x ∷ xs)) cs (map_lacks (groups_of m (x ∷ xs)) (each (keyed m (x ∷ xs)) cs) e))

  kept_lack : (q : Query E) (cs : List Row) → shown m q cs ≡ None → KeptLack q.is_grouped q cs
  kept_lack q cs e = by q.is_grouped e where
    grouped : (groups m q.group cs ≡ None) ⊎ ((gs : List Group) × ((groups m q.group cs ≡ Some gs) × (gather (λ g. judged m q (λ e. m.over e g)) gs ≡ None))) → KeptLack true q cs
    grouped (inl h) = inl (keys_lack q.group cs h)
    grouped (inr h) = inr (subst (λ o. IsSomeAnd o (OfOne (GroupLacks q))) (sym h.1.0) (one_map _ (GroupLacks q) (group_lacks q) h.0 (gather_lacks (λ g. judged m q (λ e. m.over e g)) h.0 h.1.1)))

    by : (b : Bool) → cond b (shown_groups m q cs) (each (λ c. shows m q (λ e. m.value e c)) cs) ≡ None → KeptLack b q cs
    by true h = grouped (then_lacks (gather (λ g. judged m q (λ e. m.over e g))) (groups m q.group cs) h)
    by false h = one_map _ (λ c. OfOne (λ e. m.value e c ≡ None) (operands q)) (λ c k. shows_lacks q (λ e. m.value e c) k) cs (each_lacks (λ c. shows m q (λ e. m.value e c)) cs h)

  pub answer_lacks : (q : Query E) (tables : List (List Row)) → answer m q tables ≡ None → QueryLacks m q tables
  answer_lacks q tables e = by (then_lacks (shown m q) (joined m q tables) (map_lacks (finished m q) (option_and_then (shown m q) (joined m q tables)) e)) where
    unjoined : (combined m q.sources tables (single []) ≡ None) ⊎ ((cs : List Row) × ((combined m q.sources tables (single []) ≡ Some cs) × (those (holds m q.terms) cs ≡ None))) → QueryLacks m q tables
    unjoined (inl h) = inl (ons_lack q.sources tables (single []) h)
    unjoined (inr h) = inr (inl (subst (λ o. IsSomeAnd o (OfOne (TermsLack q.terms))) (sym h.1.0) (one_map _ (TermsLack q.terms) (terms_lack q.terms) h.0 (those_lacks (holds m q.terms) h.0 h.1.1))))

    by : (joined m q tables ≡ None) ⊎ ((cs : List Row) × ((joined m q tables ≡ Some cs) × (shown m q cs ≡ None))) → QueryLacks m q tables
    by (inl h) = unjoined (then_lacks (those (holds m q.terms)) (combined m q.sources tables (single [])) h)
    by (inr h) = inr (inr (subst (λ o. IsSomeAnd o (KeptLack q.is_grouped q)) (sym h.1.0) (kept_lack q h.0 h.1.1)))

  -- ---- writes

  pub rows_lack : (cols : List ColumnDef) (w : Insert E) → inserted_rows m cols w ≡ None → InsertLacks m w
  rows_lack cols w e = by w.is_ignored refl e where
    by : (b : Bool) → w.is_ignored ≡ b → cond b (Some []) (each (inserted m cols w.places) w.tuples) ≡ None → InsertLacks m w
    by true is h = some_lacks _ h
    by false is h = (
      is,
      one_map _ (OfOne (λ x. m.value x [] ≡ None)) (λ es k. each_lacks (λ x. m.value x []) es (map_lacks (λ vs. put_all cols w.places vs (defaults cols)) (values m es []) k)) w.tuples
          (each_lacks (inserted m cols w.places) w.tuples h),
    )

  pub insert_lacks : (cols : List ColumnDef) (w : Insert E) (rows : List Row) → wanted_by_insert m cols w rows ≡ None → InsertLacks m w
  insert_lacks cols w rows e = rows_lack cols w (map_lacks (λ more. rows ++ more) (inserted_rows m cols w) e)

  abbrev RowLacks : Update E → Row → Type 0
  RowLacks w row = TermsLack w.terms row ⊎ ((holds m w.terms row ≡ Some true) × OfOne (λ a. m.value a.expr row ≡ None) w.assignments)

  updated_lacks : (cols : List ColumnDef) (w : Update E) (row : Row) → updated m cols w row ≡ None → RowLacks w row
  updated_lacks cols w row e = by (then_lacks (λ b. cond b (assigned m cols w.assignments row) (Some row)) (holds m w.terms row) e) where
    of_assigned : (b : Bool) → holds m w.terms row ≡ Some b → cond b (assigned m cols w.assignments row) (Some row) ≡ None → RowLacks w row
    of_assigned true is h =
        inr (is, each_lacks (λ a. m.value a.expr row) w.assignments (map_lacks (λ vs. put_all cols (map (λ a. a.place) w.assignments) vs row) (each (λ a. m.value a.expr row) w.assignments) h))
    of_assigned false is h = some_lacks _ h

    by : (holds m w.terms row ≡ None) ⊎ ((b : Bool) × ((holds m w.terms row ≡ Some b) × (cond b (assigned m cols w.assignments row) (Some row) ≡ None))) → RowLacks w row
    by (inl h) = inl (terms_lack w.terms row h)
    by (inr h) = of_assigned h.0 h.1.0 h.1.1

  pub update_lacks : (cols : List ColumnDef) (w : Update E) (rows : List Row) → wanted_by_update m cols w rows ≡ None → UpdateLacks m w rows
  update_lacks cols w rows e = one_map _ (RowLacks w) (updated_lacks cols w) rows (each_lacks (updated m cols w) rows e)

  pub delete_lacks : (w : Delete E) (rows : List Row) → wanted_by_delete m w rows ≡ None → DeleteLacks m w rows
  delete_lacks w rows e = one_map _ (TermsLack w.terms) (λ row k. terms_lack w.terms row (map_lacks not (holds m w.terms row) k)) rows (those_lacks (λ row. option_map not (holds m w.terms row)) rows e)
