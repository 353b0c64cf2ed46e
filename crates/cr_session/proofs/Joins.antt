-- What is found of the tables of a join one after another suffices for its query.
use Rattle.std.proofs.Common.{◌≡◌, inl, inr, ℕ, zero, suc, ◌+◌, ◌<◌, ◌≤◌, zero-add, add-one, arith, Bool, true, false, List, [], ◌∷◌, ◌++◌, append_assoc, append-nil, length, take, drop, drop-cons, get_or, map, find, Option, Some, Result, Ok, Err, refl, sym, ap, subst, ◌∙◌}
use Rattle.std.specs.Prelude.{filter, if◌then◌else◌}
use Rattle.std.specs.List.{AllByRecursion}
use Rattle.std.proofs.lemmas.List.{drop_all, take-append-drop, take_more}
use Rattle.cr_value.specs.declared.value.Value.{Value}
use Rattle.cr_value.specs.OrderLaws.{bytes_total, bytes_exact}
use Rattle.cr_lattice.specs.declared.change.Change.{Change}
use Rattle.cr_lattice.specs.declared.table.Table.{Table}
use Rattle.cr_lattice.specs.Check.{same_bytes}
use Rattle.cr_lattice.specs.Profile.{has_key}
use Rattle.cr_lattice.specs.Rows.{rows}
use Rattle.cr_lattice.proofs.SortedSets.{list_any-set_of}
use Rattle.cr_cells.proofs.NewLemmas.{same_is}
use Rattle.cr_cells.specs.declared.store.CellsError.{CellsError}
use Rattle.cr_cells.specs.Holding.{Holding, IsSound}
use Rattle.cr_cells.specs.Tables.{is_named}
use Rattle.cr_term.specs.declared.expr.Expr.{Expr}
use Rattle.cr_term.specs.declared.query.Joined.{Joined}
use Rattle.cr_term.specs.declared.query.Query.{Query}
use Rattle.cr_scalar.specs.Host.{Host as Means}
use Rattle.cr_query.specs.Query.{Row, answer}
use Rattle.cr_meaning.specs.View.{Ordered}
use Rattle.cr_meaning.specs.View as view
use Rattle.cr_meaning.specs.Meaning.{IsLimit, Regard, regarded}
use Rattle.cr_snapshot.specs.Seen.{name_of}
use Rattle.cr_taken.specs.Taken.{AreKept, Replicates}
use Rattle.cr_taken.proofs.Tables.{writable, kept_well_formed}
use Rattle.cr_touched.specs.Parts.{is_key_of, part}
use Rattle.cr_touched.specs.Shown.{AreKeptOf}
use Rattle.cr_pushdown.specs.Passing.{passes, passing}
use Rattle.cr_pushdown.proofs.Wide.{rows_wide}
use Rattle.cr_world.specs.State.{State, now, rows_named, rows_or, other_rows, table_rows, tables_named}
use Rattle.cr_sought.specs.declared.joined.Partner.{Partner}
use Rattle.cr_sought.specs.Lists.{listed_keys}
use Rattle.cr_sought.specs.Sought.{joined_keys}
use Rattle.cr_sought.specs.Joins.{AreWide, no_row, partner, partners, partners_from, width, widths}
use Rattle.cr_sought.proofs.Joins.{joins_by_keys}
use Rattle.cr_sought.proofs.Lists.{joins_by_list}
use Rattle.cr_session.specs.Joining.{Finds, IsFound, IsFoundIn, IsJoinOf, IsTableOf, IsTold, Suffice}
use Rattle.cr_session.specs.Lookup.{in_order}
use Rattle.cr_session.specs.Sessions.{state_of}
use Rattle.cr_session.proofs.ByTable.{found_passes}
use Rattle.cr_session.proofs.Seeing.{now_kept}

-- ---- one after another

append_holds : {X : Type 0} (P : X → Type 0) (xs : List X) (x : X) → AllByRecursion P xs → P x → AllByRecursion P (xs ++ x ∷ [])
append_holds P [] x all one = (one, tt)
append_holds P (y ∷ ys) x all one = (all.0, append_holds P ys x all.1 one)

pub one_more_holds : {X : Type 0} (P : X → Type 0) (xs : List X) (i : ℕ) (x : X) → i < length xs → x ≡ get_or xs i x → AllByRecursion P (take i xs) → P x
    → AllByRecursion P (take (i + 1) xs)
one_more_holds P xs i x within at all one =
    subst (AllByRecursion P) (sym (take_more xs i x within ∙ ap (λ y. take i xs ++ y ∷ []) (sym at))) (append_holds P (take i xs) x all one)

take_past : {X : Type 0} (xs : List X) (i : ℕ) → length xs ≤ i → take i xs ≡ xs
take_past xs i past = sym (append-nil (take i xs)) ∙ ap (λ ys. take i xs ++ ys) (sym (drop_all i xs past)) ∙ take-append-drop i xs

pub all_hold : {X : Type 0} (P : X → Type 0) (xs : List X) (i : ℕ) → length xs ≤ i → AllByRecursion P (take i xs) → AllByRecursion P xs
all_hold P xs i past all = subst (AllByRecursion P) (take_past xs i past) all

-- ---- the rows of one table

-- every row passes where there is no term
every_passes : (means : Means) (params : List Value) (rs : List Row) → filter (passes means params []) rs ≡ rs
every_passes means params [] = refl
every_passes means params (r ∷ rs) = ap (λ (xs : List Row). r ∷ xs) (every_passes means params rs)

-- all rows of the table of the name
pub found_whole : (means : Means) (params : List Value) (st : State) (q : Query) (j : Joined) (base : ℕ) (ps : List Partner) (tables : List Table) (name : List ℕ) (t : Table)
    → name ≡ name_of j → find (is_named name) tables ≡ Some t → t.is_replicated ≡ true → (found : List Row) → found ≡ passing means params [] t.definition (now st)
    → IsFoundIn params st tables q j base ps found
found_whole means params st q j base ps tables name t named there is_replicated found is u other =
    let both : Some t ≡ Some u = sym there ∙ ap (λ (n : List ℕ). find (is_named n) tables) named ∙ other in
    let same : t ≡ u = cc in
    inl (is ∙ every_passes means params (rows (now st) t.definition) ∙ sym (ap (λ (b : Bool). if b then rows (now st) t.definition else []) is_replicated) ∙ ap (table_rows (now st)) same)

-- a table that is not replicated shows none
pub found_none : (params : List Value) (st : State) (q : Query) (j : Joined) (base : ℕ) (ps : List Partner) (tables : List Table) (name : List ℕ) (t : Table)
    → name ≡ name_of j → find (is_named name) tables ≡ Some t → t.is_replicated ≡ false → (found : List Row) → found ≡ [] → IsFoundIn params st tables q j base ps found
found_none params st q j base ps tables name t named there not_replicated found is u other =
    let both : Some t ≡ Some u = sym there ∙ ap (λ (n : List ℕ). find (is_named n) tables) named ∙ other in
    let same : t ≡ u = cc in
    inl (is ∙ sym (ap (λ (b : Bool). if b then rows (now st) t.definition else []) not_replicated) ∙ ap (table_rows (now st)) same)

-- those of the keys that are told
pub found_by_keys : (params : List Value) (st : State) (q : Query) (j : Joined) (base : ℕ) (ps : List Partner) (tables : List Table) (name : List ℕ) (t : Table)
    → name ≡ name_of j → find (is_named name) tables ≡ Some t → t.is_replicated ≡ true → (keys : List (List ℕ)) → IsTold params q j t.definition base ps keys
    → (found : List Row) → found ≡ table_rows (part name (is_key_of keys) (now st)) t → IsFoundIn params st tables q j base ps found
found_by_keys params st q j base ps tables name t named there is_replicated keys told found is u other =
    let both : Some t ≡ Some u = sym there ∙ ap (λ (n : List ℕ). find (is_named n) tables) named ∙ other in
    let same : t ≡ u = cc in
    subst (λ (x : Table). IsFound params st q j base ps x found) same
    (inr (
      is_replicated,
      keys,
      told,
      is
          ∙ ap (λ (b : Bool). if b then rows (part name (is_key_of keys) (now st)) t.definition else []) is_replicated
          ∙ ap (λ (n : List ℕ). rows (part n (is_key_of keys) (now st)) t.definition) named,
    ))

-- the same from where a session stood before, of the tables and partners there
pub found_then : (params : List Value) (new old : State) (tables here : List Table) (q : Query) (j : Joined) (base : ℕ) (ps qs : List Partner) (found : List Row)
    → new ≡ old → tables ≡ here → ps ≡ qs → IsFoundIn params new tables q j base ps found → IsFoundIn params old here q j base qs found
found_then params new old tables here q j base ps qs found e f g is =
    subst (λ (st : State). IsFoundIn params st here q j base qs found) e
    (subst (λ (ts : List Table). IsFoundIn params new ts q j base qs found) f
    (subst (λ (rs : List Partner). IsFoundIn params new tables q j base rs found) g is))

-- ---- one table more

widths_more : (js : List Joined) (j : Joined) → widths (js ++ j ∷ []) ≡ widths js + width j
widths_more [] j = omega (arith)
widths_more (k ∷ js) j = let rest = widths_more js j in omega (arith, rest)

wide_more : (js : List Joined) (j : Joined) (ts : List (List Row)) (t : List Row) → AreWide js ts → AllByRecursion (λ r. length r ≡ width j) t → AreWide (js ++ j ∷ []) (ts ++ t ∷ [])
wide_more [] j [] t wide more = (more, tt)
wide_more [] j (u ∷ ts) t wide more = absurd wide
wide_more (k ∷ js) j [] t wide more = absurd wide
wide_more (k ∷ js) j (u ∷ ts) t wide more = (wide.0, wide_more js j ts t wide.1 more)

partners_more : (n : ℕ) (js : List Joined) (j : Joined) (ts : List (List Row)) (t : List Row) → AreWide js ts
    → partners_from n (js ++ j ∷ []) (ts ++ t ∷ []) ≡ partners_from n js ts ++ partner (n + widths js) j t
partners_more n [] j [] t wide = let same : n ≡ n + 0 = omega (arith) in append-nil (partner n j t) ∙ ap (λ (m : ℕ). partner m j t) same
partners_more n [] j (u ∷ ts) t wide = absurd wide
partners_more n (k ∷ js) j [] t wide = absurd wide
partners_more n (k ∷ js) j (u ∷ ts) t wide =
    let same : n + width k + widths js ≡ n + (width k + widths js) = omega (arith) in
    ap (λ (ps : List Partner). partner n k u ++ ps) (partners_more (n + width k) js j ts t wide.1 ∙ ap (λ (m : ℕ). partners_from (n + width k) js ts ++ partner m j t) same)
    ∙ sym (append_assoc (partner n k u) (partners_from (n + width k) js ts) (partner (n + (width k + widths js)) j t))

table_wide : (t : Table) (kept : List Change) → AllByRecursion (λ r. length r ≡ length t.definition.columns) (table_rows kept t)
table_wide t kept = by t.is_replicated where
  by : (b : Bool) → AllByRecursion (λ r. length r ≡ length t.definition.columns) (if b then rows kept t.definition else [])
  by true = rows_wide t.definition kept
  by false = tt

-- a table of the list, at its place
table_at : (tables : List Table) (js : List Joined) (i : ℕ) (j : Joined) → AllByRecursion (IsTableOf tables) js → i < length js → IsTableOf tables (get_or js i j)
table_at tables js i j all within = by js i all within where
  by : (js : List Joined) (i : ℕ) → AllByRecursion (IsTableOf tables) js → i < length js → IsTableOf tables (get_or js i j)
  by [] i all within = absurd (omega (arith, within))
  by (k ∷ js) zero all within = all.0
  by (k ∷ js) (suc i) all within = by js i all.1 (omega (arith, within))

-- ---- what suffices so far

module _ (means : Means) (params : List Value) (q : Query) (h : Holding) (sound : IsSound h) (pending : Option (List Change)) (is : IsJoinOf means pending h.tables q) where
  abbrev st : State
  st = state_of h pending

  abbrev shown : Joined → List Row
  shown j = rows_named st (name_of j)

  abbrev over : Regard → List (List Row) → Option (List Row)
  over regard ts = answer (regarded regard means params) (view.query q) ts

  -- the first tables of a query have these rows, of which it answers alike
  pub record SoFar (i base : ℕ) (ps : List Partner) (ts : List (List Row)) : Type 0 where
    pub base_is : base ≡ widths (take i q.joined)
    pub partners_are : ps ≡ partners (take i q.joined) ts
    pub wide : AreWide (take i q.joined) ts
    pub alike : (regard : Regard) → IsLimit regard.most → over regard (map shown q.joined) ≡ over regard (ts ++ map shown (drop i q.joined))

  pub at_first : (ps : List Partner) → ps ≡ no_row ∷ [] → SoFar 0 0 ps []
  at_first ps e = record { base_is = refl; partners_are = e; wide = tt; alike = λ regard limit. refl }

  module _ (i base : ℕ) (ps : List Partner) (ts : List (List Row)) (so_far : SoFar i base ps ts) (within : i < length q.joined) (j : Joined) (at : j ≡ get_or q.joined i j)
      (found : List Row) (finds : IsFoundIn params st h.tables q j base ps found) where
    abbrev before : List Joined
    before = take i q.joined

    abbrev after : List Joined
    after = drop (i + 1) q.joined

    taken : take (i + 1) q.joined ≡ before ++ j ∷ []
    taken = take_more q.joined i j within ∙ ap (λ (k : Joined). before ++ k ∷ []) (sym at)

    left : drop i q.joined ≡ j ∷ after
    left = drop-cons q.joined i j within ∙ (λ k. sym at k ∷ drop (sym (add-one i) k) q.joined)

    whole : q.joined ≡ before ++ (j ∷ after)
    whole = sym (take-append-drop i q.joined) ∙ ap (λ (l : List Joined). before ++ l) left

    table : IsTableOf h.tables j
    table = subst (IsTableOf h.tables) (sym at) (table_at h.tables q.joined i j is.stored within)

    abbrev t : Table
    t = table.0

    of_name : t.definition.name ≡ name_of j
    of_name = same_is t.definition.name (name_of j) (found_passes (is_named (name_of j)) t h.tables table.1)

    all_rows : shown j ≡ table_rows (now st) t
    all_rows = ap (λ (o : Option Table). rows_or (now st) o (other_rows st (name_of j))) table.1

    found_wide : AllByRecursion (λ r. length r ≡ width j) found
    found_wide = subst (λ (n : ℕ). AllByRecursion (λ r. length r ≡ n) found) table.2 (by (finds t table.1)) where
      by : IsFound params st q j base ps t found → AllByRecursion (λ r. length r ≡ length t.definition.columns) found
      by (inl all) = subst (AllByRecursion (λ r. length r ≡ length t.definition.columns)) (sym all) (table_wide t (now st))
      by (inr k) = subst (AllByRecursion (λ r. length r ≡ length t.definition.columns)) (sym k.3) (rows_wide t.definition (part (name_of j) (is_key_of k.1) (now st)))

    -- ---- by keys

    are : AreKept h.tables (now st)
    are = now_kept h pending sound is.fit

    is_replicated_table : t.is_replicated ≡ true → Replicates h.tables t.definition
    is_replicated_table r =
        ap (λ (n : List ℕ). find (is_named n) h.tables) of_name ∙ table.1 ∙ ap (λ (b : Bool). Some (record { definition = t.definition; is_replicated = b })) r

    key_in_order : (keys : List (List ℕ)) → is_key_of (in_order keys) ≡ is_key_of keys
    key_in_order keys = λ k x. list_any-set_of bytes_total bytes_exact (same_bytes x) keys k

    told_alike : (keys : List (List ℕ)) → t.is_replicated ≡ true → IsTold params q j t.definition base ps keys → found ≡ rows (part (name_of j) (is_key_of keys) (now st)) t.definition
        → (regard : Regard) → IsLimit regard.most → over regard (ts ++ (shown j ∷ map shown after)) ≡ over regard (ts ++ (found ∷ map shown after))
    told_alike keys r told f regard limit =
        let def = t.definition in
        let there = is_replicated_table r in
        let keyed : has_key def ≡ true = (writable h.tables (now st) def are there).key in
        let kept_of_it : AreKeptOf def (now st) = record { unbeaten = are.unbeaten; well_formed = kept_well_formed h.tables (now st) def are there } in
        ap (λ (rs : List Row). over regard (ts ++ (rs ∷ map shown after)))
        (all_rows ∙ ap (λ (b : Bool). if b then rows (now st) def else []) r)
        ∙ elim told.told [
          | inl b ↦
              joins_by_keys means params regard def q before j after ts (now st) (map shown after) b.0 told.given is.bytes keyed kept_of_it whole is.safe so_far.wide b.1
              ((λ k. keys_told b.0 (sym so_far.base_is k) (sym so_far.partners_are k)) ∙ b.2)
          | inr l ↦
              joins_by_list means params regard def q before j after ts (now st) (map shown after) told.given limit is.bytes keyed kept_of_it whole l.1 so_far.wide l.0
              (ap (λ (n : ℕ). listed_keys n def params q.filter) (sym so_far.base_is) ∙ l.2)
        ]
        ∙ ap (λ (rs : List Row). over regard (ts ++ (rs ∷ map shown after)))
        ((λ k. rows (part (of_name k) (sym (key_in_order told.given) k) (now st)) def) ∙ ap (λ (ks : List (List ℕ)). rows (part (name_of j) (is_key_of ks) (now st)) def) (sym told.are) ∙ sym f) where
          keys_told : List Expr → ℕ → List Partner → Option (List (List ℕ))
          keys_told terms n qs = joined_keys n t.definition params terms qs

    one_alike : (regard : Regard) → IsLimit regard.most → over regard (ts ++ (shown j ∷ map shown after)) ≡ over regard (ts ++ (found ∷ map shown after))
    one_alike regard limit = by (finds t table.1) where
      by : IsFound params st q j base ps t found → over regard (ts ++ (shown j ∷ map shown after)) ≡ over regard (ts ++ (found ∷ map shown after))
      by (inl all) = ap (λ (rs : List Row). over regard (ts ++ (rs ∷ map shown after))) (all_rows ∙ sym all)
      by (inr k) = told_alike k.1 k.0 k.2 k.3 regard limit

    pub one_more : SoFar (i + 1) (base + width j) (ps ++ partner base j found) (ts ++ found ∷ [])
    one_more = record {
      base_is = ap (λ (n : ℕ). n + width j) so_far.base_is ∙ sym (widths_more before j) ∙ ap widths (sym taken);
      partners_are =
          (λ k. so_far.partners_are k ++ partner (placed k) j found)
          ∙ ap (λ (qs : List Partner). no_row ∷ qs) (sym (partners_more 0 before j ts found so_far.wide))
          ∙ ap (λ (js : List Joined). partners js (ts ++ found ∷ [])) (sym taken);
      wide = subst (λ (js : List Joined). AreWide js (ts ++ found ∷ [])) (sym taken) (wide_more before j ts found so_far.wide found_wide);
      alike = λ regard limit.
          so_far.alike regard limit
          ∙ ap (λ (js : List Joined). over regard (ts ++ map shown js)) left
          ∙ one_alike regard limit
          ∙ ap (over regard) (sym (append_assoc ts (found ∷ []) (map shown after)));
    } where
      placed : base ≡ 0 + widths before
      placed = so_far.base_is ∙ sym (zero-add (widths before))

    -- the same as they stand then
    pub one_more_as : (next : ℕ) (qs : List Partner) (us : List (List Row)) → next ≡ base + width j → qs ≡ ps ++ partner base j found → us ≡ ts ++ found ∷ [] → SoFar (i + 1) next qs us
    one_more_as next qs us e f g =
        subst (λ (n : ℕ). SoFar (i + 1) n qs us) (sym e)
        (subst (λ (rs : List Partner). SoFar (i + 1) (base + width j) rs us) (sym f)
        (subst (λ (rs : List (List Row)). SoFar (i + 1) (base + width j) (ps ++ partner base j found) rs) (sym g) one_more))

  -- all tables
  pub all_alike : (i base : ℕ) (ps : List Partner) (ts : List (List Row)) → SoFar i base ps ts → length q.joined ≤ i → Suffice means params q st ts
  all_alike i base ps ts so_far past = λ regard limit.
      names_alike regard q.joined
      ∙ so_far.alike regard limit
      ∙ ap (λ (js : List Joined). over regard (ts ++ map shown js)) (drop_all i q.joined past)
      ∙ ap (over regard) (append-nil ts) where
        names : (js : List Joined) → tables_named st (map name_of js) ≡ map shown js
        names [] = refl
        names (j ∷ js) = ap (λ (ts : List (List Row)). shown j ∷ ts) (names js)

        names_alike : (regard : Regard) (js : List Joined) → over regard (tables_named st (map name_of js)) ≡ over regard (map shown js)
        names_alike regard js = ap (over regard) (names js)

-- ---- what a reading finds

pub finds_for : {T : Type 0} (P Q : T → Type 0) (old new : State) (result : Result T CellsError) → ((x : T) → P x → Q x) → Finds P old new result → Finds Q old new result
finds_for P Q old new (Ok x) f l = record { same = l.same; finds = f x l.finds }
finds_for P Q old new (Err e) f l = record { same = l.same; finds = l.finds }

-- the same of lists that are the same
pub retabled_join : (means : Means) (pending : Option (List Change)) (ts us : List Table) (q : Query) → ts ≡ us → IsJoinOf means pending us q → IsJoinOf means pending ts q
retabled_join means pending ts us q e is = subst (λ (x : List Table). IsJoinOf means pending x q) (sym e) is

pub suffice_as : (means : Means) (params : List Value) (q : Query) (st : State) (ts us : List (List Row)) → us ≡ ts → Suffice means params q st ts → Suffice means params q st us
suffice_as means params q st ts us e s = subst (λ (x : List (List Row)). Suffice means params q st x) (sym e) s
