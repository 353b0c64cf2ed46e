-- A SELECT over modules answers over what these gave by what they were offered what it answers over all their rows, in whatever
-- order they give them.
use Rattle.std.proofs.Common.{◌≡◌, ◌∙◌, inl, inr, ℕ, ◌+◌, arith, Bool, true, false, cond, List, [], ◌∷◌, ◌++◌, append-nil, append_assoc, find, length, map, Option, Some, None, refl, sym, ap, subst}
use Rattle.std.specs.Prelude.{if◌then◌else◌}
use Rattle.std.specs.Cmp.{IsTotalOrder}
use Rattle.std.specs.List.{AllByRecursion, list_all}
use Rattle.std.proofs.lemmas.Bool.{eqb-true}
use Rattle.std.specs.Option.{option_map_or}
use Rattle.std.proofs.lemmas.List.{map-append}
use Rattle.cr_value.specs.declared.value.Value.{Value}
use Rattle.cr_lattice.specs.declared.change.Change.{Change}
use Rattle.cr_lattice.specs.declared.stamped.Stamped.{Stamped}
use Rattle.cr_lattice.specs.declared.table.Table.{Table}
use Rattle.cr_lattice.specs.Check.{same_bytes}
use Rattle.cr_lattice.specs.Rows.{rows}
use Rattle.cr_lattice.proofs.Tested.{and_true}
use Rattle.cr_bags.specs.Bags.{SameBag}
use Rattle.cr_cells.specs.Holding.{Holding}
use Rattle.cr_cells.specs.Tables.{is_named}
use Rattle.cr_cells.proofs.NewLemmas.{same_itself}
use Rattle.cr_delta.proofs.Among.{Among, any_member, append_right, map_member}
use Rattle.cr_query.specs.Query.{Row, answer}
use Rattle.cr_query.proofs.QueryLaws.{answer_same}
use Rattle.cr_meaning.specs.View.{query}
use Rattle.cr_meaning.specs.Meaning.{meaning}
use Rattle.cr_meaning.proofs.BagLaw.{lawful}
use Rattle.cr_modules.specs.States.{Best, IsListed, module_in, module_width, offered}
use Rattle.cr_modules.proofs.Listing.{IsGiven, read_of_name}
use Rattle.cr_plan.specs.declared.offer.Offer.{Offer}
use Rattle.cr_plan.specs.Laws.{AreOf, offers_behind}
use Rattle.cr_plan.specs.Offers.{IsReadBy, constraints}
use Rattle.cr_plan.specs.Orders.{orders_for}
use Rattle.cr_plan.specs.Told.{Placed, has_name, offers_placed, offers_to, only, placed_at, places_from}
use Rattle.cr_plan.proofs.Plans.{all_given, answers_by_plan, one_alike}
use Rattle.cr_replica.specs.declared.snapshot.Listing.{Listing}
use Rattle.cr_replica.specs.declared.snapshot.Snapshot.{Snapshot}
use Rattle.cr_scalar.specs.Host.{Host as Means}
use Rattle.cr_session.specs.Lookup.{ShowsStrictly}
use Rattle.cr_session.specs.Performing.{placed}
use Rattle.cr_session.specs.Sessions.{state_of}
use Rattle.cr_snapshot.specs.Seen.{is_listing, listed_rows, name_of, rows_listed, rows_seen}
use Rattle.cr_sought.specs.Joins.{AreWide, width, widths}
use Rattle.cr_term.specs.declared.query.Joined.{Joined}
use Rattle.cr_term.specs.declared.query.Query.{Query}
use Rattle.cr_wanted.proofs.Widths.{shown_wide}
use Rattle.cr_world.specs.State.{State, ModuleState, change_rows, changes_columns, changes_name, module_rows, now, row_of, rows_named, rows_or, table_of, table_rows, tables_named}
use Rattle.cr_hosted.specs.Planned.{ShowsModules, is_as_wide, width_or, width_seen}

-- ---- the only table of a name

-- a table of the name stands among those of the name
record Split (start : ℕ) (p : Joined → Bool) (before : List Joined) (j : Joined) (after : List Joined) : Type 0 where
  pub left : List Placed
  pub right : List Placed
  pub are : places_from start p (before ++ (j ∷ after)) ≡ left ++ (placed_at (start + widths before) j ∷ right)

split_at : (start : ℕ) (p : Joined → Bool) (before : List Joined) (j : Joined) (after : List Joined) → p j ≡ true → Split start p before j after
split_at start p [] j after passes =
    let here : start ≡ start + 0 = omega arith in
    record {
      left = [];
      right = places_from (start + width j) p after;
      are = λ i. cond (passes i) (placed_at (here i) j ∷ []) [] ++ places_from (start + width j) p after;
    }
split_at start p (k ∷ before) j after passes =
    let rest = split_at (start + width k) p before j after passes in
    let own : List Placed = cond (p k) (placed_at start k ∷ []) [] in
    let there : start + width k + widths before ≡ start + (width k + widths before) = omega arith in
    record {
      left = own ++ rest.left;
      right = rest.right;
      are =
          ap (λ (ps : List Placed). own ++ ps) rest.are
          ∙ (λ i. own ++ (rest.left ++ (placed_at (there i) j ∷ rest.right)))
          ∙ sym (append_assoc own rest.left (placed_at (start + (width k + widths before)) j ∷ rest.right));
    }

-- so it is the only one, if one is
only_is : (left right : List Placed) (x t : Placed) → only (left ++ (x ∷ right)) ≡ Some t → t ≡ x
only_is [] [] x t e = let same : x ≡ t = cc in sym same
only_is [] (y ∷ right) x t e = absurd (let z : ⊥ = cc in z)
only_is (z ∷ []) right x t e = absurd (let w : ⊥ = cc in w)
only_is (z ∷ y ∷ left) right x t e = absurd (let w : ⊥ = cc in w)

-- ---- what a snapshot has of a name

-- the rows of its table, or else others; and the changes, where it is the table of changes
pub record HasName (st : State) (snap : Snapshot) (name : List ℕ) : Type 0 where
  pub rows : (others : List Row) → rows_or (now st) (table_of st name) others ≡ rows_or snap.kept (find (is_named name) snap.tables) others
  pub changes : same_bytes changes_name name ≡ true → change_rows st.holding ≡ map row_of snap.cells

-- ---- how wide rows are

abbrev AreRows : ℕ → List Row → Type 0
AreRows n rows = AllByRecursion (λ r. length r ≡ n) rows

table_wide : (kept : List Change) (t : Table) → AreRows (length t.definition.columns) (table_rows kept t)
table_wide kept t = by t.is_replicated where
  by : (b : Bool) → AreRows (length t.definition.columns) (if b then rows kept t.definition else [])
  by true = shown_wide kept t.definition
  by false = tt

changes_wide : (cells : List Stamped) → AreRows (length changes_columns) (map row_of cells)
changes_wide [] = tt
changes_wide (c ∷ cs) = (refl, changes_wide cs)

given_wide : (may_offer : Bool) (params : List Value) (q : Query) (name : List ℕ) (o : Option ModuleState) (l : Option Listing) → IsGiven may_offer params q name o l
    → AreRows (module_width o) (listed_rows l)
given_wide may_offer params q name None None given = tt
given_wide may_offer params q name None (Some l) given = absurd given
given_wide may_offer params q name (Some m) None given = absurd given
given_wide may_offer params q name (Some m) (Some l) given = given.1.wide refl

member_passes : {A : Type 0} (p : A → Bool) (xs : List A) → list_all p xs ≡ true → (x : A) → Among xs x → p x ≡ true
member_passes p [] all x m = absurd m
member_passes p (y ∷ ys) all x m = elim m [
  | inl is ↦ ap p is ∙ (and_true (p y) (list_all p ys) all).0
  | inr rest ↦ member_passes p ys (and_true (p y) (list_all p ys) all).1 x rest
]

wide_more : (js : List Joined) (j : Joined) (ts : List (List Row)) (t : List Row) → AreWide js ts → AreOf j t → AreWide (js ++ j ∷ []) (ts ++ t ∷ [])
wide_more [] j [] t wide more = (more, tt)
wide_more [] j (u ∷ ts) t wide more = absurd wide
wide_more (k ∷ js) j [] t wide more = absurd wide
wide_more (k ∷ js) j (u ∷ ts) t wide more = (wide.0, wide_more js j ts t wide.1 more)

-- ---- one table after another

module _ (means : Means) (params : List Value) (q : Query) (total : (name : List ℕ) → IsTotalOrder (means.order name)) (h : Holding)
    (pending : Option (List Change)) (snap : Snapshot) (cs : List Best) (ms : List ModuleState) (ls : List Listing)
    (shows : ShowsModules means params snap.tables cs ms q ls)
    (has : (j : Joined) → Among q.joined j → HasName (state_of h pending) snap (name_of j)) where
  abbrev there : Snapshot
  there = record snap { modules = ls }

  abbrev shown : Joined → List Row
  shown j = rows_named (placed ms (state_of h pending)) (name_of j)

  abbrev seen : Joined → List Row
  seen j = rows_seen there (name_of j)

  abbrev over : Option ℕ → List (List Row) → Option (List Row)
  over most ts = answer (meaning most means params) (query q) ts

  abbrev IsGivenTo : List ℕ → Type 0
  IsGivenTo name = IsGiven shows.may_offer params q name (module_in ms name) (find (is_listing name) ls)

  given_to : (j : Joined) → Among q.joined j → IsGivenTo (name_of j)
  given_to j m =
      read_of_name shows.may_offer params q (name_of j) cs ms ls
      (any_member (same_bytes (name_of j)) (map name_of q.joined) (name_of j) (map_member name_of q.joined j m) (same_itself (name_of j))) shows.listed

  -- the rows of a name that is neither that of a table nor that of the table of changes
  abbrev others : Bool → List Row → List Row → List Row
  others is_changes changes rows = if is_changes then changes else rows

  -- ---- how wide the rows are that are seen

  seen_by : (name : List ℕ) → IsGivenTo name → (o : Option Table) (b : Bool)
      → AreRows (width_or o (if b then length changes_columns else module_width (module_in ms name)))
      (rows_or snap.kept o (if b then map row_of snap.cells else rows_listed ls name))
  seen_by name given (Some t) b = table_wide snap.kept t
  seen_by name given None true = changes_wide snap.cells
  seen_by name given None false = given_wide shows.may_offer params q name (module_in ms name) (find (is_listing name) ls) given

  fits : shows.may_offer ≡ true → (j : Joined) → Among q.joined j → width_seen snap.tables ms (name_of j) ≡ width j
  fits may j m = eqb-true _ _ (member_passes (is_as_wide snap.tables ms) q.joined (shows.may may).wide j m)

  seen_wide : shows.may_offer ≡ true → (j : Joined) → Among q.joined j → AreOf j (seen j)
  seen_wide may j m =
      let is : width_seen snap.tables ms (name_of j) ≡ width j = fits may j m in
      subst (λ (n : ℕ). AreRows n (seen j)) is
      (seen_by (name_of j) (given_to j m) (find (is_named (name_of j)) snap.tables) (same_bytes changes_name (name_of j)))

  -- ---- one table

  module _ (before : List Joined) (j : Joined) (after : List Joined) (is : q.joined ≡ before ++ (j ∷ after))
      (wide : shows.may_offer ≡ true → AreWide before (map seen before)) (most : Option ℕ) (back : List (List Row)) where
    abbrev name : List ℕ
    name = name_of j

    member : Among q.joined j
    member = subst (λ (js : List Joined). Among js j) (sym is) (append_right before (j ∷ after) j (inl refl))

    abbrev Alike : List Row → List Row → Type 0
    Alike rows got = over most (map seen before ++ (rows ∷ back)) ≡ over most (map seen before ++ (got ∷ back))

    same_alike : (rows got : List Row) → rows ≡ got → Alike rows got
    same_alike rows got e = ap (λ (rs : List Row). over most (map seen before ++ (rs ∷ back))) e

    bag_alike : (rows got : List Row) → SameBag rows got → Alike rows got
    bag_alike rows got bag = answer_same (meaning most means params) (lawful means total most params) (query q) _ _ (one_alike (map seen before) rows got back bag)

    -- ---- a module

    module _ (m : ModuleState) (l : Listing) (best : Best) (one : IsListed true best (offered shows.may_offer params q name) (orders_for q) m l) where
      by_offers : (offers : List Offer) → offered shows.may_offer params q name ≡ offers → IsReadBy best m.rows offers (orders_for q) l.rows
      by_offers offers e = subst (λ (os : List Offer). IsReadBy best m.rows os (orders_for q) l.rows) e (one.given refl)

      nothing_offered : offered shows.may_offer params q name ≡ [] → Alike m.rows l.rows
      nothing_offered none = bag_alike m.rows l.rows (all_given m.rows l.rows (orders_for q) (best [] (orders_for q)) (by_offers [] none))

      offered_behind : shows.may_offer ≡ true → (t : Placed) → only (places_from 0 (has_name name) q.joined) ≡ Some t
          → offered shows.may_offer params q name ≡ offers_behind params q before j
      offered_behind may t found =
          let s = split_at 0 (has_name name) before j after (same_itself name) in
          let there : places_from 0 (has_name name) q.joined ≡ s.left ++ (placed_at (0 + widths before) j ∷ s.right) = ap (places_from 0 (has_name name)) is ∙ s.are in
          let own : t ≡ placed_at (0 + widths before) j = only_is s.left s.right (placed_at (0 + widths before) j) t (ap only (sym there) ∙ found) in
          let from_0 : 0 + widths before ≡ widths before = omega arith in
          ap (λ (b : Bool). cond b (offers_to params q name) []) may
          ∙ ap (λ (o : Option Placed). option_map_or (offers_placed params q) o []) found
          ∙ ap (offers_placed params q) own
          ∙ ap (λ (n : ℕ). offers_placed params q (placed_at n j)) from_0

      some_offered : shows.may_offer ≡ true → (o : Option Placed) → only (places_from 0 (has_name name) q.joined) ≡ o
          → module_width (Some m) ≡ width j → AreOf j l.rows → Alike m.rows l.rows
      some_offered may None found fits of =
          nothing_offered (
          ap (λ (b : Bool). cond b (offers_to params q name) []) may
          ∙ ap (λ (o : Option Placed). option_map_or (offers_placed params q) o []) found)
      some_offered may (Some t) found fits of =
          let os = orders_for q in
          answers_by_plan means params most q before j after (map seen before) m.rows l.rows back os (best (constraints (offers_behind params q before j)) os)
          (shows.may may).bytes total is (wide may) (subst (λ (n : ℕ). AreRows n m.rows) fits (one.all_wide refl)) of
          (by_offers (offers_behind params q before j) (offered_behind may t found))

      module_alike : (may : Bool) → shows.may_offer ≡ may → (may ≡ true → module_width (Some m) ≡ width j) → (may ≡ true → AreOf j l.rows) → Alike m.rows l.rows
      module_alike false e fits of = nothing_offered (ap (λ (b : Bool). cond b (offers_to params q name) []) e)
      module_alike true e fits of = some_offered e (only (places_from 0 (has_name name) q.joined)) refl (fits refl) (of refl)

    -- ---- whatever has the name

    abbrev Fits : Option Table → Bool → Type 0
    Fits o b = shows.may_offer ≡ true → width_or o (if b then length changes_columns else module_width (module_in ms name)) ≡ width j

    given_alike : (o : Option ModuleState) (l : Option Listing) → IsGiven shows.may_offer params q name o l → (shows.may_offer ≡ true → module_width o ≡ width j)
        → Alike (module_rows o) (listed_rows l)
    given_alike None None given fits = refl
    given_alike None (Some l) given fits = absurd given
    given_alike (Some m) None given fits = absurd given
    given_alike (Some m) (Some l) given fits =
        module_alike m l given.0 given.1 shows.may_offer refl fits
        (λ may. subst (λ (n : ℕ). AreRows n l.rows) (fits may) (given.1.wide refl))

    by_name : (o : Option Table) (b : Bool) → same_bytes changes_name name ≡ b → Fits o b
        → Alike (rows_or snap.kept o (others b (change_rows h) (module_rows (module_in ms name))))
        (rows_or snap.kept o (others b (map row_of snap.cells) (rows_listed ls name)))
    by_name (Some t) b is_changes fits = refl
    by_name None true is_changes fits = same_alike (change_rows h) (map row_of snap.cells) ((has j member).changes is_changes)
    by_name None false is_changes fits = given_alike (module_in ms name) (find (is_listing name) ls) (given_to j member) fits

    shown_is : shown j ≡ rows_or snap.kept (find (is_named name) snap.tables) (others (same_bytes changes_name name) (change_rows h) (module_rows (module_in ms name)))
    unfolding now
    shown_is = (has j member).rows _

    one : Alike (shown j) (seen j)
    one =
        same_alike (shown j) _ shown_is
        ∙ by_name (find (is_named name) snap.tables) (same_bytes changes_name name) refl
        (λ may. fits may j member)

  -- ---- all tables

  from : (before after : List Joined) → q.joined ≡ before ++ after → (shows.may_offer ≡ true → AreWide before (map seen before)) → (most : Option ℕ)
      → over most (map seen before ++ map shown after) ≡ over most (map seen q.joined)
  from before [] is wide most =
      ap (over most) (append-nil (map seen before)) ∙ ap (λ (js : List Joined). over most (map seen js)) (sym (append-nil before) ∙ sym is)
  from before (j ∷ after) is wide most =
      let together : map seen before ++ (seen j ∷ []) ≡ map seen (before ++ j ∷ []) = sym (map-append seen before (j ∷ [])) in
      let next : q.joined ≡ (before ++ j ∷ []) ++ after = is ∙ sym (append_assoc before (j ∷ []) after) in
      one before j after is wide most (map shown after)
      ∙ ap (over most) (sym (append_assoc (map seen before) (seen j ∷ []) (map shown after)) ∙ ap (λ (ts : List (List Row)). ts ++ map shown after) together)
      ∙ from (before ++ j ∷ []) after next
      (λ may.
      subst (AreWide (before ++ j ∷ [])) together
      (wide_more before j (map seen before) (seen j) (wide may)
      (seen_wide may j (subst (λ (js : List Joined). Among js j) (sym is) (append_right before (j ∷ after) j (inl refl))))))
      most

  names : (js : List Joined) → tables_named (placed ms (state_of h pending)) (map name_of js) ≡ map shown js
  names [] = refl
  names (j ∷ js) = ap (λ (ts : List (List Row)). shown j ∷ ts) (names js)

  pub shows_planned : ShowsStrictly means params q (placed ms (state_of h pending)) there
  shows_planned = λ most limit. ap (over most) (names q.joined) ∙ from [] q.joined refl (λ may. tt) most
