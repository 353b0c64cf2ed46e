-- What is heard of a table is heard of the keys that changes touch, from what is kept of these.
use Rattle.std.proofs.Common.{◌≡◌, ◌⊎◌, inl, inr, ℕ, Bool, true, false, not, cond, ◌&&◌, ◌||◌, List, [], ◌∷◌, ◌++◌, map, find, Option, Some, None, refl, sym, ap, subst, ◌∙◌}
use Rattle.std.specs.Prelude.{filter, if◌then◌else◌}
use Rattle.std.specs.List.{flat_map, cons_option, AllByRecursion, IsDistinct}
use Rattle.std.specs.Option.{option_map}
use Rattle.std.proofs.lemmas.List.{append-nil}
use Rattle.cr_value.specs.OrderLaws.{bytes_total, bytes_exact}
use Rattle.cr_lattice.specs.declared.change.Change.{Change}
use Rattle.cr_lattice.specs.declared.table.Table.{Table}
use Rattle.cr_lattice.specs.declared.table.TableDef.{TableDef}
use Rattle.cr_lattice.specs.Check.{same_bytes, fault_of, IsWellFormed}
use Rattle.cr_lattice.specs.Keep.{keep, join}
use Rattle.cr_lattice.specs.Profile.{has_key}
use Rattle.cr_lattice.specs.Rows.{is_alive, alive_keys, row, rows}
use Rattle.cr_lattice.proofs.Filters.{filter-filter}
use Rattle.cr_lattice.proofs.KeepLaws.{kept_from, keep_keep}
use Rattle.cr_lattice.proofs.ProfileLemmas.{accepted_key}
use Rattle.cr_lattice.proofs.RowLemmas.{any_alive_key}
use Rattle.cr_lattice.proofs.SortedSets.{has-filter}
use Rattle.cr_lattice.proofs.Tested.{and_false, split}
use Rattle.cr_cells.specs.Tables.{IsStored, AreWellFormed, fault_in, has_defaults, is_table_of, same_name}
use Rattle.cr_delta.specs.Key.{key_of}
use Rattle.cr_delta.specs.Wanted as wanted
use Rattle.cr_delta.proofs.Among.{Among, Among-filter, member_has, In_Among, Among_In}
use Rattle.cr_delta.proofs.Members.{same_is, is_same}
use Rattle.cr_delta.proofs.Once.{filter_none}
use Rattle.cr_guard.specs.declared.event.Event.{Event}
use Rattle.cr_guard.specs.Heard.{row_at, became, event, event_at, heard}
use Rattle.cr_query.specs.Query.{Row}
use Rattle.cr_touched.specs.Parts.{is_at, is_key_of, part}
use Rattle.cr_touched.specs.Shown.{AreKeptOf}
use Rattle.cr_touched.proofs.Inserts.{kept_of_part}
use Rattle.cr_touched.proofs.Parts.{keep_part, parts_are_joined, rows_part}
use Rattle.cr_touched.proofs.Shown.{is_its_key, is_present}
use Rattle.cr_touched.proofs.Touches.{filter_members}
use Rattle.cr_world.specs.State.{by_name, heard_of_table}
use Rattle.cr_heard.specs.declared.touched.Touched.{Touched}
use Rattle.cr_heard.specs.Laws.{TouchedKeysTellAll, TouchedKeysAreSound, StayingSaysNothing}
use Rattle.cr_heard.specs.Touched.{AreSound, some_keys, touched_keys, touched_of, touched, heard_of_keys}
use Rattle.cr_heard.proofs.Given.{all_of, among_given, made_alike, some_is}
use Rattle.cr_heard.proofs.ByName.{under_touched}
use Rattle.cr_heard.proofs.Named.{among_by_name, same_back}
use Rattle.cr_heard.proofs.Seen.{found_row, heard_alike, none_heard, stays}

-- ---- lists

all_append : {A : Type 0} (P : A → Type 0) (xs ys : List A) → AllByRecursion P xs → AllByRecursion P ys → AllByRecursion P (xs ++ ys)
all_append P [] ys a b = b
all_append P (x ∷ xs) ys a b = (a.0, all_append P xs ys a.1 b)

filter_every : {X : Type 0} (xs : List X) → filter (λ x. true) xs ≡ xs
filter_every [] = refl
filter_every (x ∷ xs) = ap (λ l. x ∷ l) (filter_every xs)

and_is : (b : Bool) → (b && true) ≡ b
and_is true = refl
and_is false = refl

defaults_of : (t : Table) → t.is_replicated ≡ true → (not t.is_replicated || has_defaults t.definition) ≡ true → has_defaults t.definition ≡ true
defaults_of t rep e = sym (ap (λ b. not b || has_defaults t.definition) rep) ∙ e

-- ---- one table

abbrev IsOf : TableDef → Change → Type 0
IsOf def c = IsWellFormed c def ⊎ (same_bytes c.table def.name ≡ false)

abbrev every : List ℕ → Bool
every pk = true

module _ (def : TableDef) (keyed : has_key def ≡ true) where
  -- ---- rows by their keys

  module _ (kept : List Change) (are : AreKeptOf def kept) where
    own : (pk : List ℕ) → Among (alive_keys kept def.name) pk → key_of def (row kept def pk) ≡ pk
    own pk m = is_its_key def keyed kept are pk (is_present def keyed kept are pk m)

    at_whole : (pk : List ℕ) → row_at def (rows kept def) pk ≡ cond (is_alive kept def.name pk) (Some (row kept def pk)) None
    unfolding rows
    at_whole pk =
        found_row def (row kept def) (alive_keys kept def.name) own pk
        ∙ ap (λ b. cond b (Some (row kept def pk)) None) (any_alive_key kept def.name pk)

    at_part : (q : List ℕ → Bool) (pk : List ℕ) → row_at def (rows (part def.name q kept) def) pk ≡ cond (is_alive kept def.name pk && q pk) (Some (row kept def pk)) None
    at_part q pk =
        ap (λ rs. row_at def rs pk) (rows_part def q kept)
        ∙ found_row def (row kept def) (filter q (alive_keys kept def.name)) (λ x m. own x (Among-filter q (alive_keys kept def.name) x m).0) pk
        ∙ ap (λ b. cond b (Some (row kept def pk)) None) (has-filter bytes_total bytes_exact q (alive_keys kept def.name) pk ∙ ap (λ b. b && q pk) (any_alive_key kept def.name pk))

    -- a part shows the row of a key that passes, and of no other
    inside : (q : List ℕ → Bool) (pk : List ℕ) → q pk ≡ true → row_at def (rows (part def.name q kept) def) pk ≡ row_at def (rows kept def) pk
    inside q pk e =
        at_part q pk
        ∙ ap (λ b. cond (is_alive kept def.name pk && b) (Some (row kept def pk)) None) e
        ∙ ap (λ b. cond b (Some (row kept def pk)) None) (and_is (is_alive kept def.name pk))
        ∙ sym (at_whole pk)

    outside : (q : List ℕ → Bool) (pk : List ℕ) → q pk ≡ false → row_at def (rows (part def.name q kept) def) pk ≡ None
    outside q pk e =
        at_part q pk
        ∙ ap (λ b. cond (is_alive kept def.name pk && b) (Some (row kept def pk)) None) e
        ∙ ap (λ b. cond b (Some (row kept def pk)) None) (and_false (is_alive kept def.name pk))

  -- ---- changes that come in

  module _ (kept more : List Change) (are : AreKeptOf def kept) (well : wanted.AreWellFormed def more) where
    abbrev joined : List Change
    joined = join kept more

    abbrev keys : List ℕ → Bool
    keys = is_key_of (touched_keys def.name more)

    abbrev others : List ℕ → Bool
    others pk = not (keys pk)

    pub are_joined : AreKeptOf def joined
    are_joined = record {
      unbeaten = keep_keep (kept ++ more);
      well_formed = all_of (IsOf def) joined (λ c m.
          member_has (IsOf def) (kept ++ more) c (all_append (IsOf def) kept more are.well_formed well)
          (Among_In (kept ++ more) c (kept_from (kept ++ more) c (In_Among joined c m)).member));
    }

    -- ---- under other keys all stays

    none_other : part def.name others more ≡ []
    unfolding part
    none_other =
        filter_none (is_at def.name others) more (λ c m.
        elim (split (same_bytes c.table def.name)) [
          | inl so ↦ ap (λ b. same_bytes c.table def.name && not b) (under_touched def.name more c m so) ∙ and_false (same_bytes c.table def.name)
          | inr not_so ↦ ap (λ b. b && others c.pk) not_so
        ])

    others_stay : part def.name others joined ≡ part def.name others kept
    others_stay =
        sym (parts_are_joined def.name others kept more)
        ∙ ap (join (part def.name others kept)) none_other
        ∙ ap keep (append-nil (part def.name others kept))
        ∙ sym (keep_part def.name others kept)
        ∙ ap (part def.name others) are.unbeaten

    row_stays : (pk : List ℕ) → keys pk ≡ false → row_at def (rows joined def) pk ≡ row_at def (rows kept def) pk
    row_stays pk e =
        sym (inside joined are_joined others pk (ap not e))
        ∙ ap (λ (k : List Change). row_at def (rows k def) pk) others_stay
        ∙ inside kept are others pk (ap not e)

    -- ---- what comes in comes to the keys that it touches

    rows_of_it : (k : List Change) → rows (part def.name every k) def ≡ rows k def
    unfolding rows
    rows_of_it k = rows_part def every k ∙ ap (map (row k def)) (filter_every (alive_keys k def.name))

    part_of_it : (k : List Change) → part def.name every (part def.name keys k) ≡ part def.name keys k
    unfolding part
    part_of_it k =
        filter-filter (is_at def.name every) (is_at def.name keys) k
        ∙ filter_members _ _ k (λ c m.
        elim (split (same_bytes c.table def.name)) [
          | inl so ↦ ap (λ b. (same_bytes c.table def.name && keys c.pk) && (b && true)) so ∙ and_is (same_bytes c.table def.name && keys c.pk)
          | inr not_so ↦ ap (λ b. (b && keys c.pk) && (b && true)) not_so ∙ sym (ap (λ b. b && keys c.pk) not_so)
        ])

    all_of_it : part def.name every more ≡ part def.name keys more
    unfolding part
    all_of_it =
        filter_members _ _ more (λ c m.
        elim (split (same_bytes c.table def.name)) [
          | inl so ↦ ap (λ b. same_bytes c.table def.name && b) (sym (under_touched def.name more c m so))
          | inr not_so ↦ ap (λ b. b && true) not_so ∙ sym (ap (λ b. b && keys c.pk) not_so)
        ])

    rows_joined : rows (join (part def.name keys kept) more) def ≡ rows (part def.name keys joined) def
    rows_joined =
        sym (rows_of_it (join (part def.name keys kept) more))
        ∙ ap (λ (k : List Change). rows k def)
        (sym (parts_are_joined def.name every (part def.name keys kept) more)
        ∙ ap (λ (xs : List Change). join xs (part def.name every more)) (part_of_it kept)
        ∙ ap (join (part def.name keys kept)) all_of_it
        ∙ parts_are_joined def.name keys kept more)

    -- ---- what is heard

    abbrev told : Option Row → Option Row → List ℕ → Option Event
    told before after pk = option_map (event def.name pk) (became before after)

    silent : (pk : List ℕ) → keys pk ≡ false → event_at def (rows kept def) (rows joined def) pk ≡ None
    silent pk e =
        ap (λ o. told (row_at def (rows kept def) pk) o pk) (row_stays pk e)
        ∙ ap (option_map (event def.name pk)) (stays (row_at def (rows kept def) pk))

    same_event : (pk : List ℕ) → event_at def (rows kept def) (rows joined def) pk ≡ event_at def (rows (part def.name keys kept) def) (rows (part def.name keys joined) def) pk
    same_event pk =
        elim (split (keys pk)) [
          | inl so ↦
              ap (λ o. told o (row_at def (rows joined def) pk) pk) (sym (inside kept are keys pk so))
              ∙ ap (λ o. told (row_at def (rows (part def.name keys kept) def) pk) o pk) (sym (inside joined are_joined keys pk so))
          | inr not_so ↦
              silent pk not_so
              ∙ ap (λ o. told None o pk) (sym (outside joined are_joined keys pk not_so))
              ∙ ap (λ o. told o (row_at def (rows (part def.name keys joined) def) pk) pk) (sym (outside kept are keys pk not_so))
        ]

    pub keys_tell : heard def (rows (part def.name keys kept) def) (rows (join (part def.name keys kept) more) def) ≡ heard def (rows kept def) (rows joined def)
    keys_tell =
        ap (heard def (rows (part def.name keys kept) def)) rows_joined
        ∙ sym (heard_alike def (rows kept def) (rows joined def) (rows (part def.name keys kept) def) (rows (part def.name keys joined) def) same_event)

    pub untouched_is_silent : touched_keys def.name more ≡ [] → heard def (rows kept def) (rows joined def) ≡ []
    untouched_is_silent none = none_heard def (rows kept def) (rows joined def) (λ pk. silent pk (ap (λ ks. is_key_of ks pk) none))

-- ---- all tables

-- a change of a replicated table is judged by its definition
own_table : (tables : List Table) → IsDistinct same_name tables → (t : Table) → Among tables t → t.is_replicated ≡ true → (c : Change) → c.table ≡ t.definition.name → find (is_table_of c) tables ≡ Some t
unfolding IsDistinct
own_table [] names t m rep c same = absurd m
own_table (x ∷ xs) names t m rep c same =
    elim m [
      | inl here ↦ (
          let so : is_table_of c x ≡ true = ap (is_table_of c) (sym here) ∙ ap (λ b. b && same_bytes t.definition.name c.table) rep ∙ is_same t.definition.name c.table (sym same) in
          rw so (ap Some (sym here)))
      | inr there ↦ (
          let apart : same_bytes t.definition.name x.definition.name ≡ false = member_has (λ y. same_name x y ≡ false) xs t names.0 there in
          let other : same_bytes x.definition.name c.table ≡ false = ap (same_bytes x.definition.name) same ∙ same_back x.definition.name t.definition.name ∙ apart in
          let absent : is_table_of c x ≡ false = ap (λ b. x.is_replicated && b) other ∙ and_false x.is_replicated in
          rw absent (own_table xs names.1 t there rep c same))
    ]

module _ (tables : List Table) (names : IsDistinct same_name tables) (stored : AllByRecursion IsStored tables) (kept more : List Change)
    (unbeaten : keep kept ≡ kept) (well : AreWellFormed tables kept) (fit : AreWellFormed tables more) where
  module _ (t : Table) (there : Among tables t) (rep : t.is_replicated ≡ true) where
    pub keyed : has_key t.definition ≡ true
    keyed = accepted_key t.definition (member_has IsStored tables t stored there).fit.profile

    pub well_here : (cs : List Change) → AreWellFormed tables cs → wanted.AreWellFormed t.definition cs
    unfolding fault_in
    well_here cs all =
        all_of (IsOf t.definition) cs (λ c m.
        elim (split (same_bytes c.table t.definition.name)) [
          | inl so ↦ inl (
              ap (λ o. fault_of c (option_map (λ u. u.definition) o)) (sym (own_table tables names t there rep c (same_is c.table t.definition.name so)))
              ∙ member_has (λ d. fault_in tables d ≡ None) cs c all m)
          | inr not_so ↦ inr not_so
        ])

    pub kept_here : AreKeptOf t.definition kept
    kept_here = record { unbeaten = unbeaten; well_formed = well_here kept well }

  abbrev of_keys : Touched → List Event
  of_keys u = heard_of_keys (part u.definition.name (is_key_of u.keys) kept) more u

  one_tells : (t : Table) → Among (by_name tables) t → flat_map of_keys (cons_option (touched_of more t) []) ≡ heard_of_table kept (join kept more) t
  unfolding touched_of
  one_tells t m = by t.is_replicated refl where
    with_keys : t.is_replicated ≡ true → (ks : List (List ℕ)) → touched_keys t.definition.name more ≡ ks
        → flat_map of_keys (cons_option (some_keys t.definition ks) []) ≡ heard t.definition (rows kept t.definition) (rows (join kept more) t.definition)
    with_keys rep [] is =
        let there = among_by_name tables t m in
        sym (untouched_is_silent t.definition (keyed t there rep) kept more (kept_here t there rep) (well_here t there rep more fit) is)
    with_keys rep (k ∷ ks) is =
        let there = among_by_name tables t m in
        append-nil (of_keys (record { definition = t.definition; keys = k ∷ ks }))
        ∙ ap (λ ks. of_keys (record { definition = t.definition; keys = ks })) (sym is)
        ∙ keys_tell t.definition (keyed t there rep) kept more (kept_here t there rep) (well_here t there rep more fit)

    by : (b : Bool) → t.is_replicated ≡ b
        → flat_map of_keys (cons_option (if b then some_keys t.definition (touched_keys t.definition.name more) else None) [])
        ≡ (if b then heard t.definition (rows kept t.definition) (rows (join kept more) t.definition) else [])
    by true rep = with_keys rep (touched_keys t.definition.name more) refl
    by false rep = refl

pub touched_keys_tell_all : TouchedKeysTellAll
unfolding touched
touched_keys_tell_all tables kept more names stored unbeaten well fit =
    made_alike (touched_of more) (of_keys tables names stored kept more unbeaten well fit) (heard_of_table kept (join kept more)) (by_name tables)
    (one_tells tables names stored kept more unbeaten well fit)

-- ---- what is kept of the keys

module _ (tables : List Table) (names : IsDistinct same_name tables) (stored : AllByRecursion IsStored tables) (kept more : List Change)
    (unbeaten : keep kept ≡ kept) (well : AreWellFormed tables kept) (fit : AreWellFormed tables more) where
  abbrev IsSoundly : Touched → Type 0
  IsSoundly u = AreSound (part u.definition.name (is_key_of u.keys) kept) more u

  one_sound : (t : Table) → Among tables t → (u : Touched) → touched_of more t ≡ Some u → IsSoundly u
  unfolding touched_of
  one_sound t there u e = by t.is_replicated refl e where
    with_keys : t.is_replicated ≡ true → (ks : List (List ℕ)) → some_keys t.definition ks ≡ Some u → IsSoundly u
    with_keys rep [] e = absurd cc
    with_keys rep (k ∷ ks) e =
        let has = keyed tables names stored kept more unbeaten well fit t there rep in
        let are = kept_here tables names stored kept more unbeaten well fit t there rep in
        let some = kept_of_part t.definition (is_key_of (k ∷ ks)) kept are in
        let after = are_joined t.definition has (part t.definition.name (is_key_of (k ∷ ks)) kept) more some (well_here tables names stored kept more unbeaten well fit t there rep more fit) in
        let defaults = defaults_of t rep (member_has IsStored tables t stored there).defaults in
        subst IsSoundly (some_is (record { definition = t.definition; keys = k ∷ ks }) u e) (
          record { key = has; defaults = defaults; are = some },
          record { key = has; defaults = defaults; are = after },
        )

    by : (b : Bool) → t.is_replicated ≡ b → (if b then some_keys t.definition (touched_keys t.definition.name more) else None) ≡ Some u → IsSoundly u
    by true rep e = with_keys rep (touched_keys t.definition.name more) e
    by false rep e = absurd cc

pub touched_keys_are_sound : TouchedKeysAreSound
unfolding touched
touched_keys_are_sound tables kept more names stored unbeaten well fit =
    all_of _ (touched tables more) (λ u m. (
    let f = among_given (touched_of more) (by_name tables) u m in
    one_sound tables names stored kept more unbeaten well fit f.0 (among_by_name tables f.0 f.1) u f.2))

-- ---- what stays

pub staying_says_nothing : StayingSaysNothing
staying_says_nothing tables kept = each (by_name tables) where
  one : (t : Table) (b : Bool) → (if b then heard t.definition (rows kept t.definition) (rows kept t.definition) else []) ≡ []
  one t true = none_heard t.definition (rows kept t.definition) (rows kept t.definition) (λ pk. ap (option_map (event t.definition.name pk)) (stays (row_at t.definition (rows kept t.definition) pk)))
  one t false = refl

  each : (ts : List Table) → flat_map (heard_of_table kept kept) ts ≡ []
  each [] = refl
  each (t ∷ ts) = ap (λ l. l ++ flat_map (heard_of_table kept kept) ts) (one t t.is_replicated) ∙ each ts
