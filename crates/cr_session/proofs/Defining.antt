-- Definitions by a call: why a replica refuses one, as a session tells it.
use Rattle.std.proofs.Common.{◌≡◌, ◌⊎◌, inl, inr, ℕ, zero, suc, ◌<◌, ◌≤◌, arith, nat_lt, nat_le, Bool, true, false, not, ◌||◌, cond, List, [], ◌∷◌, Option, Some, None, Ok, Err, refl, sym, ap, subst, ◌∙◌, map, find, position, length, take, get_or, slice_get}
use Rattle.std.specs.Prelude.{AllPairs, is_some}
use Rattle.std.specs.Option.{option_map, option_map_or, option_or}
use Rattle.std.specs.List.{list_any, position_or_len}
use Rattle.std.proofs.lemmas.Option.{slice_get-get_or, slice_get_past}
use Rattle.std.proofs.lemmas.List.Folds.{find_at}
use Rattle.std.proofs.lemmas.Bool.Decides.{leb_tells}
use Rattle.std.proofs.lemmas.Cmp.{eq_by_cmp_equiv}
use Rattle.cr_value.specs.OrderLaws.{bytes_total}
use Rattle.cr_lattice.specs.declared.change.Change.{Change}
use Rattle.cr_lattice.specs.declared.profile.ProfileFault.{ProfileFault}
use Rattle.cr_lattice.specs.declared.profile.ProfileFault.TheVariants as profile
use Rattle.cr_lattice.specs.declared.table.ColumnDef.{ColumnDef}
use Rattle.cr_lattice.specs.declared.table.Table.{Table}
use Rattle.cr_lattice.specs.declared.table.TableDef.{TableDef}
use Rattle.cr_lattice.specs.Check.{same_bytes}
use Rattle.cr_lattice.specs.Faults.{first_failed}
use Rattle.cr_lattice.specs.Profile.{profile_fault, has_key, is_collated_key, has_row_cid, is_default_too_long, key_count, is_reserved, lacks_default, HasDistinctNames, IsFirstRepeat, most_columns}
use Rattle.cr_cells.specs.Holding.{Holding}
use Rattle.cr_cells.specs.Tables.{is_named}
use Rattle.cr_cells.proofs.NewLemmas.{same_is}
use Rattle.cr_replica.specs.declared.definition.DefineError.{DefineError}
use Rattle.cr_replica.specs.declared.definition.DefineError.TheVariants as define
use Rattle.cr_replica.specs.Definition as definitions
use Rattle.cr_replica.specs.Definition.{IsAccepted, IsRefusedFor, DefinesTable, has_unknown_collation, is_taken, defined}
use Rattle.cr_replica.proofs.Definitions.{is_some-find}
use Rattle.cr_world.specs.declared.refusal.Refusal.{Refusal}
use Rattle.cr_world.specs.declared.refusal.Refusal.TheVariants as refusal
use Rattle.cr_world.specs.Refusals.{is_want, of_profile, of_definition, column_at, name_of, collation_of}
use Rattle.cr_world.specs.Causes.{Cause, Free, Tells, IsWant, first_cause, of_option, where_true}
use Rattle.cr_world.specs.Language.{Language, definition_in}
use Rattle.cr_world.specs.State.{State, catalog, changes_name, changes_definition}
use Rattle.cr_world.specs.declared.command.Command.TheVariants.{Define}
use Rattle.cr_world.specs.declared.command.Declaration.TheVariants.{Table as Declared}
use Rattle.cr_world.specs.declared.command.FleetReply.{FleetReply}
use Rattle.cr_world.specs.declared.command.FleetReply.TheVariants.{Done, Refused}
use Rattle.cr_world.specs.Statement.{Host, column_name}
use Rattle.cr_world.specs.Takings.{first_repeat, define_cause}
use Rattle.cr_session.specs.Sessions.{Does, clean, honest, is_early, standing, state_of}

want_of_profile : (def : TableDef) (f : ProfileFault) → is_want (of_profile def f) ≡ false
want_of_profile def profile.PrimaryKey = refl
want_of_profile def profile.Collation = refl
want_of_profile def profile.RowCid = refl
want_of_profile def profile.Default = refl
want_of_profile def profile.Columns = refl
want_of_profile def profile.KeyColumns = refl
want_of_profile def profile.Name = refl

pub want_of_definition : (def : TableDef) (e : DefineError) → is_want (of_definition def e) ≡ definitions.is_want e
want_of_definition def define.Memory = refl
want_of_definition def (define.Store f) = refl
want_of_definition def (define.Profile f) = want_of_profile def f
want_of_definition def define.TableExists = refl
want_of_definition def (define.Duplicate i) = refl
want_of_definition def (define.NoSuchCollation i) = refl
want_of_definition def (define.NoDefault i) = refl

-- ---- where something is found

place_told : (b : Bool) (n i : ℕ) → cond b (Some n) None ≡ Some i → n ≡ i
place_told true n i e = cc
place_told false n i e = absurd (let q : None ≡ Some i = e in cc)

not_within : (n m : ℕ) → nat_lt n m ≡ false → m ≤ n
not_within n m e = elim (leb_tells (suc n) m) [
  | inl p ↦ absurd (let q : true ≡ false = sym p.0 ∙ e in cc)
  | inr q ↦ omega (arith, q.1)
]

no_place : (b : Bool) (n : ℕ) → cond b (Some n) None ≡ None → b ≡ false
no_place true n e = absurd (let q : Some n ≡ None = e in cc)
no_place false n e = refl

is_within : (n m i : ℕ) → cond (nat_lt n m) (Some n) None ≡ Some i → i < m
is_within n m i e = elim (leb_tells (suc n) m) [
  | inl p ↦ (let same : n ≡ i = place_told (nat_lt n m) n i e in omega (arith, p.1, same))
  | inr q ↦ absurd (let r : None ≡ Some i = sym (ap (λ (b : Bool). cond b (Some n) None) q.0) ∙ e in cc)
]

place_within : {X : Type 0} (p : X → Bool) (xs : List X) (i : ℕ) → position p xs ≡ Some i → i < length xs
place_within p xs i e = is_within (position_or_len p xs) (length xs) i e

found_at : {X : Type 0} (p : X → Bool) (xs : List X) (i : ℕ) → position p xs ≡ Some i → find p xs ≡ slice_get xs i
found_at p xs i e = find_at p xs ∙ ap (slice_get xs) (place_told (nat_lt (position_or_len p xs) (length xs)) (position_or_len p xs) i e)

found_nowhere : {X : Type 0} (p : X → Bool) (xs : List X) → position p xs ≡ None → find p xs ≡ None
found_nowhere p xs e =
    find_at p xs ∙ slice_get_past xs (position_or_len p xs) (not_within (position_or_len p xs) (length xs) (no_place (nat_lt (position_or_len p xs) (length xs)) (position_or_len p xs) e))

-- ---- a table of the name

-- each rule is kept
last_kept : (a b c d e f g : Bool) → first_failed ((a, profile.PrimaryKey) ∷ (b, profile.Collation) ∷ (c, profile.RowCid) ∷ (d, profile.Default) ∷ (e, profile.Columns) ∷ (f, profile.KeyColumns) ∷ (g, profile.Name) ∷ []) ≡ None → g ≡ true
last_kept true true true true true true true p = refl
last_kept true true true true true true false p = absurd (let q : Some profile.Name ≡ None = p in cc)
last_kept true true true true true false g p = absurd (let q : Some profile.KeyColumns ≡ None = p in cc)
last_kept true true true true false f g p = absurd (let q : Some profile.Columns ≡ None = p in cc)
last_kept true true true false e f g p = absurd (let q : Some profile.Default ≡ None = p in cc)
last_kept true true false d e f g p = absurd (let q : Some profile.RowCid ≡ None = p in cc)
last_kept true false c d e f g p = absurd (let q : Some profile.Collation ≡ None = p in cc)
last_kept false b c d e f g p = absurd (let q : Some profile.PrimaryKey ≡ None = p in cc)

not_reserved : (def : TableDef) → profile_fault def ≡ None → not (is_reserved def.name) ≡ true
unfolding profile_fault
not_reserved def e =
    last_kept (has_key def) (not (list_any is_collated_key def.columns)) (not (has_row_cid def)) (not (list_any is_default_too_long def.columns)) (nat_le (length def.columns) most_columns) (nat_le (key_count def) 8) (not (is_reserved def.name)) e

-- the name of the table of changes is reserved
not_changes : (def : TableDef) (b : Bool) → profile_fault def ≡ None → same_bytes changes_name def.name ≡ b → b ≡ false
not_changes def false e s = refl
not_changes def true e s =
    let free : not (is_reserved changes_name) ≡ true = subst (λ (n : List ℕ). not (is_reserved n) ≡ true) (sym (same_is changes_name def.name s)) (not_reserved def e) in
    absurd (let q : false ≡ true = free in cc)

some_or : {X Y : Type 0} (f : X → Y) (o : Option X) (other : Option Y) → is_some other ≡ false → is_some (option_or (option_map f o) other) ≡ is_some o
some_or f None other e = e
some_or f (Some x) other e = refl

one_found : {X : Type 0} (p : X → Bool) (x : X) (b : Bool) → p x ≡ b → is_some (find p (x ∷ [])) ≡ b
one_found p x true e = ap (λ (b : Bool). is_some (cond b (Some x) None)) e
one_found p x false e = ap (λ (b : Bool). is_some (cond b (Some x) None)) e

taken_is : (h : Holding) (pending : Option (List Change)) (def : TableDef) → profile_fault def ≡ None → is_some (definition_in (catalog (state_of h pending)) def.name) ≡ is_taken h.tables def
taken_is h pending def e =
    some_or (λ (t : Table). t.definition) (find (is_named def.name) h.tables) _
    (one_found (λ (d : TableDef). same_bytes d.name def.name) changes_definition false (not_changes def (same_bytes changes_name def.name) e refl))
    ∙ is_some-find (is_named def.name) h.tables

-- ---- columns of one name

same_back : (x y : List ℕ) → same_bytes x y ≡ same_bytes y x
same_back x y = (eq_by_cmp_equiv bytes_total).symm x y

abbrev Differ : ColumnDef → ColumnDef → Type 0
Differ a b = same_bytes a.name b.name ≡ false

-- a column is called as none of these
abbrev Fresh : List (List ℕ) → List ColumnDef → Type 0
Fresh before cs = (j : ℕ) (d : ColumnDef) → j < length cs → list_any (same_bytes (get_or cs j d).name) before ≡ false

rest_differ : (c : ColumnDef) (cs : List ColumnDef) → AllPairs Differ (c ∷ cs) → AllPairs Differ cs
rest_differ c cs p = λ i j d h g. p (suc i) (suc j) d (omega (arith, h)) (omega (arith, g))

still_fresh : (before : List (List ℕ)) (c : ColumnDef) (cs : List ColumnDef) → Fresh before (c ∷ cs) → AllPairs Differ (c ∷ cs) → Fresh (c.name ∷ before) cs
still_fresh before c cs f p = λ j d h.
    let apart : same_bytes (get_or cs j d).name c.name ≡ false = same_back (get_or cs j d).name c.name ∙ p 0 (suc j) d (omega (arith, h)) (omega (arith, h)) in
    ap (λ (b : Bool). b || list_any (same_bytes (get_or cs j d).name) before) apart ∙ f (suc j) d (omega (arith, h))

abbrev on_repeat : Bool → List ℕ → Option (List ℕ) → Option (List ℕ)
on_repeat b n later = cond b (Some n) later

none_repeats : (before : List (List ℕ)) (cs : List ColumnDef) → Fresh before cs → AllPairs Differ cs → first_repeat before (map (λ c. c.name) cs) ≡ None
none_repeats before [] f p = refl
none_repeats before (c ∷ cs) f p =
    ap (λ (b : Bool). on_repeat b c.name (first_repeat (c.name ∷ before) (map (λ c. c.name) cs))) (f 0 c (omega arith))
    ∙ none_repeats (c.name ∷ before) cs (still_fresh before c cs f p) (rest_differ c cs p)

or_none : (a : Bool) → (a || false) ≡ true → a ≡ true
or_none true e = refl
or_none false e = e

moved : (a b b' r : Bool) → b ≡ b' → (a || (b || r)) ≡ true → ((b' || a) || r) ≡ true
moved true b true r e p = refl
moved true b false r e p = refl
moved false b true r e p = refl
moved false b false r e p = ap (λ (x : Bool). x || r) (sym e) ∙ p

one_repeats : (i : ℕ) (before : List (List ℕ)) (cs : List ColumnDef) (d : ColumnDef) → i < length cs → Fresh before (take i cs) → AllPairs Differ (take i cs)
    → (list_any (same_bytes (get_or cs i d).name) before || list_any (λ c. same_bytes c.name (get_or cs i d).name) (take i cs)) ≡ true
    → first_repeat before (map (λ c. c.name) cs) ≡ Some (get_or cs i d).name
one_repeats i before [] d h f p r = absurd (omega (arith, h))
one_repeats zero before (c ∷ cs) d h f p r =
    ap (λ (b : Bool). on_repeat b c.name (first_repeat (c.name ∷ before) (map (λ c. c.name) cs))) (or_none (list_any (same_bytes c.name) before) r)
one_repeats (suc i) before (c ∷ cs) d h f p r =
    ap (λ (b : Bool). on_repeat b c.name (first_repeat (c.name ∷ before) (map (λ c. c.name) cs))) (f 0 c (omega arith))
    ∙ one_repeats i (c.name ∷ before) cs d (omega (arith, h)) (still_fresh before c (take i cs) f p) (rest_differ c (take i cs) p)
    (moved (list_any (same_bytes (get_or cs i d).name) before) (same_bytes c.name (get_or cs i d).name) (same_bytes (get_or cs i d).name c.name) (list_any (λ c. same_bytes c.name (get_or cs i d).name) (take i cs))
    (same_back c.name (get_or cs i d).name) r)

no_name : (cs : List ColumnDef) → Fresh [] cs
no_name cs = λ j d h. refl

distinct_is : (def : TableDef) → HasDistinctNames def → first_repeat [] (map (λ c. c.name) def.columns) ≡ None
distinct_is def p = none_repeats [] def.columns (no_name def.columns) p

repeat_is : (def : TableDef) (i : ℕ) (d : ColumnDef) → IsFirstRepeat def i → first_repeat [] (map (λ c. c.name) def.columns) ≡ Some (column_at def.columns i)
repeat_is def i d r =
    one_repeats i [] def.columns d r.within (no_name (take i def.columns)) r.before (r.repeats d)
    ∙ ap (λ (o : Option ColumnDef). Some (name_of o)) (sym (slice_get-get_or def.columns i d r.within))

-- ---- the cause

name_told : (o : Option ColumnDef) → name_of o ≡ option_map_or (λ c. c.name) o []
name_told None = refl
name_told (Some c) = refl

abbrev causes_by : TableDef → Bool → Option ProfileFault → Bool → Option (List ℕ) → Option ColumnDef → Option ℕ → Cause
causes_by def opened fault taken repeat unknown lacking =
    first_cause (of_option (option_map (of_profile def) fault) ∷ where_true taken (refusal.TableExists def.name) ∷ of_option (option_map refusal.AmbiguousColumn repeat)
    ∷ of_option (option_map (λ c. refusal.NoSuchCollation c.collation) unknown) ∷ where_true opened refusal.TransactionState
    ∷ of_option (option_map (λ i. refusal.NoDefault (column_name def.columns i)) lacking) ∷ [])

module _ (has : List ℕ → Bool) (h : Holding) (pending : Option (List Change)) (def : TableDef) where
  abbrev st : State
  st = state_of h pending

  cause_is : (fault : Option ProfileFault) (taken : Bool) (repeat : Option (List ℕ)) (unknown : Option ColumnDef) (lacking : Option ℕ)
      → profile_fault def ≡ fault → is_some (definition_in (catalog st) def.name) ≡ taken → first_repeat [] (map (λ c. c.name) def.columns) ≡ repeat
      → find (has_unknown_collation has) def.columns ≡ unknown → position lacks_default def.columns ≡ lacking
      → define_cause has st def ≡ causes_by def (is_some pending) fault taken repeat unknown lacking
  cause_is fault taken repeat unknown lacking e f g u d = λ i. causes_by def (is_some pending) (e i) (f i) (g i) (u i) (d i)

  -- nothing stands against the definition but, perhaps, an open transaction
  clear : IsAccepted has h.tables def → define_cause has st def ≡ causes_by def (is_some pending) None false None None None
  clear a = cause_is None false None None None a.profile (taken_is h pending def a.profile ∙ a.new) (distinct_is def a.names) (found_nowhere (has_unknown_collation has) def.columns a.collations) a.defaults

  accepted_is : is_some pending ≡ false → IsAccepted has h.tables def → define_cause has st def ≡ Free
  accepted_is outside a = clear a ∙ ap (λ (b : Bool). causes_by def b None false None None None) outside

  tells : (c : Cause) (r : Refusal) → define_cause has st def ≡ c → Tells c r → IsWant r ⊎ Tells (define_cause has st def) r
  tells c r e t = inr (subst (λ (x : Cause). Tells x r) (sym e) t)

  no_columns : (cs : List ColumnDef) (i : ℕ) → i < length cs → ColumnDef
  no_columns [] i p = absurd (omega (arith, p))
  no_columns (c ∷ cs) i p = c

  unknown_told : (o : Option ColumnDef) (i : ℕ) → slice_get def.columns i ≡ o → position (has_unknown_collation has) def.columns ≡ Some i → profile_fault def ≡ None → is_taken h.tables def ≡ false → HasDistinctNames def
      → IsWant (of_definition def (define.NoSuchCollation i)) ⊎ Tells (define_cause has st def) (of_definition def (define.NoSuchCollation i))
  unknown_told None i e p f t n = absurd (
      let there = slice_get-get_or def.columns i (no_columns def.columns i (place_within (has_unknown_collation has) def.columns i p)) (place_within (has_unknown_collation has) def.columns i p) in
      let q : Some _ ≡ None = sym there ∙ e in
      cc)
  unknown_told (Some c) i e p f t n =
      tells _ _ (cause_is None false None (Some c) (position lacks_default def.columns) f (taken_is h pending def f ∙ t) (distinct_is def n) (found_at (has_unknown_collation has) def.columns i p ∙ e) refl)
      (ap (λ (o : Option ColumnDef). refusal.NoSuchCollation (collation_of o)) e)

  -- a column wants a default
  lacking : (i : ℕ) → IsRefusedFor has h.tables def (define.NoDefault i) → define_cause has st def ≡ causes_by def (is_some pending) None false None None (Some i)
  lacking i r = cause_is None false None None (Some i) r.0 (taken_is h pending def r.0 ∙ r.1) (distinct_is def r.2) (found_nowhere (has_unknown_collation has) def.columns r.3) r.4

  pub early_is : (e : DefineError) → is_early e ≡ true → IsRefusedFor has h.tables def e → IsWant (of_definition def e) ⊎ Tells (define_cause has st def) (of_definition def e)
  early_is define.Memory b r = inl (inl refl)
  early_is (define.Store f) b r = inl (inr (ap refusal.Store r))
  early_is (define.Profile f) b r = tells _ _ (cause_is (Some f) _ _ _ _ r refl refl refl refl) refl
  early_is define.TableExists b r = tells _ _ (cause_is None true _ _ _ r.0 (taken_is h pending def r.0 ∙ r.1) refl refl refl) refl
  early_is (define.Duplicate i) b r = tells _ _ (cause_is None false (Some (column_at def.columns i)) _ _ r.0 (taken_is h pending def r.0 ∙ r.1) (repeat_is def i (no_columns def.columns i r.2.within) r.2) refl refl) refl
  early_is (define.NoSuchCollation i) b r = unknown_told (slice_get def.columns i) i refl r.3 r.0 r.1 r.2
  early_is (define.NoDefault i) b r = absurd (let z : ⊥ = cc in z)

  pub refused_is : is_some pending ≡ false → (e : DefineError) → IsRefusedFor has h.tables def e → IsWant (of_definition def e) ⊎ Tells (define_cause has st def) (of_definition def e)
  refused_is outside define.Memory r = early_is define.Memory refl r
  refused_is outside (define.Store f) r = early_is (define.Store f) refl r
  refused_is outside (define.Profile f) r = early_is (define.Profile f) refl r
  refused_is outside define.TableExists r = early_is define.TableExists refl r
  refused_is outside (define.Duplicate i) r = early_is (define.Duplicate i) refl r
  refused_is outside (define.NoSuchCollation i) r = early_is (define.NoSuchCollation i) refl r
  refused_is outside (define.NoDefault i) r =
      tells _ _ (lacking i r ∙ ap (λ (b : Bool). causes_by def b None false None None (Some i)) outside) (ap refusal.NoDefault (name_told (slice_get def.columns i)))

  -- inside a transaction
  module _ (inside : is_some pending ≡ true) where
    pub forbidden : IsAccepted has h.tables def → IsWant refusal.TransactionState ⊎ Tells (define_cause has st def) refusal.TransactionState
    forbidden a = tells _ _ (clear a ∙ ap (λ (b : Bool). causes_by def b None false None None None) inside) refl

    -- before a default that a column lacks
    pub forbidden_first : (e : DefineError) → is_early e ≡ false → IsRefusedFor has h.tables def e → IsWant refusal.TransactionState ⊎ Tells (define_cause has st def) refusal.TransactionState
    forbidden_first (define.NoDefault i) late r = tells _ _ (lacking i r ∙ ap (λ (b : Bool). causes_by def b None false None None (Some i)) inside) refl
    forbidden_first define.Memory late r = absurd (let z : ⊥ = cc in z)
    forbidden_first (define.Store f) late r = absurd (let z : ⊥ = cc in z)
    forbidden_first (define.Profile f) late r = absurd (let z : ⊥ = cc in z)
    forbidden_first define.TableExists late r = absurd (let z : ⊥ = cc in z)
    forbidden_first (define.Duplicate i) late r = absurd (let z : ⊥ = cc in z)
    forbidden_first (define.NoSuchCollation i) late r = absurd (let z : ⊥ = cc in z)

-- where no want is told there is none
unwanted : (told cause : Refusal) (b : Bool) → ((told ≡ refusal.Memory) ⊎ (told ≡ cause)) → is_want cause ≡ b → is_want told ≡ false → b ≡ false
unwanted told cause b (inl e) w n = absurd (let q : true ≡ false = sym (ap is_want e) ∙ n in cc)
unwanted told cause b (inr e) w n = sym w ∙ sym (ap is_want e) ∙ n

module _ {S E C : Type 0} (l : Language S E) (host : Host) (is_honest is_clean : C → Type 0) (holding : C → Holding) (old new : C) (pending : Option (List Change)) (def : TableDef) (has : List ℕ → Bool) (known : l.has_collation ≡ has) (honests : is_honest new → is_honest old) (cleans : is_clean new → is_clean old) where
  abbrev Replies : FleetReply → Type 0
  Replies reply = Does l host (honest is_honest) (clean is_clean) (standing holding) (old, pending) (Define (Declared def)) reply (new, pending)

  pub define_done : is_some pending ≡ false → (is_honest new → is_clean old → is_clean new) → (is_clean new → DefinesTable has (holding old) (holding new) def (Ok tt)) → Replies Done
  define_done outside lasts defines = record {
    was_honest = honests;
    was_clean = cleans;
    stays_clean = λ honest clean answered. lasts honest clean;
    answers = λ clean. ap (λ (f : List ℕ → Bool). define_cause f (state_of (holding old) pending) def) known ∙ accepted_is has (holding old) pending def outside (defines clean).0;
    leaves = λ clean m e. ap (λ (st : State). record st { holding = defined st.holding def }) e ∙ ap (λ (h : Holding). state_of h pending) (sym (defines clean).1);
  }

  -- nothing is changed where this is told
  pub define_told : (t : Refusal) → (is_honest new → is_clean old → is_want t ≡ false → is_clean new) → (is_clean new → holding new ≡ holding old)
      → (is_clean new → IsWant t ⊎ Tells (define_cause has (state_of (holding old) pending) def) t) → Replies (Refused t)
  define_told t lasts same told = record {
    was_honest = honests;
    was_clean = cleans;
    stays_clean = lasts;
    answers = λ clean. subst (λ (f : List ℕ → Bool). IsWant t ⊎ Tells (define_cause f (state_of (holding old) pending) def) t) (sym known) (told clean);
    leaves = λ clean m e. e ∙ ap (λ (h : Holding). state_of h pending) (sym (same clean));
  }

  -- the error is told, or that there is no memory to tell it
  abbrev IsTold : DefineError → Refusal → Type 0
  IsTold e t = (t ≡ refusal.Memory) ⊎ (t ≡ of_definition def e)

  by_error : (e : DefineError) (t : Refusal) → IsTold e t → IsWant (of_definition def e) ⊎ Tells (define_cause has (state_of (holding old) pending) def) (of_definition def e)
      → IsWant t ⊎ Tells (define_cause has (state_of (holding old) pending) def) t
  by_error e t (inl x) p = inl (inl x)
  by_error e t (inr x) p = subst (λ (r : Refusal). IsWant r ⊎ Tells (define_cause has (state_of (holding old) pending) def) r) (sym x) p

  pub define_refused : is_some pending ≡ false → (e : DefineError) (t : Refusal) → (is_honest new → is_clean old → definitions.is_want e ≡ false → is_clean new) → (is_clean new → DefinesTable has (holding old) (holding new) def (Err e))
      → IsTold e t → Replies (Refused t)
  define_refused outside e t lasts defines told =
      define_told t (λ honest clean answered. lasts honest clean (unwanted t (of_definition def e) (definitions.is_want e) told (want_of_definition def e) answered)) (λ clean. (defines clean).1)
      (λ clean. by_error e t told (refused_is has (holding old) pending def outside e (defines clean).0))

  -- inside a transaction it is refused over the tables that are read
  module _ (inside : is_some pending ≡ true) (lasts : is_honest new → is_clean old → is_clean new) (same : is_clean new → holding new ≡ holding old) (tables : List Table) (are : is_clean new → tables ≡ (holding old).tables) where
    pub define_forbidden : IsAccepted has tables def → Replies (Refused refusal.TransactionState)
    define_forbidden a = define_told refusal.TransactionState (λ honest clean told. lasts honest clean) same (λ clean.
        forbidden has (holding old) pending def inside (subst (λ (ts : List Table). IsAccepted has ts def) (are clean) a))

    pub define_forbidden_first : (e : DefineError) → is_early e ≡ false → IsRefusedFor has tables def e → Replies (Refused refusal.TransactionState)
    define_forbidden_first e late r = define_told refusal.TransactionState (λ honest clean told. lasts honest clean) same (λ clean.
        forbidden_first has (holding old) pending def inside e late (subst (λ (ts : List Table). IsRefusedFor has ts def e) (are clean) r))

    pub define_against : (e : DefineError) (t : Refusal) → is_early e ≡ true → IsRefusedFor has tables def e → IsTold e t → Replies (Refused t)
    define_against e t first r told = define_told t (λ honest clean answered. lasts honest clean) same (λ clean.
        by_error e t told (early_is has (holding old) pending def e first (subst (λ (ts : List Table). IsRefusedFor has ts def e) (are clean) r)))
