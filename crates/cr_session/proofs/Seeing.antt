-- What is seen of a session: what was read of its store, with the changes of the open transaction.
use Rattle.std.proofs.Common.{◌≡◌, ℕ, List, [], ◌∷◌, ◌++◌, map, Option, Some, None, Result, Ok, Err, refl, sym, ap, subst, ◌∙◌}
use Rattle.std.specs.Prelude.{filter, MatchResult}
use Rattle.std.specs.List.{flat_map}
use Rattle.std.specs.Option.{ForSome}
use Rattle.cr_lattice.specs.declared.change.Change.{Change}
use Rattle.cr_lattice.specs.Keep.{join, keep}
use Rattle.cr_lattice.specs.Rows.{is_of_row}
use Rattle.cr_lattice.proofs.KeepLaws.{keep_keep}
use Rattle.cr_cells.specs.declared.store.CellsError.{CellsError}
use Rattle.cr_cells.specs.Calls.{IsRefusal, Reads}
use Rattle.cr_cells.specs.Holding.{Holding, IsSound, changes_of, cells_of, kept_of}
use Rattle.cr_cells.specs.Tables.{AreWellFormed}
use Rattle.cr_replica.specs.declared.snapshot.Listing.{Listing}
use Rattle.cr_replica.specs.declared.snapshot.Snapshot.{Snapshot}
use Rattle.cr_replica.specs.Snapshots.{HasNamesOf, HasCellsOf, IsOfNames, kept_of_keys}
use Rattle.cr_snapshot.specs.Seen.{IsNamed, IsSeen, catalog_of, definition_of}
use Rattle.cr_taken.specs.Taken.{AreKept}
use Rattle.cr_taken.proofs.Tables.{joined_kept, sound_kept}
use Rattle.cr_touched.specs.Parts.{is_key_of, part}
use Rattle.cr_touched.proofs.Parts.{keys_make_their_part, parts_are_joined}
use Rattle.cr_touched.proofs.Twice.{map-filter}
use Rattle.cr_world.specs.State.{State, changes_definition, now}
use Rattle.cr_session.specs.Sessions.{Names, Sees, SeesKeys, SessionOf, standing, state_of}

pub now_outside : (h : Holding) → now (state_of h None) ≡ kept_of h
unfolding now
now_outside h = refl

pub now_inside : (h : Holding) (pending : List Change) → now (state_of h (Some pending)) ≡ join (kept_of h) pending
unfolding now
now_inside h pending = refl

-- ---- names

names_read : (h h' : Holding) (pending : Option (List Change)) (result : Result Snapshot CellsError) → Reads h h' result (HasNamesOf h) → Names (state_of h pending) (state_of h' pending) result
names_read h h' pending (Ok names) r = record {
  same = ap (λ (x : Holding). state_of x pending) r.same;
  names = record { modules = ap (map definition_of) r.answers.no_modules; tables = r.answers.tables; site = r.answers.site; version = r.answers.version };
}
names_read h h' pending (Err e) r = record { same = ap (λ (x : Holding). state_of x pending) r.same; names = r.answers }

pub names_standing : {C : Type 0} (holding : C → Holding) (self : SessionOf C) (before after : C) (pending : Option (List Change)) (is : (before, pending) ≡ self) (result : Result Snapshot CellsError)
    → Reads (holding before) (holding after) result (HasNamesOf (holding before)) → Names (standing holding self) (standing holding (after, pending)) result
names_standing {C} holding self before after pending is result r =
    subst (λ (s : SessionOf C). Names (standing holding s) (standing holding (after, pending)) result) is (names_read (holding before) (holding after) pending result r)

-- snapshots of the same names have the same catalog
pub catalog_of_names : (names snap : Snapshot) → IsOfNames names snap → catalog_of snap ≡ catalog_of names
catalog_of_names names snap is = λ i. record { tables = is.tables i; modules = changes_definition ∷ map definition_of (is.modules i); site = is.site i; db_version = is.version i }

-- ---- what is seen

-- where no definition is listed, no module is
pub unlisted : (ls : List Listing) → map definition_of ls ≡ [] → ls ≡ []
unlisted [] e = refl
unlisted (l ∷ ls) e = absurd (let z : ⊥ = cc in z)

module _ (h h' : Holding) (names snap : Snapshot) (of : IsOfNames names snap) (r : Reads h h' (Ok snap) (HasCellsOf h)) where
  outside : IsNamed (state_of h None) names → Sees (state_of h None) (state_of h' None) (Ok snap)
  outside named = record {
    same = ap (λ (x : Holding). state_of x None) r.same;
    sees = record {
      modules = of.modules ∙ unlisted names.modules named.modules;
      tables = of.tables ∙ named.tables;
      site = of.site ∙ named.site;
      version = of.version ∙ named.version;
      cells = r.answers.cells;
      kept = r.answers.kept ∙ sym (now_outside h);
    };
  }

  inside : (pending kept : List Change) → IsNamed (state_of h (Some pending)) names → kept ≡ join snap.kept pending
      → Sees (state_of h (Some pending)) (state_of h' (Some pending)) (Ok (record snap { kept = kept }))
  inside pending kept named e = record {
    same = ap (λ (x : Holding). state_of x (Some pending)) r.same;
    sees = record {
      modules = of.modules ∙ unlisted names.modules named.modules;
      tables = of.tables ∙ named.tables;
      site = of.site ∙ named.site;
      version = of.version ∙ named.version;
      cells = r.answers.cells;
      kept = e ∙ ap (λ (k : List Change). join k pending) r.answers.kept ∙ sym (now_inside h pending);
    };
  }

-- no change that two sets keep together is beaten by another
pub kept_joined : (xs ys kept : List Change) → kept ≡ join xs ys → keep kept ≡ kept
kept_joined xs ys kept e = ap keep e ∙ keep_keep (xs ++ ys) ∙ sym e

module _ {C : Type 0} (holding : C → Holding) (self : SessionOf C) (before after : C) (pending : Option (List Change)) (is : (before, pending) ≡ self) (names snap : Snapshot) (named : IsNamed (standing holding self) names)
    (of : IsOfNames names snap) (reads : Reads (holding before) (holding after) (Ok snap) (HasCellsOf (holding before))) where
  named_before : IsNamed (state_of (holding before) pending) names
  named_before = subst (λ (s : SessionOf C). IsNamed (standing holding s) names) (sym is) named

  pub sees_outside : pending ≡ None → Sees (standing holding self) (standing holding (after, pending)) (Ok snap)
  sees_outside e =
      subst (λ (s : SessionOf C). Sees (standing holding s) (standing holding (after, pending)) (Ok snap)) is
      (subst (λ (p : Option (List Change)). Sees (standing holding (before, p)) (standing holding (after, p)) (Ok snap)) (sym e)
      (outside (holding before) (holding after) names snap of reads (subst (λ (p : Option (List Change)). IsNamed (state_of (holding before) p) names) e named_before)))

  pub sees_inside : (more kept : List Change) → pending ≡ Some more → kept ≡ join snap.kept more → Sees (standing holding self) (standing holding (after, pending)) (Ok (record snap { kept = kept }))
  sees_inside more kept e j =
      subst (λ (s : SessionOf C). Sees (standing holding s) (standing holding (after, pending)) (Ok (record snap { kept = kept }))) is
      (subst (λ (p : Option (List Change)). Sees (standing holding (before, p)) (standing holding (after, p)) (Ok (record snap { kept = kept }))) (sym e)
      (inside (holding before) (holding after) names snap of reads more kept (subst (λ (p : Option (List Change)). IsNamed (state_of (holding before) p) names) e named_before) j))

-- what was seen is seen where the session stands then
pub seen_then : (st st' : State) (snap : Snapshot) → Sees st st' (Ok snap) → IsSeen st' snap
seen_then st st' snap s = subst (λ (x : State). IsSeen x snap) (sym s.same) s.sees

-- ---- what is seen of some keys of a table

module _ (h : Holding) (sound : IsSound h) (table : List ℕ) (keys : List (List ℕ)) where
  of_key : (pk : List ℕ) → changes_of (cells_of h.cells table pk) ≡ filter (is_of_row table pk) (kept_of h)
  unfolding cells_of
  of_key pk = map-filter (λ s. s.change) (is_of_row table pk) h.cells

  -- what is read of the keys is their part of what is kept
  part_read : kept_of_keys h table keys ≡ part table (is_key_of keys) (kept_of h)
  part_read = (λ i. keep (flat_map (λ pk. of_key pk i) keys)) ∙ keys_make_their_part table keys (kept_of h) ∙ ap (part table (is_key_of keys)) sound.kept

  keys_outside : kept_of_keys h table keys ≡ part table (is_key_of keys) (now (state_of h None))
  keys_outside = part_read ∙ ap (part table (is_key_of keys)) (sym (now_outside h))

  keys_inside : (more : List Change) → join (kept_of_keys h table keys) (part table (is_key_of keys) more) ≡ part table (is_key_of keys) (now (state_of h (Some more)))
  keys_inside more =
      ap (λ (k : List Change). join k (part table (is_key_of keys) more)) part_read
      ∙ parts_are_joined table (is_key_of keys) (kept_of h) more
      ∙ ap (part table (is_key_of keys)) (sym (now_inside h more))

module _ {C T : Type 0} (changes : T → List Change) (holding : C → Holding) (self : SessionOf C) (before after : C) (pending : Option (List Change)) (is : (before, pending) ≡ self) (table : List ℕ) (keys : List (List ℕ)) where
  abbrev Seen : Result T CellsError → Type 0
  Seen result = SeesKeys changes (standing holding self) (standing holding (after, pending)) table keys result

  abbrev Shown : Option (List Change) → T → Type 0
  Shown p kept = changes kept ≡ part table (is_key_of keys) (now (state_of (holding before) p))

  seen_as : (result : Result T CellsError) → holding after ≡ holding before → MatchResult result (Shown pending) IsRefusal → Seen result
  seen_as result same sees =
      subst (λ (s : SessionOf C). SeesKeys changes (standing holding s) (standing holding (after, pending)) table keys result) is
      (record { same = ap (λ (x : Holding). state_of x pending) same; sees = sees })

  pub keys_seen_outside : (kept : T) → IsSound (holding before) → Reads (holding before) (holding after) (Ok kept) (λ v. changes v ≡ kept_of_keys (holding before) table keys) → pending ≡ None → Seen (Ok kept)
  keys_seen_outside kept sound reads e =
      seen_as (Ok kept) reads.same (subst (λ (p : Option (List Change)). Shown p kept) (sym e) (reads.answers ∙ keys_outside (holding before) sound table keys))

  pub keys_seen_inside : (read kept : T) (more : List Change) → IsSound (holding before) → Reads (holding before) (holding after) (Ok read) (λ v. changes v ≡ kept_of_keys (holding before) table keys) → pending ≡ Some more
      → changes kept ≡ join (changes read) (part table (is_key_of keys) more) → Seen (Ok kept)
  keys_seen_inside read kept more sound reads e j =
      seen_as (Ok kept) reads.same (subst (λ (p : Option (List Change)). Shown p kept) (sym e)
      (j ∙ ap (λ (k : List Change). join k (part table (is_key_of keys) more)) reads.answers ∙ keys_inside (holding before) sound table keys more))

  pub keys_unseen : (e : CellsError) → holding after ≡ holding before → IsRefusal e → Seen (Err e)
  keys_unseen e same refused = seen_as (Err e) same refused

-- ---- what is seen is kept as a store keeps it

pub now_kept : (h : Holding) (pending : Option (List Change)) → IsSound h → ForSome pending (AreWellFormed h.tables) → AreKept h.tables (now (state_of h pending))
now_kept h None sound fit = subst (AreKept h.tables) (sym (now_outside h)) (sound_kept h sound)
now_kept h (Some more) sound fit = subst (AreKept h.tables) (sym (now_inside h more)) (joined_kept h.tables (kept_of h) more (sound_kept h sound) (fit more refl))
