-- What is seen of some tables: what was read of them, with their changes of the open transaction.
use Rattle.std.proofs.Common.{◌≡◌, inl, inr, ℕ, true, false, List, Option, Some, None, Result, Ok, Err, sym, ap, subst, ◌∙◌}
use Rattle.std.specs.Prelude.{filter, MatchResult}
use Rattle.std.specs.List.{flat_map}
use Rattle.cr_lattice.specs.declared.change.Change.{Change}
use Rattle.cr_lattice.specs.Keep.{join, keep}
use Rattle.cr_cells.specs.declared.store.CellsError.{CellsError}
use Rattle.cr_cells.specs.Calls.{IsRefusal, Reads}
use Rattle.cr_cells.specs.Holding.{Holding, IsSound, changes_of, cells_of_table, is_of_table, kept_of}
use Rattle.cr_replica.specs.declared.snapshot.Snapshot.{Snapshot}
use Rattle.cr_replica.specs.Snapshots.{kept_of_tables}
use Rattle.cr_touched.specs.Tables.{of_tables}
use Rattle.cr_touched.proofs.Tables.{each_makes_them, tables_are_joined}
use Rattle.cr_touched.proofs.Twice.{map-filter}
use Rattle.cr_world.specs.State.{State, now}
use Rattle.cr_session.specs.Lookup.{IsSeenIn, Looks, SeesTables, ShowsTables, names_changes}
use Rattle.cr_session.specs.Sessions.{Sees, SessionOf, standing, state_of}
use Rattle.cr_session.proofs.Seeing.{kept_joined, now_inside, now_outside}

module _ (h : Holding) (sound : IsSound h) (tables : List (List ℕ)) where
  of_table : (table : List ℕ) → changes_of (cells_of_table h.cells table) ≡ filter (is_of_table table) (kept_of h)
  unfolding cells_of_table
  of_table table = map-filter (λ s. s.change) (is_of_table table) h.cells

  -- what is read of the tables are their changes of what is kept
  tables_read : kept_of_tables h tables ≡ of_tables tables (kept_of h)
  tables_read = (λ i. keep (flat_map (λ table. of_table table i) tables)) ∙ each_makes_them tables (kept_of h) ∙ ap (of_tables tables) sound.kept

  tables_outside : kept_of_tables h tables ≡ of_tables tables (now (state_of h None))
  tables_outside = tables_read ∙ ap (of_tables tables) (sym (now_outside h))

  tables_inside : (more : List Change) → join (kept_of_tables h tables) (of_tables tables more) ≡ of_tables tables (now (state_of h (Some more)))
  tables_inside more =
      ap (λ (k : List Change). join k (of_tables tables more)) tables_read
      ∙ tables_are_joined tables (kept_of h) more
      ∙ ap (of_tables tables) (sym (now_inside h more))

module _ {C T : Type 0} (changes : T → List Change) (holding : C → Holding) (self : SessionOf C) (before after : C) (pending : Option (List Change)) (is : (before, pending) ≡ self) (tables : List (List ℕ)) where
  abbrev Seen : Result T CellsError → Type 0
  Seen result = SeesTables changes (standing holding self) (standing holding (after, pending)) tables result

  abbrev Shown : Option (List Change) → T → Type 0
  Shown p kept = changes kept ≡ of_tables tables (now (state_of (holding before) p))

  seen_as : (result : Result T CellsError) → holding after ≡ holding before → MatchResult result (Shown pending) IsRefusal → Seen result
  seen_as result same sees =
      subst (λ (s : SessionOf C). SeesTables changes (standing holding s) (standing holding (after, pending)) tables result) is
      (record { same = ap (λ (x : Holding). state_of x pending) same; sees = sees })

  pub tables_seen_outside : (kept : T) → IsSound (holding before) → Reads (holding before) (holding after) (Ok kept) (λ v. changes v ≡ kept_of_tables (holding before) tables) → pending ≡ None → Seen (Ok kept)
  tables_seen_outside kept sound reads e =
      seen_as (Ok kept) reads.same (subst (λ (p : Option (List Change)). Shown p kept) (sym e) (reads.answers ∙ tables_outside (holding before) sound tables))

  pub tables_seen_inside : (read kept : T) (more : List Change) → IsSound (holding before) → Reads (holding before) (holding after) (Ok read) (λ v. changes v ≡ kept_of_tables (holding before) tables) → pending ≡ Some more
      → changes kept ≡ join (changes read) (of_tables tables more) → Seen (Ok kept)
  tables_seen_inside read kept more sound reads e j =
      seen_as (Ok kept) reads.same (subst (λ (p : Option (List Change)). Shown p kept) (sym e)
      (j ∙ ap (λ (k : List Change). join k (of_tables tables more)) reads.answers ∙ tables_inside (holding before) sound tables more))

  pub tables_unseen : (e : CellsError) → holding after ≡ holding before → IsRefusal e → Seen (Err e)
  tables_unseen e same refused = seen_as (Err e) same refused

-- ---- which is seen

pub all_shown : (tables : List (List ℕ)) (old new : State) (result : Result Snapshot CellsError) → names_changes tables ≡ true → Sees old new result → Looks (ShowsTables old tables) old new result
all_shown tables old new (Ok s) named l = record { same = l.same; looks = inl (named, l.sees) }
all_shown tables old new (Err e) named l = record { same = l.same; looks = l.sees }

pub tables_shown : (tables : List (List ℕ)) (old new : State) (result : Result Snapshot CellsError) → names_changes tables ≡ false → Looks (IsSeenIn old tables) old new result → Looks (ShowsTables old tables) old new result
tables_shown tables old new (Ok s) other l = record { same = l.same; looks = inr (other, l.looks) }
tables_shown tables old new (Err e) other l = record { same = l.same; looks = l.looks }

-- no change that shows is beaten by another
pub now_unbeaten : (h : Holding) (pending : Option (List Change)) → IsSound h → keep (now (state_of h pending)) ≡ now (state_of h pending)
now_unbeaten h None sound = ap keep (now_outside h) ∙ sound.kept ∙ sym (now_outside h)
now_unbeaten h (Some more) sound = kept_joined (kept_of h) more (now (state_of h (Some more))) (now_inside h more)
