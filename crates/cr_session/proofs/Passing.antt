-- What is found in what shows of the tables.
use Rattle.std.proofs.Common.{◌≡◌, ℕ, Bool, true, List, [], Option, Some, None, Result, Ok, Err, append-nil, map, sym, ap, subst, ◌∙◌}
use Rattle.std.specs.Prelude.{MatchOption, MatchResult, option_map}
use Rattle.std.specs.Option.{ForSome, option_map_or}
use Rattle.cr_value.proofs.Fields.{some_is}
use Rattle.cr_value.specs.declared.value.Value.{Value}
use Rattle.cr_lattice.specs.declared.change.Change.{Change}
use Rattle.cr_lattice.specs.declared.table.Table.{Table}
use Rattle.cr_lattice.specs.Profile.{has_key, profile_fault}
use Rattle.cr_lattice.specs.Keep.{join, keep}
use Rattle.cr_cells.specs.declared.store.CellsError.{CellsError}
use Rattle.cr_cells.specs.Calls.{IsRefusal, Reads}
use Rattle.cr_cells.specs.Holding.{Holding, IsSound, kept_of}
use Rattle.cr_cells.specs.Tables.{AreWellFormed, is_named}
use Rattle.cr_delta.specs.Key.{key_of}
use Rattle.cr_term.specs.declared.expr.Expr.{Expr}
use Rattle.cr_scalar.specs.Host.{Host as Means}
use Rattle.cr_query.specs.Query.{Row}
use Rattle.cr_replica.specs.declared.snapshot.Snapshot.{Snapshot}
use Rattle.cr_replica.specs.Snapshots.{IsWhole, is_in_profile}
use Rattle.cr_sought.specs.Laws.{LeaveOutOthers}
use Rattle.cr_pushdown.specs.Passing.{passing}
use Rattle.cr_pushdown.proofs.Answers.{passing_leaves_out}
use Rattle.cr_world.specs.State.{State, now}
use Rattle.cr_session.specs.Joining.{Finds}
use Rattle.cr_session.specs.Lookup.{IsWithin}
use Rattle.cr_session.specs.Scans.{IsReplicated}
use Rattle.cr_session.specs.Sessions.{SessionOf, standing, state_of}
use Rattle.cr_session.proofs.Committing.{all_found, has_key_by, none_is}
use Rattle.cr_session.proofs.Seeing.{now_inside, now_outside}

-- what shows is what is kept with the changes of the open transaction, of which there are none outside of one
now_with : {T : Type 0} (h : Holding) → IsSound h → (o : Option (T × List Change)) → now (state_of h (option_map (λ p. p.1) o)) ≡ join (kept_of h) (option_map_or (λ p. p.1) o [])
now_with h sound None = now_outside h ∙ sym (ap keep (append-nil (kept_of h)) ∙ sound.kept)
now_with h sound (Some p) = now_inside h p.1

module _ {C P T : Type 0} (IsOf : List Change → T → Type 0) (holding : C → Holding) (self : SessionOf C) (before after : C) (pending : Option (P × List Change))
    (is : (before, option_map (λ p. p.1) pending) ≡ self) where
  pub found_there : (more : List Change) (result : Result T CellsError) → IsSound (holding before) → more ≡ option_map_or (λ p. p.1) pending []
      → Reads (holding before) (holding after) result (IsOf (join (kept_of (holding before)) more))
      → Finds (IsOf (now (standing holding self))) (standing holding self) (standing holding (after, option_map (λ p. p.1) pending)) result
  found_there more result sound with_more reads =
      subst (λ (s : SessionOf C). Finds (IsOf (now (standing holding s))) (standing holding s) (standing holding (after, option_map (λ p. p.1) pending)) result) is
      (record { same = ap (λ (x : Holding). state_of x (option_map (λ p. p.1) pending)) reads.same; finds = by result reads.answers })
    where
      there : join (kept_of (holding before)) more ≡ now (state_of (holding before) (option_map (λ p. p.1) pending))
      there = ap (λ (ms : List Change). join (kept_of (holding before)) ms) with_more ∙ sym (now_with (holding before) sound pending)

      by : (result : Result T CellsError) → MatchResult result (IsOf (join (kept_of (holding before)) more)) IsRefusal
          → MatchResult result (IsOf (now (state_of (holding before) (option_map (λ p. p.1) pending)))) IsRefusal
      by (Ok x) found = subst (λ (cs : List Change). IsOf cs x) there found
      by (Err f) refused = refused

-- what is found, if it is found
pub some_found : {X : Type 0} (Else : Type 0) (Is : X → Type 0) (old new : Holding) (result : Result (Option X) CellsError)
    → Reads old new result (λ o. MatchOption o Else Is) → Reads old new result (λ o. ForSome o Is)
some_found {X} Else Is old new (Ok o) reads = record { same = reads.same; answers = some_of o reads.answers } where
  some_of : (o : Option X) → MatchOption o Else Is → ForSome o Is
  some_of None e = λ x is. absurd (let q : ⊥ = cc in q)
  some_of (Some y) is = λ x same. subst Is (some_is y x same) is
some_found Else Is old new (Err e) reads = record { same = reads.same; answers = reads.answers }

-- a table of a snapshot that is found by any name has a key
pub key_there : (snap : Snapshot) (name : List ℕ) (t : Table) → IsWhole snap → IsReplicated snap.tables name t → has_key t.definition ≡ true
key_there snap name t whole is =
    has_key_by t.definition (none_is (profile_fault t.definition) (all_found (is_named name) is_in_profile t snap.tables whole.tables is.there))

-- the keys of the rows that pass leave out the others
pub passing_within : (means : Means) (params : List Value) (st : State) (name : List ℕ) (terms : List Expr) (t : Table) → IsReplicated st.holding.tables name t → ForSome st.pending (AreWellFormed st.holding.tables)
    → (found : List Row) (keys : List (List ℕ)) → found ≡ passing means params terms t.definition (now st) → keys ≡ map (key_of t.definition) found → IsWithin means params st name terms keys
passing_within means params st name terms t is fit found keys found_is keys_are = record {
  fit = fit;
  def = t.definition;
  there = is.there ∙ ap (λ (b : Bool). Some (record { definition = t.definition; is_replicated = b })) is.is;
  others =
      subst (λ (ks : List (List ℕ)). LeaveOutOthers means params t.definition (now st) terms ks) (sym (keys_are ∙ ap (map (key_of t.definition)) found_is))
      (passing_leaves_out means params t.definition (now st) terms);
}
