-- What the calls of a store answer and leave. Source: this project's own.
use Rattle.std.specs.Prelude.{◌≡◌, ℤ, Bool, true, false, ◌&&◌, List, Option, Result, Ok, Err, MatchResult}
use Rattle.std.specs.Ordering.{int_eq}
use Rattle.cr_lattice.specs.declared.change.Change.{Change}
use Rattle.cr_cells.specs.declared.store.CellsError.{CellsError}
use Rattle.cr_cells.specs.declared.store.CellsError.TheVariants as error
use Rattle.cr_cells.specs.declared.store.StoreFault.TheVariants as fault
use Rattle.cr_cells.specs.Marks.{Mark}
use Rattle.cr_cells.specs.Holding.{Holding, kept_of}
use Rattle.cr_cells.specs.Commit.{newly_kept, is_changed, greatest_version, committed}

-- want of memory, or the store refuses the call
abbrev pub IsRefusal : CellsError → Type 0
IsRefusal error.Memory = Unit {0}
IsRefusal (error.Store f) = f ≡ fault.Refused
IsRefusal error.VersionLimit = ⊥

-- so may a commit be refused, and for want of versions
abbrev pub IsCommitRefusal : CellsError → Type 0
IsCommitRefusal error.Memory = Unit {0}
IsCommitRefusal (error.Store f) = f ≡ fault.Refused
IsCommitRefusal error.VersionLimit = Unit {0}

-- memory does not suffice, or the store refuses the call for a cause of its own
abbrev pub is_want : CellsError → Bool
is_want error.Memory = true
is_want (error.Store f) = true
is_want error.VersionLimit = false

-- P, unless a call was refused for want
abbrev pub UnlessWant : {T E : Type 0} → (E → Bool) → Result T E → Type 0 → Type 0
UnlessWant is_want (Ok answer) P = P
UnlessWant is_want (Err e) P = is_want e ≡ false → P

-- What every call leaves of a store's device, whatever it does: where the device gave back what was written up to the end of a call,
-- it had up to its beginning, and where it is still there after a call, it was before. And a store that was clean stays so where its
-- device is honest, unless the call was refused for want.
pub record StaysClean {S T E : Type 0} (is_honest is_clean : S → Type 0) (is_want : E → Bool) (old new : S) (result : Result T E) : Type 0 where
  pub was_honest : is_honest new → is_honest old
  pub was_clean : is_clean new → is_clean old
  pub stays_clean : is_honest new → is_clean old → UnlessWant is_want result (is_clean new)

-- a reading leaves what the store holds, and its answer meets P, or it is refused
pub record Reads {T : Type 0} (old new : Holding) (answer : Result T CellsError) (P : T → Type 0) : Type 0 where
  pub same : new ≡ old
  pub answers : MatchResult answer P IsRefusal

-- a change of the tables leaves what is wanted, or it is refused and changes nothing
abbrev pub Defines : Holding → Holding → Result (Unit {0}) CellsError → Holding → Type 0
Defines old new (Ok u) wanted = new ≡ wanted
Defines old new (Err e) wanted = (new ≡ old) × IsRefusal e

-- the commit would need a version above the greatest
abbrev pub is_past_limit : Holding → List Change → Bool
is_past_limit h more = is_changed (kept_of h) more && int_eq h.version greatest_version

-- a commit is refused for want of versions where it would need one above the greatest, and this takes no memory
abbrev pub StaysWithinLimit : Bool → ℤ → Result (Unit {0}) CellsError → Type 0
StaysWithinLimit is_changed version (Ok u) = (is_changed && int_eq version greatest_version) ≡ false
StaysWithinLimit is_changed version (Err error.Memory) = ⊥
StaysWithinLimit is_changed version (Err (error.Store f)) = ⊥
StaysWithinLimit is_changed version (Err error.VersionLimit) = (is_changed && int_eq version greatest_version) ≡ true

-- why a commit of these changes is refused
abbrev pub IsNotCommitted : Holding → List Change → CellsError → Type 0
IsNotCommitted h more error.Memory = Unit {0}
IsNotCommitted h more (error.Store f) = f ≡ fault.Refused
IsNotCommitted h more error.VersionLimit = is_past_limit h more ≡ true

-- Before a commit: the changes that it would bring in, in the order of their places, or why it would be refused. Nothing
-- is changed.
pub record Foresees {T : Type 0} (old new : Holding) (more : List Change) (answer : Result T CellsError) (changes_in : T → List Change) : Type 0 where
  pub same : new ≡ old
  pub answers : MatchResult answer (λ news. (changes_in news ≡ newly_kept (kept_of old) more) × (is_past_limit old more ≡ false)) (IsNotCommitted old more)

-- A commit leaves what is committed, and tells whether the kept changes are others than before. Past the greatest
-- version, and only there, it is refused for that; refused it changes nothing.
abbrev pub Commits : Holding → Holding → List Change → Option Mark → Result Bool CellsError → Type 0
Commits old new more peer (Ok changed) =
    (new ≡ committed old more peer) × (changed ≡ is_changed (kept_of old) more) × (is_past_limit old more ≡ false)
Commits old new more peer (Err error.Memory) = new ≡ old
Commits old new more peer (Err (error.Store f)) = (new ≡ old) × (f ≡ fault.Refused)
Commits old new more peer (Err error.VersionLimit) = (new ≡ old) × (is_past_limit old more ≡ true)
