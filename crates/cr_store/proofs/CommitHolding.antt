-- What a store holds once a commit is written.
use Rattle.std.proofs.Common.{◌≡◌, ◌≤ℤ◌, pos, ℤ, List, Option, refl, sym, ap, ◌∙◌, subst}
use Rattle.std.specs.Option.{ForSome}
use Rattle.std.specs.List.Sorted.{IsStrictlySortedBy}
use Rattle.sqlite.specs.Effect.{Database}
use Rattle.cr_lattice.specs.declared.change.Change.{Change}
use Rattle.cr_cells.specs.declared.store.CellsError.{CellsError}
use Rattle.cr_cells.specs.declared.store.CellsError.TheVariants as error
use Rattle.cr_cells.specs.Calls.{IsRefusal}
use Rattle.cr_cells.specs.Commit.{committed}
use Rattle.cr_cells.specs.Holding.{Holding, cell_cmp, IsSound}
use Rattle.cr_cells.specs.Marks.{Mark}
use Rattle.cr_cells.specs.Tables.{AreWellFormed}
use Rattle.cr_cells.proofs.CellLemmas.{strict_cells}
use Rattle.cr_cells.proofs.CommitLemmas.{sorted_kept}
use Rattle.cr_cells.proofs.SoundLemmas.{sound_committed}
use Rattle.cr_store.specs.declared.format.Format.TheVariants.{Second}
use Rattle.cr_store.specs.declared.known.Known.{Known}
use Rattle.cr_store.specs.declared.outcome.Outcome.{Outcome}
use Rattle.cr_store.specs.Committing.{HasCommitted, IsUndecided}
use Rattle.cr_store.specs.Kept.{holding_of}
use Rattle.cr_store.specs.Shows.{Shows, cells_in}
use Rattle.cr_store.proofs.OrdinalLemmas.{named_cells}
use Rattle.cr_store.proofs.StoreHolding.{cells_back}

pub sorted_cells : (h : Holding) → IsSound h → IsStrictlySortedBy cell_cmp h.cells
sorted_cells h sound = strict_cells h.cells (sorted_kept h.cells sound.kept)

-- a database that shows a sound holding, beside what is known of it, is that holding
pub holding_is : (db : Database) (h : Holding) (k : Known) → Shows db h → IsSound h → k.tables.items ≡ h.tables → k.site ≡ h.site → k.version ≡ h.version → k.marks.items ≡ h.marks → holding_of db k ≡ h
holding_is db h k shows sound tables site version marks =
    let cells : cells_in Second k.tables.items (db.trees 8) ≡ h.cells = ap (λ ts. cells_in Second ts (db.trees 8)) tables
    ∙ cells_back Second h.tables (db.trees 8) h.cells shows.cells_are (named_cells h sound) (sorted_cells h sound) in
    λ i. record { tables = tables i; site = site i; version = version i; cells = cells i; marks = marks i }

-- what is known after a commit
abbrev pub known_with : Known → ℤ → Outcome → Known
known_with k version o = record { site = k.site; version = version; tables = k.tables; marks = o.marks }

-- what a commit that is written leaves of a store
pub record IsTaken (old new : Database) (k : Known) (more : List Change) (peer : Option Mark) (o : Outcome) (version : ℤ) : Type 0 where
  pub done : HasCommitted new (holding_of old k) more peer o
  pub is : holding_of new (known_with k version o) ≡ committed (holding_of old k) more peer
  pub shows : Shows new (holding_of new (known_with k version o))
  pub sound : IsSound (holding_of new (known_with k version o))

pub taken : (old new : Database) (k : Known) (more : List Change) (peer : Option Mark) (o : Outcome) (version : ℤ) → version ≡ o.version
    → IsSound (holding_of old k) → AreWellFormed k.tables.items more → ForSome peer (λ m. pos 0 ≤ℤ m.1) → HasCommitted new (holding_of old k) more peer o → IsTaken old new k more peer o version
taken old new k more peer o version same sound well from_0 done =
    let sound_then = sound_committed (holding_of old k) more peer sound well from_0 in
    let is = holding_is new (committed (holding_of old k) more peer) (known_with k version o) done.shows sound_then refl refl (same ∙ done.version) done.marks in
    record {
      done = done;
      is = is;
      shows = subst (Shows new) (sym is) done.shows;
      sound = subst IsSound (sym is) sound_then;
    }

pub refusal_is : (e : CellsError) (h : Holding) (more : List Change) → IsRefusal e → IsUndecided h more e
refusal_is error.Memory h more r = tt
refusal_is (error.Store f) h more r = r
refusal_is error.VersionLimit h more r = absurd r
