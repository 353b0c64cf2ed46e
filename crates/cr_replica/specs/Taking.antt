-- What a taking leaves. The set of all changes that a replica ever held is no data: a replica stands for each
-- set whose kept changes are its own. Source: this project's own; a taking is a join.
use Rattle.std.specs.Prelude.{◌≡◌, Bool, true, false, List, Option, Some, None, Result, Ok, Err}
use Rattle.cr_lattice.specs.declared.change.Change.{Change}
use Rattle.cr_lattice.specs.Keep.{keep}
use Rattle.cr_cells.specs.declared.store.StoreFault.TheVariants as store
use Rattle.cr_cells.specs.declared.store.CellsError.{CellsError}
use Rattle.cr_cells.specs.declared.store.CellsError.TheVariants as cells
use Rattle.cr_cells.specs.Tables.{first_fault, AreWellFormed}
use Rattle.cr_cells.specs.Holding.{Holding, kept_of}
use Rattle.cr_cells.specs.Commit.{committed, newly_kept}
use Rattle.cr_cells.specs.Calls.{is_past_limit, IsRefusal}
use Rattle.cr_cells.specs.Marks.{Mark}
use Rattle.cr_replica.specs.declared.replica.Taking.{Taking}
use Rattle.cr_replica.specs.declared.replica.TakeError.{TakeError}
use Rattle.cr_replica.specs.declared.replica.TakeError.TheVariants.{Memory, Store, Bad, VersionLimit}

-- what is kept of all that was ever held
abbrev pub Stands : List Change → Holding → Type 0
Stands held h = kept_of h ≡ keep held

-- why changes are not taken: the first that is not well formed, or else the greatest version would be passed
abbrev pub IsNotTaken : Holding → List Change → TakeError → Type 0
IsNotTaken h more Memory = Unit {0}
IsNotTaken h more (Store f) = f ≡ store.Refused
IsNotTaken h more (Bad b) = first_fault h.tables more ≡ Some b
IsNotTaken h more VersionLimit = (first_fault h.tables more ≡ None) × (is_past_limit h more ≡ true)

-- nothing stands against the taking of these changes, and its commit would bring in the newly kept ones
pub record IsReady (h : Holding) (more news : List Change) : Type 0 where
  pub well_formed : AreWellFormed h.tables more
  pub none_bad : first_fault h.tables more ≡ None
  pub within : is_past_limit h more ≡ false
  pub comes_in : news ≡ newly_kept (kept_of h) more

-- the first step of a taking tells why changes are not taken, or what their commit would bring in, and changes nothing
abbrev pub Prepares : Holding → Holding → List Change → Result Taking TakeError → Type 0
Prepares old new more (Ok taking) = (new ≡ old) × (taking.changes.now ≡ more) × IsReady old more taking.newly_kept
Prepares old new more (Err e) = (new ≡ old) × IsNotTaken old more e

-- the second step commits all of them, with a mark, unless the store refuses
abbrev pub CommitsAll : Holding → Holding → List Change → Option Mark → Result (Unit {0}) CellsError → Type 0
CommitsAll old new more mark (Ok u) = new ≡ committed old more mark
CommitsAll old new more mark (Err e) = (new ≡ old) × IsRefusal e

-- memory or the store does not suffice
abbrev pub is_want : TakeError → Bool
is_want Memory = true
is_want (Store f) = true
is_want (Bad b) = false
is_want VersionLimit = false

-- how a store's refusal is passed on
abbrev pub of_store : CellsError → TakeError
of_store cells.Memory = Memory
of_store (cells.Store f) = Store f
of_store cells.VersionLimit = VersionLimit
