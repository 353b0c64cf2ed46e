-- A pull of one replica of a fleet from another. Source: this project's own.
use Rattle.std.specs.Prelude.{◌≡◌, ℕ, pos, Bool, true, false, List, slice_get, slice_set, Option, Some, None, Result, Err}
use Rattle.cr_lattice.specs.declared.change.Change.{Change}
use Rattle.cr_cells.specs.Holding.{Holding}
use Rattle.cr_cells.specs.Marks.{Mark}
use Rattle.cr_guard.specs.declared.event.Event.{Event}
use Rattle.cr_script.specs.Hearing.{Hears}
use Rattle.cr_session.specs.Sessions.{IsToldAtOnce, PullsUnless}
use Rattle.cr_world.specs.declared.command.Command.{Command}
use Rattle.cr_world.specs.declared.command.Command.TheVariants.{Pull, PullSince}
use Rattle.cr_world.specs.declared.refusal.Refusal.{Refusal}
use Rattle.cr_world.specs.declared.refusal.Refusal.TheVariants.{TransactionState}
use Rattle.cr_world.specs.Causes.{Cause}
use Rattle.cr_world.specs.State.{State, heard_between, in_transaction}
use Rattle.cr_world.specs.Statement.{Host}
use Rattle.cr_world.specs.Takings.{at_once, changes_above, pull_cause, pull_since_cause, seen_at}

-- an incremental pull, or one of all that the peer of that name keeps
abbrev pub pull_of : Bool → List ℕ → Command
pull_of true name = PullSince name
pull_of false name = Pull name

abbrev pub cause_of : Host → Bool → State → Holding → Cause
cause_of host true = pull_since_cause host
cause_of host false = pull_cause host

abbrev pub offered : Bool → State → Holding → List Change
offered true = λ st peer. changes_above peer (seen_at st peer)
offered false = λ st peer. changes_above peer (pos 0)

abbrev pub mark_of : Bool → Holding → Option Mark
mark_of true = λ peer. Some (peer.site, peer.version)
mark_of false = λ peer. None

-- One replica pulls from another: what it takes, what is told before a store is asked for anything, and what is heard. Whatever becomes
-- of the stores, inside a transaction it pulls nothing, and the open transactions stay as they are.
pub record PullsFrom {C : Type 0} (host : Host) (is_incremental : Bool) (is_honest is_clean : C → Type 0) (stands : C → State) (hears : List Event → Type 0)
    (taker peer : C) (result : Result (Unit {0}) Refusal) (taker_new peer_new : C) : Type 0 where
  pub pulls : PullsUnless host is_incremental is_honest is_clean stands is_honest is_clean stands (cause_of host is_incremental) (offered is_incremental) (mark_of is_incremental) taker peer result taker_new peer_new
  pub told : is_clean taker → is_clean peer → IsToldAtOnce (at_once (stands taker) (Some ((stands peer).holding.site, pos 0))) taker result taker_new
  pub heard : is_clean taker_new → Hears hears (heard_between (stands taker) (stands taker_new)) result
  pub inside : in_transaction (stands taker) ≡ true → (result ≡ Err TransactionState) × (taker_new ≡ taker) × (peer_new ≡ peer)
  pub pending : (stands taker_new).pending ≡ (stands taker).pending
  pub peer_pending : (stands peer_new).pending ≡ (stands peer).pending

-- Of named replicas the one at a place pulls so from the one at another; the others stay as they are.
pub record PullsAt {C : Type 0} (pulls : C → C → C → C → Type 0) (at from : ℕ) (old new : List (List ℕ × C)) : Type 0 where
  pub taker : List ℕ × C
  pub peer : List ℕ × C
  pub taker_new : C
  pub peer_new : C
  pub taker_at : slice_get old at ≡ Some taker
  pub peer_at : slice_get old from ≡ Some peer
  pub left : new ≡ slice_set (slice_set old from (peer.0, peer_new)) at (taker.0, taker_new)
  pub pulled : pulls taker.1 peer.1 taker_new peer_new
