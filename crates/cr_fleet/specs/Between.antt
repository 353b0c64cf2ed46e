-- What a command makes of the replicas that it looks at. It holds whatever becomes of the stores of the others, which stay as
-- they are. Source: this project's own.
use Rattle.std.specs.Prelude.{◌≡◌, ◌⊎◌, ◌≢◌, ℕ, Bool, true, false, not, List, [], ◌∷◌, ◌++◌, length, nat_le, slice_set, Option, Some, None, Result, if◌then◌else◌}
use Rattle.cr_cells.specs.Holding.{empty_holding}
use Rattle.cr_guard.specs.declared.event.Event.{Event}
use Rattle.cr_guard.specs.Policy.{Rules, wants_memory}
use Rattle.cr_script.specs.Speaking.{host_under}
use Rattle.cr_session.specs.Hearing.{HearsOwn}
use Rattle.cr_session.specs.Sessions.{Does, reply_of}
use Rattle.cr_tree.specs.declared.statement.Statement.{Statement}
use Rattle.cr_world.specs.declared.command.Command.{Command}
use Rattle.cr_world.specs.declared.command.Command.TheVariants.{Open, Use, Define, Take, Rows, Changes, Pull, PullSince, Policy, Sql}
use Rattle.cr_world.specs.declared.command.FleetReply.{FleetReply}
use Rattle.cr_world.specs.declared.command.FleetReply.TheVariants.{Done, Refused, Script, Rows as Shown, Changes as Told}
use Rattle.cr_world.specs.declared.refusal.Limit.TheVariants as limit
use Rattle.cr_world.specs.declared.refusal.Refusal.{Refusal}
use Rattle.cr_world.specs.declared.refusal.Refusal.TheVariants.{BadName, Limit, NoReplica, SameSite, TransactionState}
use Rattle.cr_world.specs.Answers as answers
use Rattle.cr_world.specs.Answers.{IsWantFor}
use Rattle.cr_world.specs.Causes.{IsWant}
use Rattle.cr_world.specs.Language.{Language}
use Rattle.cr_world.specs.State.{State, in_transaction, new_state}
use Rattle.cr_world.specs.World.{Closures, item_at}
use Rattle.cr_fleet.specs.Fleets.{FleetOf, is_free_name, place_in}
use Rattle.cr_fleet.specs.Pulls.{PullsAt, PullsFrom}

-- the fleet with another session in the place of the one in use
abbrev pub with_session : {C : Type 0} → FleetOf C → Option ℕ → List ℕ × C → FleetOf C
with_session f None r = f
with_session f (Some i) r = (slice_set f.0 i r, f.1)

-- what is told of a pull from the replica in use itself
abbrev pub of_itself : Bool → Refusal
of_itself true = TransactionState
of_itself false = SameSite

-- what stands against a new replica and no store is asked for: its name, then the number of replicas
abbrev pub early_refusal : {C : Type 0} → FleetOf C → List ℕ → Option Refusal
early_refusal f name =
    if not (is_free_name name f) then Some (BadName name)
    else if nat_le 64 (length f.0) then Some (Limit limit.Replicas)
    else None

-- that is told, or for a name that there is no memory for it; where there is none, that a replica has the site, or want
abbrev pub RefusesOpening : Option Refusal → Refusal → Type 0
RefusesOpening (Some cause) r = IsWantFor (Some cause) r ⊎ (r ≡ cause)
RefusesOpening None r = (r ≡ SameSite) ⊎ IsWant r

-- a new replica that holds nothing is the last one, and in use; else nothing is changed
abbrev pub Opens : {C : Type 0} → (C → Type 0) → (C → State) → FleetOf C → FleetOf C → List ℕ → List ℕ → FleetReply → Type 0
Opens {C} is_clean stands old new name site Done =
    (early_refusal old name ≡ None) × (s : C) × is_clean s × (stands s ≡ new_state (empty_holding site)) × (new ≡ (old.0 ++ (name, s) ∷ [], Some (length old.0)))
Opens is_clean stands old new name site (Refused r) = RefusesOpening (early_refusal old name) r × (new ≡ old)
Opens is_clean stands old new name site (Script x) = ⊥
Opens is_clean stands old new name site (Shown rows) = ⊥
Opens is_clean stands old new name site (Told cells) = ⊥

-- the replica at a place, if there is one, is then in use
abbrev pub Uses : {C : Type 0} → FleetOf C → FleetOf C → Option ℕ → FleetReply → Type 0
Uses old new None reply = (reply ≡ Refused NoReplica) × (new ≡ old)
Uses old new (Some i) reply = (reply ≡ Done) × (new ≡ (old.0, Some i))

module _ {C G : Type 0} (k : Closures) (hears : G → G → List Event → Type 0) (is_honest is_clean : C → Type 0) (stands : C → State) (g : G) (rules : Rules) (old : FleetOf C) (reply : FleetReply) (new : FleetOf C) (h : G) where
  -- it is refused so, nothing is changed, and nothing heard
  abbrev pub IsRefused : Refusal → Type 0
  IsRefused r = (reply ≡ Refused r) × (new ≡ old) × hears g h []

  -- the replica in use pulls from the one at a place, if there are both
  abbrev pub ByPull : Bool → Option (List ℕ × C) → Option ℕ → Type 0
  ByPull b None from = IsRefused NoReplica
  ByPull b (Some r) None = IsRefused NoReplica
  ByPull b (Some r) (Some from) =
      ((old.1 ≡ Some from) × IsRefused (of_itself (in_transaction (stands r.1))))
      ⊎ ((at : ℕ) × (result : Result (Unit {0}) Refusal) × (old.1 ≡ Some at) × (at ≢ from) × (reply ≡ reply_of result) × (new.1 ≡ old.1)
      × PullsAt (λ t p. PullsFrom (host_under k rules) b is_honest is_clean stands (hears g h) t p result) at from old.0 new.0)

  module _ {E : Type 0} (l : Language Statement E) where
    -- the replica in use, if there is one, carries out a command of its own
    abbrev pub ByUsed : Command → Option (List ℕ × C) → Type 0
    ByUsed c None = IsRefused NoReplica
    ByUsed c (Some r) = (s : C) × (new ≡ with_session old old.1 (r.0, s)) × Does l (host_under k rules) is_honest is_clean stands r.1 c reply s
        × (is_clean s → HearsOwn hears l (host_under k rules) g (stands r.1) c reply (stands s) h)

    abbrev pub Between : Command → Type 0
    Between (Open name site) = Opens is_clean stands old new name site reply × hears g h []
    Between (Use name) = Uses old new (place_in old name) reply × hears g h []
    Between (Policy rule) = answers.Rules (wants_memory rule) reply × (new ≡ old) × hears g h []
    Between (Pull name) = ByPull false (item_at old.1 old.0) (place_in old name)
    Between (PullSince name) = ByPull true (item_at old.1 old.0) (place_in old name)
    Between (Define declaration) = ByUsed (Define declaration) (item_at old.1 old.0)
    Between (Take row) = ByUsed (Take row) (item_at old.1 old.0)
    Between (Rows name) = ByUsed (Rows name) (item_at old.1 old.0)
    Between (Changes n) = ByUsed (Changes n) (item_at old.1 old.0)
    Between (Sql text) = ByUsed (Sql text) (item_at old.1 old.0)
