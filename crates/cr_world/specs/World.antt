-- The world of a fleet: where each replica stands, all that it ever held, which is in use, and the policy. Source: this
-- project's own.
use Rattle.std.specs.Prelude.{◌≡◌, ℕ, zero, suc, Bool, List, [], ◌∷◌, position, Option, Some, None, slice_get}
use Rattle.std.specs.List.{AllByRecursion}
use Rattle.cr_lattice.specs.declared.change.Change.{Change}
use Rattle.cr_lattice.specs.Check.{same_bytes}
use Rattle.cr_lattice.specs.Keep.{keep}
use Rattle.cr_cells.specs.Holding.{kept_of, empty_holding}
use Rattle.cr_guard.specs.Policy.{Rules}
use Rattle.cr_guard.specs.Guard.{asked, vetoed}
use Rattle.cr_world.specs.Language.{Asked}
use Rattle.cr_world.specs.State.{State, new_state}
use Rattle.cr_world.specs.Statement.{Host}

-- a replica: its name, where it stands, and all changes that it ever held, those of an open transaction not among them
pub record Member : Type 0 where
  pub name : List ℕ
  pub state : State
  pub held : List Change

-- the replicas in the order in which they were opened, the place of the one in use, and the policy
pub record World : Type 0 where
  pub members : List Member
  pub in_use : Option ℕ
  pub rules : Rules

-- it keeps what all that it ever held keeps, and has no modules
pub record Keeps (m : Member) : Type 0 where
  pub keeps : kept_of m.state.holding ≡ keep m.held
  pub no_modules : m.state.modules ≡ []

abbrev pub AllKeep : World → Type 0
AllKeep w = AllByRecursion Keeps w.members

-- what authorizer and commit hook say, without the policy; a fleet's never change
pub record Closures : Type 0 where
  pub allows : Asked
  pub refuses : List Change → Bool

abbrev pub host_of : Closures → World → Host
host_of k w = record { ask = asked w.rules k.allows; vetoes = vetoed w.rules k.refuses }

abbrev pub is_called : List ℕ → Member → Bool
is_called name m = same_bytes m.name name

abbrev pub item_at : {X : Type 0} → Option ℕ → List X → Option X
item_at None xs = None
item_at (Some i) xs = slice_get xs i

abbrev pub place_of : World → List ℕ → Option ℕ
place_of w name = position (is_called name) w.members

abbrev pub named : World → List ℕ → Option Member
named w name = item_at (place_of w name) w.members

abbrev pub used : World → Option Member
used w = item_at w.in_use w.members

abbrev pub changed_at : ℕ → (Member → Member) → List Member → List Member
changed_at i f [] = []
changed_at zero f (m ∷ ms) = f m ∷ ms
changed_at (suc i) f (m ∷ ms) = m ∷ changed_at i f ms

abbrev pub changed_in_use : Option ℕ → (Member → Member) → List Member → List Member
changed_in_use None f ms = ms
changed_in_use (Some i) f ms = changed_at i f ms

abbrev pub with_used : World → (Member → Member) → World
with_used w f = record w { members = changed_in_use w.in_use f w.members }

abbrev pub new_member : List ℕ → List ℕ → Member
new_member name site = record { name = name; state = new_state (empty_holding site); held = [] }
