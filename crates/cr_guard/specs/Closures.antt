-- When closures answer what a host's definitions say. Source: this project's own.
use Rattle.std.specs.Prelude.{◌≡◌, ℕ, List, Bool}
use Rattle.std.specs.Borrow.{Bor}
use Rattle.cr_lattice.specs.declared.change.Change.{Change}
use Rattle.cr_host.specs.declared.meaning.Action.{Action}
use Rattle.cr_host.specs.declared.meaning.Auth.{Auth}

-- an authorizer, whose calls pre and post describe, may be called, and each answer is what its definition says
pub record AllowsAs (pre : Action → Bor (List ℕ) → Bor (List ℕ) → Type 0) (post : Action → Bor (List ℕ) → Bor (List ℕ) → Auth → Type 0) (meaning : Action → List ℕ → List ℕ → Auth) : Type 0 where
  pub callable : (action : Action) (a b : Bor (List ℕ)) → pre action a b
  pub meets : (action : Action) (a b : Bor (List ℕ)) (r : Auth) → post action a b r → r ≡ meaning action a.now b.now

-- the same of a commit hook
pub record VetoesAs (pre : Bor (List Change) → Type 0) (post : Bor (List Change) → Bool → Type 0) (meaning : List Change → Bool) : Type 0 where
  pub callable : (changes : Bor (List Change)) → pre changes
  pub meets : (changes : Bor (List Change)) (r : Bool) → post changes r → r ≡ meaning changes.now
