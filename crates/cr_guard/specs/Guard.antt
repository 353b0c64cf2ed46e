-- What a guard holds, and what it answers. Source: this project's own; what an authorizer and a commit hook answer is by
-- "Compile-Time Authorization Callbacks" and "Commit And Rollback Notification Callbacks" of SQLite's C interface.
use Rattle.std.specs.Prelude.{ℕ, Bool, false, ◌||◌, List, [], ◌∷◌, length, Option, Some, None}
use Rattle.std.specs.Option.{option_map}
use Rattle.std.specs.declared.alloc.Global.{Global}
use Rattle.std.specs.declared.dyn_box.DynBox.{DynBox}
use Rattle.cr_lattice.specs.declared.change.Change.{Change}
use Rattle.cr_host.specs.declared.meaning.Action.{Action}
use Rattle.cr_host.specs.declared.meaning.Auth.{Auth}
use Rattle.cr_host.specs.declared.meaning.Auth.TheVariants.{Ok}
use Rattle.cr_guard.specs.declared.guard.Guard.{Guard}
use Rattle.cr_guard.specs.Answers.{stricter}
use Rattle.cr_guard.specs.Policy.{Rules, rule_answer, passes}

-- an action is answered by the stricter of rule and authorizer
abbrev pub asked : Rules → (Action → List ℕ → List ℕ → Auth) → Action → List ℕ → List ℕ → Auth
asked p allows action a b = stricter (rule_answer p action a b) (allows action a b)

-- a commit that has changes is refused where they are too many, or the commit hook refuses them
abbrev pub vetoed : Rules → (List Change → Bool) → List Change → Bool
vetoed p refuses [] = false
vetoed p refuses (c ∷ cs) = passes p.most_changes (length (c ∷ cs)) || refuses (c ∷ cs)

-- where there is no authorizer, all is OK
abbrev pub allowed_by : (ℕ → Action → List ℕ → List ℕ → Auth) → Option ℕ → Action → List ℕ → List ℕ → Auth
allowed_by allows None action a b = Ok
allowed_by allows (Some n) action a b = allows n action a b

-- where there is no commit hook, nothing is refused
abbrev pub refused_by : (ℕ → List Change → Bool) → Option ℕ → List Change → Bool
refused_by vetoes None changes = false
refused_by vetoes (Some n) changes = vetoes n changes

module _ {H V W X : Type 0} {F : V → Type 0} {G : W → Type 0} {E : X → Type 0} where
  -- the policy
  abbrev pub rules : Guard H V W X F G E → Rules
  rules g = g.policy

  -- the numbers of the definitions of authorizer and commit hook
  abbrev pub authorizer : Guard H V W X F G E → Option ℕ
  authorizer g = option_map (λ a. a.number) g.authorizer

  abbrev pub commit_hook : Guard H V W X F G E → Option ℕ
  commit_hook g = option_map (λ h. h.number) g.commit_hook

  -- the listener
  abbrev pub listener : Guard H V W X F G E → Option (DynBox X Global E)
  listener g = g.listener
