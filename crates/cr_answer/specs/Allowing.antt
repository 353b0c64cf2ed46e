-- Whether a statement may be carried out on a replica as it stood at a moment. Source: this project's own order of refusals.
use Rattle.std.specs.Prelude.{◌≡◌, ◌⊎◌, ℕ, Bool, true, false, Option, Result, Ok, Err}
use Rattle.std.specs.Option.{is_some}
use Rattle.cr_tree.specs.declared.statement.Statement.{Statement}
use Rattle.cr_host.specs.declared.function.Definition.{Definition}
use Rattle.cr_term.specs.declared.query.Resolved.{Resolved}
use Rattle.cr_questions.specs.Questions.{Answers, Name}
use Rattle.cr_resolve.specs.declared.refusal.Refusal.{Refusal as Unresolved}
use Rattle.cr_resolve.specs.Known.{Known}
use Rattle.cr_resolve.specs.Parameters.{fits}
use Rattle.cr_resolve.specs.Resolve.{resolved}
use Rattle.cr_replica.specs.declared.snapshot.Snapshot.{Snapshot}
use Rattle.cr_snapshot.specs.Seen.{catalog_of}
use Rattle.cr_world.specs.declared.refusal.Refusal.{Refusal}
use Rattle.cr_world.specs.declared.refusal.Refusal.TheVariants as refusal
use Rattle.cr_language.specs.Engines.{OrderOf}
use Rattle.cr_language.specs.Sql.{of_unresolved}

-- what a statement may name there, with a host's functions and collations
abbrev pub known_by : (Name → ℕ → Option Definition) → (Name → Bool) → OrderOf → Snapshot → Known
known_by function_of has order_of snapshot = record { catalog = catalog_of snapshot; function_of = function_of; has_function = has; has_collation = λ name. is_some (order_of name) }

module _ (known : Known) (answers : Answers) (x : Statement) (count : ℕ) where
  -- something stands against its names or it is denied; or its parameters are not so many, or not from 1 to 999
  abbrev pub IsRefused : Refusal → Type 0
  IsRefused r =
      ((u : Unresolved) × ((resolved known answers x ≡ Err u) × (r ≡ of_unresolved u)))
      ⊎ ((y : Resolved) × ((resolved known answers x ≡ Ok y) × ((fits x count ≡ false) × (r ≡ refusal.Parameters))))

  -- the statement once its names are resolved, or why it may not be carried out
  abbrev pub Allows : Result Resolved Refusal → Type 0
  Allows (Ok y) = (resolved known answers x ≡ Ok y) × (fits x count ≡ true)
  Allows (Err r) = (r ≡ refusal.Memory) ⊎ IsRefused r
