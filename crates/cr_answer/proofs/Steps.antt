-- What is known of a statement.
use Rattle.std.proofs.Common.{◌≡◌, subst, ℕ, Bool, List, Option, Result}
use Rattle.std.specs.Option.{is_some}
use Rattle.cr_lattice.specs.declared.catalog.Catalog.{Catalog}
use Rattle.cr_tree.specs.declared.statement.Statement.{Statement}
use Rattle.cr_host.specs.declared.function.Definition.{Definition}
use Rattle.cr_term.specs.declared.query.Resolved.{Resolved}
use Rattle.cr_questions.specs.Questions.{Answers, Name}
use Rattle.cr_resolve.specs.declared.refusal.Refusal.{Refusal as Unresolved}
use Rattle.cr_resolve.specs.Known.{Known}
use Rattle.cr_resolve.specs.Resolve.{Resolves, resolved}
use Rattle.cr_replica.specs.declared.snapshot.Snapshot.{Snapshot}
use Rattle.cr_snapshot.specs.Seen.{catalog_of}
use Rattle.cr_language.specs.Engines.{OrderOf}
use Rattle.cr_answer.specs.Allowing.{known_by}

-- resolution was asked by a catalog that is the replica's
pub by_catalog : (function_of : Name → ℕ → Option Definition) (has : Name → Bool) (order_of : OrderOf) (answers : Answers) (snap : Snapshot) (x : Statement) (c : Catalog) (result : Result Resolved Unresolved)
    → c ≡ catalog_of snap
    → Resolves result (resolved (record { catalog = c; function_of = function_of; has_function = has; has_collation = λ name. is_some (order_of name) }) answers x)
    → Resolves result (resolved (known_by function_of has order_of snap) answers x)
by_catalog function_of has order_of answers snap x c result e h =
    subst (λ (d : Catalog). Resolves result (resolved (record { catalog = d; function_of = function_of; has_function = has; has_collation = λ name. is_some (order_of name) }) answers x)) e h
