-- What a query answers on a replica as it stood at a moment. Source: the rows are SQLite's.
use Rattle.std.specs.Prelude.{◌≡◌, List, map, Result, Ok, Err}
use Rattle.cr_value.specs.declared.value.Value.{Value}
use Rattle.cr_term.specs.declared.query.Query.{Query}
use Rattle.cr_scalar.specs.Host.{Host}
use Rattle.cr_scalar.specs.declared.fault.EvalFault.{EvalFault}
use Rattle.cr_query.specs.Query.{Row, answer}
use Rattle.cr_meaning.specs.View as view
use Rattle.cr_exec.specs.Answers.{Faults, IsMeant, Stage}
use Rattle.cr_replica.specs.declared.snapshot.Snapshot.{Snapshot}
use Rattle.cr_snapshot.specs.Seen.{name_of, rows_seen}
use Rattle.cr_world.specs.declared.refusal.Refusal.{Refusal}
use Rattle.cr_world.specs.Refusals.{of_fault}

-- the rows that a query answers over rows of its tables
abbrev pub answer_over : List (List Row) → Query → Stage (List Row)
answer_over tables q m = answer m (view.query q) tables

-- the rows that a query answers there
abbrev pub answer_seen : Snapshot → Query → Stage (List Row)
answer_seen snapshot q = answer_over (map (λ j. rows_seen snapshot (name_of j)) q.joined) q

-- the rows, or the fault of an expression
abbrev pub Gives : Host → List Value → Stage (List Row) → Result (List Row) Refusal → Type 0
Gives host params f (Ok rows) = IsMeant host params f rows
Gives host params f (Err why) = (e : EvalFault) × ((why ≡ of_fault e) × Faults host params f e)
