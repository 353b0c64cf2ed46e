-- Result columns with their names, as they are made.
use Rattle.std.specs.Prelude.{List, map, filter, Option, None, Result, Ok, Err}
use Rattle.cr_term.specs.declared.expr.Expr.{Expr}
use Rattle.cr_term.specs.Nodes as e
use Rattle.cr_questions.specs.Questions.{Name}
use Rattle.cr_resolve.specs.declared.refusal.Refusal.{Refusal}
use Rattle.cr_resolve.specs.declared.reading.Made.{Made}
use Rattle.cr_resolve.specs.declared.scope.Source.{Source}
use Rattle.cr_resolve.specs.Scope.{InSight, in_sight, is_of}
use Rattle.cr_resolve.specs.Queries.{Result as ResultOf}
use Rattle.cr_select.specs.declared.outputs.Output.{Output}

-- a column that `*` shows
abbrev pub shown_column : InSight → Output
shown_column c = record { alias = None; expr = e.Column c.column }

abbrev pub star_columns : List Source → Option Name → List Output
star_columns sources q = map shown_column (filter (λ c. is_of q c.source_name) (in_sight sources))

abbrev pub as_result : Output → ResultOf
as_result o = record { alias = o.alias; expr = o.expr }

abbrev pub as_results : Result (Made (List Output)) Refusal → Result (Made (List ResultOf)) Refusal
as_results (Ok m) = Ok (record { made = map as_result m.made; is_misplaced = m.is_misplaced })
as_results (Err f) = Err f

abbrev pub output : Expr → Option Name → Output
output x alias = record { alias = alias; expr = x }
