-- The table of an UPDATE or a DELETE, and its WHERE.
use Rattle.std.specs.Prelude.{false, List, [], ◌∷◌, Option}
use Rattle.std.specs.Option.{option_map}
use Rattle.cr_tree.specs.declared.expr.Expr.{Expr as Tree}
use Rattle.cr_term.specs.declared.expr.Expr.{Expr}
use Rattle.cr_term.specs.Terms.{terms_of}
use Rattle.cr_questions.specs.Questions.{Name}
use Rattle.cr_resolve.specs.declared.scope.Source.{Source}
use Rattle.cr_resolve.specs.Reading.{Read, if_any, with}
use Rattle.cr_resolve.specs.Known.{Known, table}
use Rattle.cr_resolve.specs.Expressions.{expr}

abbrev pub source_of : Known → Name → Read Source
source_of known name = with (λ r. record { name = name; relation = r }) (table known name)

abbrev pub filter_of : Known → Source → Option Tree → Read (List Expr)
filter_of known s filter = with terms_of (if_any (option_map (expr known (s ∷ []) false) filter))
