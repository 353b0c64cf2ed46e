-- Terms with the quiet ones first.
use Rattle.std.specs.Prelude.{Bool, true, false, not, filter, List, ◌++◌}
use Rattle.cr_term.specs.Terms.{quiet}
use Rattle.cr_meaning.specs.View.{Ordered}

-- quiet terms, or the others
abbrev pub of_kind : Bool → Ordered → Bool
of_kind true e = quiet e.expr
of_kind false e = not (quiet e.expr)

abbrev pub with_quiet_first : List Ordered → List Ordered
with_quiet_first es = filter (of_kind true) es ++ filter (of_kind false) es
