-- The rows of a table that a WHERE may keep. Source: this project's own.
use Rattle.std.specs.Prelude.{Bool, true, false, not, List, filter, map}
use Rattle.cr_value.specs.declared.value.Value.{Value}
use Rattle.cr_lattice.specs.declared.change.Change.{Change}
use Rattle.cr_lattice.specs.declared.table.TableDef.{TableDef}
use Rattle.cr_lattice.specs.Rows.{rows}
use Rattle.cr_term.specs.declared.expr.Expr.{Expr}
use Rattle.cr_scalar.specs.Host.{Host}
use Rattle.cr_scalar.specs.declared.fault.EvalFault.{EvalFault}
use Rattle.cr_scalar.specs.declared.fault.EvalFault.TheVariants as fault
use Rattle.cr_query.specs.Query.{Row, holds}
use Rattle.cr_query.specs.Plans.{is_false}
use Rattle.cr_meaning.specs.View.{plain}
use Rattle.cr_meaning.specs.Meaning.{sized}

abbrev pub is_memory : EvalFault → Bool
is_memory fault.Overflow = false
is_memory fault.NotANumber = false
is_memory fault.NotUtf8 = false
is_memory (fault.Host text) = false
is_memory fault.TooBig = false
is_memory fault.Memory = true

-- the terms are all true on the row, or have a fault before it is clear that they aren't
abbrev pub passes : Host → List Value → List Expr → Row → Bool
passes host params terms row = not (is_false (holds (sized host params) (map plain terms) row))

-- the rows that pass of those that show
abbrev pub passing : Host → List Value → List Expr → TableDef → List Change → List Row
passing host params terms def kept = filter (passes host params terms) (rows kept def)
