-- Expressions of new parts, as they are built: the meeting of operands is decided by them.
use Rattle.std.specs.Prelude.{Bool, List, Option, Some, None}
use Rattle.cr_term.specs.declared.operator.Meeting.{Meeting}
use Rattle.cr_term.specs.declared.expr.When.{When}
use Rattle.cr_term.specs.declared.expr.Expr.{Expr}
use Rattle.cr_term.specs.Nodes as e
use Rattle.cr_term.specs.Operands.{meeting, meeting_item, no_meeting}

abbrev pub membership : Bool → Expr → List Expr → Expr
membership negated x items = e.In negated (meeting_item x) x items

abbrev pub range : Bool → Expr → Expr → Expr → Expr
range negated x low high = e.Between negated (meeting x low) (meeting x high) x low high

-- what stands behind WHEN meets the operand, if there is one
abbrev pub meeting_of_arm : Option Expr → Expr → Meeting
meeting_of_arm None when = no_meeting
meeting_of_arm (Some x) when = meeting x when

abbrev pub arm_of : Option Expr → Expr → Expr → When
arm_of x when then = record { meeting = meeting_of_arm x when; when = when; then = then }
