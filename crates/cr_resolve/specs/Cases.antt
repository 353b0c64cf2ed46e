-- What an answer says of a CASE whose parts are read, kept closed, since how operands meet is long.
use Rattle.std.specs.Prelude.{◌≡◌, Bool, ◌||◌, List, [], ◌∷◌, map, Option, Result, Ok, Err}
use Rattle.cr_term.specs.declared.operator.Meeting.{Meeting}
use Rattle.cr_term.specs.declared.expr.Expr.{Expr}
use Rattle.cr_term.specs.declared.expr.When.{When}
use Rattle.cr_term.specs.Nodes as e
use Rattle.cr_resolve.specs.declared.refusal.Refusal.{Refusal}
use Rattle.cr_resolve.specs.declared.reading.Made.{Made}
use Rattle.cr_resolve.specs.declared.case.Arms.{Arms}
use Rattle.cr_resolve.specs.Reading.{Read}
use Rattle.cr_resolve.specs.Known.{Known, collations}
use Rattle.cr_resolve.specs.Expressions.{Pair, case_of, arm_node, arm_collations}
use Rattle.cr_resolve.specs.Told.{told, Refuses, Reads}

abbrev pub arms_read : Arms → Made (List Pair)
arms_read a = record { made = a.pairs.items; is_misplaced = a.is_misplaced }

-- the arms, with how the operand meets each, by collations that are there
unfoldable pub ArmsMeet : Known → Option Expr → List Pair → Result (List When) Refusal → Type 0
ArmsMeet known x arms (Ok ws) = (map (arm_node x) arms ≡ ws) × (collations known (arm_collations x arms) ≡ [])
ArmsMeet known x arms (Err f) = Refuses (collations known (arm_collations x arms)) f

-- how the operand meets one arm
unfoldable pub MeetsArm : Known → Option Expr → Pair → Result Meeting Refusal → Type 0
MeetsArm known x arm (Ok m) = ((arm_node x arm).meeting ≡ m) × (collations known (arm_collations x (arm ∷ [])) ≡ [])
MeetsArm known x arm (Err f) = Refuses (collations known (arm_collations x (arm ∷ []))) f

-- an arm, with how the operand meets it
unfoldable pub ArmMeets : Known → Option Expr → Pair → Result When Refusal → Type 0
ArmMeets known x arm (Ok w) = (arm_node x arm ≡ w) × (collations known (arm_collations x (arm ∷ [])) ≡ [])
ArmMeets known x arm (Err f) = Refuses (collations known (arm_collations x (arm ∷ []))) f

-- a CASE of arms that meet its operand
abbrev pub case_made : Made (Option Expr) → List When → Bool → Made (Option Expr) → Read Expr
case_made x arms misplaced other = record { bad = []; misplaced = (x.is_misplaced || misplaced) || other.is_misplaced; made = e.Case x.made arms other.made }

unfoldable pub IsCase : Known → Made (Option Expr) → Made (List Pair) → Made (Option Expr) → Result (Made Expr) Refusal → Type 0
IsCase known x arms other r = Reads (case_of known (told x) (told arms) (told other)) r
