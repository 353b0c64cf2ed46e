-- What an answer says of expressions as they are written, kept closed, since what they are read as is long.
use Rattle.std.specs.Prelude.{◌≡◌, Bool, List, map, Option, Result, Ok, Err}
use Rattle.std.specs.Option.{option_map}
use Rattle.cr_tree.specs.declared.expr.Binary.{Binary as Operator}
use Rattle.cr_tree.specs.declared.expr.Expr.{Expr as Tree}
use Rattle.cr_tree.specs.declared.expr.When.{When as ArmTree}
use Rattle.cr_term.specs.declared.expr.Expr.{Expr}
use Rattle.cr_resolve.specs.declared.refusal.Refusal.{Refusal}
use Rattle.cr_resolve.specs.declared.reading.Made.{Made}
use Rattle.cr_resolve.specs.declared.case.Arms.{Arms}
use Rattle.cr_resolve.specs.Cases.{arms_read}
use Rattle.cr_resolve.specs.Reading.{Read, with_both, each, if_any}
use Rattle.cr_resolve.specs.Known.{Known}
use Rattle.cr_resolve.specs.Scope.{Source}
use Rattle.cr_resolve.specs.Expressions.{Pair, binary, in_of, between_of, case_of, expr}
use Rattle.cr_resolve.specs.Told.{told, Refuses, Reads}

unfoldable pub IsRead : Known → List Source → Bool → Tree → Result (Made Expr) Refusal → Type 0
IsRead known sources aggregates t r = Reads (expr known sources aggregates t) r

-- several, from left to right
unfoldable pub AreRead : Known → List Source → Bool → List Tree → Result (Made (List Expr)) Refusal → Type 0
AreRead known sources aggregates ts r = Reads (each (map (expr known sources aggregates) ts)) r

-- one that need not be there
unfoldable pub IsReadIfAny : Known → List Source → Bool → Option Tree → Result (Made (Option Expr)) Refusal → Type 0
IsReadIfAny known sources aggregates t r = Reads (if_any (option_map (expr known sources aggregates) t)) r

-- an arm of a CASE
abbrev pub pair : Known → List Source → Bool → ArmTree → Read Pair
pair known sources aggregates w = with_both (λ x y. record { when = x; gives = y }) (expr known sources aggregates w.when) (expr known sources aggregates w.then)

-- the arms of a CASE
unfoldable pub AreArmsRead : Known → List Source → Bool → List ArmTree → Result Arms Refusal → Type 0
AreArmsRead known sources aggregates ws (Ok arms) = each (map (pair known sources aggregates) ws) ≡ told (arms_read arms)
AreArmsRead known sources aggregates ws (Err f) = Refuses (each (map (pair known sources aggregates) ws)).bad f

-- ---- once the first parts are read

-- an operator with its right operand
unfoldable pub IsRightRead : Known → List Source → Bool → Operator → Made Expr → Tree → Result (Made Expr) Refusal → Type 0
IsRightRead known sources aggregates op left t r = Reads (binary known op (told left) (expr known sources aggregates t)) r

-- IN with its items
unfoldable pub AreItemsRead : Known → List Source → Bool → Bool → Made Expr → List Tree → Result (Made Expr) Refusal → Type 0
AreItemsRead known sources aggregates negated x ts r = Reads (in_of known negated (told x) (each (map (expr known sources aggregates) ts))) r

-- BETWEEN with its second bound
unfoldable pub IsHighRead : Known → List Source → Bool → Bool → Made Expr → Made Expr → Tree → Result (Made Expr) Refusal → Type 0
IsHighRead known sources aggregates negated x low t r = Reads (between_of known negated (told x) (told low) (expr known sources aggregates t)) r

-- CASE with what stands after ELSE
unfoldable pub IsElseRead : Known → List Source → Bool → Made (Option Expr) → Arms → Option Tree → Result (Made Expr) Refusal → Type 0
IsElseRead known sources aggregates x arms t r = Reads (case_of known (told x) (told (arms_read arms)) (if_any (option_map (expr known sources aggregates) t))) r
