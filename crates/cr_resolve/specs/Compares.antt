-- What an answer says of how two operands meet, kept closed, since how they meet is long.
use Rattle.std.specs.Prelude.{◌≡◌, ◌++◌, Bool, List, [], Result, Ok, Err}
use Rattle.cr_term.specs.declared.operator.Meeting.{Meeting}
use Rattle.cr_term.specs.declared.operator.Comparison.{Comparison}
use Rattle.cr_term.specs.declared.expr.Expr.{Expr}
use Rattle.cr_term.specs.Operands.{meeting, meeting_item}
use Rattle.cr_resolve.specs.declared.refusal.Refusal.{Refusal}
use Rattle.cr_resolve.specs.declared.reading.Made.{Made}
use Rattle.cr_resolve.specs.declared.comparing.Meetings.{Meetings}
use Rattle.cr_resolve.specs.Known.{Known, collation}
use Rattle.cr_resolve.specs.Expressions.{compared, in_of, between_of}
use Rattle.cr_resolve.specs.Told.{told, Refuses, Reads}

-- the meeting of two operands, by a collation that is there
unfoldable pub Meets : Known → Expr → Expr → Result Meeting Refusal → Type 0
Meets known x y (Ok m) = (meeting x y ≡ m) × (collation known m.collation ≡ [])
Meets known x y (Err f) = Refuses (collation known (meeting x y).collation) f

unfoldable pub Compares : Known → Comparison → Made Expr → Made Expr → Result (Made Expr) Refusal → Type 0
Compares known op x y r = Reads (compared known op (told x) (told y)) r

-- the meeting of an operand with an item
unfoldable pub MeetsItem : Known → Expr → Result Meeting Refusal → Type 0
MeetsItem known x (Ok m) = (meeting_item x ≡ m) × (collation known m.collation ≡ [])
MeetsItem known x (Err f) = Refuses (collation known (meeting_item x).collation) f

unfoldable pub IsAmong : Known → Bool → Made Expr → Made (List Expr) → Result (Made Expr) Refusal → Type 0
IsAmong known negated x items r = Reads (in_of known negated (told x) (told items)) r

-- the meetings of an operand with two bounds
unfoldable pub MeetsBounds : Known → Expr → Expr → Expr → Result Meetings Refusal → Type 0
MeetsBounds known x low high (Ok m) = Meets known x low (Ok m.low) × Meets known x high (Ok m.high)
MeetsBounds known x low high (Err f) = Refuses (collation known (meeting x low).collation ++ collation known (meeting x high).collation) f

unfoldable pub IsBetween : Known → Bool → Made Expr → Made Expr → Made Expr → Result (Made Expr) Refusal → Type 0
IsBetween known negated x low high r = Reads (between_of known negated (told x) (told low) (told high)) r
