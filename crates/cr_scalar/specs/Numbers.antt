-- Numbers and truth. Source: SQLite's "SQL Language Expressions", "Operators"; a text or a blob that is no number is a
-- fault, and so is a sum that leaves 64 bits (this project's profile).
use Rattle.std.specs.Prelude.{ℤ, pos, negsuc, ◌+ℤ◌, ◌-ℤ◌, ◌*ℤ◌, neg_ℤ, int_div, int_rem, unsigned_abs, ◌==◌, Bool, true, false, not, Option, Some, None, Ok, Err, if◌then◌else◌}
use Rattle.std.specs.Option.{option_map, option_map_or}
use Rattle.cr_value.specs.declared.value.Value.{Value}
use Rattle.cr_value.specs.declared.value.Value.TheVariants.{Null, Int, Text, Blob}
use Rattle.cr_value.specs.Affinity.{int_of_text, fits_i64}
use Rattle.cr_term.specs.declared.operator.Unary.{Unary}
use Rattle.cr_term.specs.declared.operator.Unary.TheVariants as unary
use Rattle.cr_term.specs.declared.operator.Arithmetic.{Arithmetic}
use Rattle.cr_term.specs.declared.operator.Arithmetic.TheVariants as arithmetic
use Rattle.cr_term.specs.declared.operator.Logic.{Logic}
use Rattle.cr_term.specs.declared.operator.Logic.TheVariants as logic
use Rattle.cr_scalar.specs.declared.fault.EvalFault.TheVariants.{Overflow, NotANumber}
use Rattle.cr_scalar.specs.Meaning.{Outcome, Meant, and_then}

-- the number of a value, none of NULL
abbrev pub number_of : Value → Outcome (Option ℤ)
number_of Null = Ok None
number_of (Int n) = Ok (Some n)
number_of (Text t) = option_map_or (λ n. Ok (Some n)) (int_of_text t) (Err NotANumber)
number_of (Blob b) = Err NotANumber

-- in 64-bit range
abbrev pub in_range : ℤ → Meant
in_range n = if fits_i64 n then Ok (Int n) else Err Overflow

abbrev pub is_zero : ℤ → Bool
is_zero (pos n) = n == 0
is_zero (negsuc n) = false

-- whether a value is true, none where that is not known
abbrev pub truth : Value → Outcome (Option Bool)
truth v = and_then (number_of v) (λ n. Ok (option_map (λ z. not (is_zero z)) n))

abbrev pub truth_value : Option Bool → Value
truth_value (Some true) = Int (pos 1)
truth_value (Some false) = Int (pos 0)
truth_value None = Null

-- known to be true
abbrev pub is_true : Option Bool → Bool
is_true (Some true) = true
is_true (Some false) = false
is_true None = false

-- the left side alone decides
abbrev pub decides : Logic → Option Bool → Bool
decides logic.And (Some false) = true
decides logic.And (Some true) = false
decides logic.And None = false
decides logic.Or (Some false) = false
decides logic.Or (Some true) = true
decides logic.Or None = false

abbrev pub both : Option Bool → Option Bool → Option Bool
both (Some true) b = b
both (Some false) b = Some false
both None (Some true) = None
both None (Some false) = Some false
both None None = None

abbrev pub either : Option Bool → Option Bool → Option Bool
either (Some true) b = Some true
either (Some false) b = b
either None (Some true) = Some true
either None (Some false) = None
either None None = None

abbrev pub joins : Logic → Option Bool → Option Bool → Option Bool
joins logic.And = both
joins logic.Or = either

-- a quotient is cut off toward zero, and nothing is divided by 0
abbrev pub calculated : Arithmetic → ℤ → ℤ → Meant
calculated arithmetic.Add a b = in_range (a +ℤ b)
calculated arithmetic.Subtract a b = in_range (a -ℤ b)
calculated arithmetic.Multiply a b = in_range (a *ℤ b)
calculated arithmetic.Divide a b = if is_zero b then Ok Null else in_range (int_div a b)
calculated arithmetic.Remainder a b = if is_zero b then Ok Null else Ok (Int (int_rem a b))

abbrev pub of_numbers : Arithmetic → Option ℤ → Option ℤ → Meant
of_numbers op (Some a) (Some b) = calculated op a b
of_numbers op (Some a) None = Ok Null
of_numbers op None b = Ok Null

-- both sides have to be numbers or NULL, also beside a NULL
abbrev pub arithmetic_of : Arithmetic → Value → Value → Meant
arithmetic_of op v w = and_then (number_of v) (λ a. and_then (number_of w) (of_numbers op a))

abbrev pub negated : Option ℤ → Meant
negated (Some n) = in_range (neg_ℤ n)
negated None = Ok Null

abbrev pub is_null : Value → Bool
is_null Null = true
is_null (Int n) = false
is_null (Text t) = false
is_null (Blob b) = false

abbrev pub unary_of : Unary → Value → Meant
unary_of unary.Plus v = Ok v
unary_of unary.Minus v = and_then (number_of v) negated
unary_of unary.Not v = and_then (truth v) (λ t. Ok (truth_value (option_map not t)))
unary_of unary.IsNull v = Ok (truth_value (Some (is_null v)))
unary_of unary.NotNull v = Ok (truth_value (Some (not (is_null v))))

abbrev pub magnitude : Option ℤ → Meant
magnitude (Some n) = in_range (pos (unsigned_abs n))
magnitude None = Ok Null

abbrev pub magnitude_of : Value → Meant
magnitude_of v = and_then (number_of v) magnitude
