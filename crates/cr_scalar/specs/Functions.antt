-- The scalar functions of the engine itself. Source: SQLite's "Built-In Scalar SQL Functions".
use Rattle.std.specs.Prelude.{ℕ, ◌==◌, pos, Bool, true, false, List, [], ◌∷◌, length, chars, get_or, Ok, codes, if◌then◌else◌}
use Rattle.std.specs.List.{before_first, list_any, best_of}
use Rattle.std.specs.declared.cmp.Ordering.{Ordering}
use Rattle.std.specs.Ordering.{is_eq, is_lt, is_gt}
use Rattle.std.specs.Fmt.{signed_decimal}
use Rattle.std.specs.Str.{str_to_ascii_lowercase, str_to_ascii_uppercase}
use Rattle.hex.specs.Hex.{encode_upper}
use Rattle.cr_value.specs.declared.value.Value.{Value}
use Rattle.cr_value.specs.declared.value.Value.TheVariants.{Null, Int, Text, Blob}
use Rattle.cr_term.specs.declared.operator.BuiltIn.{BuiltIn}
use Rattle.cr_term.specs.declared.operator.BuiltIn.TheVariants.{Abs, Coalesce, Hex, IfNull, Length, Lower, Max, Min, NullIf, TypeOf, Upper}
use Rattle.cr_scalar.specs.Meaning.{Outcome, Meant, and_then}
use Rattle.cr_scalar.specs.Numbers.{is_null, magnitude_of}
use Rattle.cr_scalar.specs.Compare.{Orders, value_cmp_by}
use Rattle.cr_scalar.specs.Texts.{text_of}

-- the bytes of a blob, of a text, and of an integer's decimal text; none of NULL
abbrev pub bytes_of : Value → List ℕ
bytes_of Null = []
bytes_of (Int n) = signed_decimal n
bytes_of (Text t) = t
bytes_of (Blob b) = b

-- characters of a text before its first U+0000, digits and sign of an integer, and bytes of a blob
abbrev pub length_of : Value → Value
length_of Null = Null
length_of (Int n) = Int (pos (length (signed_decimal n)))
length_of (Text t) = Int (pos (length (before_first (λ c. c == 0) (chars t))))
length_of (Blob b) = Int (pos (length b))

abbrev pub type_of : Value → Value
type_of Null = Text (codes "null")
type_of (Int n) = Text (codes "integer")
type_of (Text t) = Text (codes "text")
type_of (Blob b) = Text (codes "blob")

-- a text changed, and NULL left
abbrev pub on_text : (List ℕ → List ℕ) → Value → Meant
on_text f v = if is_null v then Ok Null else and_then (text_of v) (λ t. Ok (Text (f t)))

-- the first argument, and the second
abbrev pub first : List Value → Value
first vs = get_or vs 0 Null

abbrev pub second : List Value → Value
second vs = get_or vs 1 Null

-- greater, where the greatest is wanted, or less
abbrev pub goes_before : (List ℕ → List ℕ → Ordering) → Bool → Value → Value → Bool
goes_before order is_greatest v w = if is_greatest then is_gt (value_cmp_by order v w) else is_lt (value_cmp_by order v w)

-- the one that goes before all others, the earlier one on a tie
abbrev pub extreme : (Value → Value → Bool) → List Value → Value
extreme before [] = Null
extreme before (v ∷ vs) = best_of before v vs

abbrev pub extreme_or_null : (Value → Value → Bool) → List Value → Value
extreme_or_null before vs = if list_any is_null vs then Null else extreme before vs

abbrev pub nulled_if_equal : (List ℕ → List ℕ → Ordering) → Value → Value → Value
nulled_if_equal order v w = if is_eq (value_cmp_by order v w) then Null else v

-- what a function gives of its arguments, all of which have values
abbrev pub built_in : Orders → BuiltIn → List Value → Meant
built_in order Abs vs = magnitude_of (first vs)
built_in order Coalesce vs = Ok Null
built_in order Hex vs = Ok (Text (encode_upper (bytes_of (first vs))))
built_in order IfNull vs = Ok Null
built_in order Length vs = Ok (length_of (first vs))
built_in order Lower vs = on_text str_to_ascii_lowercase (first vs)
built_in order (Max c) vs = Ok (extreme_or_null (goes_before (order c) true) vs)
built_in order (Min c) vs = Ok (extreme_or_null (goes_before (order c) false) vs)
built_in order (NullIf c) vs = Ok (nulled_if_equal (order c) (first vs) (second vs))
built_in order TypeOf vs = Ok (type_of (first vs))
built_in order Upper vs = on_text str_to_ascii_uppercase (first vs)

-- the first value that is not NULL; what stands behind it goes unused
abbrev pub first_value : List Meant → Meant
first_value [] = Ok Null
first_value (m ∷ ms) = and_then m (λ v. if is_null v then first_value ms else Ok v)

-- all values, or the first fault
abbrev pub all_of : {A : Type 0} → List (Outcome A) → Outcome (List A)
all_of [] = Ok []
all_of (m ∷ ms) = and_then m (λ v. and_then (all_of ms) (λ vs. Ok (v ∷ vs)))

-- coalesce and ifnull take no more arguments than they need, the others all
abbrev pub takes_first : BuiltIn → Bool
takes_first Coalesce = true
takes_first IfNull = true
takes_first _ = false

-- a call
abbrev pub call_of : Orders → BuiltIn → List Meant → Meant
call_of order f ms = if takes_first f then first_value ms else and_then (all_of ms) (built_in order f)
