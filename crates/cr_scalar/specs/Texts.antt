-- Texts. Source: SQLite's "SQL Language Expressions", "The LIKE operator" and "CAST expressions"; that a blob which is no
-- UTF-8 is a fault is this project's own.
use Rattle.std.specs.Prelude.{ℕ, Bool, true, false, not, ◌&&◌, ◌||◌, ◌==◌, List, [], ◌∷◌, ◌++◌, chars, Some, Ok, Err, if◌then◌else◌}
use Rattle.std.specs.Option.{option_map_or}
use Rattle.std.specs.Fmt.{signed_decimal}
use Rattle.std.specs.Str.{is_utf8}
use Rattle.std.specs.Char.{eq_ignore_ascii_case}
use Rattle.cr_value.specs.declared.value.Value.{Value}
use Rattle.cr_value.specs.declared.value.Value.TheVariants.{Null, Int, Text, Blob}
use Rattle.cr_value.specs.declared.cast.CastTo.{CastTo}
use Rattle.cr_value.specs.Cast.{cast_to}
use Rattle.cr_scalar.specs.declared.fault.EvalFault.TheVariants.{NotUtf8}
use Rattle.cr_scalar.specs.Meaning.{Outcome, Meant, and_then}
use Rattle.cr_scalar.specs.Numbers.{is_null, truth_value}

-- the text of a value that is not NULL: decimal digits of an integer, and a blob in UTF-8
abbrev pub text_of : Value → Outcome (List ℕ)
text_of Null = Ok []
text_of (Int n) = Ok (signed_decimal n)
text_of (Text t) = Ok t
text_of (Blob b) = if is_utf8 b then Ok b else Err NotUtf8

-- of two texts, or NULL beside a NULL, whatever the other is
abbrev pub of_texts : (List ℕ → List ℕ → Value) → Value → Value → Meant
of_texts f v w = if is_null v || is_null w then Ok Null else and_then (text_of v) (λ s. and_then (text_of w) (λ t. Ok (f s t)))

abbrev pub join_of : Value → Value → Meant
join_of = of_texts (λ s t. Text (s ++ t))

-- ---- LIKE, over characters

abbrev pub is_empty : List ℕ → Bool
is_empty [] = true
is_empty (c ∷ cs) = false

-- some end of the text passes, the whole text and the empty one among them
abbrev pub some_end : (List ℕ → Bool) → List ℕ → Bool
some_end passes [] = passes []
some_end passes (c ∷ cs) = passes (c ∷ cs) || some_end passes cs

-- the first character passes, and so does what follows it
abbrev pub first_and_rest : (ℕ → Bool) → (List ℕ → Bool) → List ℕ → Bool
first_and_rest first rest [] = false
first_and_rest first rest (c ∷ cs) = first c && rest cs

-- `_` is any character, another one itself, ASCII case ignored
abbrev pub fits : ℕ → ℕ → Bool
fits p c = (p == 95) || eq_ignore_ascii_case p c

-- `%` is any run of characters, `_` any one, and another character itself, ASCII case ignored
abbrev pub matches : List ℕ → List ℕ → Bool
matches [] text = is_empty text
matches (p ∷ ps) text = if p == 37 then some_end (matches ps) text else first_and_rest (fits p) (matches ps) text

-- whether NOT stands before, a text and a pattern
abbrev pub like_of : Bool → Value → Value → Meant
like_of negated = of_texts (λ text pattern. truth_value (Some (if negated then not (matches (chars pattern) (chars text)) else matches (chars pattern) (chars text))))

-- ---- CAST

abbrev pub cast_of : CastTo → Value → Meant
cast_of to v = option_map_or Ok (cast_to to v) (Err NotUtf8)
