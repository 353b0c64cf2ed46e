-- The tokens of a text, by what each of them is. Source: this project's own choice among the tokens of SQLite's "SQL Syntax".
use Rattle.std.specs.Prelude.{◌≡◌, ◌≢◌, ◌⊎◌, ℕ, ◌%◌, ◌<◌, ◌≤◌, Bool, true, false, not, ◌&&◌, ◌||◌, ◌==◌, List, [], ◌∷◌, ◌++◌, length, drop, slice_range, IsTrue, if◌then◌else◌}
use Rattle.std.specs.List.{list_all}
use Rattle.std.specs.Char.{is_ascii_digit, is_ascii_hexdigit}
use Rattle.cr_lex.specs.declared.token.TokenKind.{TokenKind}
use Rattle.cr_lex.specs.declared.token.TokenKind.TheVariants as k
use Rattle.cr_lex.specs.declared.token.Token.{Token}
use Rattle.cr_lex.specs.Texts.{is_blank, is_start, is_more, is_sign, is_pair}

-- ---- numbers

-- each byte passes
abbrev pub Each : (ℕ → Bool) → List ℕ → Type 0
Each p w = list_all p w ≡ true

-- one digit or more
abbrev pub IsDigits : List ℕ → Type 0
IsDigits w = Each is_ascii_digit w × (w ≢ [])

-- digits; or `0x` and hexadecimal digits
abbrev pub IsInt : List ℕ → Type 0
IsInt w = IsDigits w ⊎ ((digits : List ℕ) × Each is_ascii_hexdigit digits × (digits ≢ []) × (w ≡ 48 ∷ 120 ∷ digits))

-- `+`, `-` or nothing
abbrev pub IsPlusMinus : List ℕ → Type 0
IsPlusMinus w = (w ≡ []) ⊎ ((w ≡ 43 ∷ []) ⊎ (w ≡ 45 ∷ []))

-- `e` or `E`, a sign or none, and digits
abbrev pub IsExponent : List ℕ → Type 0
IsExponent w = (e : ℕ) × (sign : List ℕ) × (digits : List ℕ) × IsTrue (e == 101 || e == 69) × IsPlusMinus sign × IsDigits digits × (w ≡ e ∷ sign ++ digits)

-- digits with a point among them, before them or behind them
abbrev pub IsPointed : List ℕ → Type 0
IsPointed w = (whole : List ℕ) × (part : List ℕ) × Each is_ascii_digit whole × Each is_ascii_digit part × (whole ++ part ≢ []) × (w ≡ whole ++ 46 ∷ part)

-- digits with a point, an exponent or both
abbrev pub IsReal : List ℕ → Type 0
IsReal w = IsPointed w ⊎ ((mantissa : List ℕ) × (exponent : List ℕ) × (IsPointed mantissa ⊎ IsDigits mantissa) × IsExponent exponent × (w ≡ mantissa ++ exponent))

abbrev pub IsNumber : List ℕ → Type 0
IsNumber w = IsInt w ⊎ IsReal w

-- ---- what is quoted

-- with each quote doubled
unfoldable pub doubled : ℕ → List ℕ → List ℕ
doubled quote [] = []
doubled quote (c ∷ cs) = if c == quote then quote ∷ quote ∷ doubled quote cs else c ∷ doubled quote cs

abbrev pub IsQuoted : ℕ → List ℕ → Type 0
IsQuoted quote w = (inside : List ℕ) × (w ≡ quote ∷ doubled quote inside ++ quote ∷ [])

-- an opening quote, and no closing one
abbrev pub IsUnquoted : ℕ → List ℕ → Type 0
IsUnquoted quote w = (inside : List ℕ) × (w ≡ quote ∷ doubled quote inside)

-- `[...]` without `]` inside
abbrev pub IsBracketed : List ℕ → Type 0
IsBracketed w = (inside : List ℕ) × Each (λ c. not (c == 93)) inside × (w ≡ 91 ∷ inside ++ 93 ∷ [])

-- `x'...'` without a quote inside
abbrev pub IsX : List ℕ → List ℕ → Type 0
IsX inside w = (x : ℕ) × IsTrue (x == 120 || x == 88) × Each (λ c. not (c == 39)) inside × (w ≡ x ∷ 39 ∷ inside ++ 39 ∷ [])

-- an even number of hexadecimal digits
abbrev pub IsHex : List ℕ → Type 0
IsHex w = IsTrue (length w % 2 == 0 && list_all is_ascii_hexdigit w)

-- a name in quotes or brackets
abbrev pub IsName : List ℕ → Type 0
IsName w = IsQuoted 34 w ⊎ (IsQuoted 96 w ⊎ IsBracketed w)

-- without U+0000
abbrev pub is_legal : List ℕ → Bool
is_legal w = list_all (λ c. not (c == 0)) w

-- what opens, and does not close
abbrev pub IsOpen : List ℕ → Type 0
IsOpen w =
    IsUnquoted 39 w
    ⊎ (IsUnquoted 34 w
    ⊎ (IsUnquoted 96 w
    ⊎ (((inside : List ℕ) × Each (λ c. not (c == 93)) inside × (w ≡ 91 ∷ inside))
    ⊎ ((x : ℕ) × (inside : List ℕ) × IsTrue (x == 120 || x == 88) × Each (λ c. not (c == 39)) inside × (w ≡ x ∷ 39 ∷ inside)))))

-- ---- the kinds

-- a letter, `_` or a character from U+0080 on, then those, digits and `$`
abbrev pub IsWord : List ℕ → Type 0
IsWord w = (c : ℕ) × (more : List ℕ) × IsTrue (is_start c) × Each is_more more × (w ≡ c ∷ more)

-- neither a letter, a digit, a sign or `?`, nor what opens a text or name
abbrev pub begins_nothing : ℕ → Bool
begins_nothing c = not (is_start c || (is_ascii_digit c || (is_sign c || (c == 63 || (c == 39 || (c == 34 || (c == 96 || c == 91)))))))

-- a number that identifier characters follow, with them
abbrev pub IsSpoilt : List ℕ → Type 0
IsSpoilt w = (number : List ℕ) × (tail : List ℕ) × IsNumber number × Each is_more tail × (w ≡ number ++ tail) × (IsNumber w → ⊥)

-- The bytes are a token of the kind, with the rest of the text behind them.
abbrev pub IsToken : TokenKind → List ℕ → List ℕ → Type 0
IsToken k.Ident w rest = IsWord w ⊎ (IsName w × IsTrue (is_legal w))
IsToken k.Int w rest = IsInt w
IsToken k.Real w rest = IsReal w
IsToken k.Text w rest = IsQuoted 39 w × IsTrue (is_legal w)
IsToken k.Blob w rest = (inside : List ℕ) × IsX inside w × IsHex inside
IsToken k.Param w rest = (digits : List ℕ) × Each is_ascii_digit digits × (w ≡ 63 ∷ digits)
IsToken k.Op w rest = ((a : ℕ) × IsTrue (is_sign a) × (w ≡ a ∷ [])) ⊎ ((a : ℕ) × (b : ℕ) × IsTrue (is_pair a b) × (w ≡ a ∷ b ∷ []))
IsToken k.Open w rest = IsOpen w × (rest ≡ [])
IsToken k.Illegal w rest =
    IsSpoilt w
    ⊎ (((inside : List ℕ) × IsX inside w × (IsHex inside → ⊥))
    ⊎ (((IsName w ⊎ IsQuoted 39 w) × (is_legal w ≡ false))
    ⊎ ((c : ℕ) × IsTrue (begins_nothing c) × (w ≡ c ∷ []))))

-- From one place of the text to another there is a token of the kind, and any other that begins there is shorter.
pub record IsNext (text : List ℕ) (kind : TokenKind) (from to : ℕ) : Type 0 where
  pub in_order : from < to
  pub in_text : to ≤ length text
  pub spelled : IsToken kind (slice_range text from to) (drop to text)
  pub longest : (other : TokenKind) (end : ℕ) → from < end → end ≤ length text → IsToken other (slice_range text from end) (drop end text)
      → (end < to) ⊎ ((end ≡ to) × (other ≡ kind))

-- ---- what stands between

-- a `*/` stands in it
unfoldable pub has_end : List ℕ → Bool
has_end [] = false
has_end (a ∷ []) = false
has_end (a ∷ b ∷ cs) = (a == 42 && b == 47) || has_end (b ∷ cs)

-- `--` and what else is on the line
abbrev pub IsLineComment : List ℕ → List ℕ → Type 0
IsLineComment w rest = (inside : List ℕ) × Each (λ c. not (c == 10)) inside × (w ≡ 45 ∷ 45 ∷ inside) × ((rest ≡ []) ⊎ ((more : List ℕ) × (rest ≡ 10 ∷ more)))

-- `/*` up to the first `*/`, or to the end of the text if there is none
abbrev pub IsBlockComment : List ℕ → List ℕ → Type 0
IsBlockComment w rest = (inside : List ℕ) × (
    ((has_end (inside ++ 42 ∷ []) ≡ false) × (w ≡ 47 ∷ 42 ∷ inside ++ 42 ∷ 47 ∷ []))
    ⊎ ((has_end inside ≡ false) × (w ≡ 47 ∷ 42 ∷ inside) × (rest ≡ [])))

-- one blank, or one comment
abbrev pub IsBlank : List ℕ → List ℕ → Type 0
IsBlank w rest = ((c : ℕ) × IsTrue (is_blank c) × (w ≡ c ∷ [])) ⊎ (IsLineComment w rest ⊎ IsBlockComment w rest)

-- blanks and comments, given by where each of them ends
abbrev pub AreBlanks : List ℕ → ℕ → List ℕ → ℕ → Type 0
AreBlanks text from [] to = from ≡ to
AreBlanks text from (end ∷ ends) to = (from < end) × (end ≤ length text) × IsBlank (slice_range text from end) (drop end text) × AreBlanks text end ends to

-- only blanks and comments, and none begins behind them
pub record IsGap (text : List ℕ) (from to : ℕ) : Type 0 where
  pub in_text : to ≤ length text
  pub ends : List ℕ
  pub blanks : AreBlanks text from ends to
  pub longest : (end : ℕ) → to < end → end ≤ length text → IsBlank (slice_range text to end) (drop end text) → ⊥

-- From a place on, the text is a gap, then the next token, and so on, up to a last gap.
abbrev pub IsTokens : List ℕ → ℕ → List Token → Type 0
IsTokens text at [] = IsGap text at (length text)
IsTokens text at (t ∷ ts) = IsGap text at t.from × IsNext text t.kind t.from t.to × IsTokens text t.to ts
