-- How the code reads, by the first bytes and then as far as the bytes pass. What is promised of it is in Tokens.
use Rattle.std.specs.Prelude.{ℕ, zero, suc, ◌+◌, ◌%◌, Bool, false, not, ◌&&◌, ◌||◌, ◌==◌, nat_lt, List, [], ◌∷◌, length, take, drop, Option, Some, None, if◌then◌else◌}
use Rattle.std.specs.List.{prefix_len, list_all}
use Rattle.std.specs.Char.{is_ascii_digit, is_ascii_hexdigit}
use Rattle.cr_lex.specs.declared.token.TokenKind.{TokenKind}
use Rattle.cr_lex.specs.declared.token.TokenKind.TheVariants as k
use Rattle.cr_lex.specs.Texts.{is_blank, is_start, is_more, is_sign, is_pair}

-- Where the closing quote ends; the test says whether a quote stands before, which may be the closing one.
unfoldable pub closing : ℕ → Bool → ℕ → List ℕ → Option ℕ
closing quote after n [] = if after then Some n else None
closing quote after n (c ∷ cs) =
    if c == quote then closing quote (not after) (n + 1) cs
    else if after then Some n
    else closing quote false (n + 1) cs

-- where a comment ends; the test says whether a star stands before
unfoldable pub comment_len : Bool → ℕ → List ℕ → ℕ
comment_len star n [] = n
comment_len star n (c ∷ cs) = if star && c == 47 then n + 1 else comment_len (c == 42) (n + 1) cs

-- ---- numbers

abbrev pub unless_none : ℕ → ℕ → ℕ
unless_none zero n = 0
unless_none (suc d) n = n

unfoldable pub hex_len : List ℕ → ℕ
hex_len [] = 0
hex_len (a ∷ []) = 0
hex_len (a ∷ b ∷ cs) = if a == 48 && b == 120 then (if prefix_len is_ascii_hexdigit cs == 0 then 0 else 2 + prefix_len is_ascii_hexdigit cs) else 0

unfoldable pub sign_len : List ℕ → ℕ
sign_len [] = 0
sign_len (c ∷ cs) = if c == 43 || c == 45 then 1 else 0

unfoldable pub exponent_len : List ℕ → ℕ
exponent_len [] = 0
exponent_len (c ∷ cs) =
    if c == 101 || c == 69
    then (let digits = prefix_len is_ascii_digit (drop (sign_len cs) cs) in if digits == 0 then 0 else 1 + sign_len cs + digits)
    else 0

unfoldable pub point_len : List ℕ → ℕ
point_len [] = 0
point_len (c ∷ cs) = if c == 46 then 1 + prefix_len is_ascii_digit cs else 0

unfoldable pub mantissa_len : List ℕ → ℕ
mantissa_len bytes = prefix_len is_ascii_digit bytes + point_len (drop (prefix_len is_ascii_digit bytes) bytes)

unfoldable pub decimal_len : List ℕ → ℕ
decimal_len bytes = mantissa_len bytes + exponent_len (drop (mantissa_len bytes) bytes)

unfoldable pub number_at : List ℕ → TokenKind × ℕ
number_at bytes =
    if nat_lt 0 (hex_len bytes) then (k.Int, hex_len bytes)
    else if prefix_len is_ascii_digit bytes == decimal_len bytes then (k.Int, decimal_len bytes)
    else (k.Real, decimal_len bytes)

unfoldable pub number_token : List ℕ → TokenKind × ℕ
number_token bytes =
    let n = number_at bytes in
    let tail = prefix_len is_more (drop n.1 bytes) in
    if tail == 0 then n else (k.Illegal, n.1 + tail)

-- ---- what is quoted

-- without U+0000
abbrev pub legal : List ℕ → TokenKind → TokenKind
legal bytes kind = if list_all (λ c. not (c == 0)) bytes then kind else k.Illegal

abbrev pub closed_token : TokenKind → List ℕ → Option ℕ → TokenKind × ℕ
closed_token kind bytes (Some n) = (legal (take n bytes) kind, 1 + n)
closed_token kind bytes None = (k.Open, 1 + length bytes)

unfoldable pub quoted_token : ℕ → TokenKind → List ℕ → TokenKind × ℕ
quoted_token quote kind bytes = closed_token kind bytes (closing quote false 0 bytes)

unfoldable pub bracketed_token : List ℕ → TokenKind × ℕ
bracketed_token bytes =
    let n = prefix_len (λ c. not (c == 93)) bytes in
    if nat_lt n (length bytes) then (legal (take (n + 1) bytes) k.Ident, n + 2) else (k.Open, 1 + length bytes)

unfoldable pub blob_token : List ℕ → TokenKind × ℕ
blob_token bytes =
    let n = prefix_len (λ c. not (c == 39)) bytes in
    if nat_lt n (length bytes)
    then ((if n % 2 == 0 && list_all is_ascii_hexdigit (take n bytes) then k.Blob else k.Illegal), n + 3)
    else (k.Open, 2 + length bytes)

-- ---- signs

unfoldable pub sign_token : List ℕ → TokenKind × ℕ
sign_token [] = (k.Illegal, 1)
sign_token (a ∷ []) = if is_sign a then (k.Op, 1) else (k.Illegal, 1)
sign_token (a ∷ b ∷ cs) = if is_pair a b then (k.Op, 2) else if is_sign a then (k.Op, 1) else (k.Illegal, 1)

-- ---- the token at the front

abbrev pub first_is : (ℕ → Bool) → List ℕ → Bool
first_is p [] = false
first_is p (c ∷ cs) = p c

unfoldable pub token_at : List ℕ → TokenKind × ℕ
token_at [] = (k.Illegal, 0)
token_at (c ∷ cs) =
    if c == 39 then quoted_token 39 k.Text cs
    else if c == 34 || c == 96 then quoted_token c k.Ident cs
    else if c == 91 then bracketed_token cs
    else if (c == 120 || c == 88) && first_is (λ q. q == 39) cs then blob_token (drop 1 cs)
    else if is_ascii_digit c || (c == 46 && first_is is_ascii_digit cs) then number_token (c ∷ cs)
    else if is_start c then (k.Ident, 1 + prefix_len is_more cs)
    else if c == 63 then (k.Param, 1 + prefix_len is_ascii_digit cs)
    else sign_token (c ∷ cs)

-- ---- the blank or comment at the front

unfoldable pub blank_len : List ℕ → ℕ
blank_len [] = 0
blank_len (a ∷ []) = if is_blank a then 1 else 0
blank_len (a ∷ b ∷ cs) =
    if a == 45 && b == 45 then 2 + prefix_len (λ c. not (c == 10)) cs
    else if a == 47 && b == 42 then 2 + comment_len false 0 cs
    else if is_blank a then 1
    else 0
