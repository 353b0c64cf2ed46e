-- The tokens of a printed statement are one statement to its end.
use Rattle.std.proofs.Common.{◌≡◌, ℕ, Bool, true, false, not, ◌&&◌, List, [], ◌∷◌, length, take, refl, ◌∙◌, ap, subst, codes, bytes_eq, arith}
use Rattle.std.specs.List.{scan, prefix_len}
use Rattle.std.proofs.lemmas.Slice.Eq.{bytes_eq-Decides}
use Rattle.cr_lex.specs.declared.token.Token.{Token}
use Rattle.cr_lex.specs.declared.token.TokenKind.{TokenKind}
use Rattle.cr_lex.specs.declared.token.TokenKind.TheVariants as t
use Rattle.cr_lex.specs.Marks.{signs}
use Rattle.cr_lex.specs.Spelling.{spelling}
use Rattle.cr_lex.specs.Outside.{is_op}
use Rattle.cr_lex.specs.Symbols.{sign_symbol, symbol, symbol_of, greatest_of, symbols_of}
use Rattle.cr_statement.specs.Sql.{is_semicolon, statement_tokens}
use Rattle.cr_roundtrip.specs.Printed.{All}
use Rattle.cr_roundtrip.proofs.Known.{IsKnown}

bytes_eq-is : (xs ys : List ℕ) → bytes_eq xs ys ≡ true → xs ≡ ys
bytes_eq-is xs ys e = (bytes_eq-Decides xs ys).0 e

all_taken : {A : Type 0} (xs : List A) → take (length xs) xs ≡ xs
all_taken [] = refl
all_taken (x ∷ xs) = ap (λ z. x ∷ z) (all_taken xs)

semicolon_unknown : (w : List ℕ) → bytes_eq w (codes ";") ≡ true → IsKnown (sign_symbol w) → ⊥
unfolding signs
semicolon_unknown w e h = subst (λ z. IsKnown (sign_symbol z)) (bytes_eq-is w (codes ";") e) h

token_goes_on : (source : List ℕ) (g : ℕ) (token : Token) → IsKnown (symbol_of source g token) → is_semicolon source token ≡ false
unfolding symbol_of
token_goes_on source g token h = by token.kind (bytes_eq (spelling source token) (codes ";")) refl h
  where
    by : (kind : TokenKind) (b : Bool) → bytes_eq (spelling source token) (codes ";") ≡ b → IsKnown (symbol kind g (spelling source token)) → (is_op kind && b) ≡ false
    by t.Op true e h = absurd (semicolon_unknown (spelling source token) e h)
    by t.Op false e h = refl
    by t.Ident b e h = refl
    by t.Int b e h = refl
    by t.Real b e h = refl
    by t.Text b e h = refl
    by t.Blob b e h = refl
    by t.Param b e h = refl
    by t.Open b e h = refl
    by t.Illegal b e h = refl

goes_on : (source : List ℕ) (g : ℕ) (tokens : List Token) → All IsKnown (scan (greatest_of source) (symbol_of source) g tokens) → prefix_len (λ t. not (is_semicolon source t)) tokens ≡ length tokens
goes_on source g [] h = refl
goes_on source g (token ∷ tokens) h = rw (token_goes_on source g token h.0) (omega (arith, goes_on source (greatest_of source g token) tokens h.1))

pub whole : (source : List ℕ) (tokens : List Token) → All IsKnown (symbols_of source tokens) → statement_tokens source tokens ≡ tokens
whole source tokens h = ap (λ n. take n tokens) (goes_on source 0 tokens h) ∙ all_taken tokens
