-- Names and texts in quotes.
use Rattle.std.proofs.Common.{◌≡◌, inl, inr, ℕ, suc, ◌+◌, ◌==◌, Bool, true, false, not, List, [], ◌∷◌, ◌++◌, length, Some, refl, ap, ◌∙◌, append_assoc, arith}
use Rattle.std.specs.Str.{is_utf8, str_to_ascii_lowercase}
use Rattle.std.proofs.lemmas.List.{length-append}
use Rattle.cr_lex.specs.declared.token.TokenKind.{TokenKind}
use Rattle.cr_lex.specs.declared.token.TokenKind.TheVariants as t
use Rattle.cr_lex.specs.Tokens.{doubled, is_legal}
use Rattle.cr_lex.specs.Reading.{first_is, closing, legal, closed_token, quoted_token, token_at}
use Rattle.cr_lex.proofs.Parts.{told, both, same, take_front}
use Rattle.cr_tree.specs.declared.symbol.Symbol.TheVariants as k
use Rattle.cr_lex.specs.Symbols.{symbol}
use Rattle.cr_lex.proofs.Undoubling.{come_off}
use Rattle.cr_pieces.specs.Pieces.{IsPiece}
use Rattle.cr_pieces.specs.Known.{quoted, name, string}
use Rattle.cr_pieces.proofs.Follows.{stops, no_blank_at}

-- ---- where the quotes close

closed : (q n : ℕ) (rest : List ℕ) → first_is (λ c. c == q) rest ≡ false → closing q true n rest ≡ Some n
unfolding closing
closed q n [] e = refl
closed q n (c ∷ cs) e = rw e refl

closes : (q n : ℕ) (w rest : List ℕ) → first_is (λ c. c == q) rest ≡ false → closing q false n (doubled q w ++ q ∷ rest) ≡ Some (n + length (doubled q w) + 1)
unfolding closing doubled
closes q n [] rest e = rw (same q) (closed q (n + 1) rest e ∙ ap Some (omega arith))
closes q n (c ∷ cs) rest e = elim (told (c == q)) [
  | inl quote ↦ rw (quote, same q) (closes q (n + 1 + 1) cs rest e ∙ ap Some (omega arith))
  | inr other ↦ rw (other, other) (closes q (n + 1) cs rest e ∙ ap Some (omega arith))
]

legal_inside : (q : ℕ) (w : List ℕ) → (q == 0) ≡ false → is_legal w ≡ true → is_legal (doubled q w ++ q ∷ []) ≡ true
unfolding doubled
legal_inside q [] nq e = rw nq refl
legal_inside q (c ∷ cs) nq e =
    let parts = both (not (c == 0)) (is_legal cs) e in
    let more = legal_inside q cs nq parts.1 in
    elim (told (c == q)) [
      | inl quote ↦ rw (quote, nq) more
      | inr other ↦ rw (other, parts.0) more
    ]

quoted_is : (q : ℕ) (kind : TokenKind) (w rest : List ℕ) → (q == 0) ≡ false → is_legal w ≡ true → first_is (λ c. c == q) rest ≡ false
    → quoted_token q kind ((doubled q w ++ q ∷ []) ++ rest) ≡ (kind, length (quoted q w))
unfolding quoted_token
quoted_is q kind w rest nq e stop =
    let body = doubled q w ++ q ∷ [] in
    let long : 0 + length (doubled q w) + 1 ≡ length body = omega (arith, length-append (doubled q w) (q ∷ [])) in
    let end : closing q false 0 (body ++ rest) ≡ Some (length body) = ap (closing q false 0) (append_assoc (doubled q w) (q ∷ []) rest) ∙ closes q 0 w rest stop ∙ ap Some long in
    let one : 1 + length body ≡ suc (length body) = omega arith in
    ap (closed_token kind (body ++ rest)) end
    ∙ ap (λ (l : List ℕ). (legal l kind, 1 + length body)) (take_front body rest)
    ∙ rw (legal_inside q w nq e) (ap (λ (n : ℕ). (kind, n)) one)

-- ---- what is inside

name_is : (greatest : ℕ) (w : List ℕ) → is_utf8 w ≡ true → str_to_ascii_lowercase w ≡ w → symbol t.Ident greatest (quoted 34 w) ≡ k.Name w
name_is greatest w utf8 lower = rw (come_off 34 w) (rw lower (rw utf8 refl))

text_is : (greatest : ℕ) (w : List ℕ) → is_utf8 w ≡ true → symbol t.Text greatest (quoted 39 w) ≡ k.Text w
text_is greatest w utf8 = rw (come_off 39 w) (rw utf8 refl)

-- ---- the pieces

pub name_piece : (apart : Bool) (w : List ℕ) → is_utf8 w ≡ true → is_legal w ≡ true → str_to_ascii_lowercase w ≡ w → IsPiece (name apart w)
unfolding token_at
name_piece apart w utf8 clean lower = record {
  some = λ e. cc;
  no_blank = λ rest fits. no_blank_at 34 ((doubled 34 w ++ 34 ∷ []) ++ rest) refl;
  one_token = λ rest fits. quoted_is 34 t.Ident w rest refl clean (stops (λ c. c == 34) rest refl fits);
  one_symbol = λ greatest. name_is greatest w utf8 lower;
}

pub string_piece : (apart : Bool) (w : List ℕ) → is_utf8 w ≡ true → is_legal w ≡ true → IsPiece (string apart w)
unfolding token_at
string_piece apart w utf8 clean = record {
  some = λ e. cc;
  no_blank = λ rest fits. no_blank_at 39 ((doubled 39 w ++ 39 ∷ []) ++ rest) refl;
  one_token = λ rest fits. quoted_is 39 t.Text w rest refl clean (stops (λ c. c == 39) rest refl fits);
  one_symbol = λ greatest. text_is greatest w utf8;
}
