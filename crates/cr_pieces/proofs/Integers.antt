-- Integers, which are numbers or numbers behind a minus.
use Rattle.std.proofs.Common.{◌≡◌, ℕ, suc, ◌^◌, ◌<◌, ◌≤◌, true, false, List, [], ◌∷◌, refl, arith}
use Rattle.std.specs.Prelude.{ℤ, pos, negsuc, FitsSigned}
use Rattle.std.specs.Int.{w64}
use Rattle.std.specs.List.{list_all}
use Rattle.std.specs.Char.{is_ascii_digit}
use Rattle.std.specs.Fmt.{decimal, signed_decimal}
use Rattle.cr_lex.proofs.Parts.{both, other_than}
use Rattle.cr_tree.specs.declared.symbol.Mark.TheVariants as m
use Rattle.cr_lex.specs.Marks.{signs}
use Rattle.cr_pieces.specs.Pieces.{may_follow}
use Rattle.cr_pieces.specs.Spelled.{Spells}
use Rattle.cr_pieces.specs.Known.{sign, number, after_sign, after_number, integer}
use Rattle.cr_pieces.proofs.Signs.{sign_piece}
use Rattle.cr_pieces.proofs.Digits.{Digits, decimal_digits, number_piece}
use Rattle.cr_pieces.proofs.Spelled.{spells_piece, spells_joined}

digits_follow : (w : List ℕ) → Digits w → may_follow (after_sign (45 ∷ [])) w ≡ true
digits_follow [] d = absurd (d.some refl)
digits_follow (c ∷ cs) d =
    let e = (both (is_ascii_digit c) (list_all is_ascii_digit cs) d.each).0 in
    rw (other_than is_ascii_digit c 32 e refl, other_than is_ascii_digit c 45 e refl) refl

pub spells_integer : (z : ℤ) → FitsSigned w64 z → Spells (signed_decimal z) (integer z) after_number
unfolding signs
spells_integer (pos n) h = let le : n ≤ 9223372036854775808 = omega (arith, h.sfits) in spells_piece (number false n) refl (number_piece false n le)
spells_integer (negsuc n) h =
    let le : suc n ≤ 9223372036854775808 = omega (arith, h.sfits) in
    let fits : suc n < 2 ^ 64 = omega (arith, le) in
    let minus = sign false (45 ∷ []) m.Minus in
    spells_joined
    (spells_piece minus refl (sign_piece false (45 ∷ []) m.Minus refl))
    (spells_piece (number false (suc n)) refl (number_piece false (suc n) le))
    (digits_follow (decimal (suc n)) (decimal_digits (suc n) fits))
