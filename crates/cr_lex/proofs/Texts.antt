-- Bytes as a text.
use Rattle.std.proofs.Common.{◌≡◌, ℕ, List, Some, None, refl, sym}
use Rattle.std.specs.Str.{IsUtf8}
use Rattle.std.proofs.lemmas.Str.{is_utf8-from_IsUtf8}
use Rattle.cr_value.proofs.Texts.{not_utf8}
use Rattle.cr_lex.specs.Symbols.{text_of}

pub text_is : (text w : List ℕ) → text ≡ w → IsUtf8 text → Some text ≡ text_of w
text_is text w e utf8 = rw (sym e) (rw (is_utf8-from_IsUtf8 text utf8) refl)

pub text_none : (w : List ℕ) → ¬ (IsUtf8 w) → None ≡ text_of w
text_none w h = rw (not_utf8 w h) refl
