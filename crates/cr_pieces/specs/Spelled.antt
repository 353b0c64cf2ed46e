-- Texts by the symbols that they spell. Source: this project's own.
use Rattle.std.specs.Prelude.{◌≡◌, ℕ, Bool, false, List, ◌∷◌, IsTrue}
use Rattle.cr_tree.specs.declared.symbol.Symbol.{Symbol}
use Rattle.cr_pieces.specs.Pieces.{Piece, text, symbols, may_follow, may_end, AreWritten}

-- The bytes are one token or more with these symbols and no space before the first, and a byte that passes may follow.
pub record Spells (bytes : List ℕ) (found : List Symbol) (next : ℕ → Bool) : Type 0 where
  pub first : Piece
  pub more : List Piece
  pub close : first.apart ≡ false
  pub are : AreWritten (first ∷ more)
  pub bytes_are : text (first ∷ more) ≡ bytes
  pub symbols_are : symbols (first ∷ more) ≡ found
  pub ends : (rest : List ℕ) → IsTrue (may_follow next rest) → IsTrue (may_end (first ∷ more) rest)
