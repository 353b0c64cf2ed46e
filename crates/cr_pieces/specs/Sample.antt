-- A known text, token by token. Source: this project's own.
use Rattle.std.specs.Prelude.{true, false, List, [], ◌∷◌, codes}
use Rattle.cr_tree.specs.declared.symbol.Mark.TheVariants as m
use Rattle.cr_pieces.specs.Pieces.{Piece}
use Rattle.cr_pieces.specs.Known.{name, string, blob, word, sign, number, param}

unfoldable pub sample : List Piece
sample =
    word false (codes "SELECT") m.Select
    ∷ name true (codes "a\"b")
    ∷ sign false (codes ",") m.Comma
    ∷ string true (codes "it's")
    ∷ sign false (codes ",") m.Comma
    ∷ blob true (10 ∷ 255 ∷ [])
    ∷ sign false (codes ",") m.Comma
    ∷ sign true (codes "-") m.Minus
    ∷ number false 10
    ∷ word true (codes "WHERE") m.Where
    ∷ name true (codes "t")
    ∷ sign false (codes ".") m.Dot
    ∷ name false (codes "c")
    ∷ sign true (codes "<=") m.AtMost
    ∷ param true 7
    ∷ []
