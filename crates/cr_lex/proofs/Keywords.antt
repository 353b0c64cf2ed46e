-- A word with a mark, or outside of the grammar, is no name.
use Rattle.std.proofs.Common.{◌≡◌, ℕ, Bool, true, false, ◌||◌, ◌&&◌, not, List, Option, Some, None, if◌then◌else◌, refl, ap, ◌∙◌}
use Rattle.std.specs.Prelude.{is_some}
use Rattle.std.specs.Option.{option_map_or}
use Rattle.std.specs.Str.{is_utf8, str_to_ascii_lowercase}
use Rattle.cr_tree.specs.declared.symbol.Mark.{Mark}
use Rattle.cr_tree.specs.declared.symbol.Symbol.{Symbol}
use Rattle.cr_tree.specs.declared.symbol.Symbol.TheVariants as k
use Rattle.cr_tree.specs.Reading.{is_name}
use Rattle.cr_lex.specs.Marks.{marked, words, outside_word, is_keyword}
use Rattle.cr_lex.specs.Laws.{KeywordsAreNoNames}
use Rattle.cr_lex.specs.Symbols.{name_symbol}

by_both : (m : Option Mark) (o : Option (List ℕ)) (s : Symbol) → is_name (option_map_or k.Mark m (option_map_or (λ _. k.Other) o s)) ≡ (not (is_some m || is_some o) && is_name s)
by_both (Some x) o s = refl
by_both None (Some y) s = refl
by_both None None s = refl

if_text : (b : Bool) (w : List ℕ) → is_name (option_map_or k.Name (if b then Some w else None) k.Other) ≡ b
if_text true w = refl
if_text false w = refl

pub keywords : KeywordsAreNoNames
keywords w =
    by_both (marked words w) (outside_word w) (name_symbol w)
    ∙ ap (λ (b : Bool). not (is_keyword w) && b) (if_text (is_utf8 (str_to_ascii_lowercase w)) (str_to_ascii_lowercase w))
