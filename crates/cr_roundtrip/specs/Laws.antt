-- Laws of what is printed. Source: this project's own.
use Rattle.std.specs.Prelude.{◌≡◌, ℕ, suc, ◌*◌, ◌≤◌, List, length}
use Rattle.cr_lex.specs.declared.token.Token.{Token}
use Rattle.cr_lex.specs.Symbols.{symbols_of}
use Rattle.cr_lex.specs.Tokens.{IsTokens}
use Rattle.cr_tree.specs.declared.limits.TheConstants.{LIMITS}
use Rattle.cr_tree.specs.Language.{IsWithin}
use Rattle.cr_tree.specs.Grammar.{Phrase, spelled, tree, IsProper, height, opened, most_commas}
use Rattle.cr_tree.specs.declared.statement.Statement.{Statement}
use Rattle.cr_statement.specs.Sql.{IsStatement}
use Rattle.cr_print.specs.Expressions as expressions
use Rattle.cr_print.specs.Layout as layout
use Rattle.cr_roundtrip.specs.Printed.{printed, All, IsSeen}

-- The printed phrase is a phrase with the same tree, as high, with parentheses by its height and the same commas in calls.
abbrev pub PrintedIsPhrase : Type 0
PrintedIsPhrase = (p : Phrase) → IsProper p → All IsSeen (spelled p) → (tree (printed p) ≡ tree p) × (IsProper (printed p) × ((height (printed p) ≡ height p) × ((opened (printed p) ≤ suc (2 * height p)) × (most_commas (printed p) ≡ most_commas p))))

-- The text that an expression is printed as is spelled as that phrase, whatever tokens it has.
abbrev pub PrintedIsSpelled : Type 0
PrintedIsSpelled = (p : Phrase) → IsProper p → All IsSeen (spelled p)
    → (found : List Token) → IsTokens (expressions.expr (tree p)) 0 found → symbols_of (expressions.expr (tree p)) found ≡ spelled (printed p)

-- It is within the limits where the phrase is.
abbrev pub PrintedIsWithin : Type 0
PrintedIsWithin = (p : Phrase) → IsWithin LIMITS p → All IsSeen (spelled p) → IsWithin LIMITS (printed p)

-- The text that a statement of a source is printed as reads back: whatever tokens it has, they are one statement to
-- their end, with the same tree.
abbrev pub PrintedReadsBack : Type 0
PrintedReadsBack = (source : List ℕ) (tokens : List Token) (x : Statement) (n : ℕ) → IsTokens source 0 tokens → IsStatement source tokens x n
    → (found : List Token) → IsTokens (layout.statement x) 0 found → IsStatement (layout.statement x) found x (length found)
