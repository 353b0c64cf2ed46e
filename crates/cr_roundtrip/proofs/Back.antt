-- A statement's layout is a statement with the same tree, token by token.
use Rattle.std.proofs.Common.{◌≡◌, ℕ, false, List, [], refl, sym, ◌∙◌, ap, subst}
use Rattle.std.proofs.lemmas.List.{append-nil}
use Rattle.cr_lex.specs.declared.token.Token.{Token}
use Rattle.cr_lex.specs.Tokens.{IsTokens}
use Rattle.cr_tree.specs.declared.symbol.Symbol.{Symbol}
use Rattle.cr_tree.specs.Judging.{IsRead}
use Rattle.cr_lex.specs.Symbols.{symbols_of}
use Rattle.cr_tree.specs.declared.statement.Statement.{Statement}
use Rattle.cr_statement.specs.Statements as grammar
use Rattle.cr_pieces.specs.Pieces.{Piece, text, symbols, AreWritten}
use Rattle.cr_pieces.proofs.Written.{read_one_way}
use Rattle.cr_print.specs.Expressions as expressions
use Rattle.cr_print.specs.Layout as layout
use Rattle.cr_tree.specs.Grammar.{Phrase, IsProper, spelled, tree}
use Rattle.cr_roundtrip.specs.Printed.{printed, All, IsSeen}
use Rattle.cr_roundtrip.proofs.Laid.{expression_laid}
use Rattle.cr_roundtrip.proofs.Again.{again, again_read}
use Rattle.cr_roundtrip.proofs.Layouts.{statement_printed}

-- The text is written token by token, and these are their symbols.
record IsWrittenAs (t : List ℕ) (words : List Symbol) : Type 0 where
  pub with : List Piece
  pub are : AreWritten with
  pub spells : symbols with ≡ words
  pub reads : text with ≡ t

-- A statement's layout, with symbols that are read as it.
record IsWrittenBack (x : Statement) : Type 0 where
  pub words : List Symbol
  pub read : IsRead grammar.statement words x
  pub written : IsWrittenAs (layout.statement x) words

written_back : (ts : List Symbol) (x : Statement) → All IsSeen ts → IsRead grammar.statement ts x → IsWrittenBack x
written_back ts x a r =
    let l = statement_printed.laid false r.what r.fitting (subst (All IsSeen) (sym r.written) a) in
    record {
      words = again r.what;
      read = again_read ts x a r;
      written = record { with = l.with; are = subst AreWritten (append-nil l.with) (l.chains [] refl tt); spells = l.spells; reads = l.reads ∙ ap layout.statement r.means };
    }

symbols_so : (t : List ℕ) (words : List Symbol) → IsWrittenAs t words → (found : List Token) → IsTokens t 0 found → symbols_of t found ≡ words
symbols_so t words w found h =
    ap (λ z. symbols_of z found) (sym w.reads) ∙ ((read_one_way w.with w.are found (subst (λ z. IsTokens z 0 found) (sym w.reads) h)).1 ∙ w.spells)

-- so is an expression's
pub expression_spelled : (p : Phrase) → IsProper p → All IsSeen (spelled p) → (found : List Token) → IsTokens (expressions.expr (tree p)) 0 found → symbols_of (expressions.expr (tree p)) found ≡ spelled (printed p)
expression_spelled p i a found h =
    let l = expression_laid false p i a in
    symbols_so (expressions.expr (tree p)) (spelled (printed p)) (record { with = l.with; are = subst AreWritten (append-nil l.with) (l.chains [] refl tt); spells = l.spells; reads = l.reads }) found h

pub read_back : (ts : List Symbol) (x : Statement) → All IsSeen ts → IsRead grammar.statement ts x → (found : List Token) → IsTokens (layout.statement x) 0 found → IsRead grammar.statement (symbols_of (layout.statement x) found) x
read_back ts x a r found h =
    let w = written_back ts x a r in
    subst (λ z. IsRead grammar.statement z x) (sym (symbols_so (layout.statement x) w.words w.written found h)) w.read
