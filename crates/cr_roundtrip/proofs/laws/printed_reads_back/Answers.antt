use Rattle.std.proofs.Common.{◌≡◌, not, length, sym, ap, subst}
use Rattle.std.specs.List.{prefix_len}
use Rattle.cr_tree.specs.Judging.{IsRead}
use Rattle.cr_lex.specs.Symbols.{symbols_of}
use Rattle.cr_statement.specs.Statements as grammar
use Rattle.cr_statement.specs.Sql.{is_semicolon, statement_symbols, statement_tokens}
use Rattle.cr_print.specs.Layout as layout
use Rattle.cr_roundtrip.specs.Printed.{All}
use Rattle.cr_roundtrip.proofs.Back.{read_back}
use Rattle.cr_roundtrip.proofs.Known.{IsKnown, all_are_known}
use Rattle.cr_roundtrip.proofs.Seen.{front_seen}
use Rattle.cr_roundtrip.proofs.Ends.{whole}
use Rattle.cr_roundtrip.proofs.laws.printed_reads_back.Goals as goal

pub returns : goal.returns
returns c = λ source tokens x n h r found f.
    let b = read_back (statement_symbols source tokens) x (front_seen (prefix_len (λ t. not (is_semicolon source t)) tokens) source tokens h) r.0 found f in
    let all : statement_tokens (layout.statement x) found ≡ found = whole (layout.statement x) found (subst (All IsKnown) b.written (all_are_known b.what b.fitting)) in
    (subst (λ z. IsRead grammar.statement (symbols_of (layout.statement x) z) x) (sym all) b, ap length (sym all))
