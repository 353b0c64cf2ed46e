-- One token further.
use Rattle.std.proofs.Common.{◌≡◌, ℕ, suc, ◌+◌, ◌<◌, max, List, [], ◌∷◌, ◌++◌, length, drop, get_or, refl, sym, ap, ◌∙◌, append_assoc}
use Rattle.std.specs.List.{scan}
use Rattle.std.proofs.lemmas.List.{drop_more}
use Rattle.cr_lex.specs.declared.token.Token.{Token}
use Rattle.cr_tree.specs.declared.symbol.Symbol.{Symbol}
use Rattle.cr_lex.specs.Symbols.{symbol_of, greatest_of, param_number, symbols_of}

pub one_more : (source : List ℕ) (found all : List Symbol) (tokens : List Token) (i : ℕ) (d : Token) (greatest next : ℕ) (s : Symbol) → i < length tokens
    → s ≡ symbol_of source greatest (get_or tokens i d) → next ≡ max greatest (param_number s)
    → found ++ scan (greatest_of source) (symbol_of source) greatest (drop i tokens) ≡ all
    → (found ++ s ∷ []) ++ scan (greatest_of source) (symbol_of source) next (drop (i + 1) tokens) ≡ all
unfolding greatest_of
one_more source found all tokens i d greatest next s lt is e h =
    let rest : ℕ → List Symbol = λ n. scan (greatest_of source) (symbol_of source) n (drop (i + 1) tokens) in
    let next_is : next ≡ max greatest (param_number (symbol_of source greatest (get_or tokens i d))) = e ∙ ap (λ (x : Symbol). max greatest (param_number x)) is in
    append_assoc found (s ∷ []) (rest next)
    ∙ ap (λ (x : Symbol). found ++ x ∷ rest next) is
    ∙ ap (λ (n : ℕ). found ++ symbol_of source greatest (get_or tokens i d) ∷ rest n) next_is
    ∙ ap (λ (l : List Token). found ++ scan (greatest_of source) (symbol_of source) greatest l) (sym (drop_more tokens i d lt))
    ∙ h

each : (source : List ℕ) (greatest : ℕ) (tokens : List Token) → length (scan (greatest_of source) (symbol_of source) greatest tokens) ≡ length tokens
each source greatest [] = refl
each source greatest (t ∷ ts) = ap suc (each source (greatest_of source greatest t) ts)

pub one_each : (source : List ℕ) (tokens : List Token) → length (symbols_of source tokens) ≡ length tokens
one_each source tokens = each source 0 tokens
