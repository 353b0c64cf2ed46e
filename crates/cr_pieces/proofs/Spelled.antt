-- A text that spells symbols, part by part.
use Rattle.std.proofs.Common.{◌≡◌, ℕ, Bool, true, false, ◌||◌, ◌==◌, List, [], ◌∷◌, ◌++◌, refl, sym, ap, subst, ◌∙◌, append-nil}
use Rattle.std.specs.Prelude.{IsTrue}
use Rattle.cr_lex.specs.declared.token.Token.{Token}
use Rattle.cr_lex.specs.Tokens.{IsTokens}
use Rattle.cr_tree.specs.declared.symbol.Symbol.{Symbol}
use Rattle.cr_lex.specs.Symbols.{symbols_of}
use Rattle.cr_pieces.specs.Pieces.{Piece, text, symbols, may_follow, IsPiece, may_end}
use Rattle.cr_pieces.specs.Spelled.{Spells}
use Rattle.cr_pieces.proofs.Written.{read_one_way, text_joined, symbols_joined, written_joined, may_end_joined, spaced_is, spaced_ends}

-- ---- parts

-- one token
pub spells_piece : (p : Piece) → p.apart ≡ false → IsPiece p → Spells p.bytes (p.symbol ∷ []) p.next
spells_piece p close is = record {
  first = p;
  more = [];
  close = close;
  are = (is, refl, tt);
  bytes_are = rw close (append-nil p.bytes);
  symbols_are = refl;
  ends = λ rest fits. fits;
}

-- right behind one another
pub spells_joined : {a b : List ℕ} {f g : List Symbol} {n m : ℕ → Bool} → Spells a f n → Spells b g m → IsTrue (may_follow n b) → Spells (a ++ b) (f ++ g) m
spells_joined {a = a} {f = f} {n = n} x y fits =
    let ps = x.first ∷ x.more in
    let qs = y.first ∷ y.more in
    let fits_here : may_follow n (text qs) ≡ true = ap (may_follow n) y.bytes_are ∙ fits in
    record {
      first = x.first;
      more = x.more ++ qs;
      close = x.close;
      are = written_joined ps qs x.are y.are (x.ends (text qs) fits_here);
      bytes_are = text_joined ps qs ∙ ap (λ (t : List ℕ). t ++ text qs) x.bytes_are ∙ ap (λ (t : List ℕ). a ++ t) y.bytes_are;
      symbols_are = symbols_joined ps qs ∙ ap (λ (s : List Symbol). s ++ symbols qs) x.symbols_are ∙ ap (λ (s : List Symbol). f ++ s) y.symbols_are;
      ends = λ rest h. may_end_joined ps y.first y.more rest ∙ y.ends rest h;
    }

same_end : (p : Piece) (ps : List Piece) (rest : List ℕ) → may_end (record p { apart = true } ∷ ps) rest ≡ may_end (p ∷ ps) rest
same_end p [] rest = refl
same_end p (q ∷ ps) rest = refl

-- with a space between them
pub spells_apart : {a b : List ℕ} {f g : List Symbol} {n m : ℕ → Bool} → Spells a f n → Spells b g m → Spells (a ++ 32 ∷ b) (f ++ g) m
spells_apart {a = a} {b = b} {f = f} x y =
    let ps = x.first ∷ x.more in
    let behind : Piece = record y.first { apart = true } in
    let qs = behind ∷ y.more in
    let bytes : y.first.bytes ++ text y.more ≡ b = rw y.close at y.bytes_are in
    record {
      first = x.first;
      more = x.more ++ qs;
      close = x.close;
      are = written_joined ps qs x.are (spaced_is y.first y.are.0, y.are.1, y.are.2) (spaced_ends ps (y.first ∷ y.more));
      bytes_are = text_joined ps qs ∙ ap (λ (t : List ℕ). t ++ text qs) x.bytes_are ∙ ap (λ (t : List ℕ). a ++ 32 ∷ t) bytes;
      symbols_are = symbols_joined ps qs ∙ ap (λ (s : List Symbol). s ++ symbols qs) x.symbols_are ∙ ap (λ (s : List Symbol). f ++ s) y.symbols_are;
      ends = λ rest h. may_end_joined ps behind y.more rest ∙ same_end y.first y.more rest ∙ y.ends rest h;
    }

follows_less : (n m : ℕ → Bool) → ((c : ℕ) → m c ≡ true → n c ≡ true) → (rest : List ℕ) → may_follow m rest ≡ true → may_follow n rest ≡ true
follows_less n m less [] h = refl
follows_less n m less (c ∷ cs) h = at (c == 32) (m c) (n c) (less c) h
  where
    at : (space fewer more : Bool) → (fewer ≡ true → more ≡ true) → (space || fewer) ≡ true → (space || more) ≡ true
    at true fewer more f e = refl
    at false fewer more f e = f e

-- before fewer bytes
pub spells_before : {a : List ℕ} {f : List Symbol} {n : ℕ → Bool} (m : ℕ → Bool) → ((c : ℕ) → m c ≡ true → n c ≡ true) → Spells a f n → Spells a f m
spells_before {n = n} m less x = record {
  first = x.first;
  more = x.more;
  close = x.close;
  are = x.are;
  bytes_are = x.bytes_are;
  symbols_are = x.symbols_are;
  ends = λ rest h. x.ends rest (follows_less n m less rest h);
}

-- ---- read

pub spelled_is_read : (bytes : List ℕ) (found : List Symbol) (next : ℕ → Bool) → Spells bytes found next → (ts : List Token) → IsTokens bytes 0 ts → symbols_of bytes ts ≡ found
spelled_is_read bytes found next x ts h =
    let ps = x.first ∷ x.more in
    let here = subst (λ (t : List ℕ). IsTokens t 0 ts) (sym x.bytes_are) h in
    ap (λ (t : List ℕ). symbols_of t ts) (sym x.bytes_are) ∙ (read_one_way ps x.are ts here).1 ∙ x.symbols_are
