-- Parts of statements as they are written, and how they are put together.
use Rattle.std.proofs.Common.{◌≡◌, ℕ, Bool, true, false, List, [], ◌∷◌, ◌++◌, map, Option, Some, None, refl, ◌∙◌, ap, subst, append_assoc, codes}
use Rattle.std.proofs.lemmas.List.{append-nil}
use Rattle.cr_tree.specs.declared.limits.Limits.{Limits}
use Rattle.cr_tree.specs.declared.limits.TheConstants.{LIMITS}
use Rattle.cr_tree.specs.declared.symbol.Mark.{Mark}
use Rattle.cr_tree.specs.declared.symbol.Mark.TheVariants as m
use Rattle.cr_tree.specs.declared.symbol.Symbol.{Symbol}
use Rattle.cr_tree.specs.declared.symbol.Symbol.TheVariants as k
use Rattle.cr_tree.specs.Grammar.{Phrase, IsProper, spelled, tree}
use Rattle.cr_tree.specs.Language.{Language, expr}
use Rattle.cr_lex.specs.Marks.{marked, words, signs}
use Rattle.cr_statement.specs.Languages.{◌◁◌, ◌▷◌, ◌⊗◌, ◌⟨$⟩◌, ◌∣◌, Either, One, Other, either_fits, by_either, option_fits, option_words, option_value, all_fit, all_words, maybe, many, up_to, commas, mark, name}
use Rattle.cr_pieces.specs.Pieces.{Piece, text, symbols}
use Rattle.cr_pieces.specs.Known.{word, sign}
use Rattle.cr_pieces.specs.Known as piece
use Rattle.cr_pieces.proofs.Written.{text_joined, symbols_joined}
use Rattle.cr_pieces.proofs.Words.{word_piece}
use Rattle.cr_pieces.proofs.Signs.{sign_piece}
use Rattle.cr_pieces.proofs.Follows.{all_follow}
use Rattle.cr_print.specs.Pieces.{in_row, listed}
use Rattle.cr_print.specs.Pieces as layout
use Rattle.cr_print.specs.Expressions as expressions
use Rattle.cr_roundtrip.specs.Printed.{printed, All, IsSeen}
use Rattle.cr_roundtrip.proofs.Printed.{front, back, seen}
use Rattle.cr_roundtrip.proofs.Written.{opening, closing, comma, pieces, have}
use Rattle.cr_roundtrip.proofs.Texts.{gap, texts}
use Rattle.cr_roundtrip.proofs.Chain.{calm, calm_follows, Chains, chain, within, named, joined}
use Rattle.cr_roundtrip.proofs.Rewriting.{Rewrites, kept, expression, mapped, behind, before, pair, option, several, either}
use Rattle.cr_roundtrip.proofs.Rewriting as rewriting

-- ---- symbols as they are written

-- behind a space or not
pub record Laid (b : Bool) (ws : List Symbol) (t : List ℕ) : Type 0 where
  pub with : List Piece
  pub spells : symbols with ≡ ws
  pub reads : text with ≡ gap b ++ t
  pub chains : Chains with

-- what may be nothing, and else stands where something else ends
pub record Tail (ws : List Symbol) (t : List ℕ) : Type 0 where
  pub with : List Piece
  pub spells : symbols with ≡ ws
  pub reads : text with ≡ t
  pub chains : Chains with
  pub calms : (qs : List Piece) → calm (text qs) ≡ true → calm (text (with ++ qs)) ≡ true

pub laid_as : {b : Bool} {ws : List Symbol} {t u : List ℕ} → t ≡ u → Laid b ws t → Laid b ws u
laid_as {b} {ws} e l = subst (Laid b ws) e l

pub tail_as : {ws : List Symbol} {t u : List ℕ} → t ≡ u → Tail ws t → Tail ws u
tail_as {ws} e l = subst (Tail ws) e l

led : (b : Bool) (p : List ℕ) → text (word b p m.All ∷ []) ≡ gap b ++ p
led true p = ap (λ z. 32 ∷ z) (append-nil p)
led false p = append-nil p

pub laid_word : (b : Bool) (w : List ℕ) (x : Mark) → marked words w ≡ Some x → Laid b (k.Mark x ∷ []) w
laid_word b w x e = record { with = word b w x ∷ []; spells = refl; reads = led b w; chains = λ qs c v. (word_piece b w x e, calm_follows (word b w x).next refl refl (text qs) c, v) }

pub laid_sign : (b : Bool) (w : List ℕ) (x : Mark) → marked signs w ≡ Some x → (sign b w x).next 41 ≡ true → (sign b w x).next 44 ≡ true → Laid b (k.Mark x ∷ []) w
laid_sign b w x e h i = record { with = sign b w x ∷ []; spells = refl; reads = led b w; chains = λ qs c v. (sign_piece b w x e, calm_follows (sign b w x).next h i (text qs) c, v) }

pub laid_name : (b : Bool) (n : List ℕ) → IsSeen (k.Name n) → Laid b (k.Name n ∷ []) (layout.name n)
laid_name b n a = record { with = piece.name b n ∷ []; spells = refl; reads = led b (layout.name n); chains = λ qs c v. (named b n a, calm_follows (piece.name b n).next refl refl (text qs) c, v) }

-- behind a space it is where something else ends
pub apart : {ws : List Symbol} {t : List ℕ} → Laid true ws t → Tail ws (32 ∷ t)
apart {ws} {t} l = record { with = l.with; spells = l.spells; reads = l.reads; chains = l.chains; calms = λ qs c. ap calm (text_joined l.with qs ∙ ap (λ z. z ++ text qs) l.reads) }

pub nothing_there : Tail [] []
nothing_there = record { with = []; spells = refl; reads = refl; chains = λ qs c v. v; calms = λ qs c. c }

both_chain : (ps rs : List Piece) → Chains ps → Chains rs → ((qs : List Piece) → calm (text qs) ≡ true → calm (text (rs ++ qs)) ≡ true) → Chains (ps ++ rs)
both_chain ps rs a b h qs c v = joined ps rs qs (a (rs ++ qs) (h qs c) (b qs c v))

both_spell : {xs ys : List Symbol} (ps rs : List Piece) → symbols ps ≡ xs → symbols rs ≡ ys → symbols (ps ++ rs) ≡ xs ++ ys
both_spell {xs} ps rs h i = symbols_joined ps rs ∙ (ap (λ z. z ++ symbols rs) h ∙ ap (λ z. xs ++ z) i)

pub then_tail : {b : Bool} {ws vs : List Symbol} {t u : List ℕ} → Laid b ws t → Tail vs u → Laid b (ws ++ vs) (t ++ u)
then_tail {b} {ws} {vs} {t} {u} l r = record {
  with = l.with ++ r.with;
  spells = both_spell l.with r.with l.spells r.spells;
  reads = text_joined l.with r.with ∙ (ap (λ z. z ++ text r.with) l.reads ∙ (ap (λ z. (gap b ++ t) ++ z) r.reads ∙ append_assoc (gap b) t u));
  chains = both_chain l.with r.with l.chains r.chains r.calms;
}

pub tails : {ws vs : List Symbol} {t u : List ℕ} → Tail ws t → Tail vs u → Tail (ws ++ vs) (t ++ u)
tails {ws} {vs} {t} {u} l r = record {
  with = l.with ++ r.with;
  spells = both_spell l.with r.with l.spells r.spells;
  reads = text_joined l.with r.with ∙ (ap (λ z. z ++ text r.with) l.reads ∙ ap (λ z. t ++ z) r.reads);
  chains = both_chain l.with r.with l.chains r.chains r.calms;
  calms = λ qs c. ap (λ z. calm (text z)) (append_assoc l.with r.with qs) ∙ l.calms (r.with ++ qs) (r.calms qs c);
}

-- a comma, and what stands behind a space
pub behind_comma : {ws : List Symbol} {t : List ℕ} → Laid true ws t → Tail (k.Mark m.Comma ∷ ws) (codes ", " ++ t)
unfolding signs
behind_comma {ws} {t} l = record {
  with = comma ∷ l.with;
  spells = ap (λ z. k.Mark m.Comma ∷ z) l.spells;
  reads = ap (λ z. 44 ∷ z) l.reads;
  chains = λ qs c v. (sign_piece false (codes ",") m.Comma refl, all_follow (piece.after_sign (codes ",")) (λ c. refl) (text (l.with ++ qs)), l.chains qs c v);
  calms = λ qs c. refl;
}

opened_text : (b : Bool) (rest : List ℕ) → text (opening b ∷ []) ++ rest ≡ gap b ++ (codes "(" ++ rest)
opened_text true rest = refl
opened_text false rest = refl

-- in parentheses
pub in_parentheses : {ws : List Symbol} {t : List ℕ} (b : Bool) → Laid false ws t → Laid b (k.Mark m.Open ∷ ws ++ k.Mark m.Close ∷ []) (codes "(" ++ t ++ codes ")")
in_parentheses {ws} {t} b l = record {
  with = opening b ∷ l.with ++ closing ∷ [];
  spells = ap (λ z. k.Mark m.Open ∷ z) (both_spell l.with (closing ∷ []) l.spells refl);
  reads = inside b;
  chains = within b l.with l.chains;
}
  where
    inner : text (l.with ++ closing ∷ []) ≡ t ++ codes ")"
    inner = text_joined l.with (closing ∷ []) ∙ ap (λ z. z ++ codes ")") l.reads

    inside : (b : Bool) → text (opening b ∷ l.with ++ closing ∷ []) ≡ gap b ++ (codes "(" ++ t ++ codes ")")
    inside true = ap (λ z. 32 ∷ 40 ∷ z) inner
    inside false = ap (λ z. 40 ∷ z) inner

-- ---- languages

-- each derivation is laid out so
pub record Prints {A : Type 0} (L : Language A) (p : Rewrites L) (f : A → List ℕ) : Type 0 where
  pub laid : (b : Bool) (d : L.D) → L.fits LIMITS d → All IsSeen (L.words d) → Laid b (L.words (p.to d)) (f (L.value d))

pub record PrintsTail {A : Type 0} (L : Language A) (p : Rewrites L) (f : A → List ℕ) : Type 0 where
  pub tail : (d : L.D) → L.fits LIMITS d → All IsSeen (L.words d) → Tail (L.words (p.to d)) (f (L.value d))

pub expression_laid : (b : Bool) (p : Phrase) → IsProper p → All IsSeen (spelled p) → Laid b (spelled (printed p)) (expressions.expr (tree p))
expression_laid b p i a = record { with = pieces b (printed p); spells = have b p i; reads = texts b p i; chains = chain b p i (seen p i a) }

pub expression_printed : Prints expr expression expressions.expr
expression_printed = record { laid = λ b d i a. expression_laid b d i.proper a }

pub name_printed : Prints name (kept name) layout.name
name_printed = record { laid = λ b d i a. laid_name b d a.0 }

-- a mark alone
pub mark_printed : {A : Type 0} (x : Mark) (v : A) (w : List ℕ) → marked words w ≡ Some x → (f : A → List ℕ) → w ≡ f v → Prints (mark x v) (kept (mark x v)) f
mark_printed x v w e f h = record { laid = λ b d i a. laid_as h (laid_word b w x e) }

module _ {A : Type 0} {L : Language A} {p : Rewrites L} {f : A → List ℕ} where
  -- as another layout of what it is made of
  pub mapped_printed : {B : Type 0} (h : A → B) (g : B → List ℕ) → ((x : A) → f x ≡ g (h x)) → Prints L p f → Prints (h ⟨$⟩ L) (mapped h p) g
  mapped_printed h g e q = record { laid = λ b d i a. laid_as (e (L.value d)) (q.laid b d i a) }

  pub mapped_tail : {B : Type 0} (h : A → B) (g : B → List ℕ) → ((x : A) → f x ≡ g (h x)) → PrintsTail L p f → PrintsTail (h ⟨$⟩ L) (mapped h p) g
  mapped_tail h g e q = record { tail = λ d i a. tail_as (e (L.value d)) (q.tail d i a) }

  pub word_before : (x : Mark) (w : List ℕ) → marked words w ≡ Some x → Prints L p f → Prints (x ◁ L) (behind x p) (λ a. w ++ 32 ∷ f a)
  word_before x w e q = record { laid = λ b d i a. then_tail (laid_word b w x e) (apart (q.laid true d i a.1)) }

  pub sign_before : (x : Mark) (w : List ℕ) → marked signs w ≡ Some x → ((b : Bool) → (sign b w x).next 41 ≡ true) → ((b : Bool) → (sign b w x).next 44 ≡ true) → Prints L p f → Prints (x ◁ L) (behind x p) (λ a. w ++ 32 ∷ f a)
  sign_before x w e h i q = record { laid = λ b d j a. then_tail (laid_sign b w x e (h b) (i b)) (apart (q.laid true d j a.1)) }

  pub comma_before : Prints L p f → PrintsTail (m.Comma ◁ L) (behind m.Comma p) (λ a. codes ", " ++ f a)
  comma_before q = record { tail = λ d i a. behind_comma (q.laid true d i a.1) }

  pub apart_printed : Prints L p f → PrintsTail L p (λ a. 32 ∷ f a)
  apart_printed q = record { tail = λ d i a. apart (q.laid true d i a) }

  pub in_parentheses_printed : Prints L p f → Prints (m.Open ◁ L ▷ m.Close) (behind m.Open (before m.Close p)) (λ a. codes "(" ++ f a ++ codes ")")
  in_parentheses_printed q = record { laid = λ b d i a. in_parentheses b (q.laid false d i (front IsSeen (L.words d) (k.Mark m.Close ∷ []) a.1)) }

  -- of what may be absent
  pub option_printed : (g : Option A → List ℕ) → [] ≡ g None → ((a : A) → f a ≡ g (Some a)) → PrintsTail L p f → PrintsTail (maybe L) (option p) g
  option_printed g e h q = record { tail = at }
    where
      at : (d : Option L.D) → option_fits (L.fits LIMITS) d → All IsSeen (option_words L.words d) → Tail (option_words L.words (rewriting.option_to p d)) (g (option_value L.value d))
      at None i a = tail_as e nothing_there
      at (Some d) i a = tail_as (h (L.value d)) (q.tail d i a)

  -- of a list of tails
  several_printed : PrintsTail L p f → (ds : List L.D) → all_fit (L.fits LIMITS) ds → All IsSeen (all_words L.words ds) → Tail (all_words L.words (rewriting.all_to p ds)) (in_row [] [] (map f (map L.value ds)))
  several_printed q [] i a = nothing_there
  several_printed q (d ∷ ds) i a = tails (q.tail d i.0 (front IsSeen (L.words d) (all_words L.words ds) a)) (several_printed q ds i.1 (back IsSeen (L.words d) (all_words L.words ds) a))

  pub many_printed : PrintsTail L p f → PrintsTail (many L) (several p) (λ xs. in_row [] [] (map f xs))
  many_printed q = record { tail = several_printed q }

  pub up_printed : (most : Limits → ℕ) → PrintsTail L p f → PrintsTail (up_to most L) (rewriting.at_most p most) (λ xs. in_row [] [] (map f xs))
  up_printed most q = record { tail = λ d i a. several_printed q d i.0 a }

  others_printed : Prints L p f → (ds : List L.D) → all_fit (L.fits LIMITS) ds → All IsSeen (all_words (λ d. k.Mark m.Comma ∷ L.words d) ds) → Tail (all_words (λ d. k.Mark m.Comma ∷ L.words d) (rewriting.all_to p ds)) (in_row (codes ", ") (codes ", ") (map f (map L.value ds)))
  others_printed q [] i a = nothing_there
  others_printed q (d ∷ ds) i a = tails (behind_comma (q.laid true d i.0 (front IsSeen (L.words d) (all_words (λ d. k.Mark m.Comma ∷ L.words d) ds) a.1))) (others_printed q ds i.1 (back IsSeen (L.words d) (all_words (λ d. k.Mark m.Comma ∷ L.words d) ds) a.1))

  -- of a list with commas
  pub listed_printed : Prints L p f → Prints (commas L) (rewriting.listed p) (λ xs. listed (map f xs))
  listed_printed q = record { laid = λ b d i a. then_tail (q.laid b d.0 i.0 (front IsSeen (L.words d.0) (all_words (λ d. k.Mark m.Comma ∷ L.words d) d.1) a)) (others_printed q d.1 i.1 (back IsSeen (L.words d.0) (all_words (λ d. k.Mark m.Comma ∷ L.words d) d.1) a)) }

  module _ {B : Type 0} {M : Language B} {r : Rewrites M} {g : B → List ℕ} where
    pub pair_printed : Prints L p f → PrintsTail M r g → Prints (L ⊗ M) (pair p r) (λ x. f x.0 ++ g x.1)
    pair_printed q s = record { laid = λ b d i a. then_tail (q.laid b d.0 i.0 (front IsSeen (L.words d.0) (M.words d.1) a)) (s.tail d.1 i.1 (back IsSeen (L.words d.0) (M.words d.1) a)) }

    pub pair_tail : PrintsTail L p f → PrintsTail M r g → PrintsTail (L ⊗ M) (pair p r) (λ x. f x.0 ++ g x.1)
    pair_tail q s = record { tail = λ d i a. tails (q.tail d.0 i.0 (front IsSeen (L.words d.0) (M.words d.1) a)) (s.tail d.1 i.1 (back IsSeen (L.words d.0) (M.words d.1) a)) }

module _ {A : Type 0} {L M : Language A} {p : Rewrites L} {r : Rewrites M} {f : A → List ℕ} where
  pub either_printed : Prints L p f → Prints M r f → Prints (L ∣ M) (either p r) f
  either_printed q s = record { laid = at }
    where
      at : (b : Bool) (d : Either L.D M.D) → either_fits (L.fits LIMITS) (M.fits LIMITS) d → All IsSeen (by_either L.words M.words d) → Laid b (by_either L.words M.words (rewriting.either_to p r d)) (f (by_either L.value M.value d))
      at b (One d) i a = q.laid b d i a
      at b (Other d) i a = s.laid b d i a

  pub either_tail : PrintsTail L p f → PrintsTail M r f → PrintsTail (L ∣ M) (either p r) f
  either_tail q s = record { tail = at }
    where
      at : (d : Either L.D M.D) → either_fits (L.fits LIMITS) (M.fits LIMITS) d → All IsSeen (by_either L.words M.words d) → Tail (by_either L.words M.words (rewriting.either_to p r d)) (f (by_either L.value M.value d))
      at (One d) i a = q.tail d i a
      at (Other d) i a = s.tail d i a
