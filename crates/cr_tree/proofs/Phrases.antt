-- What phrases begin with, what stops them, and what a symbol behind them does.
use Rattle.std.proofs.Common.{◌≡◌, ℕ, ◌≤◌, ◌<◌, Bool, true, false, List, [], ◌∷◌, ◌++◌, refl, sym, ◌∙◌, ap, append_assoc, arith}
use Rattle.std.proofs.lemmas.Bool.{le-leb}
use Rattle.cr_tree.specs.declared.symbol.Mark.{Mark}
use Rattle.cr_tree.specs.declared.symbol.Mark.TheVariants as m
use Rattle.cr_tree.specs.declared.symbol.Symbol.{Symbol}
use Rattle.cr_tree.specs.declared.symbol.Symbol.TheVariants as k
use Rattle.cr_tree.specs.declared.limits.Limits.{Limits}
use Rattle.cr_tree.specs.Marks.{is_mark}
use Rattle.cr_tree.specs.Grammar.{Operator, Or, IsNull, NotNull, NotNullApart, Phrase, Leaf, Negative, Name, Dotted, NotOf, PlusOf, MinusOf, With, Inside, CallNone, Call, CountAll, Cast, Case, Tail, Infix, Tested, Collated, Among, Between, operator_words, spelled, spelled_tail, tree, binds, tail_binds, tightness, IsProper, height, opened, most_commas, begins_with_number}
use Rattle.cr_tree.specs.Reading.{Fails, Cause, Parser, Sized, binding, begins, begins_by, ceiling}
use Rattle.cr_tree.proofs.Forms.{mark_is}
use Rattle.cr_tree.proofs.Repeats.{begins_next}

-- a phrase within limits, which binds at least so tightly
pub record Written (lim : Limits) (least : ℕ) (p : Phrase) : Type 0 where
  pub proper : IsProper p
  pub tight : least ≤ tightness p
  pub low : height p ≤ lim.room
  pub few : opened p ≤ lim.opens
  pub short : most_commas p ≤ lim.commas

abbrev pub sized : Phrase → Sized
sized p = (tree p, height p)

abbrev pub next_binding : List Symbol → ℕ
next_binding [] = 0
next_binding (t ∷ ts) = binding t

-- what goes on with a name
abbrev pub goes_on : List Symbol → Bool
goes_on (k.Mark m.Open ∷ ts) = true
goes_on (k.Mark m.Dot ∷ ts) = true
goes_on _ = false

-- what follows doesn't go on with a phrase that binds at least so tightly
pub record Stops (least : ℕ) (rest : List Symbol) : Type 0 where
  pub operator : next_binding rest < least
  pub plain : goes_on rest ≡ false

-- what follows doesn't go on with a part of the phrase
pub record Follows (p : Phrase) (rest : List Symbol) : Type 0 where
  pub operator : next_binding rest ≤ tightness p
  pub plain : goes_on rest ≡ false

-- nothing stands behind an operand in it
abbrev pub IsTop : Phrase → Type 0
IsTop (With p t) = ⊥
IsTop _ = Unit {0}

-- it is refused at once
abbrev pub Stuck : {A : Type 0} → Parser A → Type 0
Stuck {A} f = (ts : List Symbol) → (c : Cause) × (f ts ≡ Fails c ts)

-- ---- numbers

pub binds_some : (op : Operator) → 1 ≤ binds op
binds_some Or = omega arith
binds_some _ = omega arith

pub binds_low : (op : Operator) → binds op ≤ 8
binds_low Or = omega arith
binds_low _ = omega arith

pub tail_some : (t : Tail) → 1 ≤ tail_binds t
tail_some (Infix op p) = binds_some op
tail_some _ = omega arith

pub tail_low : (t : Tail) → tail_binds t ≤ 9
tail_low (Infix op p) = omega (arith, binds_low op)
tail_low _ = omega arith

pub least_tight : (p : Phrase) → 1 ≤ tightness p
least_tight (With p t) = tail_some t
least_tight _ = omega arith

pub binding_low : (t : Symbol) → binding t ≤ 9
binding_low (k.Mark m.Or) = omega arith
binding_low _ = omega arith

pub next_low : (ts : List Symbol) → next_binding ts ≤ 9
next_low [] = omega arith
next_low (t ∷ ts) = binding_low t

-- nothing binds as tightly as NOT
pub below_three : (ts : List Symbol) → next_binding ts ≤ 3 → next_binding ts < 3
below_three [] h = omega arith
below_three (t ∷ ts) h = at t h
  where
    at : (t : Symbol) → binding t ≤ 3 → binding t < 3
    at (k.Mark m.Or) h = omega arith
    at (k.Mark m.And) h = omega arith
    at _ h = omega (arith, h)

pub ceiling_low : (t : Symbol) → ceiling t ≤ 10
ceiling_low (k.Mark m.Not) = omega arith
ceiling_low _ = omega arith

-- ---- what stands behind an operand

op_next : (op : Operator) (ts : List Symbol) → next_binding (operator_words op ++ ts) ≡ binds op
op_next Or ts = refl
op_next _ ts = refl

pub tail_next : (t : Tail) (rest : List Symbol) → next_binding (spelled_tail t ++ rest) ≡ tail_binds t
tail_next (Infix op p) rest = ap next_binding (append_assoc (operator_words op) (spelled p) rest) ∙ op_next op (spelled p ++ rest)
tail_next (Tested IsNull) rest = refl
tail_next (Tested NotNull) rest = refl
tail_next (Tested NotNullApart) rest = refl
tail_next (Collated c) rest = refl
tail_next (Among true all) rest = refl
tail_next (Among false all) rest = refl
tail_next (Between true p q) rest = refl
tail_next (Between false p q) rest = refl

op_plain : (op : Operator) (ts : List Symbol) → goes_on (operator_words op ++ ts) ≡ false
op_plain Or ts = refl
op_plain _ ts = refl

pub tail_plain : (t : Tail) (rest : List Symbol) → goes_on (spelled_tail t ++ rest) ≡ false
tail_plain (Infix op p) rest = ap goes_on (append_assoc (operator_words op) (spelled p) rest) ∙ op_plain op (spelled p ++ rest)
tail_plain (Tested IsNull) rest = refl
tail_plain (Tested NotNull) rest = refl
tail_plain (Tested NotNullApart) rest = refl
tail_plain (Collated c) rest = refl
tail_plain (Among true all) rest = refl
tail_plain (Among false all) rest = refl
tail_plain (Between true p q) rest = refl
tail_plain (Between false p q) rest = refl

-- ---- what a phrase begins with

pub phrase_begins : (l : ℕ) (p : Phrase) (rest : List Symbol) → IsProper p → l ≤ tightness p → begins_next (begins l) (spelled p ++ rest) ≡ true
unfolding begins
phrase_begins l (Leaf t x) rest i h = ap (begins_by l t) i
phrase_begins l (NotOf p) rest i h = le-leb l 3 h
phrase_begins l (With p t) rest i h = ap (begins_next (begins l)) (append_assoc (spelled p) (spelled_tail t) rest) ∙ phrase_begins l p (spelled_tail t ++ rest) i.0 (omega (arith, h, i.2))
phrase_begins l (Negative n) rest i h = refl
phrase_begins l (Name n) rest i h = refl
phrase_begins l (Dotted s n) rest i h = refl
phrase_begins l (PlusOf p) rest i h = refl
phrase_begins l (MinusOf p) rest i h = refl
phrase_begins l (Inside p) rest i h = refl
phrase_begins l (CallNone f) rest i h = refl
phrase_begins l (Call f all) rest i h = refl
phrase_begins l CountAll rest i h = refl
phrase_begins l (Cast p n ns s) rest i h = refl
phrase_begins l (Case s arms o) rest i h = refl

-- what begins an expression is no mark that doesn't
pub begins_not : (l : ℕ) (x : Mark) (ts : List Symbol) → begins_next (begins l) ts ≡ true → begins l (k.Mark x) ≡ false → begins_next (is_mark x) ts ≡ false
begins_not l x [] h i = refl
begins_not l x (t ∷ ts) h i = at (is_mark x t) refl
  where
    at : (b : Bool) → is_mark x t ≡ b → b ≡ false
    at false e = refl
    at true e = absurd (let same : begins l t ≡ begins l (k.Mark x) = ap (begins l) (mark_is x t e) in cc)

pub phrase_not : (l : ℕ) (x : Mark) (p : Phrase) (rest : List Symbol) → IsProper p → l ≤ tightness p → begins l (k.Mark x) ≡ false → begins_next (is_mark x) (spelled p ++ rest) ≡ false
phrase_not l x p rest i h n = begins_not l x (spelled p ++ rest) (phrase_begins l p rest i h) n

-- the first symbol of a phrase
pub starts_on : (p : Phrase) (rest : List Symbol) → begins_with_number (spelled p ++ rest) ≡ begins_with_number (spelled p)
starts_on (With p t) rest = ap begins_with_number (append_assoc (spelled p) (spelled_tail t) rest) ∙ (starts_on p (spelled_tail t ++ rest) ∙ sym (starts_on p (spelled_tail t)))
starts_on (Leaf (k.Number n) x) rest = refl
starts_on _ rest = refl

-- ---- marks that stop a phrase

pub stops_close : (ts : List Symbol) → Stops 1 (k.Mark m.Close ∷ ts)
stops_close ts = record { operator = omega arith; plain = refl }

pub stops_comma : (ts : List Symbol) → Stops 1 (k.Mark m.Comma ∷ ts)
stops_comma ts = record { operator = omega arith; plain = refl }

pub stops_as : (ts : List Symbol) → Stops 1 (k.Mark m.As ∷ ts)
stops_as ts = record { operator = omega arith; plain = refl }

pub stops_when : (ts : List Symbol) → Stops 1 (k.Mark m.When ∷ ts)
stops_when ts = record { operator = omega arith; plain = refl }

pub stops_then : (ts : List Symbol) → Stops 1 (k.Mark m.Then ∷ ts)
stops_then ts = record { operator = omega arith; plain = refl }

pub stops_else : (ts : List Symbol) → Stops 1 (k.Mark m.Else ∷ ts)
stops_else ts = record { operator = omega arith; plain = refl }

pub stops_end : (ts : List Symbol) → Stops 1 (k.Mark m.End ∷ ts)
stops_end ts = record { operator = omega arith; plain = refl }

pub stops_and : (ts : List Symbol) → Stops 5 (k.Mark m.And ∷ ts)
stops_and ts = record { operator = omega arith; plain = refl }
