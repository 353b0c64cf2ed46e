-- Parsers of what may be absent, and of as many as there are; and of a type's words.
use Rattle.std.proofs.Common.{◌≡◌, ℕ, zero, suc, ◌≤◌, Bool, true, false, if◌then◌else◌, List, [], ◌∷◌, ◌++◌, length, Option, Some, None, refl, sym, ◌∙◌, ap, subst, append_assoc, length-append, pos, arith}
use Rattle.std.proofs.lemmas.List.{append-nil}
use Rattle.cr_tree.specs.declared.symbol.Mark.TheVariants as m
use Rattle.cr_tree.specs.declared.symbol.Symbol.{Symbol}
use Rattle.cr_tree.specs.declared.symbol.Symbol.TheVariants as k
use Rattle.cr_tree.specs.declared.limits.LimitKind.{LimitKind}
use Rattle.cr_tree.specs.Marks.{same_mark, is_mark}
use Rattle.cr_tree.specs.Grammar.{Sizes, NoSizes, OneSize, TwoSizes, sizes_words, names_words, is_size, AreSizes}
use Rattle.cr_tree.specs.Reading.{Outcome, Reads, Fails, Syntax, Limit, Parser, and_then, ◌>>=◌, pure, refuse, head, look, look_by, after, when, expect, name, name_by, is_name, many_from, many, up_to, listed, behind, size, second_size, sizes, type_words}
use Rattle.cr_tree.proofs.Forms.{Good, Right, by_test, by_outcome, if_true, if_false, is_same, nothing_read, as_right, stop_right, map_right, mark_right, then_right, closed_right}

abbrev pub begins_next : (Symbol → Bool) → List Symbol → Bool
begins_next b [] = false
begins_next b (t ∷ ts) = b t

pub begins_front : (b : Symbol → Bool) (xs ys : List Symbol) → begins_next b xs ≡ true → begins_next b (xs ++ ys) ≡ true
begins_front b [] ys h = absurd (cc)
begins_front b (x ∷ xs) ys h = h

some_front : (b : Symbol → Bool) (xs : List Symbol) → begins_next b xs ≡ true → 1 ≤ length xs
some_front b [] h = absurd (cc)
some_front b (x ∷ xs) h = omega arith

-- ---- one symbol

pub name_right : Right {D = List ℕ} (λ n. Unit {0}) (λ n. k.Name n ∷ []) (λ n. n) (λ rest. Unit {0}) name
unfolding name
name_right = record { good = at; reads = λ n rest i st. refl }
  where
    at : (ts : List Symbol) → Good {D = List ℕ} (λ n. Unit {0}) (λ n. k.Name n ∷ []) (λ n. n) ts (look_by {A = List ℕ} (refuse Syntax) name_by (head ts) ts)
    at [] = nothing_read [] tt []
    at (k.Name n ∷ ts) = record { what = n; fitting = tt; spells = refl; means = refl }
    at (t ∷ ts) = nothing_read [] tt (t ∷ ts)

size_right : Right {D = Symbol} (λ t. is_size t ≡ true) (λ t. t ∷ []) (λ t. tt) (λ rest. Unit {0}) size
unfolding size
size_right = record { good = at; reads = λ t rest i st. if_true (is_size t) (Reads (tt {0}) rest) (Fails Syntax (t ∷ rest)) i }
  where
    at : (ts : List Symbol) → Good {D = Symbol} {A = Unit {0}} (λ t. is_size t ≡ true) (λ t. t ∷ []) (λ t. tt) ts (look_by {A = Unit {0}} (refuse Syntax) (λ t. when {A = Unit {0}} (is_size t) (after (pure tt)) (refuse Syntax)) (head ts) ts)
    at [] = nothing_read (k.Bits (pos 0)) refl []
    at (t ∷ ts) = by_test (Good {D = Symbol} {A = Unit {0}} (λ t. is_size t ≡ true) (λ t. t ∷ []) (λ t. tt) (t ∷ ts)) (is_size t) (Reads tt ts) (Fails Syntax (t ∷ ts))
        (λ e. record { what = t; fitting = e; spells = refl; means = refl }) (λ e. nothing_read (k.Bits (pos 0)) refl (t ∷ ts))

-- ---- what may be absent

abbrev pub option_fits : {D : Type 0} → (D → Type 0) → Option D → Type 0
option_fits F None = Unit {0}
option_fits F (Some d) = F d

abbrev pub option_words : {D : Type 0} → (D → List Symbol) → Option D → List Symbol
option_words w None = []
option_words w (Some d) = w d

abbrev pub option_value : {D A : Type 0} → A → (D → A) → Option D → A
option_value a v None = a
option_value a v (Some d) = v d

pub optional_right : {D A : Type 0} {F : D → Type 0} {w : D → List Symbol} {v : D → A} {s : List Symbol → Type 0} {f : Parser A} (b : Symbol → Bool) (none : A)
    → ((d : D) → F d → begins_next b (w d) ≡ true) → Right F w v s f
    → Right {D = Option D} (option_fits F) (option_words w) (option_value none v) (λ rest. (begins_next b rest ≡ false) × s rest) (look (pure none) (λ t. when (b t) f (pure none)))
optional_right {D} {A} {F} {w} {v} {s} {f} b none starts r = record { good = at; reads = read }
  where
    there : (ts : List Symbol) (o : Outcome A) → Good F w v ts o → Good {D = Option D} (option_fits F) (option_words w) (option_value none v) ts o
    there ts (Reads a rest) g = record { what = Some g.what; fitting = g.fitting; spells = g.spells; means = g.means }
    there ts (Fails c rest) g = record { what = Some g.what; fitting = g.fitting; front = g.front; more = g.more; reads = g.reads; spells = g.spells }

    at : (ts : List Symbol) → Good {D = Option D} (option_fits F) (option_words w) (option_value none v) ts (look_by (pure none) (λ t. when (b t) f (pure none)) (head ts) ts)
    at [] = record { what = None; fitting = tt; spells = refl; means = refl }
    at (t ∷ ts) = by_test (Good {D = Option D} (option_fits F) (option_words w) (option_value none v) (t ∷ ts)) (b t) (f (t ∷ ts)) (Reads none (t ∷ ts))
        (λ e. there (t ∷ ts) (f (t ∷ ts)) (r.good (t ∷ ts))) (λ e. record { what = None; fitting = tt; spells = refl; means = refl })

    taken : (xs : List Symbol) → begins_next b xs ≡ true → look_by (pure none) (λ t. when (b t) f (pure none)) (head xs) xs ≡ f xs
    taken [] h = absurd (cc)
    taken (t ∷ xs) h = if_true (b t) (f (t ∷ xs)) (Reads none (t ∷ xs)) h

    left : (xs : List Symbol) → begins_next b xs ≡ false → look_by (pure none) (λ t. when (b t) f (pure none)) (head xs) xs ≡ Reads none xs
    left [] h = refl
    left (t ∷ xs) h = if_false (b t) (f (t ∷ xs)) (Reads none (t ∷ xs)) h

    read : (d : Option D) (rest : List Symbol) → option_fits F d → (begins_next b rest ≡ false) × s rest → look_by (pure none) (λ t. when (b t) f (pure none)) (head (option_words w d ++ rest)) (option_words w d ++ rest) ≡ Reads (option_value none v d) rest
    read None rest i st = left rest st.0
    read (Some d) rest i st = taken (w d ++ rest) (begins_front b (w d) rest (starts d i)) ∙ r.reads d rest i st.1

-- ---- as many as there are

abbrev pub all_fit : {D : Type 0} → (D → Type 0) → List D → Type 0
all_fit F [] = Unit {0}
all_fit F (d ∷ ds) = F d × all_fit F ds

abbrev pub all_words : {D : Type 0} → (D → List Symbol) → List D → List Symbol
all_words w [] = []
all_words w (d ∷ ds) = w d ++ all_words w ds

abbrev pub gather : {D A S : Type 0} → (S → A → S) → (D → A) → S → List D → S
gather add v s [] = s
gather add v s (d ∷ ds) = gather add v (add s (v d)) ds

module _ {D A S : Type 0} {F : D → Type 0} {w : D → List Symbol} {v : D → A} {s : List Symbol → Type 0} {item : Parser A} (b : Symbol → Bool) (add : S → A → S)
    (r : Right F w v s item) (starts : (d : D) → F d → begins_next b (w d) ≡ true) (links : (ts : List Symbol) → begins_next b ts ≡ true → s ts) where
  another : (a : S) (d : D) → F d → (ts rest : List Symbol) → w d ++ rest ≡ ts → (o : Outcome S) → Good (all_fit F) (all_words w) (gather add v (add a (v d))) rest o → Good (all_fit F) (all_words w) (gather add v a) ts o
  another a d i ts rest e (Reads x rest') g = record { what = d ∷ g.what; fitting = (i, g.fitting); spells = append_assoc (w d) (all_words w g.what) rest' ∙ (ap (λ z. w d ++ z) g.spells ∙ e); means = g.means }
  another a d i ts rest e (Fails c rest') g = record { what = d ∷ g.what; fitting = (i, g.fitting); front = w d ++ g.front; more = g.more; reads = append_assoc (w d) g.front rest' ∙ (ap (λ z. w d ++ z) g.reads ∙ e); spells = ap (λ z. w d ++ z) g.spells ∙ sym (append_assoc (w d) g.front g.more) }

  many_good : (n : ℕ) (a : S) (ts : List Symbol) → Good (all_fit F) (all_words w) (gather add v a) ts (many_from b item add n a ts)
  unfolding many_from
  many_good zero a ts = record { what = []; fitting = tt; spells = refl; means = refl }
  many_good (suc n) a [] = record { what = []; fitting = tt; spells = refl; means = refl }
  many_good (suc n) a (t ∷ ts) = turn (λ a ts. many_good n a ts)
    where
      turn : ((a : S) (ts : List Symbol) → Good (all_fit F) (all_words w) (gather add v a) ts (many_from b item add n a ts)) → Good (all_fit F) (all_words w) (gather add v a) (t ∷ ts) (if b t then and_then (item (t ∷ ts)) (λ x. many_from b item add n (add a x)) else Reads a (t ∷ ts))
      turn again = by_test (Good (all_fit F) (all_words w) (gather add v a) (t ∷ ts)) (b t) (and_then (item (t ∷ ts)) (λ x. many_from b item add n (add a x))) (Reads a (t ∷ ts))
          (λ e. by_outcome (Good F w v (t ∷ ts)) (Good (all_fit F) (all_words w) (gather add v a) (t ∷ ts)) (item (t ∷ ts)) (λ x. many_from b item add n (add a x)) (r.good (t ∷ ts))
          (λ x rest g. subst (λ y. Good (all_fit F) (all_words w) (gather add v a) (t ∷ ts) (many_from b item add n (add a y) rest)) g.means
          (another a g.what g.fitting (t ∷ ts) rest g.spells (many_from b item add n (add a (v g.what)) rest) (again (add a (v g.what)) rest)))
          (λ c rest g. record { what = g.what ∷ []; fitting = (g.fitting, tt); front = g.front; more = g.more; reads = g.reads; spells = append-nil (w g.what) ∙ g.spells }))
          (λ e. record { what = []; fitting = tt; spells = refl; means = refl })

  stopped : (n : ℕ) (a : S) (rest : List Symbol) → begins_next b rest ≡ false → many_from b item add n a rest ≡ Reads a rest
  unfolding many_from
  stopped zero a rest h = refl
  stopped (suc n) a [] h = refl
  stopped (suc n) a (t ∷ rest) h = if_false (b t) (and_then (item (t ∷ rest)) (λ x. many_from b item add n (add a x))) (Reads a (t ∷ rest)) h

  turned : (n : ℕ) (a : S) (ts : List Symbol) → begins_next b ts ≡ true → many_from b item add (suc n) a ts ≡ and_then (item ts) (λ x. many_from b item add n (add a x))
  unfolding many_from
  turned n a [] h = absurd (cc)
  turned n a (t ∷ ts) h = if_true (b t) (and_then (item (t ∷ ts)) (λ x. many_from b item add n (add a x))) (Reads a (t ∷ ts)) h

  followed : (ds : List D) (rest : List Symbol) → all_fit F ds → s rest → s (all_words w ds ++ rest)
  followed [] rest i st = st
  followed (d ∷ ds) rest i st = links ((w d ++ all_words w ds) ++ rest) (begins_front b (w d ++ all_words w ds) rest (begins_front b (w d) (all_words w ds) (starts d i.0)))

  many_reads : (n : ℕ) (a : S) (ds : List D) (rest : List Symbol) → length (all_words w ds ++ rest) ≤ n → all_fit F ds → begins_next b rest ≡ false → s rest
      → many_from b item add n a (all_words w ds ++ rest) ≡ Reads (gather add v a ds) rest
  many_reads n a [] rest l i h st = stopped n a rest h
  many_reads zero a (d ∷ ds) rest l i h st = let p = some_front b (w d) (starts d i.0) in absurd (omega (arith, l, p, length-append (w d ++ all_words w ds) rest, length-append (w d) (all_words w ds)))
  many_reads (suc n) a (d ∷ ds) rest l i h st =
      let p = some_front b (w d) (starts d i.0) in
      ap (many_from b item add (suc n) a) (append_assoc (w d) (all_words w ds) rest)
      ∙ (turned n a (w d ++ (all_words w ds ++ rest)) (begins_front b (w d) (all_words w ds ++ rest) (starts d i.0))
      ∙ (ap (λ o. and_then o (λ x. many_from b item add n (add a x))) (r.reads d (all_words w ds ++ rest) i.0 (followed ds rest i.1 st))
      ∙ many_reads n (add a (v d)) ds rest (omega (arith, l, p, length-append (w d ++ all_words w ds) rest, length-append (w d) (all_words w ds), length-append (all_words w ds) rest)) i.1 h st))

  pub many_right : (a : S) → Right (all_fit F) (all_words w) (gather add v a) (λ rest. (begins_next b rest ≡ false) × s rest) (many b item add a)
  unfolding many
  many_right a = record { good = λ ts. many_good (length ts) a ts; reads = λ ds rest i st. many_reads (length (all_words w ds ++ rest)) a ds rest (omega arith) i st.0 st.1 }

-- ---- at most so many

module _ {A S : Type 0} (k : LimitKind) (b : Symbol → Bool) (item : Parser A) (add : S → A → S) where
  pub up_turn : (n n' : ℕ) (a : S) (ts : List Symbol) → n ≡ suc n' → begins_next b ts ≡ true → up_to k b item add n a ts ≡ and_then (item ts) (λ y. up_to k b item add n' (add a y))
  unfolding up_to
  up_turn n n' a [] i h = absurd (cc)
  up_turn n n' a (t ∷ ts) i h = ap (λ n. up_to k b item add n a (t ∷ ts)) i ∙ if_true (b t) (and_then (item (t ∷ ts)) (λ y. up_to k b item add n' (add a y))) (Reads a (t ∷ ts)) h

  pub up_stop : (n : ℕ) (a : S) (ts : List Symbol) → begins_next b ts ≡ false → up_to k b item add n a ts ≡ Reads a ts
  unfolding up_to
  up_stop zero a [] h = refl
  up_stop (suc n) a [] h = refl
  up_stop zero a (t ∷ ts) h = if_false (b t) (Fails (Limit k) (t ∷ ts)) (Reads a (t ∷ ts)) h
  up_stop (suc n) a (t ∷ ts) h = if_false (b t) (and_then (item (t ∷ ts)) (λ y. up_to k b item add n (add a y))) (Reads a (t ∷ ts)) h

  pub up_out : (n : ℕ) (a : S) (ts : List Symbol) → n ≡ 0 → begins_next b ts ≡ true → up_to k b item add n a ts ≡ Fails (Limit k) ts
  unfolding up_to
  up_out n a [] i h = absurd (cc)
  up_out n a (t ∷ ts) i h = ap (λ n. up_to k b item add n a (t ∷ ts)) i ∙ if_true (b t) (Fails (Limit k) (t ∷ ts)) (Reads a (t ∷ ts)) h

module _ {D A S : Type 0} {F : D → Type 0} {w : D → List Symbol} {v : D → A} {s : List Symbol → Type 0} {item : Parser A} (x : LimitKind) (b : Symbol → Bool) (add : S → A → S)
    (r : Right F w v s item) (starts : (d : D) → F d → begins_next b (w d) ≡ true) (links : (ts : List Symbol) → begins_next b ts ≡ true → s ts) where
  abbrev UpTo : ℕ → List D → Type 0
  UpTo n ds = all_fit F ds × (length ds ≤ n)

  none_more : (n : ℕ) (a : S) (ts : List Symbol) → Good (UpTo n) (all_words w) (gather add v a) ts (Reads a ts)
  none_more n a ts = record { what = []; fitting = (tt, omega arith); spells = refl; means = refl }

  one_more : (n : ℕ) (a : S) (d : D) → F d → (ts rest : List Symbol) → w d ++ rest ≡ ts → (o : Outcome S) → Good (UpTo n) (all_words w) (gather add v (add a (v d))) rest o → Good (UpTo (suc n)) (all_words w) (gather add v a) ts o
  one_more n a d i ts rest e (Reads y rest') g = record { what = d ∷ g.what; fitting = ((i, g.fitting.0), omega (arith, g.fitting.1)); spells = append_assoc (w d) (all_words w g.what) rest' ∙ (ap (λ z. w d ++ z) g.spells ∙ e); means = g.means }
  one_more n a d i ts rest e (Fails c rest') g = record { what = d ∷ g.what; fitting = ((i, g.fitting.0), omega (arith, g.fitting.1)); front = w d ++ g.front; more = g.more; reads = append_assoc (w d) g.front rest' ∙ (ap (λ z. w d ++ z) g.reads ∙ e); spells = ap (λ z. w d ++ z) g.spells ∙ sym (append_assoc (w d) g.front g.more) }

  up_good : (n : ℕ) (a : S) (ts : List Symbol) → Good (UpTo n) (all_words w) (gather add v a) ts (up_to x b item add n a ts)
  unfolding up_to
  up_good zero a [] = none_more zero a []
  up_good zero a (t ∷ ts) = by_test (Good (UpTo zero) (all_words w) (gather add v a) (t ∷ ts)) (b t) (Fails (Limit x) (t ∷ ts)) (Reads a (t ∷ ts)) (λ e. nothing_read [] (tt, omega arith) (t ∷ ts)) (λ e. none_more zero a (t ∷ ts))
  up_good (suc n) a [] = none_more (suc n) a []
  up_good (suc n) a (t ∷ ts) = turn (λ a ts. up_good n a ts)
    where
      turn : ((a : S) (ts : List Symbol) → Good (UpTo n) (all_words w) (gather add v a) ts (up_to x b item add n a ts)) → Good (UpTo (suc n)) (all_words w) (gather add v a) (t ∷ ts) (if b t then and_then (item (t ∷ ts)) (λ y. up_to x b item add n (add a y)) else Reads a (t ∷ ts))
      turn again = by_test (Good (UpTo (suc n)) (all_words w) (gather add v a) (t ∷ ts)) (b t) (and_then (item (t ∷ ts)) (λ y. up_to x b item add n (add a y))) (Reads a (t ∷ ts))
          (λ e. by_outcome (Good F w v (t ∷ ts)) (Good (UpTo (suc n)) (all_words w) (gather add v a) (t ∷ ts)) (item (t ∷ ts)) (λ y. up_to x b item add n (add a y)) (r.good (t ∷ ts))
          (λ y rest g. subst (λ z. Good (UpTo (suc n)) (all_words w) (gather add v a) (t ∷ ts) (up_to x b item add n (add a z) rest)) g.means
          (one_more n a g.what g.fitting (t ∷ ts) rest g.spells (up_to x b item add n (add a (v g.what)) rest) (again (add a (v g.what)) rest)))
          (λ c rest g. record { what = g.what ∷ []; fitting = ((g.fitting, tt), omega arith); front = g.front; more = g.more; reads = g.reads; spells = append-nil (w g.what) ∙ g.spells }))
          (λ e. none_more (suc n) a (t ∷ ts))

  up_followed : (ds : List D) (rest : List Symbol) → all_fit F ds → s rest → s (all_words w ds ++ rest)
  up_followed [] rest i st = st
  up_followed (d ∷ ds) rest i st = links ((w d ++ all_words w ds) ++ rest) (begins_front b (w d ++ all_words w ds) rest (begins_front b (w d) (all_words w ds) (starts d i.0)))

  up_reads : (n : ℕ) (a : S) (ds : List D) (rest : List Symbol) → all_fit F ds → length ds ≤ n → begins_next b rest ≡ false → s rest → up_to x b item add n a (all_words w ds ++ rest) ≡ Reads (gather add v a ds) rest
  up_reads n a [] rest i l h st = up_stop x b item add n a rest h
  up_reads zero a (d ∷ ds) rest i l h st = absurd (omega (arith, l))
  up_reads (suc n) a (d ∷ ds) rest i l h st =
      ap (up_to x b item add (suc n) a) (append_assoc (w d) (all_words w ds) rest)
      ∙ (up_turn x b item add (suc n) n a (w d ++ (all_words w ds ++ rest)) refl (begins_front b (w d) (all_words w ds ++ rest) (starts d i.0))
      ∙ (ap (λ o. and_then o (λ y. up_to x b item add n (add a y))) (r.reads d (all_words w ds ++ rest) i.0 (up_followed ds rest i.1 st))
      ∙ up_reads n (add a (v d)) ds rest i.1 (omega (arith, l)) h st))

  pub up_right : (n : ℕ) (a : S) → Right (λ ds. all_fit F ds × (length ds ≤ n)) (all_words w) (gather add v a) (λ rest. (begins_next b rest ≡ false) × s rest) (up_to x b item add n a)
  up_right n a = record { good = up_good n a; reads = λ ds rest i st. up_reads n a ds rest i.0 i.1 st.0 st.1 }

-- ---- types

-- a closing parenthesis comes next
abbrev pub IsClosed : List Symbol → Type 0
IsClosed (k.Mark m.Close ∷ ts) = Unit {0}
IsClosed _ = ⊥

closed_no_name : (ts : List Symbol) → IsClosed ts → begins_next is_name ts ≡ false
closed_no_name (k.Mark m.Close ∷ ts) h = refl
closed_no_name _ h = absurd h

closed_no_open : (ts : List Symbol) → IsClosed ts → begins_next (is_mark m.Open) ts ≡ false
unfolding same_mark
closed_no_open (k.Mark m.Close ∷ ts) h = refl
closed_no_open _ h = absurd h

pub closed_no_comma : (ts : List Symbol) → IsClosed ts → begins_next (is_mark m.Comma) ts ≡ false
unfolding same_mark
closed_no_comma (k.Mark m.Close ∷ ts) h = refl
closed_no_comma _ h = absurd h

second_right : Right {D = Option Symbol} (option_fits (λ t. is_size t ≡ true)) (option_words (λ t. k.Mark m.Comma ∷ t ∷ [])) (λ d. tt) IsClosed second_size
unfolding second_size
second_right = as_right (λ d. d) (λ d. d) (λ d i. i) (λ d i. i) (λ d. refl) (λ d. refl) (λ d. refl)
    (stop_right (λ rest h. (closed_no_comma rest h, tt)) (optional_right (is_mark m.Comma) tt (λ t i. is_same m.Comma) (mark_right m.Comma size_right)))

abbrev by_second : Symbol → Option Symbol → Sizes
by_second a None = OneSize a
by_second a (Some b) = TwoSizes a b

abbrev sizes_of : Option (Symbol × Option Symbol) → Sizes
sizes_of None = NoSizes
sizes_of (Some d) = by_second d.0 d.1

abbrev of_sizes : Sizes → Option (Symbol × Option Symbol)
of_sizes NoSizes = None
of_sizes (OneSize a) = Some (a, None)
of_sizes (TwoSizes a b) = Some (a, Some b)

abbrev size_fits : Symbol × Option Symbol → Type 0
size_fits d = (is_size d.0 ≡ true) × option_fits (λ t. is_size t ≡ true) d.1

abbrev size_words : Symbol × Option Symbol → List Symbol
size_words d = (k.Mark m.Open ∷ d.0 ∷ []) ++ (option_words (λ t. k.Mark m.Comma ∷ t ∷ []) d.1 ++ k.Mark m.Close ∷ [])

sizes_fit : (d : Option (Symbol × Option Symbol)) → option_fits size_fits d → AreSizes (sizes_of d)
sizes_fit None i = tt
sizes_fit (Some d) i = at d.0 d.1 i
  where
    at : (a : Symbol) (b : Option Symbol) → (is_size a ≡ true) × option_fits (λ t. is_size t ≡ true) b → AreSizes (by_second a b)
    at a None i = i.0
    at a (Some b) i = i

fit_sizes : (s : Sizes) → AreSizes s → option_fits size_fits (of_sizes s)
fit_sizes NoSizes i = tt
fit_sizes (OneSize a) i = (i, tt)
fit_sizes (TwoSizes a b) i = i

sizes_spelled : (d : Option (Symbol × Option Symbol)) → sizes_words (sizes_of d) ≡ option_words size_words d
sizes_spelled None = refl
sizes_spelled (Some d) = at d.0 d.1
  where
    at : (a : Symbol) (b : Option Symbol) → sizes_words (by_second a b) ≡ size_words (a, b)
    at a None = refl
    at a (Some b) = refl

sizes_back : (s : Sizes) → sizes_of (of_sizes s) ≡ s
sizes_back NoSizes = refl
sizes_back (OneSize a) = refl
sizes_back (TwoSizes a b) = refl

listing_right : Right size_fits size_words (λ d. tt {0}) (λ rest. Unit {0}) (behind m.Open size >>= (λ _. second_size >>= (λ _. expect m.Close >>= (λ _. pure (tt {0})))))
listing_right = then_right (λ _. second_size >>= (λ _. expect m.Close >>= (λ _. pure (tt {0})))) (mark_right m.Open size_right)
    (λ d i. closed_right m.Close (λ _. tt {0}) (λ rest. tt) second_right) (λ e rest i st. tt)

pub sizes_right : Right AreSizes sizes_words (λ d. tt) (λ rest. (begins_next (is_mark m.Open) rest ≡ false) × Unit {0}) sizes
unfolding sizes
sizes_right = as_right sizes_of of_sizes sizes_fit fit_sizes sizes_spelled (λ d. refl) sizes_back
    (optional_right (is_mark m.Open) tt (λ d i. is_same m.Open) listing_right)

-- a type's first name, its other names, and its sizes
abbrev pub TypeWords : Type 0
TypeWords = List ℕ × (List (List ℕ) × Sizes)

abbrev pub type_fits : TypeWords → Type 0
type_fits d = AreSizes d.1.1

abbrev pub type_spelled : TypeWords → List Symbol
type_spelled d = k.Name d.0 ∷ names_words d.1.0 ++ sizes_words d.1.1

names_are : (ns : List (List ℕ)) → names_words ns ≡ all_words (λ n. k.Name n ∷ []) ns
names_are [] = refl
names_are (n ∷ ns) = ap (λ z. k.Name n ∷ z) (names_are ns)

names_gathered : (xs ns : List (List ℕ)) → gather listed (λ (n : List ℕ). n) xs ns ≡ xs ++ ns
names_gathered xs [] = sym (append-nil xs)
names_gathered xs (n ∷ ns) = names_gathered (xs ++ n ∷ []) ns ∙ append_assoc xs (n ∷ []) ns

names_fit : (ns : List (List ℕ)) → all_fit (λ (n : List ℕ). Unit {0}) ns
names_fit [] = tt
names_fit (n ∷ ns) = (tt, names_fit ns)

pub type_words_right : Right type_fits type_spelled (λ d. d.0 ∷ d.1.0) IsClosed type_words
unfolding type_words
type_words_right = as_right (λ d. d) (λ d. d) (λ d i. i.1.1) (λ d i. (tt, (names_fit d.1.0, i))) (λ d. ap (λ z. k.Name d.0 ∷ z ++ sizes_words d.1.1) (names_are d.1.0)) (λ d. sym (names_gathered (d.0 ∷ []) d.1.0)) (λ d. refl)
    (then_right (λ n. many is_name name listed (n ∷ []) >>= (λ ns. sizes >>= (λ _. pure ns))) name_right
    (λ n i. then_right (λ ns. sizes >>= (λ _. pure ns)) (many_right is_name listed name_right (λ n i. refl) (λ ts h. tt) (n ∷ []))
    (λ ns j. map_right (λ _. gather listed (λ (n : List ℕ). n) (n ∷ []) ns) (stop_right (λ rest h. (closed_no_open rest h, tt)) sizes_right))
    (λ s rest j st. (by_sizes s rest st, tt)))
    (λ e rest i st. tt))
  where
    by_sizes : (s : Sizes) (rest : List Symbol) → IsClosed rest → begins_next is_name (sizes_words s ++ rest) ≡ false
    by_sizes NoSizes rest h = closed_no_name rest h
    by_sizes (OneSize a) rest h = refl
    by_sizes (TwoSizes a b) rest h = refl
