-- What it is that a parser reads right: what it reads is there, what it refuses begins right, and all that is there is
-- read. And how such parsers are put together.
use Rattle.std.proofs.Common.{◌≡◌, Bool, true, false, if◌then◌else◌, List, [], ◌∷◌, ◌++◌, refl, sym, ◌∙◌, ap, subst, append_assoc}
use Rattle.std.proofs.lemmas.List.{append-nil}
use denote.Enum.Bare.{same_true, true_same}
use Rattle.cr_tree.specs.contracts.symbol.Mark.{the_type}
use Rattle.cr_tree.specs.declared.symbol.Mark.{Mark}
use Rattle.cr_tree.specs.declared.symbol.Symbol.{Symbol}
use Rattle.cr_tree.specs.declared.symbol.Symbol.TheVariants as k
use Rattle.cr_tree.specs.Marks.{same_mark, is_mark}
use Rattle.cr_tree.specs.Reading.{Outcome, Reads, Fails, Cause, Syntax, Parser, and_then, ◌>>=◌, pure, refuse, head, look_by, after, when, expect}

-- ---- marks

pub same_is : (x y : Mark) → same_mark x y ≡ true → x ≡ y
unfolding same_mark
same_is x y e = same_true the_type tt x y e

pub is_same : (x : Mark) → same_mark x x ≡ true
unfolding same_mark
is_same x = true_same the_type x x refl

pub mark_is : (x : Mark) (t : Symbol) → is_mark x t ≡ true → t ≡ k.Mark x
mark_is x (k.Mark y) e = ap k.Mark (sym (same_is x y e))
mark_is x _ e = absurd (cc)

-- ---- cases

pub by_test : {X : Type 0} (P : X → Type 0) (b : Bool) (x y : X) → (b ≡ true → P x) → (b ≡ false → P y) → P (if b then x else y)
by_test P true x y f g = f refl
by_test P false x y f g = g refl

pub if_true : {X : Type 0} (b : Bool) (x y : X) → b ≡ true → (if b then x else y) ≡ x
if_true true x y e = refl
if_true false x y e = absurd (cc)

pub if_false : {X : Type 0} (b : Bool) (x y : X) → b ≡ false → (if b then x else y) ≡ y
if_false true x y e = absurd (cc)
if_false false x y e = refl

-- ---- what is right

-- what was read is there
pub record Found {D A : Type 0} (fits : D → Type 0) (words : D → List Symbol) (value : D → A) (ts : List Symbol) (a : A) (rest : List Symbol) : Type 0 where
  pub what : D
  pub fitting : fits what
  pub spells : words what ++ rest ≡ ts
  pub means : value what ≡ a

-- something begins with the symbols before the rest
pub record Begun {D : Type 0} (fits : D → Type 0) (words : D → List Symbol) (ts rest : List Symbol) : Type 0 where
  pub what : D
  pub fitting : fits what
  pub front : List Symbol
  pub more : List Symbol
  pub reads : front ++ rest ≡ ts
  pub spells : words what ≡ front ++ more

abbrev pub Good : {D A : Type 0} → (D → Type 0) → (D → List Symbol) → (D → A) → List Symbol → Outcome A → Type 0
Good fits words value ts (Reads a rest) = Found fits words value ts a rest
Good fits words value ts (Fails c rest) = Begun fits words ts rest

pub record Right {D A : Type 0} (fits : D → Type 0) (words : D → List Symbol) (value : D → A) (stop : List Symbol → Type 0) (f : Parser A) : Type 0 where
  pub good : (ts : List Symbol) → Good fits words value ts (f ts)
  pub reads : (d : D) (rest : List Symbol) → fits d → stop rest → f (words d ++ rest) ≡ Reads (value d) rest

pub by_outcome : {A B : Type 0} (G : Outcome A → Type 0) (P : Outcome B → Type 0) (o : Outcome A) (f : A → Parser B) → G o
    → ((a : A) (rest : List Symbol) → G (Reads a rest) → P (f a rest)) → ((c : Cause) (rest : List Symbol) → G (Fails c rest) → P (Fails c rest)) → P (and_then o f)
by_outcome G P (Reads a rest) f g x y = x a rest g
by_outcome G P (Fails c rest) f g x y = y c rest g

pub nothing_read : {D : Type 0} {F : D → Type 0} {w : D → List Symbol} (d : D) → F d → (ts : List Symbol) → Begun F w ts ts
nothing_read {w = w} d i ts = record { what = d; fitting = i; front = []; more = w d; reads = refl; spells = refl }

pub all_read : {D : Type 0} {F : D → Type 0} {w : D → List Symbol} (d : D) → F d → (ts rest : List Symbol) → w d ++ rest ≡ ts → Begun F w ts rest
all_read {w = w} d i ts rest s = record { what = d; fitting = i; front = w d; more = []; reads = s; spells = sym (append-nil (w d)) }

module _ {D A : Type 0} (F : D → Type 0) (w : D → List Symbol) (v : D → A) where
  -- there is something at all
  pub some_of : (ts : List Symbol) (o : Outcome A) → Good F w v ts o → (d : D) × F d
  some_of ts (Reads a rest) g = (g.what, g.fitting)
  some_of ts (Fails c rest) g = (g.what, g.fitting)

  -- behind a symbol
  pub good_behind : (t : Symbol) (ts : List Symbol) (o : Outcome A) → Good F w v ts o → Good F (λ d. t ∷ w d) v (t ∷ ts) o
  good_behind t ts (Reads a rest) g = record { what = g.what; fitting = g.fitting; spells = ap (λ z. t ∷ z) g.spells; means = g.means }
  good_behind t ts (Fails c rest) g = record { what = g.what; fitting = g.fitting; front = t ∷ g.front; more = g.more; reads = ap (λ z. t ∷ z) g.reads; spells = ap (λ z. t ∷ z) g.spells }

  -- behind several
  pub good_front : (pre ts : List Symbol) (o : Outcome A) → Good F w v ts o → Good F (λ d. pre ++ w d) v (pre ++ ts) o
  good_front pre ts (Reads a rest) g = record { what = g.what; fitting = g.fitting; spells = append_assoc pre (w g.what) rest ∙ ap (λ z. pre ++ z) g.spells; means = g.means }
  good_front pre ts (Fails c rest) g = record { what = g.what; fitting = g.fitting; front = pre ++ g.front; more = g.more; reads = append_assoc pre g.front rest ∙ ap (λ z. pre ++ z) g.reads; spells = ap (λ z. pre ++ z) g.spells ∙ sym (append_assoc pre g.front g.more) }

  -- as other derivations
  pub good_as : {E : Type 0} (G : E → Type 0) (x : E → List Symbol) (y : E → A) (h : D → E) → ((d : D) → F d → G (h d)) → ((d : D) → x (h d) ≡ w d) → ((d : D) → y (h d) ≡ v d)
      → (ts : List Symbol) (o : Outcome A) → Good F w v ts o → Good G x y ts o
  good_as G x y h i e m ts (Reads a rest) g = record { what = h g.what; fitting = i g.what g.fitting; spells = ap (λ z. z ++ rest) (e g.what) ∙ g.spells; means = m g.what ∙ g.means }
  good_as G x y h i e m ts (Fails c rest) g = record { what = h g.what; fitting = i g.what g.fitting; front = g.front; more = g.more; reads = g.reads; spells = e g.what ∙ g.spells }

module _ {D A : Type 0} {F : D → Type 0} {w : D → List Symbol} {v : D → A} where
  pub some : {s : List Symbol → Type 0} {f : Parser A} → Right F w v s f → (d : D) × F d
  some {s} {f} r = some_of F w v [] (f []) (r.good [])

  pub as_right : {E : Type 0} {G : E → Type 0} {x : E → List Symbol} {y : E → A} {s : List Symbol → Type 0} {f : Parser A} (h : D → E) (h' : E → D)
      → ((d : D) → F d → G (h d)) → ((e : E) → G e → F (h' e)) → ((d : D) → x (h d) ≡ w d) → ((d : D) → y (h d) ≡ v d) → ((e : E) → h (h' e) ≡ e) → Right F w v s f → Right G x y s f
  as_right {E} {G} {x} {y} {s} {f} h h' i i' e m b r = record {
    good = λ ts. good_as F w v G x y h i e m ts (f ts) (r.good ts);
    reads = λ d rest j st. ap (λ z. f (z ++ rest)) (ap x (sym (b d)) ∙ e (h' d)) ∙ (r.reads (h' d) rest (i' d j) st ∙ ap (λ z. Reads z rest) (sym (m (h' d)) ∙ ap y (b d)));
  }

  pub same_right : {s : List Symbol → Type 0} {f g : Parser A} → ((ts : List Symbol) → g ts ≡ f ts) → Right F w v s f → Right F w v s g
  same_right {s} {f} {g} e r = record {
    good = λ ts. subst (Good F w v ts) (sym (e ts)) (r.good ts);
    reads = λ d rest i st. e (w d ++ rest) ∙ r.reads d rest i st;
  }

  pub stop_right : {s u : List Symbol → Type 0} {f : Parser A} → ((rest : List Symbol) → u rest → s rest) → Right F w v s f → Right F w v u f
  stop_right {s} {u} {f} h r = record { good = r.good; reads = λ d rest i st. r.reads d rest i (h rest st) }

  pub map_right : {B : Type 0} {s : List Symbol → Type 0} {f : Parser A} (h : A → B) → Right F w v s f → Right F w (λ d. h (v d)) s (f >>= (λ x. pure (h x)))
  map_right {B} {s} {f} h r = record {
    good = λ ts. by_outcome (Good F w v ts) (Good F w (λ d. h (v d)) ts) (f ts) (λ x. pure (h x)) (r.good ts)
        (λ a rest g. record { what = g.what; fitting = g.fitting; spells = g.spells; means = ap h g.means }) (λ c rest g. g);
    reads = λ d rest i st. ap (λ z. and_then z (λ x. pure (h x))) (r.reads d rest i st);
  }

  -- a mark, and what stands behind it
  pub mark_right : {s : List Symbol → Type 0} {f : Parser A} (x : Mark) → Right F w v s f → Right F (λ d. k.Mark x ∷ w d) v s (expect x >>= (λ _. f))
  unfolding expect
  mark_right {s} {f} x r = record { good = at; reads = λ d rest i st. ap (λ o. and_then o (λ _. f)) (if_true (is_mark x (k.Mark x)) (Reads tt (w d ++ rest)) (Fails Syntax (k.Mark x ∷ w d ++ rest)) (is_same x)) ∙ r.reads d rest i st }
    where
      at : (ts : List Symbol) → Good F (λ d. k.Mark x ∷ w d) v ts (and_then (look_by (refuse Syntax) (λ t. when {A = Unit {0}} (is_mark x t) (after (pure tt)) (refuse Syntax)) (head ts) ts) (λ _. f))
      at [] = nothing_read (some r).0 (some r).1 []
      at (t ∷ ts) = by_test (λ o. Good F (λ d. k.Mark x ∷ w d) v (t ∷ ts) (and_then o (λ _. f))) (is_mark x t) (Reads tt ts) (Fails Syntax (t ∷ ts))
          (λ e. subst (λ y. Good F (λ d. k.Mark x ∷ w d) v (y ∷ ts) (f ts)) (sym (mark_is x t e)) (good_behind F w v (k.Mark x) ts (f ts) (r.good ts)))
          (λ e. nothing_read (some r).0 (some r).1 (t ∷ ts))

pub pure_right : {A : Type 0} (a : A) → Right {D = Unit {0}} (λ d. Unit {0}) (λ d. []) (λ d. a) (λ rest. Unit {0}) (pure a)
pure_right a = record { good = λ ts. record { what = tt; fitting = tt; spells = refl; means = refl }; reads = λ d rest i st. refl }

pub then_right : {D E A B : Type 0} {F : D → Type 0} {w : D → List Symbol} {v : D → A} {s : List Symbol → Type 0} {f : Parser A}
    {G : E → Type 0} {x : E → List Symbol} {y : D → E → B} {u : List Symbol → Type 0} (g : A → Parser B)
    → Right F w v s f → ((d : D) → F d → Right G x (y d) u (g (v d))) → ((e : E) (rest : List Symbol) → G e → u rest → s (x e ++ rest))
    → Right {D = D × E} (λ d. F d.0 × G d.1) (λ d. w d.0 ++ x d.1) (λ d. y d.0 d.1) u (f >>= g)
then_right {D} {E} {A} {B} {F} {w} {v} {s} {f} {G} {x} {y} {u} g r q link = record {
  good = at;
  reads = λ d rest i st. ap (λ z. and_then (f z) g) (append_assoc (w d.0) (x d.1) rest) ∙ (ap (λ z. and_then z g) (r.reads d.0 (x d.1 ++ rest) i.0 (link d.1 rest i.1 st)) ∙ (q d.0 i.0).reads d.1 rest i.1 st);
}
  where
    second : (ts rest : List Symbol) (d : D) → F d → w d ++ rest ≡ ts → (o : Outcome B) → Good G x (y d) rest o → Good {D = D × E} (λ d. F d.0 × G d.1) (λ d. w d.0 ++ x d.1) (λ d. y d.0 d.1) ts o
    second ts rest d i e (Reads b rest') g = record { what = (d, g.what); fitting = (i, g.fitting); spells = append_assoc (w d) (x g.what) rest' ∙ (ap (λ z. w d ++ z) g.spells ∙ e); means = g.means }
    second ts rest d i e (Fails c rest') g = record { what = (d, g.what); fitting = (i, g.fitting); front = w d ++ g.front; more = g.more; reads = append_assoc (w d) g.front rest' ∙ (ap (λ z. w d ++ z) g.reads ∙ e); spells = ap (λ z. w d ++ z) g.spells ∙ sym (append_assoc (w d) g.front g.more) }

    at : (ts : List Symbol) → Good {D = D × E} (λ d. F d.0 × G d.1) (λ d. w d.0 ++ x d.1) (λ d. y d.0 d.1) ts (and_then (f ts) g)
    at ts = by_outcome (Good F w v ts) (Good {D = D × E} (λ d. F d.0 × G d.1) (λ d. w d.0 ++ x d.1) (λ d. y d.0 d.1) ts) (f ts) g (r.good ts)
        (λ a rest h. subst (λ z. Good {D = D × E} (λ d. F d.0 × G d.1) (λ d. w d.0 ++ x d.1) (λ d. y d.0 d.1) ts (g z rest)) h.means
        (second ts rest h.what h.fitting h.spells (g (v h.what) rest) ((q h.what h.fitting).good rest)))
        (λ c rest h. let e = some (q h.what h.fitting) in
        record { what = (h.what, e.0); fitting = (h.fitting, e.1); front = h.front; more = h.more ++ x e.0; reads = h.reads; spells = ap (λ z. z ++ x e.0) h.spells ∙ append_assoc h.front h.more (x e.0) })

-- a mark behind it, and what it then comes to
pub closed_right : {D A B : Type 0} {F : D → Type 0} {w : D → List Symbol} {v : D → A} {s : List Symbol → Type 0} {f : Parser A} (x : Mark) (h : A → B)
    → ((rest : List Symbol) → s (k.Mark x ∷ rest)) → Right F w v s f → Right F (λ d. w d ++ k.Mark x ∷ []) (λ d. h (v d)) (λ rest. Unit {0}) (f >>= (λ a. expect x >>= (λ _. pure (h a))))
closed_right {D} {A} {B} {F} {w} {v} {s} {f} x h link r =
    as_right (λ d. d.0) (λ d. (d, tt)) (λ d i. i.0) (λ d i. (i, tt)) (λ d. refl) (λ d. refl) (λ d. refl)
    (then_right (λ a. expect x >>= (λ _. pure (h a))) r (λ d i. mark_right x (pure_right (h (v d)))) (λ e rest i st. link rest))
