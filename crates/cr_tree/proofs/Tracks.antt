-- What is answered depends on no symbol after the refused one. Where the limits are wider a refusal of syntax stands, and
-- a symbol that met a limit is taken.
use Rattle.std.proofs.Common.{◌≡◌, ℕ, zero, suc, ◌+◌, ◌≤◌, ◌<◌, Bool, true, false, if◌then◌else◌, ◌-◌, ◌^◌, max, min, nat_lt, nat_le, List, [], ◌∷◌, ◌++◌, length, Option, Some, None, refl, sym, ◌∙◌, ap, subst, length-append, pos, neg_ℤ, bytes_eq, arith}
use Rattle.std.proofs.lemmas.Bool.{lt-ltb, leb-true, ltb-true, ltb-false}
use Rattle.cr_value.specs.declared.value.Value.TheVariants as values
use Rattle.cr_tree.specs.declared.symbol.Mark.{Mark}
use Rattle.cr_tree.specs.declared.symbol.Mark.TheVariants as m
use Rattle.cr_tree.specs.declared.symbol.Symbol.{Symbol}
use Rattle.cr_tree.specs.declared.symbol.Symbol.TheVariants as k
use Rattle.cr_tree.specs.declared.expr.Unary.{Unary}
use Rattle.cr_tree.specs.declared.expr.Unary.TheVariants as u
use Rattle.cr_tree.specs.declared.expr.Binary.{Binary}
use Rattle.cr_tree.specs.declared.expr.Binary.TheVariants as b
use Rattle.cr_tree.specs.declared.expr.Expr.{Expr}
use Rattle.cr_tree.specs.declared.expr.Expr.TheVariants as e
use Rattle.cr_tree.specs.declared.expr.When.{When, roll-When}
use Rattle.cr_tree.specs.declared.limits.LimitKind.{LimitKind}
use Rattle.cr_tree.specs.declared.limits.LimitKind.TheVariants as limits
use Rattle.cr_tree.specs.declared.limits.Limits.{Limits}
use Rattle.cr_tree.specs.Marks.{is_mark}
use Rattle.cr_tree.specs.Grammar.{leaf, is_size, count_name}
use Rattle.cr_tree.specs.Reading.{Outcome, Reads, Fails, Cause, Syntax, Limit, Deep, Parser, and_then, ◌>>=◌, pure, refuse, head, rest_of, look, look_by, after, when, expect, eat, name, name_by, is_name, many_from, many, up_to, listed, behind, size, second_size, sizes, type_words, Sized, Maybe, binding, operator_of, begins, begins_by, begins_at, too_high, ceiling, above, joined, add_item, add_arm, Rules, rules_of, inside_limits, argument_limits, below_limits, items, arguments, called, call, call_by, named, named_by, minus, minus_by, parenthesized, cast, subject, otherwise, arm, arms, case, leaf_by, prefixed, first_by, operated, is, between, among, negated, negated_by, operated_by, tail, tail_by, climb, level, expr}
use Rattle.cr_tree.proofs.Forms.{by_test, if_false}
use Rattle.cr_tree.proofs.Levels.{low_first, low_tail}
use Rattle.cr_tree.proofs.Knot.{expr_level, inside_expr, inside_shut, argument_expr, argument_high, argument_shut, below_expr, below_high}

-- what is left is no longer than what there was
abbrev pub Within : {A : Type 0} → ℕ → Outcome A → Type 0
Within n (Reads a rest) = length rest ≤ n
Within n (Fails c rest) = length rest ≤ n

pub within_more : {A : Type 0} (m n : ℕ) (o : Outcome A) → m ≤ n → Within m o → Within n o
within_more m n (Reads a rest) h w = omega arith
within_more m n (Fails c rest) h w = omega arith

-- what is left is less
abbrev pub Under : {A : Type 0} → ℕ → Outcome A → Type 0
Under n (Reads a rest) = length rest < n
Under n (Fails c rest) = length rest < n

under_more : {A : Type 0} (m n : ℕ) (o : Outcome A) → m < n → Within m o → Under n o
under_more m n (Reads a rest) h w = omega (arith, h, w)
under_more m n (Fails c rest) h w = omega (arith, h, w)

under_then : {A B : Type 0} (g : A → Parser B) → ((a : A) (ts : List Symbol) → Within (length ts) (g a ts)) → (n : ℕ) (o : Outcome A) → Under n o → Under n (and_then o g)
under_then g sg n (Reads a rest) h = under_more (length rest) n (g a rest) h (sg a rest)
under_then g sg n (Fails c rest) h = h

-- it takes the first symbol
abbrev TakesOne : {A : Type 0} → Symbol → Parser A → Type 0
TakesOne t f = (ts : List Symbol) → Within (length ts) (f (t ∷ ts))

taken_under : {A : Type 0} (f : Parser A) (t : Symbol) (ts : List Symbol) → head ts ≡ Some t → TakesOne t f → Under (length ts) (f ts)
taken_under f t [] i h = absurd (cc)
taken_under f t (u ∷ ts) i h = let same : t ≡ u = cc in under_more (length ts) (suc (length ts)) (f (u ∷ ts)) (omega arith) (subst (λ z. Within (length ts) (f (z ∷ ts))) same (h ts))

-- one that can begin an expression is taken
abbrev Takes : {A : Type 0} → ℕ → Parser A → Type 0
Takes least f = (t : Symbol) → begins least t ≡ true → TakesOne t f

not_true : (b : Bool) → (b ≡ true → ⊥) → b ≡ false
not_true true h = absurd (h refl)
not_true false h = refl

not_false : (b : Bool) → (b ≡ false → ⊥) → b ≡ true
not_false true h = refl
not_false false h = absurd (h refl)

pub within_then : {A B : Type 0} (g : A → Parser B) → ((a : A) (ts : List Symbol) → Within (length ts) (g a ts)) → (n : ℕ) (o : Outcome A) → Within n o → Within n (and_then o g)
within_then g sg n (Reads a rest) h = within_more (length rest) n (g a rest) h (sg a rest)
within_then g sg n (Fails c rest) h = h

binding_low : (t : Symbol) → binding t ≤ 9
binding_low (k.Mark m.Or) = omega arith
binding_low (k.Mark m.And) = omega arith
binding_low (k.Mark m.Equal) = omega arith
binding_low (k.Mark m.DoubleEqual) = omega arith
binding_low (k.Mark m.Unequal) = omega arith
binding_low (k.Mark m.BangEqual) = omega arith
binding_low (k.Mark m.Is) = omega arith
binding_low (k.Mark m.In) = omega arith
binding_low (k.Mark m.Like) = omega arith
binding_low (k.Mark m.Between) = omega arith
binding_low (k.Mark m.IsNull) = omega arith
binding_low (k.Mark m.NotNull) = omega arith
binding_low (k.Mark m.Not) = omega arith
binding_low (k.Mark m.Less) = omega arith
binding_low (k.Mark m.AtMost) = omega arith
binding_low (k.Mark m.Greater) = omega arith
binding_low (k.Mark m.AtLeast) = omega arith
binding_low (k.Mark m.Plus) = omega arith
binding_low (k.Mark m.Minus) = omega arith
binding_low (k.Mark m.Star) = omega arith
binding_low (k.Mark m.Slash) = omega arith
binding_low (k.Mark m.Percent) = omega arith
binding_low (k.Mark m.Bars) = omega arith
binding_low (k.Mark m.Collate) = omega arith
binding_low _ = omega arith

climb_small : (lim : Limits) (rules : Rules) → ((left : Sized) (ts : List Symbol) → Within (length ts) (tail lim rules left ts))
    → (n least most : ℕ) (left : Sized) (ts : List Symbol) → Within (length ts) (climb lim rules n least most left ts)
unfolding climb
climb_small lim rules small zero least most left [] = omega arith
climb_small lim rules small (suc n) least most left [] = omega arith
climb_small lim rules small zero least most left (t ∷ ts) = by_test (Within (suc (length ts))) (nat_le least (binding t)) (if nat_le (binding t) most then Fails Deep (t ∷ ts) else Reads left (t ∷ ts)) (Reads left (t ∷ ts))
    (λ i. by_test (Within (suc (length ts))) (nat_le (binding t) most) (Fails Deep (t ∷ ts)) (Reads left (t ∷ ts)) (λ j. omega arith) (λ j. omega arith)) (λ i. omega arith)
climb_small lim rules small (suc n) least most left (t ∷ ts) = turn (λ x us. climb_small lim rules small n least (binding t) x us)
  where
    turn : ((x : Sized) (us : List Symbol) → Within (length us) (climb lim rules n least (binding t) x us))
        → Within (suc (length ts)) (if nat_le least (binding t) then if nat_le (binding t) most then if nat_lt left.1 lim.room then and_then (tail lim rules left (t ∷ ts)) (climb lim rules n least (binding t)) else Fails Deep (t ∷ ts) else Reads left (t ∷ ts) else Reads left (t ∷ ts))
    turn again = by_test (Within (suc (length ts))) (nat_le least (binding t)) (if nat_le (binding t) most then if nat_lt left.1 lim.room then and_then (tail lim rules left (t ∷ ts)) (climb lim rules n least (binding t)) else Fails Deep (t ∷ ts) else Reads left (t ∷ ts)) (Reads left (t ∷ ts))
        (λ i. by_test (Within (suc (length ts))) (nat_le (binding t) most) (if nat_lt left.1 lim.room then and_then (tail lim rules left (t ∷ ts)) (climb lim rules n least (binding t)) else Fails Deep (t ∷ ts)) (Reads left (t ∷ ts))
        (λ j. by_test (Within (suc (length ts))) (nat_lt left.1 lim.room) (and_then (tail lim rules left (t ∷ ts)) (climb lim rules n least (binding t))) (Fails Deep (t ∷ ts))
        (λ k. within_then (climb lim rules n least (binding t)) again (suc (length ts)) (tail lim rules left (t ∷ ts)) (small left (t ∷ ts))) (λ k. omega arith)) (λ j. omega arith)) (λ i. omega arith)

-- the limits of a kind are the same where `exact` holds of it, else wider by 2 at least
pub record Widened (exact : LimitKind → Bool) (lim lim' : Limits) : Type 0 where
  pub more_opens : exact limits.Depth ≡ false → lim.opens + 2 ≤ lim'.opens
  pub same_opens : exact limits.Depth ≡ true → lim.opens ≡ lim'.opens
  pub more_room : exact limits.Depth ≡ false → lim.room + 2 ≤ lim'.room
  pub same_room : exact limits.Depth ≡ true → lim.room ≡ lim'.room
  pub more_commas : exact limits.Arguments ≡ false → lim.commas < lim'.commas
  pub same_commas : exact limits.Arguments ≡ true → lim.commas ≡ lim'.commas
  pub more_joins : exact limits.Tables ≡ false → lim.joins < lim'.joins
  pub same_joins : exact limits.Tables ≡ true → lim.joins ≡ lim'.joins

-- it is told with the wider limits too
abbrev pub Stands : (LimitKind → Bool) → Cause → Type 0
Stands exact Syntax = Unit {0}
Stands exact (Limit x) = exact x ≡ true

module _ (exact : LimitKind → Bool) (v v' : List Symbol) (heads : head v ≡ head v') where
  -- the run on a list that ends in v, beside the run on one that ends in v', which begins as v does: the same, unless
  -- the first symbol of v was taken
  pub data Track {A : Type 0} (o o' : Outcome A) : Type 0 where
    same_reads : (a : A) (p : List Symbol) → o ≡ Reads a (p ++ v) → o' ≡ Reads a (p ++ v') → Track o o'
    same_fails : (c : Cause) (p : List Symbol) → Stands exact c → o ≡ Fails c (p ++ v) → o' ≡ Fails c (p ++ v') → Track o o'
    -- only the narrower limit is met, and the symbol there is taken
    deeper : (x : LimitKind) (p : List Symbol) → exact x ≡ false → o ≡ Fails (Limit x) (p ++ v) → Under (length (p ++ v')) o' → Track o o'
    past : (x : Symbol) (u : List Symbol) → v ≡ x ∷ u → Within (length u) o → Track o o'

  pub record Regular {A : Type 0} (f f' : Parser A) : Type 0 where
    pub shrinks : (ts : List Symbol) → Within (length ts) (f ts)
    pub shrinks_too : (ts : List Symbol) → Within (length ts) (f' ts)
    pub tracks : (p : List Symbol) → Track (f (p ++ v)) (f' (p ++ v'))

  -- the same of symbols that begin with this one
  record RegularAt {A : Type 0} (t : Symbol) (f f' : Parser A) : Type 0 where
    shrinks : (ts : List Symbol) → Within (length ts) (f ts)
    shrinks_too : (ts : List Symbol) → Within (length ts) (f' ts)
    tracks : (p : List Symbol) → head (p ++ v) ≡ Some t → Track (f (p ++ v)) (f' (p ++ v'))

  regular_at : {A : Type 0} {f f' : Parser A} (t : Symbol) → Regular f f' → RegularAt t f f'
  regular_at t r = record { shrinks = r.shrinks; shrinks_too = r.shrinks_too; tracks = λ p h. r.tracks p }

  heads_same : (p : List Symbol) → head (p ++ v) ≡ head (p ++ v')
  heads_same [] = heads
  heads_same (t ∷ p) = refl

  pub pure_regular : {A : Type 0} (a : A) → Regular (pure a) (pure a)
  pure_regular a = record { shrinks = λ ts. omega arith; shrinks_too = λ ts. omega arith; tracks = λ p. same_reads a p refl refl }

  pub refuse_regular : {A : Type 0} → Regular {A = A} (refuse Syntax) (refuse Syntax)
  refuse_regular = record { shrinks = λ ts. omega arith; shrinks_too = λ ts. omega arith; tracks = λ p. same_fails Syntax p tt refl refl }

  pub same_regular : {A : Type 0} {f f' g g' : Parser A} → ((ts : List Symbol) → g ts ≡ f ts) → ((ts : List Symbol) → g' ts ≡ f' ts) → Regular f f' → Regular g g'
  same_regular {A} {f} {f'} {g} {g'} e e' r = record {
    shrinks = λ ts. subst (Within (length ts)) (sym (e ts)) (r.shrinks ts);
    shrinks_too = λ ts. subst (Within (length ts)) (sym (e' ts)) (r.shrinks_too ts);
    tracks = λ p. subst (λ o. Track o (g' (p ++ v'))) (sym (e (p ++ v))) (subst (λ o. Track (f (p ++ v)) o) (sym (e' (p ++ v'))) (r.tracks p));
  }

  look_small : {A : Type 0} (z : Parser A) (f : Symbol → Parser A) → ((ts : List Symbol) → Within (length ts) (z ts)) → ((t : Symbol) (ts : List Symbol) → Within (length ts) (f t ts)) → (ts : List Symbol) → Within (length ts) (look z f ts)
  look_small z f sz sf [] = sz []
  look_small z f sz sf (t ∷ ts) = sf t (t ∷ ts)

  look_at : {A : Type 0} {z z' : Parser A} {f f' : Symbol → Parser A} → Regular z z' → ((t : Symbol) → RegularAt t (f t) (f' t)) → Regular (look z f) (look z' f')
  look_at {z} {z'} {f} {f'} rz rf = record { shrinks = look_small z f rz.shrinks (λ t. (rf t).shrinks); shrinks_too = look_small z' f' rz.shrinks_too (λ t. (rf t).shrinks_too); tracks = at }
    where
      by_head : (h : Option Symbol) → head v ≡ h → Track (look_by z f h v) (look_by z' f' h v')
      by_head None i = rz.tracks []
      by_head (Some t) i = (rf t).tracks [] i

      at : (p : List Symbol) → Track (look z f (p ++ v)) (look z' f' (p ++ v'))
      at [] = subst (λ h. Track (look_by z f (head v) v) (look_by z' f' h v')) heads (by_head (head v) refl)
      at (t ∷ p) = (rf t).tracks (t ∷ p) refl

  pub look_regular : {A : Type 0} {z z' : Parser A} {f f' : Symbol → Parser A} → Regular z z' → ((t : Symbol) → Regular (f t) (f' t)) → Regular (look z f) (look z' f')
  look_regular rz rf = look_at rz (λ t. regular_at t (rf t))

  pub after_regular : {A : Type 0} {f f' : Parser A} → Regular f f' → Regular (after f) (after f')
  after_regular {A} {f} {f'} r = record { shrinks = small f r.shrinks; shrinks_too = small f' r.shrinks_too; tracks = at }
    where
      small : (f : Parser A) → ((ts : List Symbol) → Within (length ts) (f ts)) → (ts : List Symbol) → Within (length ts) (after f ts)
      small f s [] = s []
      small f s (t ∷ ts) = within_more (length ts) (suc (length ts)) (f ts) (omega arith) (s ts)

      taken : (w w' : List Symbol) → v ≡ w → v' ≡ w' → head w ≡ head w' → Track (f (rest_of w)) (f' (rest_of w'))
      taken [] [] i j h = subst (λ y. Track (f y) (f' [])) i (subst (λ y. Track (f v) (f' y)) j (r.tracks []))
      taken [] (t ∷ w') i j h = absurd (cc)
      taken (t ∷ w) w' i j h = past t w i (r.shrinks w)

      at : (p : List Symbol) → Track (after f (p ++ v)) (after f' (p ++ v'))
      at [] = taken v v' refl refl heads
      at (t ∷ p) = r.tracks p

  track_then : {A B : Type 0} (g g' : A → Parser B) → ((a : A) (ts : List Symbol) → Within (length ts) (g a ts)) → ((a : A) (ts : List Symbol) → Within (length ts) (g' a ts)) → (o o' : Outcome A) → Track o o'
      → ((a : A) (p : List Symbol) → o ≡ Reads a (p ++ v) → Track (g a (p ++ v)) (g' a (p ++ v'))) → Track (and_then o g) (and_then o' g')
  track_then g g' sg sg' o o' (same_reads a p i j) t = subst (λ y. Track (and_then y g) (and_then o' g')) (sym i) (subst (λ y. Track (g a (p ++ v)) (and_then y g')) (sym j) (t a p i))
  track_then g g' sg sg' o o' (same_fails c p s i j) t = same_fails c p s (ap (λ y. and_then y g) i) (ap (λ y. and_then y g') j)
  track_then g g' sg sg' o o' (deeper x p h i u) t = deeper x p h (ap (λ y. and_then y g) i) (under_then g' sg' (length (p ++ v')) o' u)
  track_then g g' sg sg' o o' (past x u i h) t = past x u i (within_then g sg (length u) o h)

  pub then_regular : {A B : Type 0} {f f' : Parser A} {g g' : A → Parser B} → Regular f f' → ((a : A) → Regular (g a) (g' a)) → Regular (f >>= g) (f' >>= g')
  then_regular {A} {B} {f} {f'} {g} {g'} rf rg = record {
    shrinks = λ ts. within_then g (λ a ts. (rg a).shrinks ts) (length ts) (f ts) (rf.shrinks ts);
    shrinks_too = λ ts. within_then g' (λ a ts. (rg a).shrinks_too ts) (length ts) (f' ts) (rf.shrinks_too ts);
    tracks = λ p. track_then g g' (λ a ts. (rg a).shrinks ts) (λ a ts. (rg a).shrinks_too ts) (f (p ++ v)) (f' (p ++ v')) (rf.tracks p) (λ a p i. (rg a).tracks p);
  }

  -- where what comes next depends on what was read
  then_at : {A B : Type 0} {t : Symbol} {f f' : Parser A} (g g' : A → Parser B) → RegularAt t f f' → ((a : A) (ts : List Symbol) → Within (length ts) (g a ts)) → ((a : A) (ts : List Symbol) → Within (length ts) (g' a ts))
      → ((a : A) (ts p : List Symbol) → head ts ≡ Some t → f ts ≡ Reads a (p ++ v) → Track (g a (p ++ v)) (g' a (p ++ v'))) → RegularAt t (f >>= g) (f' >>= g')
  then_at {f = f} {f' = f'} g g' rf sg sg' rg = record {
    shrinks = λ ts. within_then g sg (length ts) (f ts) (rf.shrinks ts);
    shrinks_too = λ ts. within_then g' sg' (length ts) (f' ts) (rf.shrinks_too ts);
    tracks = λ p h. track_then g g' sg sg' (f (p ++ v)) (f' (p ++ v')) (rf.tracks p h) (λ a q i. rg a (p ++ v) q h i);
  }

  -- a test on a limit: where it fails only with the narrower one, the wider parser takes the symbol
  limit_at : {A : Type 0} {t : Symbol} {b b' : Bool} {f f' : Parser A} → (b ≡ true → b' ≡ true) → (exact limits.Depth ≡ true → b ≡ b') → (exact limits.Depth ≡ false → b' ≡ true) → ((ts : List Symbol) → Within (length ts) (f' ts))
      → (exact limits.Depth ≡ false → TakesOne t f') → (b ≡ true → RegularAt t f f') → RegularAt t (when b f (refuse Deep)) (when b' f' (refuse Deep))
  limit_at {b = true} {b' = true} h e w s n r = r refl
  limit_at {b = true} {b' = false} h e w s n r = absurd (cc (h refl))
  limit_at {b = false} {b' = false} h e w s n r = record { shrinks = λ ts. omega arith; shrinks_too = λ ts. omega arith; tracks = λ p i. same_fails Deep p (not_false (exact limits.Depth) (λ x. cc (w x))) refl refl }
  limit_at {t = t} {b = false} {b' = true} {f' = f'} h e w s n r = record { shrinks = λ ts. omega arith; shrinks_too = s; tracks = at }
    where
      inexact : exact limits.Depth ≡ false
      inexact = not_true (exact limits.Depth) (λ x. cc (e x))

      at : (p : List Symbol) → head (p ++ v) ≡ Some t → Track (Fails Deep (p ++ v)) (f' (p ++ v'))
      at p i = deeper limits.Depth p inexact refl (taken_under f' t (p ++ v') (sym (heads_same p) ∙ i) (n inexact))

  -- a test on the symbols alone
  pub when_regular : {A : Type 0} (b : Bool) {f f' g g' : Parser A} → Regular f f' → Regular g g' → Regular (when b f g) (when b f' g')
  when_regular true r q = r
  when_regular false r q = q

  when_at : {A : Type 0} {t : Symbol} (b : Bool) {f f' g g' : Parser A} → (b ≡ true → RegularAt t f f') → RegularAt t g g' → RegularAt t (when b f g) (when b f' g')
  when_at true r q = r refl
  when_at false r q = q

  pub expect_regular : (x : Mark) → Regular (expect x) (expect x)
  unfolding expect
  expect_regular x = look_regular refuse_regular (λ t. when_regular (is_mark x t) (after_regular (pure_regular tt)) refuse_regular)

  -- behind a mark
  pub mark_regular : {A : Type 0} {f f' : Parser A} (x : Mark) → Regular f f' → Regular (expect x >>= (λ _. f)) (expect x >>= (λ _. f'))
  mark_regular x r = then_regular (expect_regular x) (λ _. r)

  pub closed_regular : {A : Type 0} (x : Mark) (a : A) → Regular (expect x >>= (λ _. pure a)) (expect x >>= (λ _. pure a))
  closed_regular x a = mark_regular x (pure_regular a)

  pub eat_regular : (x : Mark) → Regular (eat x) (eat x)
  unfolding eat
  eat_regular x = look_regular (pure_regular false) (λ t. when_regular (is_mark x t) (after_regular (pure_regular true)) (pure_regular false))

  pub name_regular : Regular name name
  unfolding name
  name_regular = look_regular refuse_regular by
    where
      by : (t : Symbol) → Regular (name_by t) (name_by t)
      by (k.Name n) = after_regular (pure_regular n)
      by t = refuse_regular

  stands_if : (b : Bool) → exact limits.Depth ≡ true → Stands exact (if b then Deep else Syntax)
  stands_if true e = e
  stands_if false e = tt

  too_high_regular : {A : Type 0} (least : ℕ) → exact limits.Depth ≡ true → Regular {A = A} (too_high least) (too_high least)
  unfolding too_high
  too_high_regular {A} least e = record {
    shrinks = λ ts. omega arith;
    shrinks_too = λ ts. omega arith;
    tracks = λ p. same_fails (if begins_at least (head (p ++ v)) then Deep else Syntax) p (stands_if (begins_at least (head (p ++ v))) e) refl (ap (λ h. Fails (if begins_at least h then Deep else Syntax) (p ++ v')) (sym (heads_same p)));
  }

  -- at the end and at a symbol that begins no expression the answer is a refusal of syntax
  abbrev pub Refuses : {A : Type 0} → ℕ → Parser A → Type 0
  Refuses least f = (ts : List Symbol) → begins_at least (head ts) ≡ false → f ts ≡ Fails Syntax ts

  -- where there is no room, one that can begin an expression meets the limit, and another is refused
  high_regular : {A : Type 0} (least : ℕ) (f' : Parser A) → exact limits.Depth ≡ false → Refuses least f' → Takes least f' → ((ts : List Symbol) → Within (length ts) (f' ts)) → Regular (too_high least) f'
  unfolding too_high
  high_regular {A} least f' inexact refuses takes small = record { shrinks = λ ts. omega arith; shrinks_too = small; tracks = at }
    where
      under : (ts : List Symbol) → begins_at least (head ts) ≡ true → Under (length ts) (f' ts)
      under [] i = absurd (cc)
      under (t ∷ ts) i = taken_under f' t (t ∷ ts) refl (takes t i)

      by : (p : List Symbol) (b : Bool) → begins_at least (head (p ++ v)) ≡ b → Track {A = A} (Fails (if b then Deep else Syntax) (p ++ v)) (f' (p ++ v'))
      by p true i = deeper limits.Depth p inexact refl (under (p ++ v') (ap (begins_at least) (sym (heads_same p)) ∙ i))
      by p false i = same_fails Syntax p tt refl (refuses (p ++ v') (ap (begins_at least) (sym (heads_same p)) ∙ i))

      at : (p : List Symbol) → Track {A = A} (Fails (if begins_at least (head (p ++ v)) then Deep else Syntax) (p ++ v)) (f' (p ++ v'))
      at p = by p (begins_at least (head (p ++ v))) refl

  -- ---- as many as there are

  many_small : {A S : Type 0} (b : Symbol → Bool) (add : S → A → S) (item : Parser A) → ((ts : List Symbol) → Within (length ts) (item ts)) → (n : ℕ) (a : S) (ts : List Symbol) → Within (length ts) (many_from b item add n a ts)
  unfolding many_from
  many_small b add item small zero a ts = omega arith
  many_small b add item small (suc n) a [] = omega arith
  many_small {S = S} b add item small (suc n) a (t ∷ ts) = turn (λ a ts. many_small b add item small n a ts)
    where
      turn : ((a : S) (ts : List Symbol) → Within (length ts) (many_from b item add n a ts)) → Within (suc (length ts)) (if b t then and_then (item (t ∷ ts)) (λ x. many_from b item add n (add a x)) else Reads a (t ∷ ts))
      turn again = by_test (Within (suc (length ts))) (b t) (and_then (item (t ∷ ts)) (λ x. many_from b item add n (add a x))) (Reads a (t ∷ ts))
          (λ e. within_then (λ x. many_from b item add n (add a x)) (λ x ts. again (add a x) ts) (suc (length ts)) (item (t ∷ ts)) (small (t ∷ ts))) (λ e. omega arith)

  module _ {A S : Type 0} (b : Symbol → Bool) (add : S → A → S) (item item' : Parser A) (r : Regular item item')
      (takes : (t : Symbol) (ts : List Symbol) → b t ≡ true → Within (length ts) (item (t ∷ ts))) where
    many_track : (n n' : ℕ) (a : S) (p : List Symbol) → length (p ++ v) ≤ n → length (p ++ v') ≤ n' → Track (many_from b item add n a (p ++ v)) (many_from b item' add n' a (p ++ v'))
    unfolding many_from
    many_track n n' a [] h h' = at_end v v' refl refl heads n n' h h'
      where
        none_left : (f : Parser A) (n : ℕ) → many_from b f add n a [] ≡ Reads a []
        none_left f zero = refl
        none_left f (suc n) = refl

        at_end : (w w' : List Symbol) → v ≡ w → v' ≡ w' → head w ≡ head w' → (n n' : ℕ) → length v ≤ n → length v' ≤ n' → Track (many_from b item add n a v) (many_from b item' add n' a v')
        at_end [] [] i j e n n' h h' = same_reads a [] (ap (many_from b item add n a) i ∙ (none_left item n ∙ ap (Reads a) (sym i))) (ap (many_from b item' add n' a) j ∙ (none_left item' n' ∙ ap (Reads a) (sym j)))
        at_end [] (t ∷ w') i j e n n' h h' = absurd (cc)
        at_end (t ∷ w) [] i j e n n' h h' = absurd (cc)
        at_end (t ∷ w) (t' ∷ w') i j e zero n' h h' = absurd (omega (arith, h, ap length i))
        at_end (t ∷ w) (t' ∷ w') i j e (suc n) zero h h' = absurd (omega (arith, h', ap length j))
        at_end (t ∷ w) (t' ∷ w') i j e (suc n) (suc n') h h' = let same : v' ≡ t ∷ w' = cc in
            subst (λ y. Track (many_from b item add (suc n) a y) (many_from b item' add (suc n') a v')) (sym i) (subst (λ y. Track (many_from b item add (suc n) a (t ∷ w)) (many_from b item' add (suc n') a y)) (sym same) (by (b t) refl same))
          where
            by : (c : Bool) → b t ≡ c → v' ≡ t ∷ w' → Track (if b t then and_then (item (t ∷ w)) (λ x. many_from b item add n (add a x)) else Reads a (t ∷ w)) (if b t then and_then (item' (t ∷ w')) (λ x. many_from b item' add n' (add a x)) else Reads a (t ∷ w'))
            by true c same = past t w i (subst (λ z. Within (length w) (if z then and_then (item (t ∷ w)) (λ x. many_from b item add n (add a x)) else Reads a (t ∷ w))) (sym c)
                (within_then (λ x. many_from b item add n (add a x)) (λ x ts. many_small b add item r.shrinks n (add a x) ts) (length w) (item (t ∷ w)) (takes t w c)))
            by false c same = same_reads a [] (if_false (b t) (and_then (item (t ∷ w)) (λ x. many_from b item add n (add a x))) (Reads a (t ∷ w)) c ∙ ap (Reads a) (sym i))
                (if_false (b t) (and_then (item' (t ∷ w')) (λ x. many_from b item' add n' (add a x))) (Reads a (t ∷ w')) c ∙ ap (Reads a) (sym same))
    many_track zero n' a (t ∷ p) h h' = absurd (omega (arith, h))
    many_track (suc n) zero a (t ∷ p) h h' = absurd (omega (arith, h'))
    many_track (suc n) (suc n') a (t ∷ p) h h' = by (λ a q k k'. many_track n n' a q k k') (b t) refl
      where
        by : ((a : S) (q : List Symbol) → length (q ++ v) ≤ n → length (q ++ v') ≤ n' → Track (many_from b item add n a (q ++ v)) (many_from b item' add n' a (q ++ v'))) → (c : Bool) → b t ≡ c
            → Track (if c then and_then (item (t ∷ p ++ v)) (λ x. many_from b item add n (add a x)) else Reads a (t ∷ p ++ v)) (if c then and_then (item' (t ∷ p ++ v')) (λ x. many_from b item' add n' (add a x)) else Reads a (t ∷ p ++ v'))
        by again true c = track_then (λ x. many_from b item add n (add a x)) (λ x. many_from b item' add n' (add a x)) (λ x ts. many_small b add item r.shrinks n (add a x) ts) (λ x ts. many_small b add item' r.shrinks_too n' (add a x) ts) (item (t ∷ p ++ v)) (item' (t ∷ p ++ v')) (r.tracks (t ∷ p))
            (λ x q i. let w : length (q ++ v) ≤ length (p ++ v) = subst (Within (length (p ++ v))) i (takes t (p ++ v) c) in
            again (add a x) q (omega (arith, w, h)) (omega (arith, w, h', length-append q v, length-append q v', length-append p v, length-append p v')))
        by again false c = same_reads a (t ∷ p) refl refl

    pub many_regular : (a : S) → Regular (many b item add a) (many b item' add a)
    unfolding many
    many_regular a = record { shrinks = λ ts. many_small b add item r.shrinks (length ts) a ts; shrinks_too = λ ts. many_small b add item' r.shrinks_too (length ts) a ts; tracks = λ p. many_track (length (p ++ v)) (length (p ++ v')) a p (omega arith) (omega arith) }

  -- ---- at most so many

  up_small : {A S : Type 0} (x : LimitKind) (b : Symbol → Bool) (add : S → A → S) (item : Parser A) → ((ts : List Symbol) → Within (length ts) (item ts)) → (n : ℕ) (a : S) (ts : List Symbol) → Within (length ts) (up_to x b item add n a ts)
  unfolding up_to
  up_small x b add item small zero a [] = omega arith
  up_small x b add item small (suc n) a [] = omega arith
  up_small x b add item small zero a (t ∷ ts) = by_test (Within (suc (length ts))) (b t) (Fails (Limit x) (t ∷ ts)) (Reads a (t ∷ ts)) (λ e. omega arith) (λ e. omega arith)
  up_small {S = S} x b add item small (suc n) a (t ∷ ts) = turn (λ a ts. up_small x b add item small n a ts)
    where
      turn : ((a : S) (ts : List Symbol) → Within (length ts) (up_to x b item add n a ts)) → Within (suc (length ts)) (if b t then and_then (item (t ∷ ts)) (λ y. up_to x b item add n (add a y)) else Reads a (t ∷ ts))
      turn again = by_test (Within (suc (length ts))) (b t) (and_then (item (t ∷ ts)) (λ y. up_to x b item add n (add a y))) (Reads a (t ∷ ts))
          (λ e. within_then (λ y. up_to x b item add n (add a y)) (λ y ts. again (add a y) ts) (suc (length ts)) (item (t ∷ ts)) (small (t ∷ ts))) (λ e. omega arith)

  module _ {A S : Type 0} (x : LimitKind) (b : Symbol → Bool) (add : S → A → S) (item item' : Parser A) (r : Regular item item')
      (takes : (t : Symbol) (ts : List Symbol) → b t ≡ true → Within (length ts) (item' (t ∷ ts))) where
    -- the narrower limit refuses what begins one more, and the wider one takes it
    one_more_at : (n : ℕ) (a : S) (t : Symbol) → exact x ≡ false → b t ≡ true → RegularAt {A = S} t (refuse (Limit x)) (item' >>= (λ y. up_to x b item' add n (add a y)))
    one_more_at n a t inexact begins = record {
      shrinks = λ ts. omega arith;
      shrinks_too = λ ts. within_then (λ y. up_to x b item' add n (add a y)) (λ y ts. up_small x b add item' r.shrinks_too n (add a y) ts) (length ts) (item' ts) (r.shrinks_too ts);
      tracks = λ p i. deeper x p inexact refl (taken_under (item' >>= (λ y. up_to x b item' add n (add a y))) t (p ++ v') (sym (heads_same p) ∙ i)
          (λ ts. within_then (λ y. up_to x b item' add n (add a y)) (λ y ts. up_small x b add item' r.shrinks_too n (add a y) ts) (length ts) (item' (t ∷ ts)) (takes t ts begins)));
    }

    shut : exact x ≡ true → Regular {A = S} (refuse (Limit x)) (refuse (Limit x))
    shut e = record { shrinks = λ ts. omega arith; shrinks_too = λ ts. omega arith; tracks = λ p. same_fails (Limit x) p e refl refl }

    pub up_regular : (n n' : ℕ) → (exact x ≡ false → n < n') → (exact x ≡ true → n ≡ n') → (a : S) → Regular (up_to x b item add n a) (up_to x b item' add n' a)
    unfolding up_to
    up_regular zero zero h s a = look_regular (pure_regular a) (λ t. when_regular (b t) (shut (not_false (exact x) (λ e. omega (arith, h e)))) (pure_regular a))
    up_regular zero (suc n') h s a = look_at (pure_regular a) (λ t. when_at (b t) (λ i. one_more_at n' a t (not_true (exact x) (λ e. omega (arith, s e))) i) (regular_at t (pure_regular a)))
    up_regular (suc n) zero h s a = let i : exact x ≡ false = not_true (exact x) (λ e. omega (arith, s e)) in absurd (omega (arith, h i))
    up_regular (suc n) (suc n') h s a = look_regular (pure_regular a) (λ t. when_regular (b t) (then_regular r (λ y. up_regular n n' (λ e. omega (arith, h e)) (λ e. omega (arith, s e)) (add a y))) (pure_regular a))

  -- ---- types and marks

  mark_takes : {A : Type 0} (x : Mark) (f : Parser A) → ((ts : List Symbol) → Within (length ts) (f ts)) → (t : Symbol) (ts : List Symbol) → is_mark x t ≡ true → Within (length ts) (and_then (expect x (t ∷ ts)) (λ _. f))
  unfolding expect
  mark_takes {A} x f small t ts h = subst (λ z. Within (length ts) (and_then (if z then Reads (tt {0}) ts else Fails Syntax (t ∷ ts)) (λ _. f))) (sym h) (small ts)

  name_takes : (t : Symbol) (ts : List Symbol) → is_name t ≡ true → Within (length ts) (name (t ∷ ts))
  unfolding name
  name_takes (k.Name n) ts h = omega arith
  name_takes _ ts h = absurd (cc)

  size_regular : Regular size size
  unfolding size
  size_regular = look_regular refuse_regular (λ t. when_regular (is_size t) (after_regular (pure_regular tt)) refuse_regular)

  second_regular : Regular second_size second_size
  unfolding second_size
  second_regular = look_regular (pure_regular tt) (λ t. when_regular (is_mark m.Comma t) (mark_regular m.Comma size_regular) (pure_regular tt))

  pub sizes_regular : Regular sizes sizes
  unfolding sizes
  sizes_regular = look_regular (pure_regular tt) (λ t. when_regular (is_mark m.Open t) (then_regular (mark_regular m.Open size_regular) (λ a. then_regular second_regular (λ b. closed_regular m.Close tt))) (pure_regular tt))

  type_words_regular : Regular type_words type_words
  unfolding type_words
  type_words_regular = then_regular name_regular (λ n. then_regular (many_regular is_name listed name name name_regular name_takes (n ∷ [])) (λ ns. then_regular sizes_regular (λ s. pure_regular ns)))

  -- ---- expressions

  module _ (lim : Limits) (rules : Rules) (lim' : Limits) (rules' : Rules) (widened : Widened exact lim lim')
      (inside_regular : Regular rules.inside rules'.inside) (argument_regular : Regular rules.argument rules'.argument) (below_regular : (l : ℕ) → 0 < l → l ≤ 10 → Regular (rules.below l) (rules'.below l))
      (first_low : exact limits.Depth ≡ false → (least : ℕ) → 0 < least → least ≤ 10 → (t : Symbol) (ts : List Symbol) (x : Sized) (rest : List Symbol) → head ts ≡ Some t → first_by lim rules least t ts ≡ Reads x rest → x.1 ≤ lim.room)
      (tail_low : exact limits.Depth ≡ false → (left : Sized) (t : Symbol) (ts : List Symbol) (x : Sized) (rest : List Symbol) → head ts ≡ Some t → 0 < binding t → left.1 < lim.room → tail lim rules left ts ≡ Reads x rest → x.1 ≤ lim.room) where
    -- what is within the narrower limit is within the wider one
    wider : {m n : ℕ} → (exact limits.Depth ≡ false → m + 2 ≤ n) → (exact limits.Depth ≡ true → m ≡ n) → (a : ℕ) → nat_lt a m ≡ true → nat_lt a n ≡ true
    wider {m} {n} w s a i = at (exact limits.Depth) refl
      where
        at : (b : Bool) → exact limits.Depth ≡ b → nat_lt a n ≡ true
        at true e = ap (nat_lt a) (sym (s e)) ∙ i
        at false e = lt-ltb a n (omega (arith, w e, ltb-true a m i))

    open_at : {A : Type 0} {t : Symbol} {f f' : Parser A} → (exact limits.Depth ≡ false → TakesOne t f') → RegularAt t f f' → RegularAt t (when (nat_lt 0 lim.opens) f (refuse Deep)) (when (nat_lt 0 lim'.opens) f' (refuse Deep))
    open_at n r = limit_at (wider widened.more_opens widened.same_opens 0) (λ e. ap (nat_lt 0) (widened.same_opens e)) (λ e. lt-ltb 0 lim'.opens (omega (arith, widened.more_opens e))) r.shrinks_too n (λ i. r)

    -- a symbol that opens a parenthesis is taken
    opened : {A : Type 0} {f f' : Parser A} (t : Symbol) → Regular f f' → RegularAt t (when (nat_lt 0 lim.opens) (after f) (refuse Deep)) (when (nat_lt 0 lim'.opens) (after f') (refuse Deep))
    opened t r = open_at (λ e ts. r.shrinks_too ts) (regular_at t (after_regular r))

    -- a symbol that makes a tree higher is taken
    roomed : {A : Type 0} {f f' : Parser A} (t : Symbol) → Regular f f' → RegularAt t (when (nat_lt 0 lim.room) (after f) (refuse Deep)) (when (nat_lt 0 lim'.room) (after f') (refuse Deep))
    roomed t r = let a = regular_at t (after_regular r) in limit_at (wider widened.more_room widened.same_room 0) (λ e. ap (nat_lt 0) (widened.same_room e)) (λ e. lt-ltb 0 lim'.room (omega (arith, widened.more_room e))) a.shrinks_too (λ e ts. r.shrinks_too ts) (λ i. a)

    items_regular : Regular (items lim rules) (items lim' rules')
    unfolding items
    items_regular = then_regular argument_regular (λ x. many_regular (is_mark m.Comma) add_item (behind m.Comma rules.argument) (behind m.Comma rules'.argument) (mark_regular m.Comma argument_regular) (mark_takes m.Comma _ argument_regular.shrinks) (x.0 ∷ [], x.1))

    arguments_regular : Regular (arguments lim rules) (arguments lim' rules')
    unfolding arguments
    arguments_regular = then_regular argument_regular (λ x. up_regular limits.Arguments (is_mark m.Comma) add_item (behind m.Comma rules.argument) (behind m.Comma rules'.argument) (mark_regular m.Comma argument_regular)
        (mark_takes m.Comma _ argument_regular.shrinks_too) lim.commas lim'.commas widened.more_commas widened.same_commas (x.0 ∷ [], x.1))

    called_regular : (f : List ℕ) → Regular (called lim rules f) (called lim' rules' f)
    unfolding called
    called_regular f = then_regular arguments_regular (λ all. closed_regular m.Close (e.Call f all.0, suc all.1))

    call_regular : (f : List ℕ) → Regular (call lim rules f) (call lim' rules' f)
    unfolding call
    call_regular f = look_regular refuse_regular by
      where
        by : (t : Symbol) → Regular (call_by lim rules f t) (call_by lim' rules' f t)
        by (k.Mark m.Close) = after_regular (pure_regular (e.Call f [], 0))
        by (k.Mark m.Star) = when_regular (bytes_eq f count_name) (after_regular (closed_regular m.Close (e.CountAll, 0))) refuse_regular
        by t = called_regular f

    named_regular : (f : List ℕ) → Regular (named lim rules f) (named lim' rules' f)
    unfolding named
    named_regular f = look_at (pure_regular (e.Column None f, 0)) by
      where
        by : (t : Symbol) → RegularAt t (named_by lim rules f t) (named_by lim' rules' f t)
        by (k.Mark m.Dot) = regular_at (k.Mark m.Dot) (after_regular (then_regular name_regular (λ n. pure_regular (e.Column (Some f) n, 0))))
        by (k.Mark m.Open) = opened (k.Mark m.Open) (call_regular f)
        by t = regular_at t (pure_regular (e.Column None f, 0))

    minus_regular : Regular (minus lim rules) (minus lim' rules')
    unfolding minus
    minus_regular = look_regular refuse_regular by
      where
        by : (t : Symbol) → Regular (minus_by lim rules t) (minus_by lim' rules' t)
        by (k.Number n) = when_regular (nat_le n (2 ^ 63)) (after_regular (pure_regular (e.Literal (values.Int (neg_ℤ (pos n))), 0))) refuse_regular
        by t = then_regular (below_regular 10 (omega arith) (omega arith)) (λ x. pure_regular (above (e.Unary u.Minus) x))

    parenthesized_regular : Regular (parenthesized lim rules) (parenthesized lim' rules')
    unfolding parenthesized
    parenthesized_regular = then_regular inside_regular (λ x. closed_regular m.Close x)

    cast_regular : Regular (cast lim rules) (cast lim' rules')
    unfolding cast
    cast_regular = mark_regular m.Open (then_regular argument_regular (λ x. mark_regular m.As (then_regular type_words_regular (λ ns. closed_regular m.Close (e.Cast x.0 ns, suc x.1)))))

    maybe_regular : Regular {A = Maybe} (rules.below 1 >>= (λ x. pure (Some x.0, x.1))) (rules'.below 1 >>= (λ x. pure (Some x.0, x.1)))
    maybe_regular = then_regular (below_regular 1 (omega arith) (omega arith)) (λ x. pure_regular (Some x.0, x.1))

    subject_regular : Regular (subject lim rules) (subject lim' rules')
    unfolding subject
    subject_regular = look_regular refuse_regular (λ t. when_regular (is_mark m.When t) (pure_regular (None, 0)) maybe_regular)

    otherwise_regular : Regular (otherwise lim rules) (otherwise lim' rules')
    unfolding otherwise
    otherwise_regular = look_regular (pure_regular (None, 0)) (λ t. when_regular (is_mark m.Else t) (then_regular (mark_regular m.Else (below_regular 1 (omega arith) (omega arith))) (λ x. pure_regular (Some x.0, x.1))) (pure_regular (None, 0)))

    pair_regular : Regular {A = When × ℕ} (rules.below 1 >>= (λ x. expect m.Then >>= (λ _. rules.below 1 >>= (λ y. pure (roll-When (record { when = x.0; then = y.0 }), max x.1 y.1)))))
        (rules'.below 1 >>= (λ x. expect m.Then >>= (λ _. rules'.below 1 >>= (λ y. pure (roll-When (record { when = x.0; then = y.0 }), max x.1 y.1)))))
    pair_regular = then_regular (below_regular 1 (omega arith) (omega arith)) (λ x. mark_regular m.Then (then_regular (below_regular 1 (omega arith) (omega arith)) (λ y. pure_regular (roll-When (record { when = x.0; then = y.0 }), max x.1 y.1))))

    arm_regular : Regular (arm lim rules) (arm lim' rules')
    unfolding arm
    arm_regular = mark_regular m.When pair_regular

    arm_takes : (t : Symbol) (ts : List Symbol) → is_mark m.When t ≡ true → Within (length ts) (arm lim rules (t ∷ ts))
    unfolding arm
    arm_takes t ts h = mark_takes m.When _ pair_regular.shrinks t ts h

    arms_regular : Regular (arms lim rules) (arms lim' rules')
    unfolding arms
    arms_regular = then_regular arm_regular (λ x. many_regular (is_mark m.When) add_arm (arm lim rules) (arm lim' rules') arm_regular arm_takes (x.0 ∷ [], x.1))

    case_regular : Regular (case lim rules) (case lim' rules')
    unfolding case
    case_regular = then_regular subject_regular (λ s. then_regular arms_regular (λ all. then_regular otherwise_regular (λ o. closed_regular m.End (e.Case s.0 all.0 o.0, suc (max s.1 (max all.1 o.1))))))

    leaf_regular : (o : Option Expr) → Regular (leaf_by lim rules o) (leaf_by lim' rules' o)
    leaf_regular None = refuse_regular
    leaf_regular (Some x) = after_regular (pure_regular (x, 0))

    below_made : (op : Unary) (l : ℕ) → 0 < l → l ≤ 10 → Regular (rules.below l >>= (λ x. pure (above (e.Unary op) x))) (rules'.below l >>= (λ x. pure (above (e.Unary op) x)))
    below_made op l p q = then_regular (below_regular l p q) (λ x. pure_regular (above (e.Unary op) x))

    prefixed_at : (op : Unary) (l : ℕ) (t : Symbol) → 0 < l → l ≤ 10 → RegularAt t (prefixed lim rules op l) (prefixed lim' rules' op l)
    unfolding prefixed
    prefixed_at op l t p q = roomed t (below_made op l p q)

    first_at : (least : ℕ) (t : Symbol) → RegularAt t (first_by lim rules least t) (first_by lim' rules' least t)
    first_at least (k.Mark m.Not) = when_at (nat_le least 3) (λ i. prefixed_at u.Not 3 (k.Mark m.Not) (omega arith) (omega arith)) (regular_at (k.Mark m.Not) refuse_regular)
    first_at least (k.Mark m.Plus) = prefixed_at u.Plus 10 (k.Mark m.Plus) (omega arith) (omega arith)
    first_at least (k.Mark m.Minus) = regular_at (k.Mark m.Minus) (after_regular minus_regular)
    first_at least (k.Mark m.Open) = opened (k.Mark m.Open) parenthesized_regular
    first_at least (k.Mark m.Case) = roomed (k.Mark m.Case) case_regular
    first_at least (k.Mark m.Cast) = open_at takes (roomed (k.Mark m.Cast) cast_regular)
      where
        takes : exact limits.Depth ≡ false → (ts : List Symbol) → Within (length ts) (if nat_lt 0 lim'.room then cast lim' rules' ts else Fails Deep (k.Mark m.Cast ∷ ts))
        takes e ts = subst (λ z. Within (length ts) (if z then cast lim' rules' ts else Fails Deep (k.Mark m.Cast ∷ ts))) (sym (lt-ltb 0 lim'.room (omega (arith, widened.more_room e)))) (cast_regular.shrinks_too ts)
    first_at least (k.Name n) = regular_at (k.Name n) (after_regular (named_regular n))
    first_at least t = regular_at t (leaf_regular (leaf t))

    operated_regular : (left : Sized) (l : ℕ) (op : Binary) → 0 < l → l ≤ 10 → Regular (operated lim rules left l op) (operated lim' rules' left l op)
    unfolding operated
    operated_regular left l op p q = then_regular (below_regular l p q) (λ x. pure_regular (joined op left x))

    tied_regular : (left : Sized) (op : Binary) → Regular (operated lim rules left 5 op) (operated lim' rules' left 5 op)
    tied_regular left op = operated_regular left 5 op (omega arith) (omega arith)

    is_regular : (left : Sized) → Regular (is lim rules left) (is lim' rules' left)
    unfolding is
    is_regular left = then_regular (eat_regular m.Not) (λ n. tied_regular left (if n then b.IsNot else b.Is))

    between_regular : (n : Bool) (left : Sized) → Regular (between lim rules n left) (between lim' rules' n left)
    unfolding between
    between_regular n left = then_regular (below_regular 5 (omega arith) (omega arith)) (λ low. mark_regular m.And (then_regular (below_regular 5 (omega arith) (omega arith)) (λ high. pure_regular (e.Between n left.0 low.0 high.0, suc (max left.1 (max low.1 high.1))))))

    among_regular : (n : Bool) (left : Sized) → Regular (among lim rules n left) (among lim' rules' n left)
    unfolding among
    among_regular n left = mark_regular m.Open (then_regular items_regular (λ all. closed_regular m.Close (e.In n left.0 all.0, suc (max left.1 all.1))))

    negated_regular : (left : Sized) → Regular (negated lim rules left) (negated lim' rules' left)
    unfolding negated
    negated_regular left = look_at refuse_regular by
      where
        by : (t : Symbol) → RegularAt t (negated_by lim rules left t) (negated_by lim' rules' left t)
        by (k.Mark m.Null) = regular_at (k.Mark m.Null) (after_regular (pure_regular (above (e.Unary u.NotNull) left)))
        by (k.Mark m.Like) = regular_at (k.Mark m.Like) (after_regular (tied_regular left b.NotLike))
        by (k.Mark m.Between) = regular_at (k.Mark m.Between) (after_regular (between_regular true left))
        by (k.Mark m.In) = opened (k.Mark m.In) (among_regular true left)
        by t = regular_at t refuse_regular

    operator_regular : (left : Sized) (t : Symbol) (o : Option Binary) → Regular (operated_by lim rules left t o) (operated_by lim' rules' left t o)
    operator_regular left t None = refuse_regular
    operator_regular left t (Some op) = after_regular (operated_regular left (suc (binding t)) op (omega arith) (omega (arith, binding_low t)))

    named_collation : (left : Sized) → Regular {A = Sized} (name >>= (λ c. pure (e.Collate left.0 c, suc left.1))) (name >>= (λ c. pure (e.Collate left.0 c, suc left.1)))
    named_collation left = then_regular name_regular (λ c. pure_regular (e.Collate left.0 c, suc left.1))

    tail_regular : (left : Sized) → Regular (tail lim rules left) (tail lim' rules' left)
    unfolding tail
    tail_regular left = look_at refuse_regular by
      where
        by : (t : Symbol) → RegularAt t (tail_by lim rules left t) (tail_by lim' rules' left t)
        by (k.Mark m.Not) = regular_at (k.Mark m.Not) (after_regular (negated_regular left))
        by (k.Mark m.Is) = regular_at (k.Mark m.Is) (after_regular (is_regular left))
        by (k.Mark m.In) = opened (k.Mark m.In) (among_regular false left)
        by (k.Mark m.Between) = regular_at (k.Mark m.Between) (after_regular (between_regular false left))
        by (k.Mark m.IsNull) = regular_at (k.Mark m.IsNull) (after_regular (pure_regular (above (e.Unary u.IsNull) left)))
        by (k.Mark m.NotNull) = regular_at (k.Mark m.NotNull) (after_regular (pure_regular (above (e.Unary u.NotNull) left)))
        by (k.Mark m.Collate) = regular_at (k.Mark m.Collate) (after_regular (named_collation left))
        by t = regular_at t (operator_regular left t (operator_of t))

    -- what can stand behind an operand is taken
    operator_taken : (left : Sized) (l : ℕ) (op : Binary) (ts : List Symbol) → 0 < l → l ≤ 10 → Within (length ts) (operated lim' rules' left l op ts)
    operator_taken left l op ts p q = (operated_regular left l op p q).shrinks_too ts

    tail_takes : exact limits.Depth ≡ false → (left : Sized) (t : Symbol) → 0 < binding t → TakesOne t (tail lim' rules' left)
    unfolding tail
    tail_takes i left (k.Mark m.Not) h ts = (negated_regular left).shrinks_too ts
    tail_takes i left (k.Mark m.Is) h ts = (is_regular left).shrinks_too ts
    tail_takes i left (k.Mark m.In) h ts = subst (λ z. Within (length ts) (if z then among lim' rules' false left ts else Fails Deep (k.Mark m.In ∷ ts))) (sym (lt-ltb 0 lim'.opens (omega (arith, widened.more_opens i)))) ((among_regular false left).shrinks_too ts)
    tail_takes i left (k.Mark m.Between) h ts = (between_regular false left).shrinks_too ts
    tail_takes i left (k.Mark m.IsNull) h ts = omega arith
    tail_takes i left (k.Mark m.NotNull) h ts = omega arith
    tail_takes i left (k.Mark m.Collate) h ts = (named_collation left).shrinks_too ts
    tail_takes i left (k.Mark m.Or) h ts = operator_taken left 2 b.Or ts (omega arith) (omega arith)
    tail_takes i left (k.Mark m.And) h ts = operator_taken left 3 b.And ts (omega arith) (omega arith)
    tail_takes i left (k.Mark m.Equal) h ts = operator_taken left 5 b.Equal ts (omega arith) (omega arith)
    tail_takes i left (k.Mark m.DoubleEqual) h ts = operator_taken left 5 b.Equal ts (omega arith) (omega arith)
    tail_takes i left (k.Mark m.Unequal) h ts = operator_taken left 5 b.Unequal ts (omega arith) (omega arith)
    tail_takes i left (k.Mark m.BangEqual) h ts = operator_taken left 5 b.Unequal ts (omega arith) (omega arith)
    tail_takes i left (k.Mark m.Like) h ts = operator_taken left 5 b.Like ts (omega arith) (omega arith)
    tail_takes i left (k.Mark m.Less) h ts = operator_taken left 6 b.Less ts (omega arith) (omega arith)
    tail_takes i left (k.Mark m.AtMost) h ts = operator_taken left 6 b.AtMost ts (omega arith) (omega arith)
    tail_takes i left (k.Mark m.Greater) h ts = operator_taken left 6 b.Greater ts (omega arith) (omega arith)
    tail_takes i left (k.Mark m.AtLeast) h ts = operator_taken left 6 b.AtLeast ts (omega arith) (omega arith)
    tail_takes i left (k.Mark m.Plus) h ts = operator_taken left 7 b.Add ts (omega arith) (omega arith)
    tail_takes i left (k.Mark m.Minus) h ts = operator_taken left 7 b.Subtract ts (omega arith) (omega arith)
    tail_takes i left (k.Mark m.Star) h ts = operator_taken left 8 b.Multiply ts (omega arith) (omega arith)
    tail_takes i left (k.Mark m.Slash) h ts = operator_taken left 8 b.Divide ts (omega arith) (omega arith)
    tail_takes i left (k.Mark m.Percent) h ts = operator_taken left 8 b.Remainder ts (omega arith) (omega arith)
    tail_takes i left (k.Mark m.Bars) h ts = operator_taken left 9 b.Join ts (omega arith) (omega arith)
    tail_takes i left _ h ts = absurd (omega (arith, h))

    climbs : (n least most : ℕ) (left : Sized) (ts : List Symbol) → Within (length ts) (climb lim rules n least most left ts)
    climbs = climb_small lim rules (λ left ts. (tail_regular left).shrinks ts)

    climbs_too : (n least most : ℕ) (left : Sized) (ts : List Symbol) → Within (length ts) (climb lim' rules' n least most left ts)
    climbs_too = climb_small lim' rules' (λ left ts. (tail_regular left).shrinks_too ts)

    -- one more turn of climbing
    turn_at : (b : Bool) (n n' least : ℕ) (left : Sized) (t : Symbol) → (b ≡ true → nat_lt left.1 lim'.room ≡ true) → (exact limits.Depth ≡ true → b ≡ nat_lt left.1 lim'.room) → (exact limits.Depth ≡ false → left.1 ≤ lim.room) → 0 < binding t
        → (b ≡ true → (x : Sized) (ts p : List Symbol) → head ts ≡ Some t → tail lim rules left ts ≡ Reads x (p ++ v)
        → Track (climb lim rules n least (binding t) x (p ++ v)) (climb lim' rules' n' least (binding t) x (p ++ v')))
        → RegularAt t (when b (tail lim rules left >>= climb lim rules n least (binding t)) (refuse Deep))
        (when (nat_lt left.1 lim'.room) (tail lim' rules' left >>= climb lim' rules' n' least (binding t)) (refuse Deep))
    turn_at b n n' least left t h s low some again = limit_at h s (λ e. lt-ltb left.1 lim'.room (omega (arith, low e, widened.more_room e)))
        (λ ts. within_then (climb lim' rules' n' least (binding t)) (climbs_too n' least (binding t)) (length ts) (tail lim' rules' left ts) ((tail_regular left).shrinks_too ts))
        (λ e ts. within_then (climb lim' rules' n' least (binding t)) (climbs_too n' least (binding t)) (length ts) (tail lim' rules' left (t ∷ ts)) (tail_takes e left t some ts))
        (λ i. then_at (climb lim rules n least (binding t)) (climb lim' rules' n' least (binding t)) (regular_at t (tail_regular left)) (climbs n least (binding t)) (climbs_too n' least (binding t)) (again i))

    climb_regular : (n n' least most : ℕ) (left : Sized) → (exact limits.Depth ≡ false → n < n') → (exact limits.Depth ≡ true → n ≡ n') → 0 < least → (exact limits.Depth ≡ false → left.1 ≤ lim.room)
        → Regular (climb lim rules n least most left) (climb lim' rules' n' least most left)
    unfolding climb
    climb_regular zero zero least most left h s p low = look_at (pure_regular left) (λ t. when_at (nat_le least (binding t)) (λ i. when_at (nat_le (binding t) most) (λ j. shut t) (regular_at t (pure_regular left))) (regular_at t (pure_regular left)))
      where
        shut : (t : Symbol) → RegularAt {A = Sized} t (refuse Deep) (refuse Deep)
        shut t = record { shrinks = λ ts. omega arith; shrinks_too = λ ts. omega arith; tracks = λ p i. same_fails Deep p (not_false (exact limits.Depth) (λ e. omega (arith, h e))) refl refl }
    climb_regular zero (suc n') least most left h s p low = look_at (pure_regular left) (λ t. when_at (nat_le least (binding t)) (λ i. when_at (nat_le (binding t) most) (λ j. out t (omega (arith, p, leb-true least (binding t) i))) (regular_at t (pure_regular left))) (regular_at t (pure_regular left)))
      where
        out : (t : Symbol) → 0 < binding t → RegularAt t (refuse Deep) (when (nat_lt left.1 lim'.room) (tail lim' rules' left >>= climb lim' rules' n' least (binding t)) (refuse Deep))
        out t some = turn_at false n' n' least left t (λ i. absurd (cc)) (λ e. absurd (omega (arith, s e))) low some (λ i. absurd (cc))
    climb_regular (suc n) zero least most left h s p low = let i : exact limits.Depth ≡ false = not_true (exact limits.Depth) (λ e. omega (arith, s e)) in absurd (omega (arith, h i))
    climb_regular (suc n) (suc n') least most left h s p low = look_at (pure_regular left) (λ t. turn (λ b x l. climb_regular n n' least b x (λ e. omega (arith, h e)) (λ e. omega (arith, s e)) p l) t)
      where
        turn : ((b : ℕ) (x : Sized) → (exact limits.Depth ≡ false → x.1 ≤ lim.room) → Regular (climb lim rules n least b x) (climb lim' rules' n' least b x)) → (t : Symbol)
            → RegularAt t (when (nat_le least (binding t)) (when (nat_le (binding t) most) (when (nat_lt left.1 lim.room) (tail lim rules left >>= climb lim rules n least (binding t)) (refuse Deep)) (pure left)) (pure left))
            (when (nat_le least (binding t)) (when (nat_le (binding t) most) (when (nat_lt left.1 lim'.room) (tail lim' rules' left >>= climb lim' rules' n' least (binding t)) (refuse Deep)) (pure left)) (pure left))
        turn again t = when_at (nat_le least (binding t)) (λ i. when_at (nat_le (binding t) most) (λ j. let some : 0 < binding t = omega (arith, p, leb-true least (binding t) i) in
            turn_at (nat_lt left.1 lim.room) n n' least left t (wider widened.more_room widened.same_room left.1) (λ e. ap (nat_lt left.1) (widened.same_room e)) low some
            (λ c x ts q hd eq. (again (binding t) x (λ e. tail_low e left t ts x (q ++ v) hd some (ltb-true left.1 lim.room c) eq)).tracks q))
            (regular_at t (pure_regular left))) (regular_at t (pure_regular left))

    level_regular : (least : ℕ) → 0 < least → least ≤ 10 → Regular (level lim rules least) (level lim' rules' least)
    unfolding level
    level_regular least p q = look_at refuse_regular (λ t. then_at (climb lim rules lim.room least (ceiling t)) (climb lim' rules' lim'.room least (ceiling t)) (first_at least t) (climbs lim.room least (ceiling t)) (climbs_too lim'.room least (ceiling t))
        (λ x ts r hd eq. (climb_regular lim.room lim'.room least (ceiling t) x (λ e. omega (arith, widened.more_room e)) widened.same_room p (λ e. first_low e least p q t ts x (r ++ v) hd eq)).tracks r))

    -- ---- what begins an expression is taken where there is room

    module _ (some_opens : 0 < lim.opens) (some_room : 0 < lim.room) where
      prefixed_takes : (op : Unary) (l : ℕ) (t : Symbol) (ts : List Symbol) → 0 < l → l ≤ 10 → Within (length ts) (prefixed lim rules op l (t ∷ ts))
      unfolding prefixed
      prefixed_takes op l t ts p q = subst (λ z. Within (length ts) (if z then and_then (rules.below l ts) (λ x. pure (above (e.Unary op) x)) else Fails Deep (t ∷ ts))) (sym (lt-ltb 0 lim.room some_room)) ((below_made op l p q).shrinks ts)

      number_takes : (least n : ℕ) (ts : List Symbol) (o : Option Expr) → begins_by least (k.Number n) o ≡ true → Within (length ts) (leaf_by lim rules o (k.Number n ∷ ts))
      number_takes least n ts None h = absurd (cc)
      number_takes least n ts (Some x) h = omega arith

      first_takes : (least : ℕ) (t : Symbol) (ts : List Symbol) → begins_by least t (leaf t) ≡ true → Within (length ts) (first_by lim rules least t (t ∷ ts))
      first_takes least (k.Mark m.Not) ts h = subst (λ z. Within (length ts) (if z then prefixed lim rules u.Not 3 (k.Mark m.Not ∷ ts) else Fails Syntax (k.Mark m.Not ∷ ts))) (sym h) (prefixed_takes u.Not 3 (k.Mark m.Not) ts (omega arith) (omega arith))
      first_takes least (k.Mark m.Plus) ts h = prefixed_takes u.Plus 10 (k.Mark m.Plus) ts (omega arith) (omega arith)
      first_takes least (k.Mark m.Minus) ts h = minus_regular.shrinks ts
      first_takes least (k.Mark m.Open) ts h = subst (λ z. Within (length ts) (if z then parenthesized lim rules ts else Fails Deep (k.Mark m.Open ∷ ts))) (sym (lt-ltb 0 lim.opens some_opens)) (parenthesized_regular.shrinks ts)
      first_takes least (k.Mark m.Case) ts h = subst (λ z. Within (length ts) (if z then case lim rules ts else Fails Deep (k.Mark m.Case ∷ ts))) (sym (lt-ltb 0 lim.room some_room)) (case_regular.shrinks ts)
      first_takes least (k.Mark m.Cast) ts h = subst (λ z. Within (length ts) (if z then if nat_lt 0 lim.room then cast lim rules ts else Fails Deep (k.Mark m.Cast ∷ ts) else Fails Deep (k.Mark m.Cast ∷ ts))) (sym (lt-ltb 0 lim.opens some_opens))
          (subst (λ z. Within (length ts) (if z then cast lim rules ts else Fails Deep (k.Mark m.Cast ∷ ts))) (sym (lt-ltb 0 lim.room some_room)) (cast_regular.shrinks ts))
      first_takes least (k.Name n) ts h = (named_regular n).shrinks ts
      first_takes least (k.Number n) ts h = number_takes least n ts (leaf (k.Number n)) h
      first_takes least (k.Bits i) ts h = omega arith
      first_takes least (k.Text x) ts h = omega arith
      first_takes least (k.Blob x) ts h = omega arith
      first_takes least (k.Param n) ts h = omega arith
      first_takes least (k.Mark m.Null) ts h = omega arith
      first_takes least _ ts h = absurd (cc)

      level_takes : (least : ℕ) → Takes least (level lim rules least)
      unfolding level begins
      level_takes least t h ts = within_then (climb lim rules lim.room least (ceiling t)) (climbs lim.room least (ceiling t)) (length ts) (first_by lim rules least t (t ∷ ts)) (first_takes least t ts h)

  -- ---- what begins no expression is refused

  module _ (lim : Limits) (rules : Rules) where
    leaf_refuses : (least : ℕ) (t : Symbol) (ts : List Symbol) (o : Option Expr) → begins_by least t o ≡ false → leaf_by lim rules o (t ∷ ts) ≡ Fails Syntax (t ∷ ts)
    leaf_refuses least t ts None h = refl
    leaf_refuses least t ts (Some x) h = absurd (cc)

    first_refuses : (least : ℕ) (t : Symbol) (ts : List Symbol) → begins_by least t (leaf t) ≡ false → first_by lim rules least t (t ∷ ts) ≡ Fails Syntax (t ∷ ts)
    first_refuses least (k.Mark m.Not) ts h = if_false (nat_le least 3) (prefixed lim rules u.Not 3 (k.Mark m.Not ∷ ts)) (Fails Syntax (k.Mark m.Not ∷ ts)) h
    first_refuses least (k.Mark m.Plus) ts h = absurd (cc)
    first_refuses least (k.Mark m.Minus) ts h = absurd (cc)
    first_refuses least (k.Mark m.Open) ts h = absurd (cc)
    first_refuses least (k.Mark m.Case) ts h = absurd (cc)
    first_refuses least (k.Mark m.Cast) ts h = absurd (cc)
    first_refuses least (k.Name n) ts h = absurd (cc)
    first_refuses least t ts h = leaf_refuses least t ts (leaf t) h

    level_refuses : (least : ℕ) → Refuses least (level lim rules least)
    unfolding level begins
    level_refuses least [] h = refl
    level_refuses least (t ∷ ts) h = ap (λ o. and_then o (climb lim rules lim.room least (ceiling t))) (first_refuses least t ts h)

  expr_refuses : (lim : Limits) (least : ℕ) → Refuses least (expr lim least)
  expr_refuses lim least ts h = expr_level lim least ts ∙ level_refuses lim (rules_of lim) least ts h

  -- ---- at every two limits

  -- what the wider parsers do, where the limits are not the same
  record Roomy (f : Parser Sized) (least : ℕ) : Type 0 where
    small : (ts : List Symbol) → Within (length ts) (f ts)
    taking : Takes least f

  -- a parser that there is only where the limits leave room
  limited : (b b' : Bool) (least : ℕ) (f f' g g' : Parser Sized) → (b ≡ true → b' ≡ true) → (exact limits.Depth ≡ true → b ≡ b') → (exact limits.Depth ≡ false → b' ≡ true) → (b ≡ true → (ts : List Symbol) → f ts ≡ g ts)
      → (b ≡ false → (ts : List Symbol) → f ts ≡ too_high least ts) → (b' ≡ true → (ts : List Symbol) → f' ts ≡ g' ts) → (b' ≡ false → (ts : List Symbol) → f' ts ≡ too_high least ts) → Refuses least g' → (exact limits.Depth ≡ false → Roomy g' least)
      → (b ≡ true → b' ≡ true → Regular g g') → Regular f f'
  limited true true least f f' g g' h s w i j i' j' n k r = same_regular (i refl) (i' refl) (r refl refl)
  limited true false least f f' g g' h s w i j i' j' n k r = absurd (cc (h refl))
  limited false false least f f' g g' h s w i j i' j' n k r = same_regular (j refl) (j' refl) (too_high_regular least (not_false (exact limits.Depth) (λ e. cc (w e))))
  limited false true least f f' g g' h s w i j i' j' n k r = let inexact : exact limits.Depth ≡ false = not_true (exact limits.Depth) (λ e. cc (s e)) in same_regular (j refl) (i' refl) (high_regular least g' inexact n (k inexact).taking (k inexact).small)

  argument_none : (lim : Limits) (ts : List Symbol) → min lim.opens lim.room ≡ 0 → (rules_of lim).argument ts ≡ too_high {A = Sized} 1 ts
  argument_none lim ts h = at (nat_lt 0 lim.opens) refl
    where
      at : (b : Bool) → nat_lt 0 lim.opens ≡ b → (rules_of lim).argument ts ≡ too_high {A = Sized} 1 ts
      at true i = argument_high lim ts (omega (arith, h, ltb-true 0 lim.opens i))
      at false i = argument_shut lim ts (omega (arith, ltb-false 0 lim.opens i))

  record Parts (lim lim' : Limits) : Type 0 where
    of_inside : Regular (rules_of lim).inside (rules_of lim').inside
    of_argument : Regular (rules_of lim).argument (rules_of lim').argument
    of_below : (l : ℕ) → 0 < l → l ≤ 10 → Regular ((rules_of lim).below l) ((rules_of lim').below l)

  -- with other numbers of parentheses and of room
  rewidened : {lim lim' : Limits} → Widened exact lim lim' → (o r o' r' : ℕ) → (exact limits.Depth ≡ false → o + 2 ≤ o') → (exact limits.Depth ≡ true → o ≡ o') → (exact limits.Depth ≡ false → r + 2 ≤ r') → (exact limits.Depth ≡ true → r ≡ r')
      → Widened exact (record lim { opens = o; room = r }) (record lim' { opens = o'; room = r' })
  rewidened w o r o' r' more_opens same_opens more_room same_room = record {
    more_opens = more_opens;
    same_opens = same_opens;
    more_room = more_room;
    same_room = same_room;
    more_commas = w.more_commas;
    same_commas = w.same_commas;
    more_joins = w.more_joins;
    same_joins = w.same_joins;
  }

  module _ (wide : exact limits.Depth ≡ false → (lim : Limits) (least : ℕ) → 0 < least → least ≤ 10 → 0 < lim.opens → 0 < lim.room → Roomy (expr lim least) least) where
    parts : (lim lim' : Limits) → Widened exact lim lim' → ((m m' : Limits) (l : ℕ) → m'.opens + m'.room < lim'.opens + lim'.room → Widened exact m m' → 0 < l → l ≤ 10 → Regular (expr m l) (expr m' l)) → Parts lim lim'
    parts lim lim' w smaller = record {
      of_inside = limited (nat_lt 0 lim.opens) (nat_lt 0 lim'.opens) 1 (rules_of lim).inside (rules_of lim').inside (expr (inside_limits lim) 1) (expr (inside_limits lim') 1) (more lim.opens lim'.opens w.more_opens w.same_opens) (λ i. ap (nat_lt 0) (w.same_opens i)) (λ i. lt-ltb 0 lim'.opens (omega (arith, w.more_opens i)))
          (λ t ts. inside_expr lim ts (ltb-true 0 lim.opens t)) (λ t ts. inside_shut lim ts (omega (arith, ltb-false 0 lim.opens t)))
          (λ t ts. inside_expr lim' ts (ltb-true 0 lim'.opens t)) (λ t ts. inside_shut lim' ts (omega (arith, ltb-false 0 lim'.opens t))) (expr_refuses (inside_limits lim') 1)
          (λ i. wide i (inside_limits lim') 1 (omega arith) (omega arith) (omega (arith, w.more_opens i)) (omega (arith, w.more_room i)))
          (λ t t'. smaller (inside_limits lim) (inside_limits lim') 1 (omega (arith, ltb-true 0 lim'.opens t'))
          (rewidened w (lim.opens - 1) lim.room (lim'.opens - 1) lim'.room (λ i. omega (arith, w.more_opens i, ltb-true 0 lim.opens t)) (λ i. ap (λ z. z - 1) (w.same_opens i)) w.more_room w.same_room) (omega arith) (omega arith));
      of_argument = limited (nat_lt 0 (min lim.opens lim.room)) (nat_lt 0 (min lim'.opens lim'.room)) 1 (rules_of lim).argument (rules_of lim').argument (expr (argument_limits lim) 1) (expr (argument_limits lim') 1)
          (more (min lim.opens lim.room) (min lim'.opens lim'.room) (λ i. omega (arith, w.more_opens i, w.more_room i)) (λ i. ap (λ z. min z lim.room) (w.same_opens i) ∙ ap (λ z. min lim'.opens z) (w.same_room i)))
          (λ i. ap (λ z. nat_lt 0 (min z lim.room)) (w.same_opens i) ∙ ap (λ z. nat_lt 0 (min lim'.opens z)) (w.same_room i)) (λ i. lt-ltb 0 (min lim'.opens lim'.room) (omega (arith, w.more_opens i, w.more_room i)))
          (λ t ts. argument_expr lim ts (omega (arith, ltb-true 0 (min lim.opens lim.room) t)) (omega (arith, ltb-true 0 (min lim.opens lim.room) t))) (λ t ts. argument_none lim ts (omega (arith, ltb-false 0 (min lim.opens lim.room) t)))
          (λ t ts. argument_expr lim' ts (omega (arith, ltb-true 0 (min lim'.opens lim'.room) t)) (omega (arith, ltb-true 0 (min lim'.opens lim'.room) t))) (λ t ts. argument_none lim' ts (omega (arith, ltb-false 0 (min lim'.opens lim'.room) t)))
          (expr_refuses (argument_limits lim') 1)
          (λ i. wide i (argument_limits lim') 1 (omega arith) (omega arith) (omega (arith, w.more_opens i)) (omega (arith, w.more_room i)))
          (λ t t'. smaller (argument_limits lim) (argument_limits lim') 1 (omega (arith, ltb-true 0 (min lim'.opens lim'.room) t'))
          (rewidened w (lim.opens - 1) (lim.room - 1) (lim'.opens - 1) (lim'.room - 1) (λ i. omega (arith, w.more_opens i, ltb-true 0 (min lim.opens lim.room) t)) (λ i. ap (λ z. z - 1) (w.same_opens i))
          (λ i. omega (arith, w.more_room i, ltb-true 0 (min lim.opens lim.room) t)) (λ i. ap (λ z. z - 1) (w.same_room i))) (omega arith) (omega arith));
      of_below = λ l p q. limited (nat_lt 0 lim.room) (nat_lt 0 lim'.room) l ((rules_of lim).below l) ((rules_of lim').below l) (expr (below_limits lim) l) (expr (below_limits lim') l) (more lim.room lim'.room w.more_room w.same_room) (λ i. ap (nat_lt 0) (w.same_room i)) (λ i. lt-ltb 0 lim'.room (omega (arith, w.more_room i)))
          (λ t ts. below_expr lim l ts (ltb-true 0 lim.room t)) (λ t ts. below_high lim l ts (omega (arith, ltb-false 0 lim.room t)))
          (λ t ts. below_expr lim' l ts (ltb-true 0 lim'.room t)) (λ t ts. below_high lim' l ts (omega (arith, ltb-false 0 lim'.room t))) (expr_refuses (below_limits lim') l)
          (λ i. wide i (below_limits lim') l p q (omega (arith, w.more_opens i)) (omega (arith, w.more_room i)))
          (λ t t'. smaller (below_limits lim) (below_limits lim') l (omega (arith, ltb-true 0 lim'.room t'))
          (rewidened w lim.opens (lim.room - 1) lim'.opens (lim'.room - 1) w.more_opens w.same_opens (λ i. omega (arith, w.more_room i, ltb-true 0 lim.room t)) (λ i. ap (λ z. z - 1) (w.same_room i))) p q);
    }
      where
        more : (x y : ℕ) → (exact limits.Depth ≡ false → x + 2 ≤ y) → (exact limits.Depth ≡ true → x ≡ y) → nat_lt 0 x ≡ true → nat_lt 0 y ≡ true
        more x y w s t = at (exact limits.Depth) refl
          where
            at : (b : Bool) → exact limits.Depth ≡ b → nat_lt 0 y ≡ true
            at true e = ap (nat_lt 0) (sym (s e)) ∙ t
            at false e = lt-ltb 0 y (omega (arith, w e))

    step : (lim lim' : Limits) (least : ℕ) → Widened exact lim lim' → 0 < least → least ≤ 10 → Parts lim lim' → Regular (expr lim least) (expr lim' least)
    step lim lim' least w p q of = same_regular (expr_level lim least) (expr_level lim' least)
        (level_regular lim (rules_of lim) lim' (rules_of lim') w of.of_inside of.of_argument of.of_below (λ e. low_first lim) (λ e. low_tail lim) least p q)

    expr_regular_by : (n : ℕ) (lim lim' : Limits) (least : ℕ) → lim'.opens + lim'.room ≤ n → Widened exact lim lim' → 0 < least → least ≤ 10 → Regular (expr lim least) (expr lim' least)
    expr_regular_by zero lim lim' least h w p q = step lim lim' least w p q (parts lim lim' w (λ m m' l i. absurd (omega (arith, h, i))))
    expr_regular_by (suc n) lim lim' least h w p q = step lim lim' least w p q (parts lim lim' w (λ m m' l i. expr_regular_by n m m' l (omega (arith, h, i))))

-- ---- at the same limits

abbrev pub all_exact : LimitKind → Bool
all_exact x = true

no_wide : {P : Type 0} → true ≡ false → P
no_wide e = absurd (cc)

pub not_widened : (lim : Limits) → Widened all_exact lim lim
not_widened lim = record {
  more_opens = λ e. no_wide e;
  same_opens = λ e. refl;
  more_room = λ e. no_wide e;
  same_room = λ e. refl;
  more_commas = λ e. no_wide e;
  same_commas = λ e. refl;
  more_joins = λ e. no_wide e;
  same_joins = λ e. refl;
}

narrow_regular : (lim : Limits) (least : ℕ) → 0 < least → least ≤ 10 → Regular all_exact [] [] refl (expr lim least) (expr lim least)
narrow_regular lim least p q = expr_regular_by all_exact [] [] refl (λ e. no_wide e) (lim.opens + lim.room) lim lim least (omega arith) (not_widened lim) p q

narrow_parts : (lim : Limits) → Parts all_exact [] [] refl lim lim
narrow_parts lim = parts all_exact [] [] refl (λ e. no_wide e) lim lim (not_widened lim) (λ m m' l i w p q. expr_regular_by all_exact [] [] refl (λ e. no_wide e) (m'.opens + m'.room) m m' l (omega arith) w p q)

expr_roomy : (exact : LimitKind → Bool) (v v' : List Symbol) (heads : head v ≡ head v') (lim : Limits) (least : ℕ) → 0 < least → least ≤ 10 → 0 < lim.opens → 0 < lim.room → Roomy exact v v' heads (expr lim least) least
expr_roomy exact v v' heads lim least p q i j = record { small = (narrow_regular lim least p q).shrinks; taking = takes }
  where
    takes : Takes least (expr lim least)
    takes t h ts = let of = narrow_parts lim in subst (Within (length ts)) (sym (expr_level lim least (t ∷ ts)))
        (level_takes all_exact [] [] refl lim (rules_of lim) lim (rules_of lim) (not_widened lim) of.of_inside of.of_argument of.of_below (λ e. no_wide e) (λ e. no_wide e) i j least t h ts)

-- ---- at all

pub expr_regular : (exact : LimitKind → Bool) (v v' : List Symbol) (heads : head v ≡ head v') (lim lim' : Limits) (least : ℕ) → Widened exact lim lim' → 0 < least → least ≤ 10 → Regular exact v v' heads (expr lim least) (expr lim' least)
expr_regular exact v v' heads lim lim' least w p q = expr_regular_by exact v v' heads (λ e. expr_roomy exact v v' heads) (lim'.opens + lim'.room) lim lim' least (omega arith) w p q
