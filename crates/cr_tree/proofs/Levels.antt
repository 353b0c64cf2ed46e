-- Whole expressions are read right, at every limit.
use Rattle.std.proofs.Common.{◌≡◌, ℕ, zero, suc, ◌+◌, ◌-◌, ◌≤◌, ◌<◌, if◌then◌else◌, nat_lt, nat_le, List, [], ◌∷◌, ◌++◌, Some, refl, sym, ◌∙◌, ap, subst, append_assoc, arith}
use Rattle.std.proofs.lemmas.Bool.{lt-ltb, leb-true, ltb-true}
use Rattle.cr_tree.specs.declared.limits.Limits.{Limits}
use Rattle.cr_tree.specs.declared.symbol.Symbol.{Symbol}
use Rattle.cr_tree.specs.declared.symbol.Mark.TheVariants as m
use Rattle.cr_tree.specs.declared.symbol.Symbol.TheVariants as k
use Rattle.cr_tree.specs.declared.expr.Expr.TheVariants as e
use Rattle.cr_value.specs.declared.value.Value.TheVariants as v
use Rattle.cr_tree.specs.Grammar.{Phrase, Leaf, Negative, Name, Dotted, NotOf, PlusOf, MinusOf, With, Inside, CallNone, Call, CountAll, Cast, Case, Tail, spelled, spelled_tail, tail_binds, tightness, height}
use Rattle.cr_tree.specs.Reading.{Outcome, Reads, Fails, Cause, Syntax, Deep, Parser, and_then, head, look_by, refuse, Sized, binding, ceiling, first_by, tail, tail_by, climb, level, too_high, begins_at, expr, Rules, rules_of, inside_limits, argument_limits, below_limits}
use Rattle.cr_tree.proofs.Forms.{Good, Right, by_test, by_outcome, if_true, all_read, nothing_read, same_right}
use Rattle.cr_tree.proofs.Phrases.{Written, sized, Stops, Follows, IsTop, Stuck, next_binding, tail_next, tail_plain, tail_low}
use Rattle.cr_tree.proofs.Operands.{Top, FirstReads, first_good, first_reads}
use Rattle.cr_tree.proofs.Tails.{TailFits, tail_value, tail_good, tail_reads}
use Rattle.cr_tree.proofs.Climb.{climb_loose, climb_on}
use Rattle.cr_tree.proofs.Knot.{expr_level, inside_expr, argument_expr, argument_high, below_expr, below_high}

module _ (lim : Limits) (rules : Rules)
    (inside_right : 0 < lim.opens → Right (Written (inside_limits lim) 1) spelled sized (Stops 1) rules.inside)
    (argument_right : 0 < lim.opens → 0 < lim.room → Right (Written (argument_limits lim) 1) spelled sized (Stops 1) rules.argument)
    (argument_stuck : lim.room ≡ 0 → Stuck rules.argument)
    (below_right : (l : ℕ) → 0 < lim.room → 0 < l → l ≤ 10 → Right (Written (below_limits lim) l) spelled sized (Stops l) (rules.below l))
    (below_stuck : (l : ℕ) → lim.room ≡ 0 → Stuck (rules.below l)) where
  module _ (least : ℕ) (some_tight : 0 < least) (not_tight : least ≤ 10) where
    abbrev LevelGood : List Symbol → Outcome Sized → Type 0
    LevelGood ts o = Good (Written lim least) spelled sized ts o

    grown : (p : Phrase) (t : Tail) (n most : ℕ) → Written lim least p → height p < lim.room → TailFits lim rules argument_right below_right n t → least ≤ n → n ≤ most → most ≤ tightness p → Written lim least (With p t)
    grown p t n most w h f i j l = record { proper = (w.proper, f.proper, omega (arith, f.binding_is, j, l)); tight = omega (arith, f.binding_is, i); low = omega (arith, h, f.low); few = omega (arith, w.few, f.few); short = omega (arith, w.short, f.short) }

    climb_good : (n most : ℕ) (p : Phrase) (ts : List Symbol) → Written lim least p → most ≤ tightness p → LevelGood (spelled p ++ ts) (climb lim rules n least most (sized p) ts)
    unfolding climb tail
    climb_good zero most p [] w m = record { what = p; fitting = w; spells = refl; means = refl }
    climb_good (suc n) most p [] w m = record { what = p; fitting = w; spells = refl; means = refl }
    climb_good zero most p (t ∷ ts) w m = by_test (LevelGood (spelled p ++ t ∷ ts)) (nat_le least (binding t)) (if nat_le (binding t) most then Fails Deep (t ∷ ts) else Reads (sized p) (t ∷ ts)) (Reads (sized p) (t ∷ ts))
        (λ h. by_test (LevelGood (spelled p ++ t ∷ ts)) (nat_le (binding t) most) (Fails Deep (t ∷ ts)) (Reads (sized p) (t ∷ ts))
        (λ i. all_read p w (spelled p ++ t ∷ ts) (t ∷ ts) refl) (λ i. record { what = p; fitting = w; spells = refl; means = refl }))
        (λ h. record { what = p; fitting = w; spells = refl; means = refl })
    climb_good (suc n) most p (t ∷ ts) w m = turn (λ q us w m. climb_good n (binding t) q us w m)
      where
        turn : ((q : Phrase) (us : List Symbol) → Written lim least q → binding t ≤ tightness q → LevelGood (spelled q ++ us) (climb lim rules n least (binding t) (sized q) us))
            → LevelGood (spelled p ++ t ∷ ts) (if nat_le least (binding t) then if nat_le (binding t) most then if nat_lt (height p) lim.room then and_then (tail_by lim rules (sized p) t (t ∷ ts)) (climb lim rules n least (binding t)) else Fails Deep (t ∷ ts) else Reads (sized p) (t ∷ ts) else Reads (sized p) (t ∷ ts))
        turn again = by_test (LevelGood (spelled p ++ t ∷ ts)) (nat_le least (binding t))
            (if nat_le (binding t) most then if nat_lt (height p) lim.room then and_then (tail_by lim rules (sized p) t (t ∷ ts)) (climb lim rules n least (binding t)) else Fails Deep (t ∷ ts) else Reads (sized p) (t ∷ ts)) (Reads (sized p) (t ∷ ts))
            (λ h. by_test (LevelGood (spelled p ++ t ∷ ts)) (nat_le (binding t) most)
            (if nat_lt (height p) lim.room then and_then (tail_by lim rules (sized p) t (t ∷ ts)) (climb lim rules n least (binding t)) else Fails Deep (t ∷ ts)) (Reads (sized p) (t ∷ ts))
            (λ i. by_test (LevelGood (spelled p ++ t ∷ ts)) (nat_lt (height p) lim.room) (and_then (tail_by lim rules (sized p) t (t ∷ ts)) (climb lim rules n least (binding t))) (Fails Deep (t ∷ ts))
            (λ j. go (leb-true least (binding t) h) (leb-true (binding t) most i) (ltb-true (height p) lim.room j))
            (λ j. all_read p w (spelled p ++ t ∷ ts) (t ∷ ts) refl))
            (λ i. record { what = p; fitting = w; spells = refl; means = refl }))
            (λ h. record { what = p; fitting = w; spells = refl; means = refl })
          where
            go : least ≤ binding t → binding t ≤ most → height p < lim.room → LevelGood (spelled p ++ t ∷ ts) (and_then (tail_by lim rules (sized p) t (t ∷ ts)) (climb lim rules n least (binding t)))
            go h i j = by_outcome (Good (TailFits lim rules argument_right below_right (binding t)) spelled_tail (tail_value (sized p)) (t ∷ ts)) (LevelGood (spelled p ++ t ∷ ts))
                (tail_by lim rules (sized p) t (t ∷ ts)) (climb lim rules n least (binding t))
                (tail_good lim rules argument_right below_right (omega (arith, j)) (sized p) t ts (omega (arith, some_tight, h)))
                (λ x rest g. subst (λ z. LevelGood z (climb lim rules n least (binding t) x rest)) (append_assoc (spelled p) (spelled_tail g.what) rest ∙ ap (λ z. spelled p ++ z) g.spells)
                (subst (λ z. LevelGood (spelled (With p g.what) ++ rest) (climb lim rules n least (binding t) z rest)) g.means
                (again (With p g.what) rest (grown p g.what (binding t) most w j g.fitting h i m) (omega (arith, g.fitting.binding_is)))))
                (λ c rest g. record {
                  what = With p g.what;
                  fitting = grown p g.what (binding t) most w j g.fitting h i m;
                  front = spelled p ++ g.front;
                  more = g.more;
                  reads = append_assoc (spelled p) g.front rest ∙ ap (λ z. spelled p ++ z) g.reads;
                  spells = ap (λ z. spelled p ++ z) g.spells ∙ sym (append_assoc (spelled p) g.front g.more);
                })

    level_good : (ts : List Symbol) → LevelGood ts (level lim rules least ts)
    unfolding level
    level_good [] = nothing_read (Leaf (k.Mark m.Null) (e.Literal v.Null)) (record { proper = refl; tight = omega (arith, not_tight); low = omega arith; few = omega arith; short = omega arith }) []
    level_good (t ∷ ts) = by_outcome (Good (Top lim rules inside_right argument_right argument_stuck below_right below_stuck least not_tight t) spelled sized (t ∷ ts)) (LevelGood (t ∷ ts))
        (first_by lim rules least t (t ∷ ts)) (climb lim rules lim.room least (ceiling t))
        (first_good lim rules inside_right argument_right argument_stuck below_right below_stuck least not_tight t ts)
        (λ x rest g. subst (λ z. LevelGood z (climb lim rules lim.room least (ceiling t) x rest)) g.spells
        (subst (λ z. LevelGood (spelled g.what ++ rest) (climb lim rules lim.room least (ceiling t) z rest)) g.means (climb_good lim.room (ceiling t) g.what rest g.fitting.written g.fitting.above_it)))
        (λ c rest g. record { what = g.what; fitting = g.fitting.written; front = g.front; more = g.more; reads = g.reads; spells = g.spells })

    -- ---- all of it is read

    -- the phrase is read, and then climbing goes on
    record ReadsOn (p : Phrase) (rest : List Symbol) : Type 0 where
      turns : ℕ
      most : ℕ
      enough : lim.room ≤ height p + turns
      loose : (b : ℕ) → b ≤ 9 → b ≤ tightness p → b ≤ most
      same : level lim rules least (spelled p ++ rest) ≡ climb lim rules turns least most (sized p) rest

    from_first : (p : Phrase) (rest : List Symbol) → FirstReads lim rules inside_right argument_right argument_stuck below_right below_stuck least not_tight p rest → ReadsOn p rest
    unfolding level
    from_first p rest r = record {
      turns = lim.room;
      most = ceiling r.first;
      enough = omega arith;
      loose = r.loose;
      same = ap (λ ts. look_by (refuse Syntax) (λ t ts. and_then (first_by lim rules least t ts) (climb lim rules lim.room least (ceiling t))) (head ts) ts) r.spells
          ∙ ap (λ o. and_then o (climb lim rules lim.room least (ceiling r.first))) r.same;
    }

    top_on : (p : Phrase) (rest : List Symbol) → Written lim least p → Follows p rest → IsTop p → ReadsOn p rest
    top_on p rest w st z = from_first p rest (first_reads lim rules inside_right argument_right argument_stuck below_right below_stuck least not_tight p rest w st z)

    -- one turn on what is there
    joins : (n most : ℕ) (p : Phrase) (t : Tail) (rest : List Symbol) → Written lim least (With p t) → tail_binds t ≤ most → Stops (suc (tail_binds t)) rest
        → climb lim rules (suc n) least most (sized p) (spelled_tail t ++ rest) ≡ climb lim rules n least (tail_binds t) (sized (With p t)) rest
    joins n most p t rest w h st = at (spelled_tail t ++ rest) refl (tail_next t rest)
      where
        fits : TailFits lim rules argument_right below_right (tail_binds t) t
        fits = record { proper = w.proper.1; binding_is = refl; low = omega (arith, w.low); few = omega (arith, w.few); short = omega (arith, w.short) }

        read : tail lim rules (sized p) (spelled_tail t ++ rest) ≡ Reads (sized (With p t)) rest
        read = tail_reads lim rules argument_right below_right (omega (arith, w.low)) (sized p) t rest fits st

        at : (us : List Symbol) → spelled_tail t ++ rest ≡ us → next_binding (spelled_tail t ++ rest) ≡ tail_binds t → climb lim rules (suc n) least most (sized p) (spelled_tail t ++ rest) ≡ climb lim rules n least (tail_binds t) (sized (With p t)) rest
        at [] i j = absurd (let none : next_binding [] ≡ tail_binds t = ap next_binding (sym i) ∙ j in omega (arith, none, w.tight, some_tight))
        at (u ∷ us) i j =
            let same : binding u ≡ tail_binds t = ap next_binding (sym i) ∙ j in
            ap (climb lim rules (suc n) least most (sized p)) i
            ∙ (climb_on lim rules n least most (sized p) u us (omega (arith, same, w.tight)) (omega (arith, same, h))
            ∙ (if_true (nat_lt (height p) lim.room) (and_then (tail lim rules (sized p) (u ∷ us)) (climb lim rules n least (binding u))) (Fails Deep (u ∷ us)) (lt-ltb (height p) lim.room (omega (arith, w.low)))
            ∙ (ap (λ z. and_then (tail lim rules (sized p) z) (climb lim rules n least (binding u))) (sym i)
            ∙ (ap (λ o. and_then o (climb lim rules n least (binding u))) read
            ∙ ap (λ z. climb lim rules n least z (sized (With p t)) rest) same))))

    reads_on : (p : Phrase) (rest : List Symbol) → Written lim least p → Follows p rest → ReadsOn p rest
    reads_on (Leaf t x) rest w st = top_on (Leaf t x) rest w st tt
    reads_on (Negative n) rest w st = top_on (Negative n) rest w st tt
    reads_on (Name n) rest w st = top_on (Name n) rest w st tt
    reads_on (Dotted s n) rest w st = top_on (Dotted s n) rest w st tt
    reads_on (NotOf p) rest w st = top_on (NotOf p) rest w st tt
    reads_on (PlusOf p) rest w st = top_on (PlusOf p) rest w st tt
    reads_on (MinusOf p) rest w st = top_on (MinusOf p) rest w st tt
    reads_on (Inside p) rest w st = top_on (Inside p) rest w st tt
    reads_on (CallNone f) rest w st = top_on (CallNone f) rest w st tt
    reads_on (Call f all) rest w st = top_on (Call f all) rest w st tt
    reads_on CountAll rest w st = top_on CountAll rest w st tt
    reads_on (Cast p n ns s) rest w st = top_on (Cast p n ns s) rest w st tt
    reads_on (Case s arms o) rest w st = top_on (Case s arms o) rest w st tt
    reads_on (With p t) rest w st =
        let before = reads_on p (spelled_tail t ++ rest) (record { proper = w.proper.0; tight = omega (arith, w.tight, w.proper.2); low = omega (arith, w.low); few = omega (arith, w.few); short = omega (arith, w.short) })
        (record { operator = omega (arith, tail_next t rest, w.proper.2); plain = tail_plain t rest }) in
        on before.turns before.enough (before.loose (tail_binds t) (tail_low t) w.proper.2) (ap (level lim rules least) (append_assoc (spelled p) (spelled_tail t) rest) ∙ before.same)
      where
        on : (n : ℕ) → lim.room ≤ height p + n → {most : ℕ} → tail_binds t ≤ most → level lim rules least (spelled (With p t) ++ rest) ≡ climb lim rules n least most (sized p) (spelled_tail t ++ rest) → ReadsOn (With p t) rest
        on zero e {most} h s = absurd (omega (arith, w.low, e))
        on (suc n) e {most} h s = record {
          turns = n;
          most = tail_binds t;
          enough = omega (arith, e);
          loose = λ b l i. i;
          same = s ∙ joins n most p t rest w h (record { operator = omega (arith, st.operator); plain = st.plain });
        }

    pub level_right : Right (Written lim least) spelled sized (Stops least) (level lim rules least)
    level_right = record { good = level_good; reads = read }
      where
        read : (p : Phrase) (rest : List Symbol) → Written lim least p → Stops least rest → level lim rules least (spelled p ++ rest) ≡ Reads (sized p) rest
        read p rest w st = let r = reads_on p rest w (record { operator = omega (arith, st.operator, w.tight); plain = st.plain }) in
            r.same ∙ climb_loose lim rules r.turns least r.most (sized p) rest st.operator

-- ---- at every limit

high_stuck : (l : ℕ) (ts : List Symbol) → (c : Cause) × (too_high {A = Sized} l ts ≡ Fails c ts)
unfolding too_high
high_stuck l ts = (if begins_at l (head ts) then Deep else Syntax, refl)

stuck_argument : (lim : Limits) → lim.room ≡ 0 → Stuck (rules_of lim).argument
stuck_argument lim i ts = let s = high_stuck 1 ts in (s.0, argument_high lim ts i ∙ s.1)

stuck_below : (lim : Limits) (l : ℕ) → lim.room ≡ 0 → Stuck ((rules_of lim).below l)
stuck_below lim l i ts = let s = high_stuck l ts in (s.0, below_high lim l ts i ∙ s.1)

pub expr_right : (n : ℕ) (lim : Limits) (least : ℕ) → lim.opens + lim.room ≤ n → 0 < least → least ≤ 10 → Right (Written lim least) spelled sized (Stops least) (expr lim least)
expr_right zero lim least h p q = same_right (expr_level lim least) (level_right lim (rules_of lim)
    (λ i. absurd (omega (arith, h, i))) (λ i j. absurd (omega (arith, h, i))) (λ i. stuck_argument lim i) (λ l i j r. absurd (omega (arith, h, i))) (λ l i. stuck_below lim l i) least p q)
expr_right (suc n) lim least h p q = same_right (expr_level lim least) (level_right lim (rules_of lim)
    (λ i. same_right (λ ts. inside_expr lim ts i) (expr_right n (inside_limits lim) 1 (omega (arith, h, i)) (omega arith) (omega arith)))
    (λ i j. same_right (λ ts. argument_expr lim ts i j) (expr_right n (argument_limits lim) 1 (omega (arith, h, i, j)) (omega arith) (omega arith)))
    (λ i. stuck_argument lim i)
    (λ l i j r. same_right (λ ts. below_expr lim l ts i) (expr_right n (below_limits lim) l (omega (arith, h, i)) j r))
    (λ l i. stuck_below lim l i) least p q)

-- ---- what was read is no higher than the limit

module _ (lim : Limits) where
  abbrev Read_by : Limits → ℕ → Parser Sized → Type 0
  Read_by m l f = Right (Written m l) spelled sized (Stops l) f

  inside_right : 0 < lim.opens → Read_by (inside_limits lim) 1 (rules_of lim).inside
  inside_right i = same_right (λ ts. inside_expr lim ts i) (expr_right (lim.opens - 1 + lim.room) (inside_limits lim) 1 (omega arith) (omega arith) (omega arith))

  argument_right : 0 < lim.opens → 0 < lim.room → Read_by (argument_limits lim) 1 (rules_of lim).argument
  argument_right i j = same_right (λ ts. argument_expr lim ts i j) (expr_right (lim.opens - 1 + (lim.room - 1)) (argument_limits lim) 1 (omega arith) (omega arith) (omega arith))

  below_right : (l : ℕ) → 0 < lim.room → 0 < l → l ≤ 10 → Read_by (below_limits lim) l ((rules_of lim).below l)
  below_right l i j r = same_right (λ ts. below_expr lim l ts i) (expr_right (lim.opens + (lim.room - 1)) (below_limits lim) l (omega arith) j r)

  pub low_first : (least : ℕ) → 0 < least → least ≤ 10 → (t : Symbol) (ts : List Symbol) (x : Sized) (rest : List Symbol) → head ts ≡ Some t → first_by lim (rules_of lim) least t ts ≡ Reads x rest → x.1 ≤ lim.room
  low_first least p q t [] x rest h e = absurd (cc)
  low_first least p q t (u ∷ ts) x rest h e =
      let same : u ≡ t = cc in
      let read : first_by lim (rules_of lim) least t (t ∷ ts) ≡ Reads x rest = subst (λ z. first_by lim (rules_of lim) least t (z ∷ ts) ≡ Reads x rest) same e in
      let g = subst (Good (Top lim (rules_of lim) inside_right argument_right (stuck_argument lim) below_right (stuck_below lim) least q t) spelled sized (t ∷ ts)) read
      (first_good lim (rules_of lim) inside_right argument_right (stuck_argument lim) below_right (stuck_below lim) least q t ts) in
      omega (arith, g.fitting.written.low, ap (λ (z : Sized). z.1) g.means)

  pub low_tail : (left : Sized) (t : Symbol) (ts : List Symbol) (x : Sized) (rest : List Symbol) → head ts ≡ Some t → 0 < binding t → left.1 < lim.room → tail lim (rules_of lim) left ts ≡ Reads x rest → x.1 ≤ lim.room
  unfolding tail
  low_tail left t [] x rest h b l e = absurd (cc)
  low_tail left t (u ∷ ts) x rest h b l e =
      let same : u ≡ t = cc in
      let read : tail_by lim (rules_of lim) left t (t ∷ ts) ≡ Reads x rest = subst (λ z. tail_by lim (rules_of lim) left z (z ∷ ts) ≡ Reads x rest) same e in
      let g = subst (Good (TailFits lim (rules_of lim) argument_right below_right (binding t)) spelled_tail (tail_value left) (t ∷ ts)) read
      (tail_good lim (rules_of lim) argument_right below_right (omega (arith, l)) left t ts b) in
      omega (arith, g.fitting.low, l, ap (λ (z : Sized). z.1) g.means)
