-- The cells that are left by what a commit writes, by membership.
use Rattle.std.proofs.Common.{◌≡◌, ◌⊎◌, inl, inr, ℤ, Bool, true, false, not, cond, ◌&&◌, ◌||◌, List, [], ◌∷◌, map, refl, sym, ap, ◌∙◌, subst}
use Rattle.std.specs.Prelude.{filter, int_lt}
use Rattle.std.specs.List.{AllByRecursion, IsDistinct}
use Rattle.cr_lattice.specs.declared.change.Change.{Change}
use Rattle.cr_lattice.specs.declared.stamped.Stamped.{Stamped}
use Rattle.cr_cells.specs.Holding.{changes_of}
use Rattle.cr_cells.proofs.MemberLemmas.{split, Among, any_from, both_ways, all_at, Among-filter, filter-Among, Among-append, append-left, append-right}
use Rattle.cr_store.specs.declared.plan.New.{New}
use Rattle.cr_store.specs.Plan.{removes, gone_by, is_there, put_new, put_all, without_old, without_all}
use Rattle.cr_store.specs.Words.{same_key, replaced}
use Rattle.cr_store.proofs.CommitKeys.{key_flips, key_trans}

-- ---- one cell in place of another

pub replaced_from : (n : Stamped) (ss : List Stamped) (s : Stamped) → Among (replaced n ss) s → (s ≡ n) ⊎ (Among ss s × (same_key s.change n.change ≡ false))
replaced_from n [] s a = absurd a
replaced_from n (t ∷ ts) s a =
    elim a [
      | inl here ↦ elim (split (same_key t.change n.change)) [
        | inl so ↦ (let here' : s ≡ n = rw so at here in inl here')
        | inr not_so ↦ (
            let here' : s ≡ t = rw not_so at here in
            inr (inl here', ap (λ (u : Stamped). same_key u.change n.change) here' ∙ not_so))
      ]
      | inr there ↦ elim (replaced_from n ts s there) [
        | inl is ↦ inl is
        | inr p ↦ inr (inr p.0, p.1)
      ]
    ]

pub replaced_other : (n : Stamped) (ss : List Stamped) (s : Stamped) → Among ss s → same_key s.change n.change ≡ false → Among (replaced n ss) s
replaced_other n [] s a e = absurd a
replaced_other n (t ∷ ts) s a e =
    elim a [
      | inl here ↦ (
          let e' : same_key t.change n.change ≡ false = ap (λ (u : Stamped). same_key u.change n.change) (sym here) ∙ e in
          rw e' (inl here))
      | inr there ↦ inr (replaced_other n ts s there e)
    ]

pub replaced_comes : (n : Stamped) (ss : List Stamped) → is_there ss n.change ≡ true → Among (replaced n ss) n
replaced_comes n [] e = absurd cc
replaced_comes n (t ∷ ts) e =
    elim (split (same_key t.change n.change)) [
      | inl so ↦ rw so (inl refl)
      | inr not_so ↦ (let e' : is_there ts n.change ≡ true = rw not_so at e in inr (replaced_comes n ts e'))
    ]

same_tests : (n s : Stamped) (c : Change) → same_key (cond (same_key s.change n.change) n s).change c ≡ same_key s.change c
same_tests n s c =
    elim (split (same_key s.change n.change)) [
      | inl so ↦ rw so (both_ways _ _ (λ e. key_trans s.change n.change c so e) (λ e. key_trans n.change s.change c (key_flips s.change n.change so) e))
      | inr not_so ↦ rw not_so refl
    ]

-- the keys stay
pub is_there-replaced : (n : Stamped) (ss : List Stamped) (c : Change) → is_there (replaced n ss) c ≡ is_there ss c
is_there-replaced n [] c = refl
is_there-replaced n (s ∷ ss) c = ap (λ b. b || is_there (replaced n ss) c) (same_tests n s c) ∙ ap (λ b. same_key s.change c || b) (is_there-replaced n ss c)

pub not_there : (ss : List Stamped) (c : Change) (s : Stamped) → is_there ss c ≡ false → Among ss s → same_key s.change c ≡ false
not_there ss c s e a =
    elim (split (same_key s.change c)) [
      | inl so ↦ (let e' : is_there ss c ≡ true = any_from (λ t. same_key t.change c) ss s a so in absurd cc)
      | inr not_so ↦ not_so
    ]

-- ---- all that come in

abbrev pub cells_of_news : List New → List Stamped
cells_of_news ns = map (λ n. n.cell) ns

-- it is told of each whether a cell of its key is there
abbrev pub AreTold : List Stamped → List New → Type 0
AreTold ss ns = AllByRecursion (λ n. n.is_there ≡ is_there ss n.cell.change) ns

-- no other comes in under its key
abbrev pub HasNoKey : List New → Stamped → Type 0
HasNoKey ns s = (t : Stamped) → Among (cells_of_news ns) t → same_key s.change t.change ≡ true → ⊥

told_put : (n : New) (ss : List Stamped) (c : Change) → same_key n.cell.change c ≡ false → is_there (put_new n ss) c ≡ is_there ss c
told_put n ss c e =
    elim (split n.is_there) [
      | inl so ↦ rw so (is_there-replaced n.cell ss c)
      | inr not_so ↦ rw (not_so, e) refl
    ]

told_rest : (n : New) (ns : List New) (ss : List Stamped) → AllByRecursion (λ c. same_key n.cell.change c ≡ false) (changes_of (cells_of_news ns)) → AreTold ss ns → AreTold (put_new n ss) ns
told_rest n [] ss apart told = tt
told_rest n (m ∷ ms) ss apart told = (told.0 ∙ sym (told_put n ss m.cell.change apart.0), told_rest n ms ss apart.1 told.1)

put_from-head : (n : New) (ss : List Stamped) (s : Stamped) → n.is_there ≡ is_there ss n.cell.change → Among (put_new n ss) s → (s ≡ n.cell) ⊎ (Among ss s × (same_key s.change n.cell.change ≡ false))
put_from-head n ss s told a =
    elim (split n.is_there) [
      | inl so ↦ replaced_from n.cell ss s (rw so at a)
      | inr not_so ↦ (
          let a' : Among (n.cell ∷ ss) s = rw not_so at a in
          elim a' [
            | inl here ↦ inl here
            | inr there ↦ inr (there, not_there ss n.cell.change s (sym told ∙ not_so) there)
          ])
    ]

put_other-head : (n : New) (ss : List Stamped) (s : Stamped) → Among ss s → same_key s.change n.cell.change ≡ false → Among (put_new n ss) s
put_other-head n ss s a e =
    elim (split n.is_there) [
      | inl so ↦ rw so (replaced_other n.cell ss s a e)
      | inr not_so ↦ rw not_so (inr a)
    ]

put_comes-head : (n : New) (ss : List Stamped) → n.is_there ≡ is_there ss n.cell.change → Among (put_new n ss) n.cell
put_comes-head n ss told =
    elim (split n.is_there) [
      | inl so ↦ rw so (replaced_comes n.cell ss (sym told ∙ so))
      | inr not_so ↦ rw not_so (inl refl)
    ]

pub put_from : (ns : List New) (ss : List Stamped) (s : Stamped) → AreTold ss ns → IsDistinct same_key (changes_of (cells_of_news ns)) → Among (put_all ns ss) s
    → Among (cells_of_news ns) s ⊎ (Among ss s × HasNoKey ns s)
unfolding IsDistinct
put_from [] ss s told apart a = inr (a, λ t b e. b)
put_from (n ∷ ns) ss s told apart a =
    elim (put_from ns (put_new n ss) s (told_rest n ns ss apart.0 told.1) apart.1 a) [
      | inl new ↦ inl (inr new)
      | inr p ↦ elim (put_from-head n ss s told.0 p.0) [
        | inl here ↦ inl (inl here)
        | inr q ↦ inr (
          q.0,
          λ t b e. elim b [
            | inl is ↦ (let e' : same_key s.change n.cell.change ≡ true = ap (λ (u : Stamped). same_key s.change u.change) (sym is) ∙ e in let other : same_key s.change n.cell.change ≡ false = q.1 in absurd cc)
            | inr there ↦ p.1 t there e
          ],
        )
      ]
    ]

no_key_head : (n : New) (ns : List New) (s : Stamped) → HasNoKey (n ∷ ns) s → same_key s.change n.cell.change ≡ false
no_key_head n ns s none =
    elim (split (same_key s.change n.cell.change)) [
      | inl so ↦ absurd (none n.cell (inl refl) so)
      | inr not_so ↦ not_so
    ]

pub put_other : (ns : List New) (ss : List Stamped) (s : Stamped) → Among ss s → HasNoKey ns s → Among (put_all ns ss) s
put_other [] ss s a none = a
put_other (n ∷ ns) ss s a none = put_other ns (put_new n ss) s (put_other-head n ss s a (no_key_head n ns s none)) (λ t b e. none t (inr b) e)

pub change_among : (ss : List Stamped) (s : Stamped) → Among ss s → Among (changes_of ss) s.change
change_among [] s a = absurd a
change_among (t ∷ ts) s a =
    elim a [
      | inl here ↦ inl (ap (λ (u : Stamped). u.change) here)
      | inr there ↦ inr (change_among ts s there)
    ]

pub put_comes : (ns : List New) (ss : List Stamped) (s : Stamped) → AreTold ss ns → IsDistinct same_key (changes_of (cells_of_news ns)) → Among (cells_of_news ns) s → Among (put_all ns ss) s
unfolding IsDistinct
put_comes [] ss s told apart a = absurd a
put_comes (n ∷ ns) ss s told apart a =
    elim a [
      | inl here ↦ subst (Among (put_all (n ∷ ns) ss)) (sym here)
          (put_other ns (put_new n ss) n.cell (put_comes-head n ss told.0) (λ t b e. (
          let other : same_key n.cell.change t.change ≡ false = all_at (λ c. same_key n.cell.change c ≡ false) (changes_of (cells_of_news ns)) t.change apart.0 (change_among (cells_of_news ns) t b) in
          absurd cc)))
      | inr there ↦ put_comes ns (put_new n ss) s (told_rest n ns ss apart.0 told.1) apart.1 there
    ]

-- ---- all that go

-- a cell of before the version under the key of one of these
abbrev pub Goes : ℤ → List Change → Stamped → Type 0
Goes version gone s = (g : Change) × Among gone g × (same_key s.change g ≡ true) × (int_lt s.version version ≡ true)

and_false : (a b : Bool) → not (a && b) ≡ true → a ≡ true → b ≡ true → ⊥
and_false true true e p q = absurd cc
and_false true false e p q = absurd cc
and_false false b e p q = absurd cc

not_both : (a b : Bool) → (a ≡ true → b ≡ true → ⊥) → not (a && b) ≡ true
not_both true true f = absurd (f refl refl)
not_both true false f = refl
not_both false b f = refl

pub without_from : (version : ℤ) (gone : List Change) (ss : List Stamped) (s : Stamped) → Among (without_all version gone ss) s → Among ss s × (Goes version gone s → ⊥)
without_from version [] ss s a = (a, λ g. g.1)
without_from version (c ∷ cs) ss s a =
    let r = without_from version cs (without_old version c ss) s a in
    let p = Among-filter (λ s. not (same_key s.change c && int_lt s.version version)) ss s r.0 in (
      p.0,
      λ g. elim g.1 [
        | inl here ↦ and_false _ _ p.1 (ap (λ d. same_key s.change d) (sym here) ∙ g.2) g.3
        | inr there ↦ r.1 (g.0, there, g.2, g.3)
      ],
    )

pub without_to : (version : ℤ) (gone : List Change) (ss : List Stamped) (s : Stamped) → Among ss s → (Goes version gone s → ⊥) → Among (without_all version gone ss) s
without_to version [] ss s a stays = a
without_to version (c ∷ cs) ss s a stays =
    without_to version cs (without_old version c ss) s
    (filter-Among (λ s. not (same_key s.change c && int_lt s.version version)) ss s a (not_both _ _ (λ p q. stays (c, inl refl, p, q))))
    (λ g. stays (g.0, inr g.1, g.2, g.3))

-- ---- what goes

pub gone_from : (kept news : List Change) (g : Change) → Among (gone_by kept news) g → (c : Change) × Among news c × Among kept g × (removes c g ≡ true)
gone_from kept [] g a = absurd a
gone_from kept (c ∷ cs) g a =
    elim (Among-append (filter (removes c) kept) (gone_by kept cs) g a) [
      | inl l ↦ (let p = Among-filter (removes c) kept g l in (c, inl refl, p.0, p.1))
      | inr r ↦ (let p = gone_from kept cs g r in (p.0, inr p.1, p.2, p.3))
    ]

pub gone_to : (kept news : List Change) (c g : Change) → Among news c → Among kept g → removes c g ≡ true → Among (gone_by kept news) g
gone_to kept [] c g a k e = absurd a
gone_to kept (d ∷ ds) c g a k e =
    elim a [
      | inl here ↦ append-left (filter (removes d) kept) (gone_by kept ds) g (filter-Among (removes d) kept g k (ap (λ x. removes x g) (sym here) ∙ e))
      | inr there ↦ append-right (filter (removes d) kept) (gone_by kept ds) g (gone_to kept ds c g there k e)
    ]
