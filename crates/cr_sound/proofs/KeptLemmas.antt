-- A list of changes is what it keeps exactly where each may follow the one before it.
use Rattle.std.proofs.Common.{◌≡◌, ◌⊎◌, inl, inr, ℕ, zero, suc, ◌<◌, Bool, true, false, List, [], ◌∷◌, length, get_or, arith, Ordering, Less, Equal, Greater, refl, sym, ap, ◌∙◌, subst, int_cmp}
use Rattle.std.specs.Prelude.{Decides}
use Rattle.std.specs.List.{AllByRecursion, IsAllAdjacentAnswer}
use Rattle.std.specs.List.Sorted.{IsStrictlySortedBy}
use Rattle.std.specs.Ordering.{ordering_reverse}
use Rattle.std.specs.Cmp.{IsTotalOrder}
use Rattle.std.proofs.lemmas.Cmp.{int_cmp_total, alike_right}
use Rattle.std.proofs.lemmas.Bool.Decides.{Decides-like}
use Rattle.cr_lattice.specs.declared.change.Change.{Change}
use Rattle.cr_lattice.specs.declared.stamped.Stamped.{Stamped}
use Rattle.cr_lattice.specs.Change.{row_cmp, cid_cmp, weight_cmp, change_cmp, beats}
use Rattle.cr_lattice.specs.ChangeOrder.{cid_total, row_total, weight_total}
use Rattle.cr_lattice.specs.Keep.{keep}
use Rattle.cr_lattice.proofs.Tested.{and_true, not_true}
use Rattle.cr_lattice.proofs.ChangeLaws.{Beats, beats-Beats, beats_irreflexive}
use Rattle.cr_lattice.proofs.KeepLaws.{In, In-head, In-tail, In-cons, not_In-nil, sorted-keep, kept_from, keep_is}
use Rattle.cr_cells.specs.Holding.{changes_of}
use Rattle.cr_sound.specs.Sound.{may_follow}
use Rattle.cr_sound.proofs.Deciding.{less_true, InTurn, turns_decided}

flip : {K : Type 0} {R : K → K → Ordering} → IsTotalOrder R → (x y : K) (r : Ordering) → R x y ≡ r → R y x ≡ ordering_reverse r
flip o x y r e = o.antisymm y x ∙ ap ordering_reverse e

-- ---- two changes

-- c may stand before d among kept changes, in words: it is of a lower row, or of the same with the same causal length and a lower cid
abbrev Before : Change → Change → Type 0
Before c d = (row_cmp c d ≡ Less) ⊎ ((row_cmp c d ≡ Equal) × (cid_cmp c.cid d.cid ≡ Less) × (int_cmp c.cl d.cl ≡ Equal))

beaten_not : (c d : Change) → Beats c d → beats c d ≡ false → ⊥
beaten_not c d b e = let so : beats c d ≡ true = beats-Beats c d b in absurd cc

before_from : (c d : Change) → change_cmp c d ≡ Less → beats c d ≡ false → beats d c ≡ false → Before c d
unfolding change_cmp
before_from c d less over under =
    elim (row_cmp c d) as (λ r. row_cmp c d ≡ r → Before c d) [
      | Less ↦ λ row. inl row
      | Equal ↦ λ row.
          elim (int_cmp c.cl d.cl) as (λ r. int_cmp c.cl d.cl ≡ r → Before c d) [
            | Less ↦ λ cl. absurd (beaten_not d c (record { row = flip row_total c d Equal row; why = inl (flip int_cmp_total c.cl d.cl Less cl) }) under)
            | Equal ↦ λ cl.
                elim (cid_cmp c.cid d.cid) as (λ r. cid_cmp c.cid d.cid ≡ r → Before c d) [
                  | Less ↦ λ cid. inr (row, cid, cl)
                  | Equal ↦ λ cid.
                      elim (weight_cmp c d) as (λ r. weight_cmp c d ≡ r → Before c d) [
                        | Less ↦ λ weight. absurd (beaten_not d c (record {
                          row = flip row_total c d Equal row;
                          why = inr (flip int_cmp_total c.cl d.cl Equal cl, flip cid_total c.cid d.cid Equal cid, flip weight_total c d Less weight);
                        }) under)
                        | Equal ↦ λ weight. (let tie : change_cmp c d ≡ Equal = rw (row, cid, cl, weight) refl in absurd cc)
                        | Greater ↦ λ weight. (let above : change_cmp c d ≡ Greater = rw (row, cid, cl, weight) refl in absurd cc)
                      ] refl
                  | Greater ↦ λ cid. (let above : change_cmp c d ≡ Greater = rw (row, cid) refl in absurd cc)
                ] refl
            | Greater ↦ λ cl. absurd (beaten_not c d (record { row = row; why = inl cl }) over)
          ] refl
      | Greater ↦ λ row. (let above : change_cmp c d ≡ Greater = rw row refl in absurd cc)
    ] refl

before_less : (c d : Change) → Before c d → change_cmp c d ≡ Less
unfolding change_cmp
before_less c d b = elim b [ inl row ↦ rw row refl | inr r ↦ rw (r.0, r.1) refl ]

before_over : (c d : Change) → Before c d → beats c d ≡ false
unfolding beats
before_over c d b = elim b [ inl row ↦ rw row refl | inr r ↦ rw (r.0, r.2, r.1) refl ]

before_under : (c d : Change) → Before c d → beats d c ≡ false
unfolding beats
before_under c d b =
    elim b [
      | inl row ↦ (let row' : row_cmp d c ≡ Greater = flip row_total c d Less row in rw row' refl)
      | inr r ↦ (
          let row' : row_cmp d c ≡ Equal = flip row_total c d Equal r.0 in
          let cid' : cid_cmp d.cid c.cid ≡ Greater = flip cid_total c.cid d.cid Less r.1 in
          let cl' : int_cmp d.cl c.cl ≡ Equal = flip int_cmp_total c.cl d.cl Equal r.2 in
          rw (row', cl', cid') refl)
    ]

before_through : (c d e : Change) → Before c d → Before d e → Before c e
before_through c d e p q =
    elim p [
      | inl row ↦ elim q [
        | inl row' ↦ inl (row_total.trans c d e row row')
        | inr r ↦ inl (sym (alike_right row_total d e c r.0) ∙ row)
      ]
      | inr s ↦ elim q [
        | inl row' ↦ inl (row_total.congr c d e s.0 ∙ row')
        | inr r ↦ inr (row_total.congr c d e s.0 ∙ r.0, cid_total.trans c.cid d.cid e.cid s.1 r.1, int_cmp_total.congr c.cl d.cl e.cl s.2 ∙ r.2)
      ]
    ]

record Follows (c d : Change) : Type 0 where
  less : change_cmp c d ≡ Less
  over : beats c d ≡ false
  under : beats d c ≡ false

follows_from : (c d : Change) → may_follow c d ≡ true → Follows c d
unfolding may_follow
follows_from c d e =
    let p = and_true _ _ e in let q = and_true _ _ p.1 in
    record { less = less_true _ p.0; over = not_true _ q.0; under = not_true _ q.1 }

may_follow_from : (c d : Change) → Follows c d → may_follow c d ≡ true
unfolding may_follow
may_follow_from c d f = rw (f.less, f.over, f.under) refl

may_follow-through : (c d e : Change) → may_follow c d ≡ true → may_follow d e ≡ true → may_follow c e ≡ true
may_follow-through c d e p q =
    let f = follows_from c d p in let g = follows_from d e q in
    let b = before_through c d e (before_from c d f.less f.over f.under) (before_from d e g.less g.over g.under) in
    may_follow_from c e (record { less = before_less c e b; over = before_over c e b; under = before_under c e b })

-- ---- all of them

all_in : (P : Change → Type 0) (cs : List Change) (c : Change) → AllByRecursion P cs → In cs c → P c
all_in P [] c all e = absurd (not_In-nil c e)
all_in P (x ∷ xs) c all e = elim (In-cons x xs c e) [ inl same ↦ subst P (sym same) all.0 | inr there ↦ all_in P xs c all.1 there ]

below_all : (c : Change) (ds : List Change) → AllByRecursion (λ d. may_follow c d ≡ true) ds → AllByRecursion (λ d. change_cmp c d ≡ Less) ds
below_all c [] all = tt
below_all c (d ∷ ds) all = ((follows_from c d all.0).less, below_all c ds all.1)

sorted_in_turn : (cs : List Change) → InTurn may_follow cs → IsStrictlySortedBy change_cmp cs
unfolding IsStrictlySortedBy
sorted_in_turn [] t = tt
sorted_in_turn (c ∷ cs) t = (below_all c cs t.0, sorted_in_turn cs t.1)

unbeaten_in_turn : (cs : List Change) (c d : Change) → InTurn may_follow cs → In cs c → In cs d → beats d c ≡ true → ⊥
unbeaten_in_turn [] c d t in_c in_d b = absurd (not_In-nil c in_c)
unbeaten_in_turn (x ∷ xs) c d t in_c in_d b =
    elim (In-cons x xs c in_c) [
      | inl same ↦ elim (In-cons x xs d in_d) [
        | inl same' ↦ beats_irreflexive x (sym (ap (λ e. beats e x) same') ∙ sym (ap (λ e. beats d e) same) ∙ b)
        | inr there' ↦ (
            let f = follows_from x d (all_in (λ e. may_follow x e ≡ true) xs d t.0 there') in
            let no : beats d c ≡ false = ap (λ e. beats d e) same ∙ f.under in
            absurd cc)
      ]
      | inr there ↦ elim (In-cons x xs d in_d) [
        | inl same' ↦ (
            let f = follows_from x c (all_in (λ e. may_follow x e ≡ true) xs c t.0 there) in
            let no : beats d c ≡ false = ap (λ e. beats e c) same' ∙ f.over in
            absurd cc)
        | inr there' ↦ unbeaten_in_turn xs c d t.1 there there' b
      ]
    ]

kept_in_turn : (cs : List Change) → InTurn may_follow cs → keep cs ≡ cs
kept_in_turn cs t =
    sym (keep_is cs cs (sorted_in_turn cs t) (λ c e. record { member = e; unbeaten = λ d in_d b. unbeaten_in_turn cs c d t e in_d b }) (λ c k. k.member))

not_so : (b : Bool) → (b ≡ true → ⊥) → b ≡ false
not_so true h = absurd (h refl)
not_so false h = refl

follow_all : (s : List Change) (c : Change) (ds : List Change) → In (keep s) c → ((d : Change) → In ds d → In (keep s) d) → AllByRecursion (λ d. change_cmp c d ≡ Less) ds → AllByRecursion (λ d. may_follow c d ≡ true) ds
follow_all s c [] in_c in_ds all = tt
follow_all s c (d ∷ ds) in_c in_ds all =
    let in_d = in_ds d (In-head d ds) in
    let k = kept_from s c in_c in let l = kept_from s d in_d in
    (may_follow_from c d (record { less = all.0; over = not_so (beats c d) (l.unbeaten c k.member); under = not_so (beats d c) (k.unbeaten d l.member) }), follow_all s c ds in_c (λ e in_e. in_ds e (In-tail d ds e in_e)) all.1)

turns_of_kept : (s ks : List Change) → ((c : Change) → In ks c → In (keep s) c) → IsStrictlySortedBy change_cmp ks → InTurn may_follow ks
unfolding IsStrictlySortedBy
turns_of_kept s [] in_ks sorted = tt
turns_of_kept s (k ∷ ks) in_ks sorted =
    let in_rest : (c : Change) → In ks c → In (keep s) c = λ c e. in_ks c (In-tail k ks c e) in
    (follow_all s k ks (in_ks k (In-head k ks)) in_rest sorted.0, turns_of_kept s ks in_rest sorted.1)

in_turn_kept : (cs : List Change) → keep cs ≡ cs → InTurn may_follow cs
in_turn_kept cs e = turns_of_kept cs cs (λ c in_c. subst (λ ks. In ks c) (sym e) in_c) (subst (IsStrictlySortedBy change_cmp) e (sorted-keep cs))

-- ---- cells

abbrev pub cell_may_follow : Stamped → Stamped → Bool
cell_may_follow s t = may_follow s.change t.change

-- what holds of the changes of cells holds of the one at i
pub change_at : (P : Change → Type 0) (ss : List Stamped) (i : ℕ) (d : Stamped) → AllByRecursion P (changes_of ss) → i < length ss → P (get_or ss i d).change
change_at P [] i d all l = let none : ⊥ = omega arith in absurd none
change_at P (s ∷ ss) zero d all l = all.0
change_at P (s ∷ ss) (suc i) d all l = change_at P ss i d all.1 (omega arith)

changes_all : (c : Change) (ss : List Stamped) → AllByRecursion (λ (s : Stamped). may_follow c s.change ≡ true) ss → AllByRecursion (λ d. may_follow c d ≡ true) (changes_of ss)
changes_all c [] all = tt
changes_all c (s ∷ ss) all = (all.0, changes_all c ss all.1)

cells_all : (c : Change) (ss : List Stamped) → AllByRecursion (λ d. may_follow c d ≡ true) (changes_of ss) → AllByRecursion (λ (s : Stamped). may_follow c s.change ≡ true) ss
cells_all c [] all = tt
cells_all c (s ∷ ss) all = (all.0, cells_all c ss all.1)

changes_in_turn : (ss : List Stamped) → InTurn cell_may_follow ss → InTurn may_follow (changes_of ss)
changes_in_turn [] t = tt
changes_in_turn (s ∷ ss) t = (changes_all s.change ss t.0, changes_in_turn ss t.1)

cells_in_turn : (ss : List Stamped) → InTurn may_follow (changes_of ss) → InTurn cell_may_follow ss
cells_in_turn [] t = tt
cells_in_turn (s ∷ ss) t = (cells_all s.change ss t.0, cells_in_turn ss t.1)

-- what `is_sorted_by` answers of cells, each of which may follow the one before it or not
pub kept_decided : (ss : List Stamped) (r : Bool) → IsAllAdjacentAnswer (λ s t b. b ≡ cell_may_follow s t) ss r → Decides r (keep (changes_of ss) ≡ changes_of ss)
kept_decided ss r h =
    Decides-like r
    (λ t. kept_in_turn (changes_of ss) (changes_in_turn ss t)) (λ e. cells_in_turn ss (in_turn_kept (changes_of ss) e))
    (turns_decided cell_may_follow (λ s t u. may_follow-through s.change t.change u.change) ss r h)
