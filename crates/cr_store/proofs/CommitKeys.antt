-- Changes of one key, and that a set keeps one change of a key.
use Rattle.std.proofs.Common.{◌≡◌, ◌⊎◌, inl, inr, true, false, List, [], ◌∷◌, refl, sym, ap, ◌∙◌, subst, Ordering, Less, Equal, Greater, int_cmp}
use Rattle.std.specs.List.{IsDistinct}
use Rattle.std.specs.List.Sorted.{IsStrictlySortedBy}
use Rattle.std.specs.Ordering.{eq_by_cmp, is_eq, ordering_reverse}
use Rattle.std.specs.Cmp.{tied_itself}
use Rattle.std.proofs.lemmas.Cmp.{int_cmp_total, tied_back}
use Rattle.cr_value.specs.Order.{bytes_cmp}
use Rattle.cr_lattice.specs.declared.change.Change.{Change}
use Rattle.cr_lattice.specs.Change.{cid_cmp, row_cmp, weight_cmp, change_cmp, beats}
use Rattle.cr_lattice.specs.ChangeOrder.{cid_total, row_total, weight_total, change_total, change_exact}
use Rattle.cr_lattice.specs.Keep.{has, keep}
use Rattle.cr_lattice.proofs.ChangeLaws.{beats-Beats}
use Rattle.cr_lattice.proofs.KeepLaws.{In, kept_from}
use Rattle.cr_lattice.proofs.Tested.{and_true, eq_true}
use Rattle.cr_cells.proofs.MemberLemmas.{split, Among, any_gives, any_from, all_at, all_from}
use Rattle.cr_cells.proofs.NewLemmas.{same_is, same_from}
use Rattle.cr_store.specs.Words.{same_key}

-- ---- one key

-- two changes are of one cell, in words
pub record OneKey (c d : Change) : Type 0 where
  pub table : c.table ≡ d.table
  pub pk : c.pk ≡ d.pk
  pub cid : c.cid ≡ d.cid

pub one_key : (c d : Change) → same_key c d ≡ true → OneKey c d
one_key c d e =
    let p = and_true _ _ e in let q = and_true _ _ p.1 in
    record { table = same_is _ _ p.0; pk = same_is _ _ q.0; cid = same_is _ _ q.1 }

pub key_same : (c d : Change) → OneKey c d → same_key c d ≡ true
key_same c d k = rw (same_from _ _ k.table, same_from _ _ k.pk, same_from _ _ k.cid) refl

pub one_key-flips : (c d : Change) → OneKey c d → OneKey d c
one_key-flips c d k = record { table = sym k.table; pk = sym k.pk; cid = sym k.cid }

pub one_key-trans : (c d e : Change) → OneKey c d → OneKey d e → OneKey c e
one_key-trans c d e k l = record { table = k.table ∙ l.table; pk = k.pk ∙ l.pk; cid = k.cid ∙ l.cid }

pub key_flips : (c d : Change) → same_key c d ≡ true → same_key d c ≡ true
key_flips c d e = key_same d c (one_key-flips c d (one_key c d e))

pub key_trans : (c d e : Change) → same_key c d ≡ true → same_key d e ≡ true → same_key c e ≡ true
key_trans c d e p q = key_same c e (one_key-trans c d e (one_key c d p) (one_key d e q))

pub key_itself : (c : Change) → same_key c c ≡ true
key_itself c = key_same c c (record { table = refl; pk = refl; cid = refl })

-- ---- of two changes of one key one wins

turned : (o p : Ordering) → o ≡ ordering_reverse p → p ≡ Less → o ≡ Greater
turned o p e h = e ∙ ap ordering_reverse h

one_row : (c d : Change) → same_key c d ≡ true → row_cmp c d ≡ Equal
unfolding row_cmp
one_row c d e = let p = and_true _ _ e in let q = and_true _ _ p.1 in rw (eq_true (bytes_cmp c.table d.table) p.0, eq_true (bytes_cmp c.pk d.pk) q.0) refl

one_cid : (c d : Change) → same_key c d ≡ true → cid_cmp c.cid d.cid ≡ Equal
one_cid c d e = ap (λ x. cid_cmp x d.cid) (one_key c d e).cid ∙ tied_itself cid_total d.cid

all_tied : (c d : Change) → row_cmp c d ≡ Equal → cid_cmp c.cid d.cid ≡ Equal → int_cmp c.cl d.cl ≡ Equal → weight_cmp c d ≡ Equal → c ≡ d
unfolding change_cmp
all_tied c d row cid cl weight = change_exact c d (rw (row, cid, cl, weight) refl)

pub one_wins : (c d : Change) → same_key c d ≡ true → (c ≡ d) ⊎ ((beats c d ≡ true) ⊎ (beats d c ≡ true))
one_wins c d e =
    let row = one_row c d e in
    let cid = one_cid c d e in
    let row' : row_cmp d c ≡ Equal = tied_back row_total c d row in
    let cid' : cid_cmp d.cid c.cid ≡ Equal = tied_back cid_total c.cid d.cid cid in
    elim (int_cmp c.cl d.cl) as (λ o. int_cmp c.cl d.cl ≡ o → (c ≡ d) ⊎ ((beats c d ≡ true) ⊎ (beats d c ≡ true))) [
      | Less ↦ λ cl. inr (inr (beats-Beats d c (record { row = row'; why = inl (turned _ _ (int_cmp_total.antisymm d.cl c.cl) cl) })))
      | Equal ↦ λ cl. (
          let cl' : int_cmp d.cl c.cl ≡ Equal = tied_back int_cmp_total c.cl d.cl cl in
          elim (weight_cmp c d) as (λ o. weight_cmp c d ≡ o → (c ≡ d) ⊎ ((beats c d ≡ true) ⊎ (beats d c ≡ true))) [
            | Less ↦ λ weight. inr (inr (beats-Beats d c (record { row = row'; why = inr (cl', cid', turned _ _ (weight_total.antisymm d c) weight) })))
            | Equal ↦ λ weight. inl (all_tied c d row cid cl weight)
            | Greater ↦ λ weight. inr (inl (beats-Beats c d (record { row = row; why = inr (cl, cid, weight) })))
          ] refl)
      | Greater ↦ λ cl. inr (inl (beats-Beats c d (record { row = row; why = inl cl })))
    ] refl

-- ---- members

pub In-Among : (cs : List Change) (c : Change) → In cs c → Among cs c
unfolding has
In-Among cs c e =
    let r = any_gives (eq_by_cmp change_cmp c) cs e in
    subst (Among cs) (sym (change_exact c r.0 (eq_true _ r.2))) r.1

pub Among-In : (cs : List Change) (c : Change) → Among cs c → In cs c
unfolding has
Among-In cs c a = any_from (eq_by_cmp change_cmp c) cs c a (ap is_eq (tied_itself change_total c))

-- what a set keeps of one key is one change
pub kept_one : (s : List Change) (c d : Change) → In (keep s) c → In (keep s) d → same_key c d ≡ true → c ≡ d
kept_one s c d p q e =
    let kc = kept_from s c p in
    let kd = kept_from s d q in
    elim (one_wins c d e) [
      | inl same ↦ same
      | inr wins ↦ elim wins [
        | inl over ↦ absurd (kd.unbeaten c kc.member over)
        | inr under ↦ absurd (kc.unbeaten d kd.member under)
      ]
    ]

-- changes in strict order of which each key has one are distinct by key
pub keys_distinct : (cs : List Change) → IsStrictlySortedBy change_cmp cs → ((c d : Change) → Among cs c → Among cs d → same_key c d ≡ true → c ≡ d) → IsDistinct same_key cs
unfolding IsStrictlySortedBy IsDistinct
keys_distinct [] sorted one = tt
keys_distinct (x ∷ xs) sorted one = (
  all_from (λ y. same_key x y ≡ false) xs (λ y a. elim (split (same_key x y)) [
    | inl so ↦ (
        let same : x ≡ y = one x y (inl refl) (inr a) so in
        let less : change_cmp x y ≡ Less = all_at (λ z. change_cmp x z ≡ Less) xs y sorted.0 a in
        let less' : change_cmp x x ≡ Less = ap (λ z. change_cmp x z) same ∙ less in
        let tied : change_cmp x x ≡ Equal = tied_itself change_total x in
        absurd cc)
    | inr not_so ↦ not_so
  ]),
  keys_distinct xs sorted.1 (λ c d a b. one c d (inr a) (inr b)),
)
