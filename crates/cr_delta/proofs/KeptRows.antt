-- What is kept of one row and of one column.
use Rattle.std.proofs.Common.{◌≡◌, ◌⊎◌, inl, inr, ℕ, Bool, true, false, ◌&&◌, List, [], ◌∷◌, Some, None, refl, sym, ap, ◌∙◌, Less, Equal, int_cmp}
use Rattle.std.specs.Prelude.{find}
use Rattle.std.specs.Ordering.{ordering_reverse}
use Rattle.std.proofs.lemmas.Cmp.{int_cmp_total, tied_itself}
use Rattle.cr_value.specs.OrderLaws.{bytes_total}
use Rattle.cr_lattice.specs.declared.change.Change.{Change}
use Rattle.cr_lattice.specs.ChangeOrder.{row_exact}
use Rattle.cr_lattice.specs.Check.{is_odd}
use Rattle.cr_lattice.specs.Keep.{keep}
use Rattle.cr_lattice.specs.Rows.{is_of_row, is_alive, is_cell, kept_change}
use Rattle.cr_lattice.proofs.ChangeLaws.{Beats-beats}
use Rattle.cr_lattice.proofs.KeepLaws.{In, In-head, In-tail, In-cons, not_In-nil, kept_above, AtOrAbove, any_gives, any_from}
use Rattle.cr_lattice.proofs.SyncLemmas.{length_is_one, cell_is_one}
use Rattle.cr_delta.specs.Delta.{length_of}
use Rattle.cr_delta.proofs.Among.{split, and_true}
use Rattle.cr_delta.proofs.Integers.{NotAbove}
use Rattle.cr_delta.proofs.Members.{same_is, is_same}

-- what a search finds
abbrev pub Found : (Change → Bool) → List Change → Type 0
Found p cs = (c : Change) × In cs c × (p c ≡ true) × (find p cs ≡ Some c)

-- what a search that finds nothing passed
pub record Missing (p : Change → Bool) (cs : List Change) : Type 0 where
  pub nothing : find p cs ≡ None
  pub each : (c : Change) → In cs c → p c ≡ true → ⊥

pub search_ends : (p : Change → Bool) (cs : List Change) → Found p cs ⊎ Missing p cs
search_ends p [] = inr (record { nothing = refl; each = λ c e h. not_In-nil c e })
search_ends p (x ∷ xs) =
    elim (split (p x)) [
      | inl so ↦ inl (x, In-head x xs, so, rw so refl)
      | inr not_so ↦ elim (search_ends p xs) [
        | inl f ↦ inl (f.0, In-tail x xs f.0 f.1, f.2, rw not_so f.3)
        | inr m ↦ inr (record {
          nothing = rw not_so m.nothing;
          each = λ c e h. elim (In-cons x xs c e) [
            | inl here ↦ (let so : p x ≡ true = ap p (sym here) ∙ h in absurd cc)
            | inr there ↦ m.each c there h
          ];
        })
      ]
    ]

-- c is of the row
pub record OfRow (table pk : List ℕ) (c : Change) : Type 0 where
  pub table_is : c.table ≡ table
  pub pk_is : c.pk ≡ pk

pub of_row : (table pk : List ℕ) (c : Change) → is_of_row table pk c ≡ true → OfRow table pk c
of_row table pk c e = let p = and_true _ _ e in record { table_is = same_is c.table table p.0; pk_is = same_is c.pk pk p.1 }

pub row_is : (table pk : List ℕ) (c : Change) → OfRow table pk c → is_of_row table pk c ≡ true
row_is table pk c r = rw (r.table_is, r.pk_is, tied_itself bytes_total table, tied_itself bytes_total pk) refl

pub cell_is : (table pk cid : List ℕ) (c : Change) → OfRow table pk c → c.cid ≡ cid → is_cell table pk cid c ≡ true
cell_is table pk cid c r e = rw (row_is table pk c r, is_same c.cid cid e) refl

pub of_cell : (table pk cid : List ℕ) (c : Change) → is_cell table pk cid c ≡ true → OfRow table pk c × (c.cid ≡ cid)
of_cell table pk cid c e = let p = and_true _ _ e in (of_row table pk c p.0, same_is c.cid cid p.1)

-- what beats a change of a row is of the row
pub above_row : (table pk : List ℕ) (m c : Change) → AtOrAbove m c → OfRow table pk c → OfRow table pk m × NotAbove c.cl m.cl
above_row table pk m c over r =
    elim over [
      | inl same ↦ (rw (← same) at r, λ e. (let t : int_cmp c.cl m.cl ≡ Equal = rw same (tied_itself int_cmp_total c.cl) in absurd cc))
      | inr above ↦ (
          let b = Beats-beats m c above in
          let x = row_exact m c b.row in (
            record { table_is = x.0 ∙ r.table_is; pk_is = x.1 ∙ r.pk_is },
            λ e. (
                let turned : int_cmp m.cl c.cl ≡ Less = int_cmp_total.antisymm m.cl c.cl ∙ ap ordering_reverse e in
                elim b.why [ inl gt ↦ absurd cc | inr rest ↦ (let eq = rest.0 in absurd cc) ]),
          ))
    ]

module _ (s : List Change) (table pk : List ℕ) where
  pub length_is : (d : Change) → In (keep s) d → OfRow table pk d → length_of (keep s) table pk ≡ d.cl
  unfolding length_of
  length_is d k r =
      elim (search_ends (is_of_row table pk) (keep s)) [
        | inl f ↦ (
            let q = of_row table pk f.0 f.2 in
            rw f.3 (length_is_one s f.0 d f.1 k (q.table_is ∙ sym r.table_is) (q.pk_is ∙ sym r.pk_is)))
        | inr m ↦ absurd (m.each d k (row_is table pk d r))
      ]

  pub alive_by : (d : Change) → In (keep s) d → OfRow table pk d → is_odd d.cl ≡ true → is_alive (keep s) table pk ≡ true
  unfolding is_alive
  alive_by d k r odd = any_from (λ c. is_of_row table pk c && is_odd c.cl) d (keep s) k (rw (row_is table pk d r, odd) refl)

  pub alive_has : is_alive (keep s) table pk ≡ true → (d : Change) × In (keep s) d × OfRow table pk d × (is_odd d.cl ≡ true)
  unfolding is_alive
  alive_has e =
      let r = any_gives (λ c. is_of_row table pk c && is_odd c.cl) (keep s) e in
      let p = and_true _ _ r.2 in
      (r.0, r.1, of_row table pk r.0 p.0, p.1)

  pub not_alive_even : is_alive (keep s) table pk ≡ false → is_odd (length_of (keep s) table pk) ≡ false
  unfolding length_of
  not_alive_even e =
      elim (search_ends (is_of_row table pk) (keep s)) [
        | inl f ↦ elim (split (is_odd f.0.cl)) [
          | inl odd ↦ (let alive = alive_by f.0 f.1 (of_row table pk f.0 f.2) odd in absurd cc)
          | inr even ↦ rw f.3 even
        ]
        | inr m ↦ rw m.nothing refl
      ]

  -- no change of the row passes the length of what is kept of it
  pub below_length : (e : Change) → In s e → OfRow table pk e → NotAbove e.cl (length_of (keep s) table pk)
  below_length e i r =
      let m = kept_above s e i in
      let a = above_row table pk m.0 e m.2 r in
      rw (length_is m.0 m.1 a.0) a.1

  pub kept_cell : (c : Change) → In (keep s) c → OfRow table pk c → kept_change (keep s) table pk c.cid ≡ Some c
  unfolding kept_change
  kept_cell c k r =
      elim (search_ends (is_cell table pk c.cid) (keep s)) [
        | inl f ↦ (
            let q = of_cell table pk c.cid f.0 f.2 in
            f.3 ∙ ap Some (cell_is_one s f.0 c f.1 k (q.0.table_is ∙ sym r.table_is) (q.0.pk_is ∙ sym r.pk_is) q.1))
        | inr m ↦ absurd (m.each c k (cell_is table pk c.cid c r refl))
      ]
