-- The entries of tables, one by one.
use Rattle.std.proofs.Common.{◌≡◌, ◌≢◌, ℕ, zero, suc, ◌+◌, ◌<◌, List, [], ◌∷◌, ◌++◌, length, take, get_or, refl, sym, ap, ◌∙◌, arith}
use Rattle.std.specs.List.{AllByRecursion}
use Rattle.std.proofs.lemmas.List.{take_more, length-take-le}
use Rattle.cr_lattice.specs.declared.table.Table.{Table}
use Rattle.cr_store.specs.declared.stored.TableEntry.{TableEntry}
use Rattle.cr_store.specs.Stored.{table_entry, table_entries}

entries_last : (n : ℕ) (ts : List Table) (t : Table) → table_entries n (ts ++ t ∷ []) ≡ table_entries n ts ++ table_entry (n + length ts) t ∷ []
entries_last n [] t = let e : n ≡ n + 0 = omega arith in ap (λ m. table_entry m t ∷ []) e
entries_last n (x ∷ ts) t =
    let e : n + 1 + length ts ≡ n + length (x ∷ ts) = omega arith in
    ap (λ (all : List TableEntry). table_entry n x ∷ all) (entries_last (n + 1) ts t ∙ ap (λ m. table_entries (n + 1) ts ++ table_entry m t ∷ []) e)

length-table_entries : (n : ℕ) (ts : List Table) → length (table_entries n ts) ≡ length ts
length-table_entries n [] = refl
length-table_entries n (t ∷ ts) = ap suc (length-table_entries (n + 1) ts)

entry_at : (P : Table → Type 0) (n : ℕ) (ts : List Table) (i : ℕ) (d : TableEntry) → AllByRecursion P ts → i < length ts → (t : Table) × P t × (get_or (table_entries n ts) i d ≡ table_entry (n + i) t)
entry_at P n [] i d all lt = absurd (omega arith)
entry_at P n (t ∷ ts) zero d all lt = (t, all.0, ap (λ m. table_entry m t) (let e : n ≡ n + 0 = omega arith in e))
entry_at P n (t ∷ ts) (suc i) d all lt =
    let r = entry_at P (n + 1) ts i d all.1 (omega arith) in
    (r.0, r.1, r.2 ∙ ap (λ m. table_entry m r.0) (let e : n + 1 + i ≡ n + suc i = omega arith in e))

module _ (xs : List TableEntry) (ts : List Table) (i : ℕ) (x : TableEntry) (so_far : take i xs ≡ table_entries 1 ts) (within : i < length xs) (here : x ≡ get_or xs i x) where
  pub one_more_table : (t : Table) → x ≡ table_entry (1 + length ts) t → take (i + 1) xs ≡ table_entries 1 (ts ++ t ∷ [])
  one_more_table t is = take_more xs i x within ∙ ap (λ (y : TableEntry). take i xs ++ y ∷ []) (sym here ∙ is) ∙ ap (λ (ys : List TableEntry). ys ++ table_entry (1 + length ts) t ∷ []) so_far ∙ sym (entries_last 1 ts t)

  -- where this entry is no table's, all are no tables'
  pub not_a_table : (P : Table → Type 0) → ((t : Table) → P t → x ≢ table_entry (1 + length ts) t) → (us : List Table) → AllByRecursion P us → xs ≢ table_entries 1 us
  not_a_table P none us all is =
      let done : length (take i xs) ≡ length ts = ap length so_far ∙ length-table_entries 1 ts in
      let whole : length xs ≡ length us = ap length is ∙ length-table_entries 1 us in
      let far : length ts ≡ i = sym done ∙ length-take-le i xs (omega arith) in
      let r = entry_at P 1 us i x all (omega arith) in
      none r.0 r.1 (here ∙ ap (λ all. get_or all i x) is ∙ r.2 ∙ ap (λ m. table_entry m r.0) (let e : 1 + i ≡ 1 + length ts = omega arith in e))
