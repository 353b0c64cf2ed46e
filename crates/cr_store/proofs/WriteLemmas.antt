-- What the loops of a commit's transaction leave, and the marks of a commit in a table.
use Rattle.std.proofs.Common.{◌≡◌, inl, inr, ℕ, ◌+◌, ◌<◌, ◌⊎◌, List, [], ◌∷◌, ◌++◌, map, filter, take, length, get_or, true, false, cond, refl, sym, ap, subst, ◌∙◌, is_eq, Ordering, Less, Equal, Greater}
use Rattle.std.proofs.lemmas.Bool.{cases_Bool}
use Rattle.std.specs.Ordering.{is_lt}
use Rattle.std.proofs.lemmas.List.{take_more}
use Rattle.sqlite.specs.Order.{Row}
use Rattle.sqlite.specs.Effect.{Database}
use Rattle.sqlite_rules.specs.Lists.{Has}
use Rattle.sqlite_rules.proofs.ListLemmas.{has_left, has_right, has_either, has_filtered, has_kept, some_has, some_from}
use Rattle.sqlite_rules.proofs.ProbeLemmas.{has_mapped, mapped_has}
use Rattle.std.specs.Cmp.{eq_by_cmp_equiv}
use Rattle.sqlite_trees.proofs.TreeLemmas.{above}
use Rattle.cr_rows.proofs.RowLemmas.{lists_same}
use Rattle.cr_value.specs.Bytes.{bytes_cmp}
use Rattle.cr_value.specs.OrderLaws.{bytes_total}
use Rattle.cr_lattice.specs.Check.{same_bytes}
use Rattle.cr_lattice.specs.declared.change.Change.{Change}
use Rattle.cr_lattice.specs.declared.stamped.Stamped.{Stamped}
use Rattle.std.specs.Prelude.{ℤ}
use Rattle.cr_cells.specs.Marks.{Mark, mark_cmp, with_mark}
use Rattle.cr_store.specs.declared.plan.New.{New}
use Rattle.cr_store.specs.Plan.{put_new, put_all, without_old, without_all}
use Rattle.cr_store.specs.Rows.{mark_row}
use Rattle.cr_store.specs.Shows.{Holds}
use Rattle.cr_store.specs.Words.{set_mark, has_site}

put_last : (ns : List New) (n : New) (ss : List Stamped) → put_all (ns ++ n ∷ []) ss ≡ put_new n (put_all ns ss)
put_last [] n ss = refl
put_last (m ∷ ns) n ss = put_last ns n (put_new m ss)

pub put_more : (all : List New) (i : ℕ) (n : New) (ss : List Stamped) → i < length all → n ≡ get_or all i n → put_all (take (i + 1) all) ss ≡ put_new n (put_all (take i all) ss)
put_more all i n ss within here = ap (λ ns. put_all ns ss) (take_more all i n within) ∙ ap (λ m. put_all (take i all ++ m ∷ []) ss) (sym here) ∙ put_last (take i all) n ss

without_last : (version : ℤ) (cs : List Change) (c : Change) (ss : List Stamped) → without_all version (cs ++ c ∷ []) ss ≡ without_old version c (without_all version cs ss)
without_last version [] c ss = refl
without_last version (e ∷ cs) c ss = without_last version cs c (without_old version e ss)

pub without_more : (version : ℤ) (all : List Change) (i : ℕ) (c : Change) (ss : List Stamped) → i < length all → c ≡ get_or all i c
    → without_all version (take (i + 1) all) ss ≡ without_old version c (without_all version (take i all) ss)
without_more version all i c ss within here =
    ap (λ cs. without_all version cs ss) (take_more all i c within) ∙ ap (λ e. without_all version (take i all ++ e ∷ []) ss) (sym here) ∙ without_last version (take i all) c ss

-- ---- marks

apart : (o m : Mark) → same_bytes o.0 m.0 ≡ false → (is_lt (mark_cmp o m) ≡ true) ⊎ (is_lt (mark_cmp m o) ≡ true)
apart o m other = go (bytes_cmp o.0 m.0) refl
  where
    go : (r : Ordering) → bytes_cmp o.0 m.0 ≡ r → (is_lt (bytes_cmp o.0 m.0) ≡ true) ⊎ (is_lt (bytes_cmp m.0 o.0) ≡ true)
    go Less e = inl (ap is_lt e)
    go Equal e = absurd (let f = sym other ∙ ap is_eq e in cc)
    go Greater e = inr (ap is_lt (above bytes_total o.0 m.0 e))

less_apart : (x y : List ℕ) → is_lt (bytes_cmp x y) ≡ true → same_bytes x y ≡ false
less_apart x y h = go (bytes_cmp x y) h
  where
    go : (r : Ordering) → is_lt r ≡ true → is_eq r ≡ false
    go Less h = refl
    go Equal h = absurd (cc)
    go Greater h = refl

less_back : (x y : List ℕ) → is_lt (bytes_cmp x y) ≡ true → same_bytes y x ≡ false
less_back x y h = (eq_by_cmp_equiv bytes_total).symm y x ∙ less_apart x y h

module _ (m : Mark) (marks : List Mark) where
  has_new : Has (with_mark marks m) m
  unfolding with_mark
  has_new = has_right (filter (λ o. is_lt (mark_cmp o m)) marks) (m ∷ filter (λ o. is_lt (mark_cmp m o)) marks) m (inl refl)

  has_other : (o : Mark) → Has marks o → same_bytes o.0 m.0 ≡ false → Has (with_mark marks m) o
  unfolding with_mark
  has_other o h other = elim (apart o m other) [
    | inl less ↦ has_left _ (m ∷ filter (λ o. is_lt (mark_cmp m o)) marks) o (has_kept (λ o. is_lt (mark_cmp o m)) marks o h less)
    | inr more ↦ has_right (filter (λ o. is_lt (mark_cmp o m)) marks) _ o (inr (has_kept (λ o. is_lt (mark_cmp m o)) marks o h more))
  ]

  had : (o : Mark) → Has (with_mark marks m) o → (o ≡ m) ⊎ (Has marks o × (same_bytes o.0 m.0 ≡ false))
  unfolding with_mark
  had o h = elim (has_either (filter (λ o. is_lt (mark_cmp o m)) marks) (m ∷ filter (λ o. is_lt (mark_cmp m o)) marks) o h) [
    | inl less ↦ let k = has_filtered (λ o. is_lt (mark_cmp o m)) marks o less in inr (k.0, less_apart o.0 m.0 k.1)
    | inr rest ↦ elim rest [ inl same ↦ inl same | inr more ↦ let k = has_filtered (λ o. is_lt (mark_cmp m o)) marks o more in inr (k.0, less_back m.0 o.0 k.1) ]
  ]

  set_has : (o : Mark) → Has (set_mark m marks) o → Has (with_mark marks m) o
  set_has o h =
      let from = has_mapped (λ o. cond (same_bytes o.0 m.0) m o) marks o h in
      elim (cases_Bool (same_bytes from.0.0 m.0)) [
        | inl same ↦ subst (Has (with_mark marks m)) (sym (from.2 ∙ ap (λ b. cond b m from.0) same)) has_new
        | inr other ↦ subst (Has (with_mark marks m)) (sym (from.2 ∙ ap (λ b. cond b m from.0) other)) (has_other from.0 from.1 other)
      ]

  has_set : has_site marks m.0 ≡ true → (o : Mark) → Has (with_mark marks m) o → Has (set_mark m marks) o
  has_set there o h = elim (had o h) [
    | inl same ↦ let s = some_has (λ o. same_bytes o.0 m.0) marks there in
        subst (Has (set_mark m marks)) (ap (λ b. cond b m s.0) s.2 ∙ sym same) (mapped_has (λ o. cond (same_bytes o.0 m.0) m o) marks s.0 s.1)
    | inr k ↦ subst (Has (set_mark m marks)) (ap (λ b. cond b m o) k.1) (mapped_has (λ o. cond (same_bytes o.0 m.0) m o) marks o k.0)
  ]

  added_has : has_site marks m.0 ≡ false → (o : Mark) → Has (m ∷ marks) o → Has (with_mark marks m) o
  added_has none o (inl same) = subst (Has (with_mark marks m)) (sym same) has_new
  added_has none o (inr h) = elim (cases_Bool (same_bytes o.0 m.0)) [ inl same ↦ absurd (let e = sym (some_from (λ o. same_bytes o.0 m.0) marks o h same) ∙ none in cc) | inr other ↦ has_other o h other ]

  has_added : (o : Mark) → Has (with_mark marks m) o → Has (m ∷ marks) o
  has_added o h = elim (had o h) [ inl same ↦ inl same | inr k ↦ inr k.0 ]

rows_of : (xs ys : List Mark) → ((o : Mark) → Has xs o → Has ys o) → (r : Row) → Has (map mark_row xs) r → Has (map mark_row ys) r
rows_of xs ys to r h = let from = has_mapped mark_row xs r h in subst (Has (map mark_row ys)) (sym from.2) (mapped_has mark_row ys from.0 (to from.0 from.1))

shows_marks : (db : Database) (a b o c : List Row) (xs ys : List Mark) → ((o : Mark) → Has xs o → Has ys o) → ((o : Mark) → Has ys o → Has xs o) → Holds db a b o c (map mark_row xs) → Holds db a b o c (map mark_row ys)
shows_marks db a b o c xs ys to from it =
    record {
      schema = it.schema;
      meta_are = it.meta_are;
      tables_are = it.tables_are;
      old_are = it.old_are;
      cells_are = it.cells_are;
      marks_are = lists_same (db.trees 6) (map mark_row xs) (map mark_row ys) (record { to = rows_of xs ys to; from = rows_of ys xs from }) it.marks_are;
    }

pub marks_set : (db : Database) (a b o c : List Row) (m : Mark) (marks : List Mark) → has_site marks m.0 ≡ true → Holds db a b o c (map mark_row (set_mark m marks)) → Holds db a b o c (map mark_row (with_mark marks m))
marks_set db a b o c m marks there it = shows_marks db a b o c (set_mark m marks) (with_mark marks m) (set_has m marks) (has_set m marks there) it

pub marks_added : (db : Database) (a b o c : List Row) (m : Mark) (marks : List Mark) → has_site marks m.0 ≡ false → Holds db a b o c (map mark_row (m ∷ marks)) → Holds db a b o c (map mark_row (with_mark marks m))
marks_added db a b o c m marks none it = shows_marks db a b o c (m ∷ marks) (with_mark marks m) (added_has m marks none) (has_added m marks) it
