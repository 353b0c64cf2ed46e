-- Laws of what a store holds.
use Rattle.std.proofs.Common.{◌≡◌, inl, inr, ℕ, ℤ, pos, ◌≤ℤ◌, ◌+ℤ◌, Bool, true, false, not, ◌&&◌, List, [], ◌∷◌, ◌++◌, Option, Some, None, refl, sym, ap, ◌∙◌, subst, append_assoc, arith, Ordering, Less, Equal, Greater}
use Rattle.std.proofs.lemmas.Int.{ints}
use Rattle.std.proofs.lemmas.List.{append-nil}
use Rattle.std.specs.Prelude.{filter, find, int_lt}
use Rattle.std.specs.List.{list_any, AllByRecursion}
use Rattle.std.specs.Ordering.{eq_by_cmp, is_eq, is_lt, ordering_reverse}
use Rattle.std.specs.Option.{option_map_or}
use Rattle.std.specs.Cmp.{tied_itself}
use Rattle.cr_value.specs.Order.{bytes_cmp}
use Rattle.cr_value.specs.OrderLaws.{bytes_total, bytes_exact}
use Rattle.cr_lattice.specs.declared.change.Change.{Change}
use Rattle.cr_lattice.specs.declared.stamped.Stamped.{Stamped}
use Rattle.cr_lattice.specs.Check.{same_bytes}
use Rattle.cr_lattice.specs.Keep.{has, keep, join, SameMembers}
use Rattle.cr_lattice.proofs.SortedSets.{has-filter}
use Rattle.cr_lattice.proofs.KeepLaws.{keep_keep, join_assoc, join_same, join_keeps_first, join_keeps_second, sorted-keep, keep-nil}
use Rattle.cr_cells.specs.Marks.{Mark, mark_cmp, seen_of, with_mark}
use Rattle.cr_cells.specs.Holding.{Holding, changes_of, kept_of, cell_cmp, has_cell, since, IsStampedTo, IsSound, empty_holding}
use Rattle.cr_cells.specs.Commit.{newly_kept, is_changed, stamped, cells_after, committed, Batch, after_all, all_changes}
use Rattle.cr_cells.proofs.MemberLemmas.{split, Among, any_gives, any_from, same_any, Among-filter, Among-set_of, set_of-Among}
use Rattle.cr_cells.proofs.CellLemmas.{cell_total, cell_exact, stamp_total, stamp_exact, is_cell_of, has-changes, eq_true}
use Rattle.cr_cells.proofs.CommitLemmas.{is_new, restamped, restamped_is, after-from, changes_of-cells_after, changed_kept, sorted_kept, look}

-- ---- all commits

pub kept-committed : (h : Holding) (more : List Change) (peer : Option Mark) → keep (kept_of h) ≡ kept_of h → kept_of (committed h more peer) ≡ join (kept_of h) more
kept-committed h more peer kept = changes_of-cells_after h.cells more (h.version +ℤ pos 1) kept

pub kept-after_all : (h : Holding) (bs : List Batch) → keep (kept_of h) ≡ kept_of h → kept_of (after_all h bs) ≡ join (kept_of h) (all_changes bs)
kept-after_all h [] kept = sym (ap keep (append-nil (kept_of h)) ∙ kept)
kept-after_all h (b ∷ bs) kept =
    let one : kept_of (committed h b.0 b.1) ≡ join (kept_of h) b.0 = kept-committed h b.0 b.1 kept in
    kept-after_all (committed h b.0 b.1) bs (ap keep one ∙ keep_keep (kept_of h ++ b.0) ∙ sym one)
    ∙ ap (λ ks. join ks (all_changes bs)) one
    ∙ join_keeps_first (kept_of h ++ b.0) (all_changes bs)
    ∙ ap keep (append_assoc (kept_of h) b.0 (all_changes bs))

pub kept-from_empty : (site : List ℕ) (bs : List Batch) → kept_of (after_all (empty_holding site) bs) ≡ keep (all_changes bs)
kept-from_empty site bs = kept-after_all (empty_holding site) bs keep-nil

-- ---- what was committed brings nothing in again

again : (kept more : List Change) → join (join kept more) more ≡ join kept more
again kept more = join_assoc kept more more ∙ ap (join kept) (join_same more) ∙ join_keeps_second kept more

pub repeat_changes_nothing : (kept more : List Change) → is_changed (join kept more) more ≡ false
repeat_changes_nothing kept more =
    elim (split (is_changed (join kept more) more)) [
      | inl so ↦ absurd (changed_kept (join kept more) more so (again kept more))
      | inr not_so ↦ not_so
    ]

-- ---- stamps

has_cell-Among : (cells : List Stamped) (s : Stamped) → has_cell cells s ≡ true → Among cells s
unfolding has_cell
has_cell-Among cells s e =
    let r = any_gives (eq_by_cmp cell_cmp s) cells e in
    subst (Among cells) (sym (cell_exact s r.0 (eq_true _ r.2))) r.1

Among-has_cell : (cells : List Stamped) (s : Stamped) → Among cells s → has_cell cells s ≡ true
unfolding has_cell
Among-has_cell cells s a = any_from (eq_by_cmp cell_cmp s) cells s a (ap is_eq (tied_itself cell_total s))

newly-is_new : (cells : List Stamped) (version seq : ℤ) (cs : List Change) (s : Stamped) → Among (stamped version seq (filter (is_new cells) cs)) s → is_new cells s.change ≡ true
newly-is_new cells version seq [] s a = absurd a
newly-is_new cells version seq (c ∷ cs) s a =
    elim (split (is_new cells c)) [
      | inl so ↦ (
          let a' : Among (stamped version seq (c ∷ filter (is_new cells) cs)) s = rw so at a in
          elim a' [
            | inl same ↦ ap (λ (t : Stamped). is_new cells t.change) same ∙ so
            | inr there ↦ newly-is_new cells version (seq +ℤ pos 1) cs s there
          ])
      | inr not_so ↦ (let a' : Among (stamped version seq (filter (is_new cells) cs)) s = rw not_so at a in newly-is_new cells version seq cs s a')
    ]

newly : (cells : List Stamped) (more : List Change) (version : ℤ) (s : Stamped) → Among (stamped version (pos 0) (newly_kept (changes_of cells) more)) s → is_new cells s.change ≡ true
unfolding newly_kept
newly cells more version s a = newly-is_new cells version (pos 0) (join (changes_of cells) more) s a

pub stays-after : (cells : List Stamped) (more : List Change) (version : ℤ) (s : Stamped) → keep (changes_of cells) ≡ changes_of cells → has_cell (cells_after cells more version) s ≡ true → has (changes_of cells) s.change ≡ true → has_cell cells s ≡ true
stays-after cells more version s kept here was =
    elim (after-from cells more version s (has_cell-Among _ s here)) [
      | inl old ↦ Among-has_cell cells s old
      | inr new ↦ (
          let fresh : is_new cells s.change ≡ true = newly cells more version s new in
          let old' : is_new cells s.change ≡ false = ap not was in
          absurd cc)
    ]

comes-restamped : (version : ℤ) (old : List Stamped) (seq : ℤ) (cs : List Change) → filter (λ s. is_new old s.change) (restamped version old seq cs) ≡ stamped version seq (filter (is_new old) cs)
comes-restamped version old seq [] = refl
comes-restamped version old seq (c ∷ cs) =
    elim (look old c) [
      | inl found ↦ (
          let gone : is_new old found.0.change ≡ false = ap (is_new old) (sym found.1.change) ∙ found.1.not_new in
          rw (found.1.is, gone, found.1.not_new) (comes-restamped version old seq cs))
      | inr missing ↦ rw (missing.is, missing.fresh) (ap (λ l. record { change = c; version = version; seq = seq } ∷ l) (comes-restamped version old (seq +ℤ pos 1) cs))
    ]

pub comes-after : (cells : List Stamped) (more : List Change) (version : ℤ) → keep (changes_of cells) ≡ changes_of cells → filter (λ s. is_new cells s.change) (cells_after cells more version) ≡ stamped version (pos 0) (newly_kept (changes_of cells) more)
unfolding cells_after newly_kept
comes-after cells more version kept =
    ap (filter (λ s. is_new cells s.change)) (sym (restamped_is version cells (pos 0) (join (changes_of cells) more) (sorted_kept cells kept) (sorted-keep (changes_of cells ++ more))))
    ∙ comes-restamped version cells (pos 0) (join (changes_of cells) more)

-- ---- readings

since-Among : (cells : List Stamped) (version : ℤ) (s : Stamped) → Among (since cells version) s → Among (filter (λ s. int_lt version s.version) cells) s
unfolding since
since-Among cells version = Among-set_of stamp_total stamp_exact (filter (λ s. int_lt version s.version) cells)

Among-since : (cells : List Stamped) (version : ℤ) (s : Stamped) → Among (filter (λ s. int_lt version s.version) cells) s → Among (since cells version) s
unfolding since
Among-since cells version = set_of-Among stamp_total stamp_exact (filter (λ s. int_lt version s.version) cells)

any-since : (p : Stamped → Bool) (cells : List Stamped) (version : ℤ) → list_any p (since cells version) ≡ list_any p (filter (λ s. int_lt version s.version) cells)
any-since p cells version = same_any p _ _ (since-Among cells version) (Among-since cells version)

pub has_cell-since : (cells : List Stamped) (version : ℤ) (s : Stamped) → has_cell (since cells version) s ≡ (has_cell cells s && int_lt version s.version)
unfolding has_cell
has_cell-since cells version s = any-since (eq_by_cmp cell_cmp s) cells version ∙ has-filter cell_total cell_exact (λ t. int_lt version t.version) cells s

pub changes-since : (cells : List Stamped) (version : ℤ) → SameMembers (changes_of (since cells version)) (changes_of (filter (λ s. int_lt version s.version) cells))
changes-since cells version c = has-changes _ c ∙ any-since (is_cell_of c) cells version ∙ sym (has-changes _ c)

filter_all : (p : Stamped → Bool) (ss : List Stamped) → AllByRecursion (λ s. p s ≡ true) ss → filter p ss ≡ ss
filter_all p [] all = refl
filter_all p (s ∷ ss) all = rw all.0 (ap (λ l. s ∷ l) (filter_all p ss all.1))

above_0 : (version : ℤ) (ss : List Stamped) → AllByRecursion (IsStampedTo version) ss → AllByRecursion (λ s. int_lt (pos 0) s.version ≡ true) ss
above_0 version [] all = tt
above_0 version (s ∷ ss) all = ((let from_1 : pos 1 ≤ℤ s.version = all.0.from_1 in grind (arith, ints)), above_0 version ss all.1)

pub since-all : (h : Holding) → IsSound h → SameMembers (changes_of (since h.cells (pos 0))) (kept_of h)
since-all h sound c = changes-since h.cells (pos 0) c ∙ ap (λ ss. has (changes_of ss) c) (filter_all (λ s. int_lt (pos 0) s.version) h.cells (above_0 h.version h.cells sound.stamped))

-- ---- marks

find_past : (p : Mark → Bool) (ms ns : List Mark) → list_any p ms ≡ false → find p (ms ++ ns) ≡ find p ns
find_past p [] ns e = refl
find_past p (m ∷ ms) ns e =
    elim (split (p m)) [
      | inl so ↦ (let e' : true ≡ false = rw so at e in absurd cc)
      | inr not_so ↦ (let e' : list_any p ms ≡ false = rw not_so at e in rw not_so (find_past p ms ns e'))
    ]

abbrev at_site : List ℕ → Mark → Bool
at_site site m = same_bytes m.0 site

none_there : (p : Mark → Bool) (ms : List Mark) → ((m : Mark) → Among ms m → p m ≡ false) → list_any p ms ≡ false
none_there p [] f = refl
none_there p (m ∷ ms) f = rw (f m (inl refl)) (none_there p ms (λ n a. f n (inr a)))

same_site : (m : Mark) (site : List ℕ) → at_site site m ≡ true → m.0 ≡ site
same_site m site e = bytes_exact m.0 site (eq_true _ e)

lt_not_eq : (o : Ordering) → is_lt o ≡ true → is_eq o ≡ false
lt_not_eq Less e = refl
lt_not_eq Equal e = absurd cc
lt_not_eq Greater e = absurd cc

itself : (m : Mark) → at_site m.0 m ≡ true
itself m = ap is_eq (tied_itself bytes_total m.0)

pub seen-with_mark : (marks : List Mark) (m : Mark) → seen_of (with_mark marks m) m.0 ≡ m.1
unfolding seen_of with_mark
seen-with_mark marks m =
    let here : find (at_site m.0) (m ∷ filter (λ o. is_lt (mark_cmp m o)) marks) ≡ Some m = rw (itself m) refl in
    let none : list_any (at_site m.0) (filter (λ o. is_lt (mark_cmp o m)) marks) ≡ false = none_there (at_site m.0) _ (λ n a. lt_not_eq _ (Among-filter (λ o. is_lt (mark_cmp o m)) marks n a).1) in
    ap (λ o. option_map_or (λ (m : Mark). m.1) o (pos 0)) (find_past (at_site m.0) (filter (λ o. is_lt (mark_cmp o m)) marks) (m ∷ filter (λ o. is_lt (mark_cmp m o)) marks) none ∙ here)

-- ---- the other sites

find_nowhere : (p : Mark → Bool) (ms : List Mark) → list_any p ms ≡ false → find p ms ≡ None
find_nowhere p [] e = refl
find_nowhere p (m ∷ ms) e =
    elim (split (p m)) [
      | inl so ↦ (let e' : true ≡ false = rw so at e in absurd cc)
      | inr not_so ↦ (let e' : list_any p ms ≡ false = rw not_so at e in rw not_so (find_nowhere p ms e'))
    ]

find_front : (p : Mark → Bool) (ms ns : List Mark) → list_any p ns ≡ false → find p (ms ++ ns) ≡ find p ms
find_front p [] ns e = find_nowhere p ns e
find_front p (m ∷ ms) ns e =
    elim (split (p m)) [
      | inl so ↦ rw so refl
      | inr not_so ↦ rw not_so (find_front p ms ns e)
    ]

-- a filter keeps what a search looks for
find_kept : (p q : Mark → Bool) (ms : List Mark) → ((m : Mark) → p m ≡ true → q m ≡ true) → find p (filter q ms) ≡ find p ms
find_kept p q [] f = refl
find_kept p q (m ∷ ms) f =
    elim (split (p m)) [
      | inl so ↦ rw (f m so, so) refl
      | inr not_so ↦ elim (split (q m)) [
        | inl so' ↦ rw (so', not_so) (find_kept p q ms f)
        | inr not_so' ↦ rw (not_so', not_so) (find_kept p q ms f)
      ]
    ]

-- or drops it
none_kept : (p q : Mark → Bool) (ms : List Mark) → ((m : Mark) → p m ≡ true → q m ≡ false) → list_any p (filter q ms) ≡ false
none_kept p q ms f =
    none_there p (filter q ms) (λ m a. elim (split (p m)) [
      | inl so ↦ (
          let yes' : q m ≡ true = (Among-filter q ms m a).1 in
          let no : q m ≡ false = f m so in
          absurd cc)
      | inr not_so ↦ not_so
    ])

module _ (marks : List Mark) (m : Mark) (site : List ℕ) (other : same_bytes m.0 site ≡ false) where
  abbrev lower : List Mark
  lower = filter (λ o. is_lt (mark_cmp o m)) marks

  abbrev upper : List Mark
  upper = filter (λ o. is_lt (mark_cmp m o)) marks

  -- the site comes before the mark's
  find_lower : bytes_cmp site m.0 ≡ Less → find (at_site site) (lower ++ m ∷ upper) ≡ find (at_site site) marks
  find_lower e =
      let there : (o : Mark) → at_site site o ≡ true → is_lt (mark_cmp o m) ≡ true = λ o h. ap (λ s. is_lt (bytes_cmp s m.0)) (same_site o site h) ∙ ap is_lt e in
      let turned : bytes_cmp m.0 site ≡ Greater = bytes_total.antisymm m.0 site ∙ ap ordering_reverse e in
      let not_there : (o : Mark) → at_site site o ≡ true → is_lt (mark_cmp m o) ≡ false = λ o h. ap (λ s. is_lt (bytes_cmp m.0 s)) (same_site o site h) ∙ ap is_lt turned in
      let none : list_any (at_site site) (m ∷ upper) ≡ false = rw other (none_kept (at_site site) (λ o. is_lt (mark_cmp m o)) marks not_there) in
      find_front (at_site site) lower (m ∷ upper) none ∙ find_kept (at_site site) (λ o. is_lt (mark_cmp o m)) marks there

  -- or after it
  find_upper : bytes_cmp site m.0 ≡ Greater → find (at_site site) (lower ++ m ∷ upper) ≡ find (at_site site) marks
  find_upper e =
      let turned : bytes_cmp m.0 site ≡ Less = bytes_total.antisymm m.0 site ∙ ap ordering_reverse e in
      let there : (o : Mark) → at_site site o ≡ true → is_lt (mark_cmp m o) ≡ true = λ o h. ap (λ s. is_lt (bytes_cmp m.0 s)) (same_site o site h) ∙ ap is_lt turned in
      let not_there : (o : Mark) → at_site site o ≡ true → is_lt (mark_cmp o m) ≡ false = λ o h. ap (λ s. is_lt (bytes_cmp s m.0)) (same_site o site h) ∙ ap is_lt e in
      let past_m : find (at_site site) (m ∷ upper) ≡ find (at_site site) upper = rw other refl in
      find_past (at_site site) lower (m ∷ upper) (none_kept (at_site site) (λ o. is_lt (mark_cmp o m)) marks not_there) ∙ past_m ∙ find_kept (at_site site) (λ o. is_lt (mark_cmp m o)) marks there

  found : find (at_site site) (lower ++ m ∷ upper) ≡ find (at_site site) marks
  found =
      elim (bytes_cmp site m.0) as (λ o. bytes_cmp site m.0 ≡ o → find (at_site site) (lower ++ m ∷ upper) ≡ find (at_site site) marks) [
        | Less ↦ find_lower
        | Equal ↦ λ e. (
            let yes' : same_bytes m.0 site ≡ true = ap (λ s. same_bytes m.0 s) (bytes_exact site m.0 e) ∙ itself m in
            absurd cc)
        | Greater ↦ find_upper
      ] refl

pub seen-other_site : (marks : List Mark) (m : Mark) (site : List ℕ) → same_bytes m.0 site ≡ false → seen_of (with_mark marks m) site ≡ seen_of marks site
unfolding seen_of with_mark
seen-other_site marks m site other = ap (λ o. option_map_or (λ (m : Mark). m.1) o (pos 0)) (found marks m site other)
