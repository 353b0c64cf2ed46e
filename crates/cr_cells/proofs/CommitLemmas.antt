-- The cells after a commit: their changes, their stamps, and that nothing changes where nothing comes in.
use Rattle.std.proofs.Common.{◌≡◌, ◌⊎◌, inl, inr, ℤ, pos, ◌+ℤ◌, ◌≤ℤ◌, Bool, true, false, not, List, [], ◌∷◌, ◌++◌, Option, Some, None, refl, sym, ap, ◌∙◌, subst, arith, SFits, w64, Bor, is_some, ℕ, ◌+◌, ◌<◌, length, get_or, drop, append_assoc, add-one, drop-cons, ◌≤◌}
use Rattle.std.proofs.lemmas.List.{append-nil, drop_all}
use Rattle.std.proofs.lemmas.Int.{ints}
use Rattle.std.specs.Prelude.{filter, find}
use Rattle.std.specs.Ordering.{int_eq}
use Rattle.std.specs.FinSet.{int_cmp-IsAntisymmetric}
use Rattle.std.proofs.lemmas.Cmp.{int_eq_equiv}
use Rattle.std.specs.List.{list_any, AllByRecursion, IsDistinct}
use Rattle.std.specs.List.Sorted.{IsStrictlySortedBy}
use Rattle.std.specs.Option.{option_copied}
use Rattle.cr_lattice.specs.declared.change.Change.{Change}
use Rattle.cr_lattice.specs.declared.stamped.Stamped.{Stamped}
use Rattle.cr_lattice.specs.Change.{change_cmp}
use Rattle.cr_lattice.specs.Keep.{has, keep, join}
use Rattle.cr_lattice.specs.Sets.{set_of}
use Rattle.cr_lattice.proofs.SortedSets.{IsStrictlySortedBy-set_of}
use Rattle.cr_lattice.proofs.KeepLaws.{In, In-head, In-tail, In-cons, not_In-nil, In-left, any_gives as any_gives_change, any_from as any_from_change, sorted-keep, keep_between}
use Rattle.cr_cells.specs.Holding.{changes_of, cell_cmp, same_stamp, IsStampedTo}
use Rattle.cr_cells.specs.Commit.{newly_kept, is_changed, stamped, still_kept, greatest_version, cells_after}
use borrow.Author.Differences.{fits_in}
use Rattle.cr_cells.proofs.MemberLemmas.{split, Among, any_from, all_at, all_from, Among-filter, filter-Among, Among-append, append-left, append-right, find_gives, find_none, apart_one, set_is, Among-set_of}
use Rattle.cr_cells.proofs.CellLemmas.{cell_total, cell_exact, eq_true, strict_cells, one_cell, is_cell_of, has-changes, same_change, has_from, same_stamp-flips, same_stamp-parts, stamps_distinct}

-- ---- change by change

abbrev pub is_new : List Stamped → Change → Bool
is_new old c = not (has (changes_of old) c)

-- the cell that is found, or a new one
abbrev pub cell_for : ℤ → ℤ → Change → Option Stamped → Stamped
cell_for version seq c None = record { change = c; version = version; seq = seq }
cell_for version seq c (Some s) = s

abbrev pub seq_after : ℤ → Option Stamped → ℤ
seq_after seq None = seq +ℤ pos 1
seq_after seq (Some s) = seq

-- a cell for each change in turn
abbrev pub restamped : ℤ → List Stamped → ℤ → List Change → List Stamped
restamped version old seq [] = []
restamped version old seq (c ∷ cs) =
    cell_for version seq c (find (is_cell_of c) old) ∷ restamped version old (seq_after seq (find (is_cell_of c) old)) cs

-- whether a change has a cell
pub record Found (old : List Stamped) (c : Change) (s : Stamped) : Type 0 where
  pub is : find (is_cell_of c) old ≡ Some s
  pub member : Among old s
  pub change : c ≡ s.change
  pub not_new : is_new old c ≡ false

pub record Missing (old : List Stamped) (c : Change) : Type 0 where
  pub is : find (is_cell_of c) old ≡ None
  pub fresh : is_new old c ≡ true

option_split : (o : Option Stamped) → ((s : Stamped) × (o ≡ Some s)) ⊎ (o ≡ None)
option_split None = inr refl
option_split (Some s) = inl (s, refl)

pub look : (old : List Stamped) (c : Change) → ((s : Stamped) × Found old c s) ⊎ Missing old c
look old c =
    elim (option_split (find (is_cell_of c) old)) [
      | inl found ↦ (
          let r = find_gives (is_cell_of c) old found.0 found.1 in
          inl (
            found.0,
            record {
              is = found.1;
              member = r.0;
              change = same_change c found.0 r.1;
              not_new = ap not (has-changes old c ∙ any_from (is_cell_of c) old found.0 r.0 r.1);
            },
          ))
      | inr none ↦ inr (record { is = none; fresh = ap not (has-changes old c ∙ find_none (is_cell_of c) old none) })
    ]

pub changes_of-restamped : (version : ℤ) (old : List Stamped) (seq : ℤ) (cs : List Change) → changes_of (restamped version old seq cs) ≡ cs
changes_of-restamped version old seq [] = refl
changes_of-restamped version old seq (c ∷ cs) =
    elim (look old c) [
      | inl found ↦ rw found.1.is (ap (λ d. d ∷ changes_of (restamped version old seq cs)) (sym found.1.change) ∙ ap (λ l. c ∷ l) (changes_of-restamped version old seq cs))
      | inr missing ↦ rw missing.is (ap (λ l. c ∷ l) (changes_of-restamped version old (seq +ℤ pos 1) cs))
    ]

restamped-from : (version : ℤ) (old : List Stamped) (seq : ℤ) (cs : List Change) (t : Stamped) → Among (restamped version old seq cs) t → (Among old t × In cs t.change) ⊎ Among (stamped version seq (filter (is_new old) cs)) t
restamped-from version old seq [] t a = absurd a
restamped-from version old seq (c ∷ cs) t a =
    elim (look old c) [
      | inl found ↦ (
          let a' : Among (found.0 ∷ restamped version old seq cs) t = rw found.1.is at a in
          rw found.1.not_new (elim a' [
            | inl same ↦ inl (subst (Among old) (sym same) found.1.member, subst (In (c ∷ cs)) (found.1.change ∙ ap (λ (s : Stamped). s.change) (sym same)) (In-head c cs))
            | inr there ↦ elim (restamped-from version old seq cs t there) [
              | inl p ↦ inl (p.0, In-tail c cs t.change p.1)
              | inr new ↦ inr new
            ]
          ]))
      | inr missing ↦ (
          let a' : Among (record { change = c; version = version; seq = seq } ∷ restamped version old (seq +ℤ pos 1) cs) t = rw missing.is at a in
          rw missing.fresh (elim a' [
            | inl same ↦ inr (inl same)
            | inr there ↦ elim (restamped-from version old (seq +ℤ pos 1) cs t there) [
              | inl p ↦ inl (p.0, In-tail c cs t.change p.1)
              | inr new ↦ inr (inr new)
            ]
          ]))
    ]

kept-restamped : (version : ℤ) (old : List Stamped) (seq : ℤ) (cs : List Change) (t : Stamped) → IsStrictlySortedBy change_cmp (changes_of old) → Among old t → In cs t.change → Among (restamped version old seq cs) t
kept-restamped version old seq [] t sorted a e = absurd (not_In-nil t.change e)
kept-restamped version old seq (c ∷ cs) t sorted a e =
    elim (look old c) [
      | inl found ↦ rw found.1.is (elim (In-cons c cs t.change e) [
        | inl here ↦ inl (one_cell old t found.0 sorted a found.1.member (here ∙ found.1.change))
        | inr there ↦ inr (kept-restamped version old seq cs t sorted a there)
      ])
      | inr missing ↦ rw missing.is (elim (In-cons c cs t.change e) [
        | inl here ↦ (
            let old_one : has (changes_of old) c ≡ true = subst (In (changes_of old)) here (has_from old t a) in
            let no : is_new old c ≡ false = ap not old_one in
            let yes' : is_new old c ≡ true = missing.fresh in
            absurd cc)
        | inr there ↦ inr (kept-restamped version old (seq +ℤ pos 1) cs t sorted a there)
      ])
    ]

new-restamped : (version : ℤ) (old : List Stamped) (seq : ℤ) (cs : List Change) (t : Stamped) → Among (stamped version seq (filter (is_new old) cs)) t → Among (restamped version old seq cs) t
new-restamped version old seq [] t a = absurd a
new-restamped version old seq (c ∷ cs) t a =
    elim (look old c) [
      | inl found ↦ (
          let a' : Among (stamped version seq (filter (is_new old) cs)) t = rw found.1.not_new at a in
          rw found.1.is (inr (new-restamped version old seq cs t a')))
      | inr missing ↦ (
          let a' : Among (stamped version seq (c ∷ filter (is_new old) cs)) t = rw missing.fresh at a in
          rw missing.is (elim a' [
            | inl same ↦ inl same
            | inr there ↦ inr (new-restamped version old (seq +ℤ pos 1) cs t there)
          ]))
    ]

-- the cells for changes in order are the set of those that are found and of the new ones
pub restamped_is : (version : ℤ) (old : List Stamped) (seq : ℤ) (cs : List Change) → IsStrictlySortedBy change_cmp (changes_of old) → IsStrictlySortedBy change_cmp cs
    → restamped version old seq cs ≡ set_of cell_cmp (filter (λ s. has cs s.change) old ++ stamped version seq (filter (is_new old) cs))
restamped_is version old seq cs sorted sorted' =
    set_is cell_total cell_exact (restamped version old seq cs) _
    (strict_cells _ (rw (changes_of-restamped version old seq cs) sorted'))
    (λ t a. elim (restamped-from version old seq cs t a) [
      | inl p ↦ append-left _ _ t (filter-Among (λ s. has cs s.change) old t p.0 p.1)
      | inr new ↦ append-right _ _ t new
    ])
    (λ t a. elim (Among-append _ _ t a) [
      | inl l ↦ (let p = Among-filter (λ s. has cs s.change) old t l in kept-restamped version old seq cs t sorted p.0 p.1)
      | inr new ↦ new-restamped version old seq cs t new
    ])

-- ---- the changes

pub sorted_kept : (cells : List Stamped) → keep (changes_of cells) ≡ changes_of cells → IsStrictlySortedBy change_cmp (changes_of cells)
sorted_kept cells kept = subst (IsStrictlySortedBy change_cmp) kept (sorted-keep (changes_of cells))

pub changes_of-cells_after : (cells : List Stamped) (more : List Change) (version : ℤ) → keep (changes_of cells) ≡ changes_of cells → changes_of (cells_after cells more version) ≡ join (changes_of cells) more
unfolding cells_after newly_kept
changes_of-cells_after cells more version kept =
    ap changes_of (sym (restamped_is version cells (pos 0) (join (changes_of cells) more) (sorted_kept cells kept) (sorted-keep (changes_of cells ++ more))))
    ∙ changes_of-restamped version cells (pos 0) (join (changes_of cells) more)

-- ---- nothing comes in

pub none_passes : (p : Change → Bool) (cs : List Change) → list_any p cs ≡ false → filter p cs ≡ []
none_passes p [] e = refl
none_passes p (c ∷ cs) e =
    elim (split (p c)) [
      | inl so ↦ (let e' : true ≡ false = rw so at e in absurd cc)
      | inr not_so ↦ (let e' : list_any p cs ≡ false = rw not_so at e in rw not_so (none_passes p cs e'))
    ]

not_false : (b : Bool) → not b ≡ false → b ≡ true
not_false true e = refl
not_false false e = absurd cc

pub unchanged_kept : (kept more : List Change) → keep kept ≡ kept → is_changed kept more ≡ false → join kept more ≡ kept
unfolding is_changed
unchanged_kept kept more k e =
    sym (keep_between (kept ++ more) kept
    (λ c in_join. elim (split (has kept c)) [
      | inl so ↦ so
      | inr not_so ↦ (
          let some' : list_any (λ d. not (has kept d)) (join kept more) ≡ true = any_from_change (λ d. not (has kept d)) c (join kept more) in_join (ap not not_so) in
          absurd cc)
    ])
    (λ c in_kept. In-left kept more c in_kept))
    ∙ k

pub changed_kept : (kept more : List Change) → is_changed kept more ≡ true → join kept more ≡ kept → ⊥
unfolding is_changed
changed_kept kept more e same =
    let r = any_gives_change (λ c. not (has kept c)) (join kept more) e in
    let in_kept : has kept r.0 ≡ true = ap (λ ks. has ks r.0) (sym same) ∙ r.1 in
    let not_in : not (has kept r.0) ≡ true = r.2 in
    let not_in' : not (has kept r.0) ≡ false = ap not in_kept in
    absurd cc

pub unchanged_cells : (cells : List Stamped) (more : List Change) (version : ℤ) → keep (changes_of cells) ≡ changes_of cells → is_changed (changes_of cells) more ≡ false → cells_after cells more version ≡ cells
unfolding cells_after newly_kept is_changed
unchanged_cells cells more version kept e =
    let same : join (changes_of cells) more ≡ changes_of cells = unchanged_kept (changes_of cells) more kept e in
    let none : filter (is_new cells) (join (changes_of cells) more) ≡ [] = none_passes (is_new cells) (join (changes_of cells) more) e in
    sym (set_is cell_total cell_exact cells _ (strict_cells cells (sorted_kept cells kept))
    (λ t a. append-left _ _ t (filter-Among (λ s. has (join (changes_of cells) more) s.change) cells t a (ap (λ ks. has ks t.change) same ∙ has_from cells t a)))
    (λ t a. elim (Among-append _ _ t a) [
      | inl l ↦ (Among-filter (λ s. has (join (changes_of cells) more) s.change) cells t l).0
      | inr new ↦ (let new' : Among (stamped version (pos 0) []) t = subst (λ ks. Among (stamped version (pos 0) ks) t) none new in absurd new')
    ]))

-- ---- stamps

pub after-from : (cells : List Stamped) (more : List Change) (version : ℤ) (t : Stamped) → Among (cells_after cells more version) t → Among cells t ⊎ Among (stamped version (pos 0) (newly_kept (changes_of cells) more)) t
unfolding cells_after
after-from cells more version t a =
    elim (Among-append _ _ t (Among-set_of cell_total cell_exact _ t a)) [
      | inl l ↦ inl (Among-filter (λ s. has (join (changes_of cells) more) s.change) cells t l).0
      | inr new ↦ inr new
    ]

pub stamped-at : (version seq : ℤ) (cs : List Change) (t : Stamped) → Among (stamped version seq cs) t → (t.version ≡ version) × (seq ≤ℤ t.seq)
stamped-at version seq [] t a = absurd a
stamped-at version seq (c ∷ cs) t a =
    elim a [
      | inl same ↦ (ap (λ (s : Stamped). s.version) same, (let e : t.seq ≡ seq = ap (λ (s : Stamped). s.seq) same in omega (arith, ints)))
      | inr there ↦ (let r = stamped-at version (seq +ℤ pos 1) cs t there in (r.0, (let le : (seq +ℤ pos 1) ≤ℤ t.seq = r.1 in omega (arith, ints))))
    ]

stamped-one : (version seq : ℤ) (cs : List Change) (s t : Stamped) → Among (stamped version seq cs) s → Among (stamped version seq cs) t → s.seq ≡ t.seq → s ≡ t
stamped-one version seq [] s t a b e = absurd a
stamped-one version seq (c ∷ cs) s t a b e =
    elim a [
      | inl same ↦ elim b [
        | inl same' ↦ same ∙ sym same'
        | inr there' ↦ (
            let at : s.seq ≡ seq = ap (λ (u : Stamped). u.seq) same in
            let past : (seq +ℤ pos 1) ≤ℤ t.seq = (stamped-at version (seq +ℤ pos 1) cs t there').1 in
            absurd (omega (arith, ints)))
      ]
      | inr there ↦ elim b [
        | inl same' ↦ (
            let at : t.seq ≡ seq = ap (λ (u : Stamped). u.seq) same' in
            let past : (seq +ℤ pos 1) ≤ℤ s.seq = (stamped-at version (seq +ℤ pos 1) cs s there).1 in
            absurd (omega (arith, ints)))
        | inr there' ↦ stamped-one version (seq +ℤ pos 1) cs s t there there' e
      ]
    ]

pub stamped_after : (cells : List Stamped) (more : List Change) (version : ℤ) → pos 0 ≤ℤ version → AllByRecursion (IsStampedTo version) cells → AllByRecursion (IsStampedTo (version +ℤ pos 1)) (cells_after cells more (version +ℤ pos 1))
stamped_after cells more version from_0 all =
    all_from (IsStampedTo (version +ℤ pos 1)) _ (λ t a. elim (after-from cells more (version +ℤ pos 1) t a) [
      | inl kept ↦ (
          let i = all_at (IsStampedTo version) cells t all kept in
          let below : t.version ≤ℤ version = i.past in
          record { from_1 = i.from_1; past = omega (arith, ints); place = i.place })
      | inr new ↦ (
          let r = stamped-at (version +ℤ pos 1) (pos 0) _ t new in
          let e : t.version ≡ (version +ℤ pos 1) = r.0 in
          record { from_1 = omega (arith, ints); past = omega (arith, ints); place = r.1 })
    ])

-- two cells after a commit that have one stamp are one
one_stamp_after : (cells : List Stamped) (more : List Change) (version : ℤ) → AllByRecursion (IsStampedTo version) cells → IsDistinct same_stamp cells → (s t : Stamped) → Among (cells_after cells more (version +ℤ pos 1)) s → Among (cells_after cells more (version +ℤ pos 1)) t → same_stamp s t ≡ true → s ≡ t
one_stamp_after cells more version all distinct s t a b e =
    let v : ℤ = version +ℤ pos 1 in
    let news : List Change = newly_kept (changes_of cells) more in
    let p = same_stamp-parts s t e in
    let versions : s.version ≡ t.version = p.0 in
    elim (after-from cells more v s a) [
      | inl kept ↦ elim (after-from cells more v t b) [
        | inl kept' ↦ apart_one same_stamp same_stamp-flips cells s t distinct kept kept' e
        | inr new' ↦ (
            let below : s.version ≤ℤ version = (all_at (IsStampedTo version) cells s all kept).past in
            let is : t.version ≡ (version +ℤ pos 1) = (stamped-at v (pos 0) news t new').0 in
            absurd (omega (arith, ints)))
      ]
      | inr new ↦ elim (after-from cells more v t b) [
        | inl kept' ↦ (
            let below : t.version ≤ℤ version = (all_at (IsStampedTo version) cells t all kept').past in
            let is : s.version ≡ (version +ℤ pos 1) = (stamped-at v (pos 0) news s new).0 in
            absurd (omega (arith, ints)))
        | inr new' ↦ stamped-one v (pos 0) news s t new new' p.1
      ]
    ]

sorted-cells_after : (cells : List Stamped) (more : List Change) (version : ℤ) → IsStrictlySortedBy cell_cmp (cells_after cells more version)
unfolding cells_after
sorted-cells_after cells more version = IsStrictlySortedBy-set_of cell_total cell_exact (still_kept cells more ++ stamped version (pos 0) (newly_kept (changes_of cells) more))

pub stamps_after : (cells : List Stamped) (more : List Change) (version : ℤ) → AllByRecursion (IsStampedTo version) cells → IsDistinct same_stamp cells → IsDistinct same_stamp (cells_after cells more (version +ℤ pos 1))
stamps_after cells more version all distinct =
    stamps_distinct (cells_after cells more (version +ℤ pos 1)) (sorted-cells_after cells more (version +ℤ pos 1)) (one_stamp_after cells more version all distinct)

-- ---- as code looks

not_flips : (a b : Bool) → a ≡ not b → b ≡ not a
not_flips true true e = absurd cc
not_flips true false e = refl
not_flips false true e = refl
not_flips false false e = absurd cc

new_from : (old : List Stamped) (c : Change) → None ≡ find (is_cell_of c) old → is_new old c ≡ true
new_from old c e =
    elim (look old c) [
      | inl found ↦ (let e' : None ≡ Some found.0 = e ∙ found.1.is in absurd cc)
      | inr missing ↦ missing.fresh
    ]

old_from : (old : List Stamped) (c : Change) (s : Stamped) → Some s ≡ find (is_cell_of c) old → is_new old c ≡ false
old_from old c s e =
    elim (look old c) [
      | inl found ↦ found.1.not_new
      | inr missing ↦ (let e' : Some s ≡ None = e ∙ missing.is in absurd cc)
    ]

pub none_is_new : (old : List Stamped) (c : Change) (o : Option (Bor Stamped)) (b : Bool) → option_copied o ≡ find (is_cell_of c) old → is_some o ≡ not b → b ≡ is_new old c
none_is_new old c None b e h = not_flips _ _ h ∙ sym (new_from old c e)
none_is_new old c (Some s) b e h = not_flips _ _ h ∙ sym (old_from old c s.now e)

drop_more : (cs : List Change) (i : ℕ) (d : Change) → i < length cs → drop i cs ≡ get_or cs i d ∷ drop (i + 1) cs
drop_more cs i d within = rw add-one (drop-cons cs i d within)

-- a loop's step: the cell for the change at i comes to the cells that are done
pub restamped_more : (version : ℤ) (old : List Stamped) (seq seq' : ℤ) (next : List Change) (i : ℕ) (c : Change) (done done' all : List Stamped) (s : Stamped)
    → i < length next → c ≡ get_or next i c
    → s ≡ cell_for version seq c (find (is_cell_of c) old) → seq' ≡ seq_after seq (find (is_cell_of c) old) → done' ≡ done ++ s ∷ []
    → done ++ restamped version old seq (drop i next) ≡ all → done' ++ restamped version old seq' (drop (i + 1) next) ≡ all
restamped_more version old seq seq' next i c done done' all s within is made counted pushed so =
    let cut : drop i next ≡ c ∷ drop (i + 1) next = drop_more next i c within ∙ ap (λ d. d ∷ drop (i + 1) next) (sym is) in
    ap (λ d. d ++ restamped version old seq' (drop (i + 1) next)) pushed
    ∙ append_assoc done (s ∷ []) (restamped version old seq' (drop (i + 1) next))
    ∙ ap (λ t. done ++ (t ∷ restamped version old seq' (drop (i + 1) next))) made
    ∙ ap (λ n. done ++ (cell_for version seq c (find (is_cell_of c) old) ∷ restamped version old n (drop (i + 1) next))) counted
    ∙ ap (λ cs. done ++ restamped version old seq cs) (sym cut)
    ∙ so

-- at the loop's end
pub restamped_done : (version version' : ℤ) (old : List Stamped) (seq : ℤ) (next : List Change) (i : ℕ) (done : List Stamped)
    → length next ≤ i → version' ≡ version → IsStrictlySortedBy change_cmp (changes_of old) → IsStrictlySortedBy change_cmp next
    → done ++ restamped version' old seq (drop i next) ≡ restamped version' old (pos 0) next
    → done ≡ set_of cell_cmp (filter (λ s. has next s.change) old ++ stamped version (pos 0) (filter (is_new old) next))
restamped_done version version' old seq next i done past same sorted sorted' so =
    sym (append-nil done)
    ∙ ap (λ cs. done ++ restamped version' old seq cs) (sym (drop_all i next past))
    ∙ so
    ∙ ap (λ v. restamped v old (pos 0) next) same
    ∙ restamped_is version old (pos 0) next sorted sorted'

-- ---- as a commit goes: kept are the cells' changes, and next the join

pub is_changed-is : (cells : List Stamped) (more kept next : List Change) (b : Bool) → kept ≡ changes_of cells → next ≡ join kept more → b ≡ list_any (is_new cells) next → b ≡ is_changed (changes_of cells) more
unfolding is_changed
is_changed-is cells more kept next b is joined tested = tested ∙ ap (list_any (is_new cells)) (joined ∙ ap (λ ks. join ks more) is)

pub sorted_next : (more kept next : List Change) → next ≡ join kept more → IsStrictlySortedBy change_cmp next
sorted_next more kept next joined = subst (IsStrictlySortedBy change_cmp) (sym joined) (sorted-keep (kept ++ more))

pub cells_after-is : (cells : List Stamped) (more kept next : List Change) (version : ℤ) (after : List Stamped) → kept ≡ changes_of cells → next ≡ join kept more
    → after ≡ set_of cell_cmp (filter (λ s. has next s.change) cells ++ stamped version (pos 0) (filter (is_new cells) next)) → after ≡ cells_after cells more version
unfolding cells_after newly_kept
cells_after-is cells more kept next version after is joined made =
    made ∙ ap (λ ns. set_of cell_cmp (filter (λ s. has ns s.change) cells ++ stamped version (pos 0) (filter (is_new cells) ns))) (joined ∙ ap (λ ks. join ks more) is)

-- ---- whole numbers

pub same_int : (m n : ℤ) → m ≡ n → int_eq m n ≡ true
same_int m n e = ap (λ k. int_eq m k) (sym e) ∙ int_eq_equiv.refl m

pub other_int : (m n : ℤ) → (m ≡ n → ⊥) → int_eq m n ≡ false
other_int m n f =
    elim (split (int_eq m n)) [
      | inl so ↦ absurd (f (int_cmp-IsAntisymmetric m n (eq_true _ so)))
      | inr not_so ↦ not_so
    ]

-- the only version with no next one
pub at_limit : (v : ℤ) → SFits w64 v → (SFits w64 (v +ℤ pos 1) → ⊥) → v ≡ greatest_version
at_limit v fits no_next =
    elim (split (int_eq v greatest_version)) [
      | inl so ↦ int_cmp-IsAntisymmetric v greatest_version (eq_true _ so)
      | inr not_so ↦ (
          let other : v ≡ greatest_version → ⊥ = λ e. (let so : int_eq v greatest_version ≡ true = same_int v greatest_version e in absurd cc) in
          let next : SFits w64 (v +ℤ pos 1) = fits_in w64 (v +ℤ pos 1) (omega (arith, ints)) in
          absurd (no_next next))
    ]
