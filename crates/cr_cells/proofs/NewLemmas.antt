-- Which of the changes that are committed come in.
use Rattle.std.proofs.Common.{◌≡◌, inl, inr, Bool, true, false, not, ◌&&◌, ◌||◌, List, [], ◌∷◌, ◌++◌, Option, Some, None, refl, sym, ap, ◌∙◌, ℕ}
use Rattle.std.specs.Prelude.{ℤ, Err, filter}
use Rattle.std.specs.Borrow.{Bor}
use Rattle.std.specs.Option.{ForSome, option_map_or}
use Rattle.std.specs.List.{list_any}
use Rattle.std.specs.List.Sorted.{IsStrictlySortedBy}
use Rattle.std.specs.Ordering.{eq_by_cmp, int_eq, is_eq}
use Rattle.std.specs.Cmp.{tied_itself}
use Rattle.std.proofs.lemmas.List.Kept.{IsStrictlySortedBy-filter}
use Rattle.cr_value.specs.OrderLaws.{bytes_total, bytes_exact}
use Rattle.cr_lattice.specs.declared.change.Change.{Change}
use Rattle.cr_lattice.specs.declared.stamped.Stamped.{Stamped}
use Rattle.cr_lattice.specs.Change.{change_cmp, beats}
use Rattle.cr_lattice.specs.ChangeOrder.{change_total, change_exact, row_exact}
use Rattle.cr_lattice.specs.Check.{same_bytes}
use Rattle.cr_lattice.specs.Keep.{has, is_beaten, keep, join}
use Rattle.cr_lattice.specs.Rows.{is_of_row}
use Rattle.cr_lattice.proofs.ChangeLaws.{Beats-beats}
use Rattle.cr_lattice.proofs.SortedSets.{has-filter}
use Rattle.cr_lattice.proofs.KeepLaws.{In, In-left, In-right, In-append, beaten_by, beaten_from, kept_from, kept_to, sorted-keep, same_lists}
use Rattle.cr_lattice.proofs.Tested.{and_true, not_true, both_ways, eq_true}
use Rattle.cr_cells.specs.declared.store.CellsError.{CellsError}
use Rattle.cr_cells.specs.declared.store.CellsError.TheVariants as error
use Rattle.cr_cells.specs.Calls.{is_past_limit, StaysWithinLimit, IsNotCommitted}
use Rattle.cr_cells.specs.Holding.{Holding, kept_of, changes_of, cells_of}
use Rattle.cr_cells.specs.Commit.{newly_kept, is_changed, is_new, is_new_in, is_none, greatest_version}
use Rattle.cr_cells.proofs.MemberLemmas.{split}

-- ---- equal bytes

pub same_is : (x y : List ℕ) → same_bytes x y ≡ true → x ≡ y
same_is x y e = bytes_exact x y (eq_true _ e)

pub same_itself : (x : List ℕ) → same_bytes x x ≡ true
same_itself x = ap is_eq (tied_itself bytes_total x)

pub same_from : (x y : List ℕ) → x ≡ y → same_bytes x y ≡ true
same_from x y e = ap (same_bytes x) (sym e) ∙ same_itself x

-- ---- what comes in

pub In-filter : (p : Change → Bool) (cs : List Change) (c : Change) → has (filter p cs) c ≡ (has cs c && p c)
unfolding has
In-filter p cs c = has-filter change_total change_exact p cs c

pub no_both : (b : Bool) → b ≡ true → b ≡ false → ⊥
no_both true p q = absurd cc
no_both false p q = absurd cc

pub not_false : (b : Bool) → b ≡ false → not b ≡ true
not_false true e = absurd cc
not_false false e = refl

comes_with : (kept more : List Change) (c : Change) → In (filter (is_new kept) (keep more)) c → In (newly_kept kept more) c
unfolding newly_kept
comes_with kept more c e =
    let p = and_true _ _ (sym (In-filter (is_new kept) (keep more) c) ∙ e) in
    let q = and_true _ _ p.1 in
    let k = kept_from more c p.0 in
    let in_join : In (join kept more) c = kept_to (kept ++ more) c (record {
      member = In-right kept more c k.member;
      unbeaten = λ d in_d b. elim (In-append kept more d in_d) [
        | inl l ↦ no_both _ (beaten_from kept c d l b) (not_true _ q.1)
        | inr r ↦ k.unbeaten d r b
      ];
    }) in
    In-filter (λ c. not (has kept c)) (join kept more) c ∙ rw (in_join, not_true _ q.0) refl

comes_from : (kept more : List Change) (c : Change) → In (newly_kept kept more) c → In (filter (is_new kept) (keep more)) c
unfolding newly_kept
comes_from kept more c e =
    let p = and_true _ _ (sym (In-filter (λ c. not (has kept c)) (join kept more) c) ∙ e) in
    let k = kept_from (kept ++ more) c p.0 in
    let other : has kept c ≡ false = not_true _ p.1 in
    let in_more : In more c = elim (In-append kept more c k.member) [ inl l ↦ absurd (no_both _ l other) | inr r ↦ r ] in
    let in_keep : In (keep more) c = kept_to more c (record { member = in_more; unbeaten = λ d in_d b. k.unbeaten d (In-right kept more d in_d) b }) in
    let unbeaten : is_beaten kept c ≡ false = elim (split (is_beaten kept c)) [
      | inl so ↦ (let d = beaten_by kept c so in absurd (k.unbeaten d.0 (In-left kept more d.0 d.1) d.2))
      | inr not_so ↦ not_so
    ] in
    In-filter (is_new kept) (keep more) c ∙ rw (in_keep, other, unbeaten) refl

pub sorted-newly_kept : (kept more : List Change) → IsStrictlySortedBy change_cmp (newly_kept kept more)
unfolding newly_kept
sorted-newly_kept kept more = IsStrictlySortedBy-filter change_cmp (λ c. not (has kept c)) (join kept more) (sorted-keep (kept ++ more))

-- what is new of what the changes keep of one another is what comes in
pub news_are : (kept more : List Change) → filter (is_new kept) (keep more) ≡ newly_kept kept more
news_are kept more =
    same_lists (filter (is_new kept) (keep more)) (newly_kept kept more)
    (IsStrictlySortedBy-filter change_cmp (is_new kept) (keep more) (sorted-keep more)) (sorted-newly_kept kept more)
    (λ c. both_ways _ _ (comes_with kept more c) (comes_from kept more c))

-- ---- what only cells of a row pass

pub fails : (p q : Bool) → (p ≡ true → q ≡ true) → q ≡ false → p ≡ false
fails true q f e = absurd (no_both q (f refl) e)
fails false q f e = refl

module _ {X : Type 0} (p q : X → Bool) (f : (x : X) → p x ≡ true → q x ≡ true) where
  pub any_of_part : (xs : List X) → list_any p (filter q xs) ≡ list_any p xs
  any_of_part [] = refl
  any_of_part (x ∷ xs) =
      elim (split (q x)) [
        | inl so ↦ rw so (ap (λ b. p x || b) (any_of_part xs))
        | inr not_so ↦ rw (not_so, fails (p x) (q x) (f x) not_so) (any_of_part xs)
      ]

pub of_row : (c d : Change) → d.table ≡ c.table → d.pk ≡ c.pk → is_of_row c.table c.pk d ≡ true
of_row c d t k = rw (same_from _ _ t, same_from _ _ k) refl

row_of_same : (c : Change) (s : Stamped) → eq_by_cmp change_cmp c s.change ≡ true → is_of_row c.table c.pk s.change ≡ true
row_of_same c s e =
    let same : c ≡ s.change = change_exact c s.change (eq_true _ e) in
    of_row c s.change (ap (λ (d : Change). d.table) (sym same)) (ap (λ (d : Change). d.pk) (sym same))

row_of_winner : (c d : Change) → beats d c ≡ true → is_of_row c.table c.pk d ≡ true
row_of_winner c d e = let r = row_exact d c (Beats-beats d c e).row in of_row c d r.0 r.1

-- ---- by the cells of the row

any-changes : (p : Change → Bool) (ss : List Stamped) → list_any p (changes_of ss) ≡ list_any (λ s. p s.change) ss
any-changes p [] = refl
any-changes p (s ∷ ss) = ap (λ b. p s.change || b) (any-changes p ss)

-- whether a change is new is known by the cells of its row
pub new_by_row : (ss : List Stamped) (c : Change) → is_new_in (cells_of ss c.table c.pk) c ≡ is_new (changes_of ss) c
unfolding cells_of has is_beaten
new_by_row ss c =
    let q = λ (s : Stamped). is_of_row c.table c.pk s.change in
    rw (
      any_of_part (λ s. eq_by_cmp change_cmp c s.change) q (row_of_same c) ss,
      any_of_part (λ s. beats s.change c) q (λ s. row_of_winner c s.change) ss,
      any-changes (eq_by_cmp change_cmp c) ss,
      any-changes (λ d. beats d c) ss,
    ) refl

-- the cells of the row that was read for another change are those of its own, where it is of that row
pub read_for : (ss : List Stamped) (read : Option (Bor Change)) (c : Change) (row : List Stamped)
    → option_map_or (λ r. is_of_row r.now.table r.now.pk c) read false ≡ true
    → ForSome read (λ r. row ≡ cells_of ss r.now.table r.now.pk) → row ≡ cells_of ss c.table c.pk
read_for ss None c row same there = absurd (let z : ⊥ = cc in z)
read_for ss (Some r) c row same there =
    let parts = and_true (same_bytes c.table r.now.table) (same_bytes c.pk r.now.pk) same in
    there r refl ∙ (λ i. cells_of ss (sym (same_is c.table r.now.table parts.0) i) (sym (same_is c.pk r.now.pk parts.1) i))

-- ---- whether some come in

some-filter : (p : Change → Bool) (cs : List Change) → not (is_none (filter p cs)) ≡ list_any p cs
some-filter p [] = refl
some-filter p (c ∷ cs) =
    elim (split (p c)) [
      | inl so ↦ rw so refl
      | inr not_so ↦ rw not_so (some-filter p cs)
    ]

pub some-newly_kept : (kept more : List Change) → not (is_none (newly_kept kept more)) ≡ is_changed kept more
unfolding newly_kept is_changed
some-newly_kept kept more = some-filter (λ c. not (has kept c)) (join kept more)

-- whether a version would be passed is known by what comes in
pub past_by_news : (h : Holding) (more news : List Change) (version : ℤ) (past : Bool) → news ≡ newly_kept (kept_of h) more → version ≡ h.version → (not (is_none news) && int_eq version greatest_version) ≡ past → is_past_limit h more ≡ past
past_by_news h more news version past come same limit =
    ap (λ b. b && int_eq h.version greatest_version) (sym (ap (λ (l : List Change). not (is_none l)) come ∙ some-newly_kept (kept_of h) more))
    ∙ ap (λ v. not (is_none news) && int_eq v greatest_version) (sym same) ∙ limit

pub not_committed : (h : Holding) (more news : List Change) (version : ℤ) (e : CellsError) → news ≡ newly_kept (kept_of h) more → version ≡ h.version → StaysWithinLimit (not (is_none news)) version (Err e) → IsNotCommitted h more e
not_committed h more news version error.Memory come same limit = absurd limit
not_committed h more news version (error.Store f) come same limit = absurd limit
not_committed h more news version error.VersionLimit come same limit = past_by_news h more news version true come same limit
