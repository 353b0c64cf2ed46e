-- The changes that come in with a commit are told from the changes kept of their rows.
use Rattle.std.proofs.Common.{◌≡◌, inl, inr, true, false, not, List, ◌++◌, refl, sym, ap, ◌∙◌, Equal}
use Rattle.std.specs.Ordering.{is_eq, ordering_reverse}
use Rattle.std.specs.List.Sorted.{IsStrictlySortedBy}
use Rattle.std.proofs.lemmas.List.Kept.{IsStrictlySortedBy-filter}
use Rattle.std.proofs.lemmas.Cmp.{tied_itself}
use Rattle.cr_lattice.specs.declared.change.Change.{Change}
use Rattle.cr_lattice.specs.Change.{row_cmp, change_cmp, beats}
use Rattle.cr_lattice.specs.ChangeOrder.{change_total, change_exact, row_total}
use Rattle.cr_lattice.specs.Keep.{has, join}
use Rattle.cr_lattice.proofs.Tested.{and_true, split, both_ways, not_true}
use Rattle.cr_lattice.proofs.ChangeLaws.{Beats-beats}
use Rattle.cr_lattice.proofs.SortedSets.{has-filter}
use Rattle.cr_lattice.proofs.KeepLaws.{In, In-append, In-left, In-right, any_from, kept_from, kept_to, sorted-keep, same_lists}
use Rattle.cr_cells.specs.Commit.{newly_kept}
use Rattle.cr_touched.specs.Touched.{is_of_their_rows, of_their_rows, NewlyKeptOfTheirRows}

module _ (kept more : List Change) where
  in_rows : (c : Change) → In (of_their_rows more kept) c → In kept c × (is_of_their_rows more c ≡ true)
  unfolding of_their_rows has
  in_rows c e = and_true _ _ (sym (has-filter change_total change_exact (is_of_their_rows more) kept c) ∙ e)

  to_rows : (c : Change) → In kept c → is_of_their_rows more c ≡ true → In (of_their_rows more kept) c
  unfolding of_their_rows has
  to_rows c i e = has-filter change_total change_exact (is_of_their_rows more) kept c ∙ rw (i, e) refl

  of_more : (c : Change) → In more c → is_of_their_rows more c ≡ true
  of_more c i = any_from (λ d. is_eq (row_cmp d c)) c more i (ap is_eq (tied_itself row_total c))

  -- what beats a change of theirs is of their rows
  beater : (c d : Change) → In more c → beats d c ≡ true → is_of_their_rows more d ≡ true
  beater c d i b = any_from (λ e. is_eq (row_cmp e d)) c more i (ap is_eq (turned_tie c d (Beats-beats d c b).row)) where
    turned_tie : (c d : Change) → row_cmp d c ≡ Equal → row_cmp c d ≡ Equal
    turned_tie c d e = row_total.antisymm c d ∙ ap ordering_reverse e

  record New (base : List Change) (c : Change) : Type 0 where
    fresh : has base c ≡ false
    kept_now : In (join base more) c

  of_new : (base : List Change) (c : Change) → In (newly_kept base more) c → New base c
  unfolding newly_kept has
  of_new base c e = let p = and_true _ _ (sym (has-filter change_total change_exact (λ c. not (has base c)) (join base more) c) ∙ e) in record { fresh = not_true _ p.1; kept_now = p.0 }

  to_new : (base : List Change) (c : Change) → New base c → In (newly_kept base more) c
  unfolding newly_kept has
  to_new base c n = has-filter change_total change_exact (λ c. not (has base c)) (join base more) c ∙ rw (n.kept_now, n.fresh) refl

  sorted_new : (base : List Change) → IsStrictlySortedBy change_cmp (newly_kept base more)
  unfolding newly_kept
  sorted_new base = IsStrictlySortedBy-filter change_cmp (λ c. not (has base c)) (join base more) (sorted-keep (base ++ more))

  -- a new change is one of theirs
  is_theirs : (base : List Change) (c : Change) → New base c → In more c
  is_theirs base c n = elim (In-append base more c (kept_from (base ++ more) c n.kept_now).member) [
    | inl i ↦ absurd (let e : has base c ≡ false = n.fresh in cc)
    | inr i ↦ i
  ]

  one_way : (c : Change) → New kept c → New (of_their_rows more kept) c
  one_way c n =
      let k = kept_from (kept ++ more) c n.kept_now in
      let theirs = is_theirs kept c n in
      record {
        fresh = elim (split (has (of_their_rows more kept) c)) [ inl e ↦ absurd (let a = (in_rows c e).0 in let b : has kept c ≡ false = n.fresh in cc) | inr e ↦ e ];
        kept_now = kept_to (of_their_rows more kept ++ more) c (record {
          member = In-right (of_their_rows more kept) more c theirs;
          unbeaten = λ d i b. elim (In-append (of_their_rows more kept) more d i) [
            | inl j ↦ k.unbeaten d (In-left kept more d (in_rows d j).0) b
            | inr j ↦ k.unbeaten d (In-right kept more d j) b
          ];
        });
      }

  other_way : (c : Change) → New (of_their_rows more kept) c → New kept c
  other_way c n =
      let k = kept_from (of_their_rows more kept ++ more) c n.kept_now in
      let theirs = is_theirs (of_their_rows more kept) c n in
      record {
        fresh = elim (split (has kept c)) [ inl e ↦ absurd (let a = to_rows c e (of_more c theirs) in let b : has (of_their_rows more kept) c ≡ false = n.fresh in cc) | inr e ↦ e ];
        kept_now = kept_to (kept ++ more) c (record {
          member = In-right kept more c theirs;
          unbeaten = λ d i b. elim (In-append kept more d i) [
            | inl j ↦ k.unbeaten d (In-left (of_their_rows more kept) more d (to_rows d j (beater c d theirs b))) b
            | inr j ↦ k.unbeaten d (In-right (of_their_rows more kept) more d j) b
          ];
        });
      }

  same_new : newly_kept kept more ≡ newly_kept (of_their_rows more kept) more
  same_new =
      same_lists (newly_kept kept more) (newly_kept (of_their_rows more kept) more) (sorted_new kept) (sorted_new (of_their_rows more kept))
      (λ c. both_ways _ _ (λ e. to_new (of_their_rows more kept) c (one_way c (of_new kept c e))) (λ e. to_new kept c (other_way c (of_new (of_their_rows more kept) c e))))

pub of_their_rows_alone : NewlyKeptOfTheirRows
of_their_rows_alone kept more = same_new kept more
