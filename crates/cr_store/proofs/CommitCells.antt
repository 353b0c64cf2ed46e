-- What is to be written leaves the cells of the commit.
use Rattle.std.proofs.Common.{◌≡◌, inl, inr, ℤ, pos, ◌+ℤ◌, true, false, not, List, [], ◌∷◌, ◌++◌, refl, sym, ap, ◌∙◌, subst, arith}
use Rattle.std.proofs.lemmas.Int.{ints}
use Rattle.std.specs.Prelude.{int_lt}
use Rattle.std.specs.List.{AllByRecursion, IsDistinct}
use Rattle.cr_lattice.specs.declared.change.Change.{Change}
use Rattle.cr_lattice.specs.declared.stamped.Stamped.{Stamped}
use Rattle.cr_lattice.specs.Change.{beats}
use Rattle.cr_lattice.specs.Keep.{has, keep, join}
use Rattle.cr_lattice.proofs.ChangeLaws.{beats_trans}
use Rattle.cr_lattice.proofs.KeepLaws.{In, In-left, kept_from, kept_to, kept_above}
use Rattle.cr_lattice.proofs.Tested.{and_true, not_true}
use Rattle.cr_cells.specs.Holding.{changes_of}
use Rattle.cr_cells.specs.Commit.{newly_kept, stamped, still_kept, cells_after}
use Rattle.cr_cells.proofs.MemberLemmas.{split, Among, all_at, Among-filter, filter-Among, Among-append, append-left, append-right, Among-set_of, set_of-Among}
use Rattle.cr_cells.proofs.CellLemmas.{cell_total, cell_exact, has_from}
use Rattle.cr_cells.proofs.CommitLemmas.{stamped-at}
use Rattle.cr_cells.proofs.NewLemmas.{In-filter, no_both, sorted-newly_kept}
use Rattle.cr_store.specs.declared.plan.New.{New}
use Rattle.cr_store.specs.Plan.{gone_by, put_all, without_all}
use Rattle.cr_store.specs.Words.{same_key}
use Rattle.cr_store.proofs.CommitKeys.{key_itself, kept_one, keys_distinct, In-Among, Among-In}
use Rattle.cr_store.proofs.CommitWrites.{cells_of_news, AreTold, Goes, put_from, put_other, put_comes, change_among, without_from, without_to, gone_from, gone_to}

-- a change that comes in
pub record ComesIn (kept more : List Change) (c : Change) : Type 0 where
  pub joined : In (join kept more) c
  pub fresh : has kept c ≡ false

pub comes_in : (kept more : List Change) (c : Change) → In (newly_kept kept more) c → ComesIn kept more c
unfolding newly_kept
comes_in kept more c e =
    let p = and_true _ _ (sym (In-filter (λ c. not (has kept c)) (join kept more) c) ∙ e) in
    record { joined = p.0; fresh = not_true _ p.1 }

in_new : (kept more : List Change) (c : Change) → In (join kept more) c → has kept c ≡ false → In (newly_kept kept more) c
unfolding newly_kept
in_new kept more c e f = In-filter (λ c. not (has kept c)) (join kept more) c ∙ rw (e, f) refl

one_of_key : (kept more : List Change) (c d : Change) → Among (newly_kept kept more) c → Among (newly_kept kept more) d → same_key c d ≡ true → c ≡ d
one_of_key kept more c d a b e =
    kept_one (kept ++ more) c d (comes_in kept more c (Among-In _ c a)).joined (comes_in kept more d (Among-In _ d b)).joined e

pub keys-newly_kept : (kept more : List Change) → IsDistinct same_key (newly_kept kept more)
keys-newly_kept kept more = keys_distinct (newly_kept kept more) (sorted-newly_kept kept more) (one_of_key kept more)

-- ---- what stays

-- a kept change that nothing beats that comes in
pub stays : (kept more : List Change) (k : Change) → keep kept ≡ kept → In kept k → ((c : Change) → In (newly_kept kept more) c → beats c k ≡ true → ⊥) → In (join kept more) k
stays kept more k kept_is in_kept unbeaten =
    kept_to (kept ++ more) k (record {
      member = In-left kept more k in_kept;
      unbeaten = λ d in_d b. (
          let m = kept_above (kept ++ more) d in_d in
          let over : beats m.0 k ≡ true = elim m.2 [ inl same ↦ rw same b | inr above ↦ beats_trans m.0 d k above b ] in
          elim (split (has kept m.0)) [
            | inl so ↦ (kept_from kept k (subst (λ ks. In ks k) (sym kept_is) in_kept)).unbeaten m.0 so over
            | inr not_so ↦ unbeaten m.0 (in_new kept more m.0 m.1 not_so) over
          ]);
    })

pub unbeaten_by : (kept more : List Change) (k c : Change) → In (join kept more) k → In (newly_kept kept more) c → beats c k ≡ true → ⊥
unbeaten_by kept more k c in_join new b =
    (kept_from (kept ++ more) k in_join).unbeaten c (kept_from (kept ++ more) c (comes_in kept more c new).joined).member b

pub other_key : (kept more : List Change) (k c : Change) → In kept k → In (join kept more) k → In (newly_kept kept more) c → same_key k c ≡ true → ⊥
other_key kept more k c in_kept in_join new e =
    let n = comes_in kept more c new in
    let same : k ≡ c = kept_one (kept ++ more) k c in_join n.joined e in
    no_both _ (ap (has kept) (sym same) ∙ in_kept) n.fresh

-- ---- cells that come in

pub changes_of-stamped : (version seq : ℤ) (cs : List Change) → changes_of (stamped version seq cs) ≡ cs
changes_of-stamped version seq [] = refl
changes_of-stamped version seq (c ∷ cs) = ap (λ l. c ∷ l) (changes_of-stamped version (seq +ℤ pos 1) cs)

cell_for : (version seq : ℤ) (cs : List Change) (c : Change) → Among cs c → (t : Stamped) × Among (stamped version seq cs) t × (t.change ≡ c)
cell_for version seq [] c a = absurd a
cell_for version seq (d ∷ ds) c a =
    elim a [
      | inl here ↦ (record { change = d; version = version; seq = seq }, inl refl, sym here)
      | inr there ↦ (let r = cell_for version (seq +ℤ pos 1) ds c there in (r.0, inr r.1, r.2))
    ]

change_of : (version seq : ℤ) (cs : List Change) (t : Stamped) → Among (stamped version seq cs) t → Among cs t.change
change_of version seq cs t a = subst (λ l. Among l t.change) (changes_of-stamped version seq cs) (change_among (stamped version seq cs) t a)

not_below : (v w : ℤ) → v ≡ w → int_lt v w ≡ true → ⊥
not_below v w e h =
    let same : int_lt v v ≡ true = ap (int_lt v) e ∙ h in
    let never : int_lt v v ≡ false = grind (arith, ints) in
    no_both _ same never

-- ---- all that is left

-- What is to be written where changes are taken over cells, of which all are stamped below the version: each that comes
-- in, whether a cell of its key is there, and what goes.
pub record IsToWrite (ss : List Stamped) (more : List Change) (version : ℤ) (news : List New) (gone : List Change) : Type 0 where
  pub kept : keep (changes_of ss) ≡ changes_of ss
  pub below : AllByRecursion (λ s. int_lt s.version version ≡ true) ss
  pub cells : cells_of_news news ≡ stamped version (pos 0) (newly_kept (changes_of ss) more)
  pub told : AreTold ss news
  pub goes : gone ≡ gone_by (changes_of ss) (newly_kept (changes_of ss) more)

module _ (ss : List Stamped) (more : List Change) (version : ℤ) (news : List New) (gone : List Change) (w : IsToWrite ss more version news gone) where
  abbrev kept_changes : List Change
  kept_changes = changes_of ss

  abbrev come : List Change
  come = newly_kept (changes_of ss) more

  apart : IsDistinct same_key (changes_of (cells_of_news news))
  apart = subst (IsDistinct same_key) (sym (ap changes_of w.cells ∙ changes_of-stamped version (pos 0) come)) (keys-newly_kept kept_changes more)

  news_at : (t : Stamped) → Among (cells_of_news news) t → In come t.change
  news_at t b = Among-In come t.change (change_of version (pos 0) come t (subst (λ l. Among l t) w.cells b))

  in_keep : (s : Stamped) → Among ss s → In (keep kept_changes) s.change
  in_keep s a = subst (λ ks. In ks s.change) (sym w.kept) (has_from ss s a)

  still : (s : Stamped) → Among ss s → ((t : Stamped) → Among (cells_of_news news) t → same_key s.change t.change ≡ true → ⊥) → (Goes version gone s → ⊥) → In (join kept_changes more) s.change
  still s a no_key stays_here =
      stays kept_changes more s.change w.kept (has_from ss s a) (λ c new over. (
      let among = In-Among come c new in
      elim (split (same_key s.change c)) [
        | inl so ↦ (
            let t = cell_for version (pos 0) come c among in
            no_key t.0 (subst (λ l. Among l t.0) (sym w.cells) t.1) (ap (same_key s.change) t.2 ∙ so))
        | inr not_so ↦ stays_here (
          s.change,
          subst (λ l. Among l s.change) (sym w.goes) (gone_to kept_changes come c s.change among (change_among ss s a) (rw (over, not_so) refl)),
          key_itself s.change,
          all_at (λ s. int_lt s.version version ≡ true) ss s w.below a,
        )
      ]))

  pub left_from : (s : Stamped) → Among (without_all version gone (put_all news ss)) s → Among (still_kept ss more ++ stamped version (pos 0) come) s
  left_from s a =
      let r = without_from version gone (put_all news ss) s a in
      elim (put_from news ss s w.told apart r.0) [
        | inl new ↦ append-right (still_kept ss more) (stamped version (pos 0) come) s (subst (λ l. Among l s) w.cells new)
        | inr old ↦ append-left (still_kept ss more) (stamped version (pos 0) come) s
            (filter-Among (λ s. has (join kept_changes more) s.change) ss s old.0 (still s old.0 old.1 r.1))
      ]

  never_goes : (s : Stamped) → Among ss s → In (join kept_changes more) s.change → Goes version gone s → ⊥
  never_goes s a in_join g =
      let p = gone_from kept_changes come g.0 (subst (λ l. Among l g.0) w.goes g.1) in
      let over : beats p.0 g.0 ≡ true = (and_true _ _ p.3).0 in
      let in_g : In (keep kept_changes) g.0 = subst (λ ks. In ks g.0) (sym w.kept) (Among-In kept_changes g.0 p.2) in
      let same : s.change ≡ g.0 = kept_one kept_changes s.change g.0 (in_keep s a) in_g g.2 in
      unbeaten_by kept_changes more s.change p.0 in_join (Among-In come p.0 p.1) (ap (beats p.0) same ∙ over)

  pub left_to : (s : Stamped) → Among (still_kept ss more ++ stamped version (pos 0) come) s → Among (without_all version gone (put_all news ss)) s
  left_to s a =
      elim (Among-append (still_kept ss more) (stamped version (pos 0) come) s a) [
        | inl old ↦ (
            let p = Among-filter (λ s. has (join kept_changes more) s.change) ss s old in
            without_to version gone (put_all news ss) s
            (put_other news ss s p.0 (λ t b e. other_key kept_changes more s.change t.change (has_from ss s p.0) p.1 (news_at t b) e))
            (never_goes s p.0 p.1))
        | inr new ↦
            without_to version gone (put_all news ss) s
            (put_comes news ss s w.told apart (subst (λ l. Among l s) (sym w.cells) new))
            (λ g. not_below s.version version (stamped-at version (pos 0) come s new).0 g.3)
      ]

  pub left_after : (s : Stamped) → Among (without_all version gone (put_all news ss)) s → Among (cells_after ss more version) s
  unfolding cells_after
  left_after s a = set_of-Among cell_total cell_exact _ s (left_from s a)

  pub after_left : (s : Stamped) → Among (cells_after ss more version) s → Among (without_all version gone (put_all news ss)) s
  unfolding cells_after
  after_left s a = left_to s (Among-set_of cell_total cell_exact _ s a)
