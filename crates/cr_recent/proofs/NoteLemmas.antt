-- Notes of commits tell which cells came in.
use Rattle.std.proofs.Common.{◌≡◌, ◌⊎◌, inl, inr, ℤ, pos, ◌+ℤ◌, ◌≤ℤ◌, Bool, true, false, not, ◌&&◌, map, List, [], ◌∷◌, ◌++◌, Option, refl, sym, ap, ◌∙◌, subst, arith}
use Rattle.std.proofs.lemmas.Int.{ints}
use Rattle.std.specs.Prelude.{filter, int_lt}
use Rattle.std.specs.List.{list_any, flat_map}
use Rattle.std.specs.Ordering.{eq_by_cmp, is_eq, int_eq}
use Rattle.std.specs.Cmp.{tied_itself}
use Rattle.std.specs.FinSet.{int_cmp-IsAntisymmetric}
use Rattle.cr_value.specs.OrderLaws.{bytes_total}
use Rattle.cr_lattice.specs.declared.change.Change.{Change}
use Rattle.cr_lattice.specs.declared.stamped.Stamped.{Stamped}
use Rattle.cr_lattice.specs.Change.{change_cmp}
use Rattle.cr_lattice.specs.ChangeOrder.{change_total, change_exact}
use Rattle.cr_lattice.specs.Keep.{has, join}
use Rattle.cr_lattice.specs.Rows.{is_of_row}
use Rattle.cr_lattice.proofs.KeepLaws.{In, In-append, kept_from}
use Rattle.cr_lattice.proofs.Tested.{and_true}
use Rattle.cr_cells.specs.Commit.{newly_kept, is_changed, stamped, cells_after, committed}
use Rattle.cr_cells.specs.Holding.{Holding, kept_of, since, cells_of, IsSound}
use Rattle.cr_cells.specs.Marks.{Mark}
use Rattle.cr_cells.proofs.MemberLemmas.{Among, any_gives, any_from, all_at, all_from, Among-filter, filter-Among, Among-append, append-left, append-right, set_of-Among}
use Rattle.cr_cells.proofs.CellLemmas.{stamp_total, stamp_exact, eq_true}
use Rattle.cr_cells.proofs.CommitLemmas.{after-from, stamped-at, same_int}
use Rattle.cr_recent.specs.declared.keys.Key.{Key}
use Rattle.cr_recent.specs.declared.notes.Note.{Note}
use Rattle.cr_recent.specs.Notes.{key_of, touched, cells_above, Noted, notes_at, noted_above, Remembers, is_note_of, AreNoted}
use Rattle.cr_recent.specs.Laws.{NotesTellTheCells, NothingIsAbove, CommitsAreNoted}
use Rattle.cr_recent.proofs.KeyLemmas.{key_total, key_exact, same_sets}

-- ---- members

module _ {X Y : Type 0} where
  map_member : (f : X → Y) (xs : List X) (x : X) → Among xs x → Among (map f xs) (f x)
  map_member f [] x a = absurd a
  map_member f (y ∷ ys) x a = elim a [ inl here ↦ inl (ap f here) | inr there ↦ inr (map_member f ys x there) ]

  Among-flat_map : (f : X → List Y) (xs : List X) (y : Y) → Among (flat_map f xs) y → (x : X) × Among xs x × Among (f x) y
  Among-flat_map f [] y a = absurd a
  Among-flat_map f (x ∷ xs) y a =
      elim (Among-append (f x) (flat_map f xs) y a) [
        | inl here ↦ (x, inl refl, here)
        | inr there ↦ (let r = Among-flat_map f xs y there in (r.0, inr r.1, r.2))
      ]

  flat_map_member : (f : X → List Y) (xs : List X) (x : X) (y : Y) → Among xs x → Among (f x) y → Among (flat_map f xs) y
  flat_map_member f [] x y a b = absurd a
  flat_map_member f (z ∷ zs) x y a b =
      elim a [
        | inl here ↦ append-left (f z) (flat_map f zs) y (subst (λ w. Among (f w) y) here b)
        | inr there ↦ append-right (f z) (flat_map f zs) y (flat_map_member f zs x y there b)
      ]

both : {a b : Bool} → a ≡ true → b ≡ true → (a && b) ≡ true
both e f = rw (e, f) refl

-- ---- what notes tell

above_more : (from version n : ℤ) → from ≤ℤ version → int_lt version n ≡ true → int_lt from n ≡ true
above_more from version n le above = grind (arith, ints)

module _ (noted : Noted) (cells : List Stamped) (version : ℤ) where
  abbrev above : Stamped → Bool
  above s = int_lt version s.version

  abbrev late : Note → Bool
  late n = int_lt version n.version

  abbrev of_key : Key → List Stamped
  of_key k = filter above (cells_of cells k.table k.pk)

  told : (s : Stamped) → Among (cells_above cells (noted_above noted.notes version) version) s → Among (filter above cells) s
  unfolding cells_above cells_of
  told s a =
      let k = Among-flat_map of_key (noted_above noted.notes version) s a in
      let row = Among-filter above (cells_of cells k.0.table k.0.pk) s k.2 in
      filter-Among above cells s (Among-filter (λ t. is_of_row k.0.table k.0.pk t.change) cells s row.0).0 row.1

  tells : AreNoted noted cells → noted.from ≤ℤ version → (s : Stamped) → Among (filter above cells) s → Among (cells_above cells (noted_above noted.notes version) version) s
  unfolding cells_above cells_of noted_above AreNoted
  tells all le s a =
      let r = Among-filter above cells s a in
      let n = any_gives (is_note_of s) noted.notes (all_at _ cells s all r.0 (above_more noted.from version s.version le r.1)) in
      let of = and_true (is_of_row n.0.key.table n.0.key.pk s.change) (int_eq n.0.version s.version) n.2 in
      let at : n.0.version ≡ s.version = int_cmp-IsAntisymmetric n.0.version s.version (eq_true _ of.1) in
      let is_late : late n.0 ≡ true = ap (λ v. int_lt version v) at ∙ r.1 in
      let keys : List Key = map (λ (m : Note). m.key) (filter late noted.notes) in
      flat_map_member of_key (noted_above noted.notes version) n.0.key s
      (set_of-Among key_total key_exact keys n.0.key (map_member (λ (m : Note). m.key) (filter late noted.notes) n.0 (filter-Among late noted.notes n.0 n.1 is_late)))
      (filter-Among above (cells_of cells n.0.key.table n.0.key.pk) s (filter-Among (λ t. is_of_row n.0.key.table n.0.key.pk t.change) cells s r.0 of.0) r.1)

pub notes_tell : NotesTellTheCells
unfolding since
notes_tell noted cells version all le =
    same_sets stamp_total stamp_exact (cells_above cells (noted_above noted.notes version) version) (filter (λ s. int_lt version s.version) cells)
    (told noted cells version) (tells noted cells version all le)

-- ---- where notes begin

not_above : (n version : ℤ) → n ≤ℤ version → int_lt version n ≡ true → ⊥
not_above n version le above = grind (arith, ints)

pub nothing_above : NothingIsAbove
unfolding AreNoted
nothing_above h sound =
    all_from _ h.cells (λ s a above. absurd (not_above s.version h.version (all_at _ h.cells s sound.stamped a).past above))

-- ---- commits

came_of : (kept more : List Change) (c : Change) → Among (newly_kept kept more) c → Among more c
unfolding newly_kept has
came_of kept more c a =
    let r = Among-filter (λ d. not (has kept d)) (join kept more) c a in
    let within : In (join kept more) c = any_from (eq_by_cmp change_cmp c) (join kept more) c r.0 (ap is_eq (tied_itself change_total c)) in
    elim (In-append kept more c (kept_from (kept ++ more) c within).member) [
      | inl old ↦ (let no : not (has kept c) ≡ false = ap not old in absurd cc)
      | inr new ↦ (
          let d = any_gives (eq_by_cmp change_cmp c) more new in
          subst (Among more) (sym (change_exact c d.0 (eq_true _ d.2))) d.1)
    ]

change_stamped : (version seq : ℤ) (cs : List Change) (s : Stamped) → Among (stamped version seq cs) s → Among cs s.change
change_stamped version seq [] s a = absurd a
change_stamped version seq (c ∷ cs) s a =
    elim a [
      | inl here ↦ inl (ap (λ (t : Stamped). t.change) here)
      | inr there ↦ inr (change_stamped version (seq +ℤ pos 1) cs s there)
    ]

itself : (c : Change) → is_of_row c.table c.pk c ≡ true
itself c = both (ap is_eq (tied_itself bytes_total c.table)) (ap is_eq (tied_itself bytes_total c.pk))

-- the note of a change's row
noted_of : (version : ℤ) (more : List Change) (s : Stamped) → s.version ≡ version → Among more s.change → list_any (is_note_of s) (notes_at version (touched more)) ≡ true
unfolding notes_at touched
noted_of version more s at a =
    let n : Note = record { key = key_of s.change; version = version } in
    any_from (is_note_of s) (notes_at version (touched more)) n
    (map_member (λ (k : Key). record { key = k; version = version }) (touched more) (key_of s.change)
    (set_of-Among key_total key_exact (map key_of more) (key_of s.change) (map_member key_of more s.change a)))
    (both (itself s.change) (same_int version s.version (sym at)))

any_append : (p : Note → Bool) (xs ys : List Note) → (list_any p xs ≡ true) ⊎ (list_any p ys ≡ true) → list_any p (xs ++ ys) ≡ true
any_append p xs ys e =
    elim e [
      | inl h ↦ (let r = any_gives p xs h in any_from p (xs ++ ys) r.0 (append-left xs ys r.0 r.1) r.2)
      | inr h ↦ (let r = any_gives p ys h in any_from p (xs ++ ys) r.0 (append-right xs ys r.0 r.1) r.2)
    ]

commit_noted : (h : Holding) (more : List Change) (old : Noted) → AreNoted old h.cells
    → AreNoted (record old { notes = old.notes ++ notes_at (h.version +ℤ pos 1) (touched more) }) (cells_after h.cells more (h.version +ℤ pos 1))
unfolding AreNoted
commit_noted h more old all =
    let next = h.version +ℤ pos 1 in
    all_from _ (cells_after h.cells more next) (λ s a above.
    any_append (is_note_of s) old.notes (notes_at next (touched more))
    (elim (after-from h.cells more next s a) [
      | inl was ↦ inl (all_at _ h.cells s all was above)
      | inr came ↦ inr (noted_of next more s (stamped-at next (pos 0) (newly_kept (kept_of h) more) s came).0
          (came_of (kept_of h) more s.change (change_stamped next (pos 0) (newly_kept (kept_of h) more) s came)))
    ]))

pub commits_noted : CommitsAreNoted
commits_noted h more peer old new sound changed all remembers =
    elim remembers [
      | inl r ↦ subst (λ (n : Noted). AreNoted n (committed h more peer).cells) (sym r.1) (commit_noted h more old all)
      | inr forgotten ↦ (
          let at : (committed h more peer).version ≡ h.version +ℤ pos 1 = rw changed refl in
          subst (λ (n : Noted). AreNoted n (committed h more peer).cells)
          (ap (λ (v : ℤ). record { from = v; notes = [] }) at ∙ sym forgotten)
          (nothing_above (committed h more peer) sound))
    ]

pub same_cells : (noted : Noted) (old new : Holding) → new ≡ old → AreNoted noted old.cells → AreNoted noted new.cells
same_cells noted old new same all = subst (λ (h : Holding). AreNoted noted h.cells) (sym same) all

none_came : (kept more : List Change) (c : Change) → is_changed kept more ≡ false → Among (newly_kept kept more) c → ⊥
unfolding newly_kept is_changed
none_came kept more c unchanged a =
    let r = Among-filter (λ d. not (has kept d)) (join kept more) c a in
    let some' : list_any (λ d. not (has kept d)) (join kept more) ≡ true = any_from (λ d. not (has kept d)) (join kept more) c r.0 r.1 in
    absurd cc

-- a commit that changes nothing leaves what is noted
pub unchanged_noted : (h new : Holding) (more : List Change) (peer : Option Mark) (noted : Noted) → new ≡ committed h more peer → is_changed (kept_of h) more ≡ false → AreNoted noted h.cells → AreNoted noted new.cells
unfolding AreNoted
unchanged_noted h new more peer noted is unchanged all =
    let next = h.version +ℤ pos 1 in
    same_cells noted (committed h more peer) new is
    (all_from _ (cells_after h.cells more next) (λ s a above.
    elim (after-from h.cells more next s a) [
      | inl was ↦ all_at _ h.cells s all was above
      | inr came ↦ absurd (none_came (kept_of h) more s.change unchanged (change_stamped next (pos 0) (newly_kept (kept_of h) more) s came))
    ]))

-- and one that changes something is noted at the version that it makes
pub changed_noted : (h new : Holding) (more : List Change) (peer : Option Mark) (version : ℤ) (old after : Noted)
    → new ≡ committed h more peer → is_changed (kept_of h) more ≡ true → IsSound new → version ≡ new.version
    → AreNoted old h.cells → Remembers old after more version → AreNoted after new.cells
changed_noted h new more peer version old after is changed sound at all remembers =
    let next : version ≡ h.version +ℤ pos 1 = at ∙ ap (λ (k : Holding). k.version) is ∙ rw changed refl in
    same_cells after (committed h more peer) new is
    (commits_noted h more peer old after (subst IsSound is sound) changed all (subst (λ (v : ℤ). Remembers old after more v) next remembers))
