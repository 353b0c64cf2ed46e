-- What a store holds stays sound.
use Rattle.std.proofs.Common.{◌≡◌, inl, inr, ℕ, ℤ, pos, ◌+ℤ◌, ◌≤ℤ◌, Bool, true, false, not, ◌||◌, List, ◌++◌, Option, None, refl, sym, ap, ◌∙◌, subst, Ordering, arith}
use Rattle.std.proofs.lemmas.Int.{ints}
use Rattle.std.specs.List.{AllByRecursion, IsDistinct}
use Rattle.std.specs.List.Sorted.{IsStrictlySortedBy}
use Rattle.std.specs.Option.{ForSome}
use Rattle.std.specs.Ordering.{eq_by_cmp, is_eq}
use Rattle.std.specs.Cmp.{tied_itself}
use Rattle.cr_lattice.specs.declared.change.Change.{Change}
use Rattle.cr_lattice.specs.declared.table.Table.{Table}
use Rattle.cr_lattice.specs.declared.table.TableDef.{TableDef}
use Rattle.cr_lattice.specs.Change.{change_cmp}
use Rattle.cr_lattice.specs.ChangeOrder.{change_total, change_exact}
use Rattle.cr_lattice.specs.Keep.{has, keep, join}
use Rattle.cr_lattice.proofs.KeepLaws.{In, In-append, kept_from, keep_keep, keep-nil}
use Rattle.cr_cells.specs.Tables.{has_defaults, IsNewTable, is_markable, with_replicated, with_table, AreWellFormed, fault_in}
use Rattle.cr_cells.specs.Marks.{Mark, marks_after, AreMarks}
use Rattle.cr_cells.specs.Holding.{Holding, changes_of, kept_of, IsSound, empty_holding}
use Rattle.cr_cells.specs.Commit.{is_changed, cells_after, committed}
use Rattle.cr_cells.specs.Calls.{is_past_limit}
use Rattle.cr_cells.specs.declared.cells.Advance.{Advance}
use Rattle.cr_cells.specs.Advance.{IsAdvance}
use Rattle.cr_lattice.specs.declared.stamped.Stamped.{Stamped}
use Rattle.cr_cells.proofs.MemberLemmas.{split, Among, any_gives, any_from, all_at, all_from}
use Rattle.cr_cells.proofs.CommitLemmas.{changes_of-cells_after, unchanged_cells, stamped_after, stamps_after}
use Rattle.cr_cells.proofs.MarkLemmas.{are_marks_after}
use Rattle.cr_cells.proofs.TableLemmas.{well_formed-with_table, names-with_table, stored-with_table, well_formed-with_replicated, names-with_replicated, stored-with_replicated}

pub sound_empty : (site : List ℕ) → IsSound (empty_holding site)
unfolding IsDistinct IsStrictlySortedBy
sound_empty site = record {
  names = tt;
  stored = tt;
  from_0 = omega (arith, ints);
  kept = keep-nil;
  stamped = tt;
  stamps = tt;
  well_formed = tt;
  marks = record { by_site = tt; from_0 = tt };
}

pub sound_with_table : (h : Holding) (def : TableDef) (b : Bool) → IsSound h → IsNewTable h.tables def → (not b || has_defaults def) ≡ true → IsSound (record h { tables = with_table h.tables def b })
sound_with_table h def b s new defaults = record {
  names = names-with_table h.tables def b s.names new;
  stored = stored-with_table h.tables def b s.stored new.fit defaults;
  from_0 = s.from_0;
  kept = s.kept;
  stamped = s.stamped;
  stamps = s.stamps;
  well_formed = well_formed-with_table h.tables def b (kept_of h) s.well_formed;
  marks = s.marks;
}

pub sound_with_replicated : (h : Holding) (name : List ℕ) → IsSound h → is_markable name h.tables ≡ true → IsSound (record h { tables = with_replicated name h.tables })
sound_with_replicated h name s markable = record {
  names = names-with_replicated name h.tables s.names;
  stored = stored-with_replicated name h.tables s.names s.stored markable;
  from_0 = s.from_0;
  kept = s.kept;
  stamped = s.stamped;
  stamps = s.stamps;
  well_formed = well_formed-with_replicated name h.tables (kept_of h) s.names s.well_formed;
  marks = s.marks;
}

-- ---- commits

eq_true : (o : Ordering) → is_eq o ≡ true → o ≡ Ordering.Equal
eq_true Ordering.Less e = absurd cc
eq_true Ordering.Equal e = refl
eq_true Ordering.Greater e = absurd cc

all_in : (P : Change → Type 0) (cs : List Change) (c : Change) → AllByRecursion P cs → In cs c → P c
unfolding has
all_in P cs c all e =
    let r = any_gives (eq_by_cmp change_cmp c) cs e in
    subst P (sym (change_exact c r.0 (eq_true _ r.2))) (all_at P cs r.0 all r.1)

member_in : (cs : List Change) (c : Change) → Among cs c → In cs c
unfolding has
member_in cs c a = any_from (eq_by_cmp change_cmp c) cs c a (ap is_eq (tied_itself change_total c))

-- what holds of the changes of two sets holds of those that they keep
pub all_joined : (P : Change → Type 0) (xs ys : List Change) → AllByRecursion P xs → AllByRecursion P ys → AllByRecursion P (join xs ys)
all_joined P xs ys all all' =
    all_from P (join xs ys) (λ c a. elim (In-append xs ys c (kept_from (xs ++ ys) c (member_in (join xs ys) c a)).member) [
      | inl l ↦ all_in P xs c all l
      | inr r ↦ all_in P ys c all' r
    ])

sound_changed : (h : Holding) (more : List Change) (marks : List Mark) → IsSound h → AreWellFormed h.tables more → AreMarks marks → IsSound (record h { version = h.version +ℤ pos 1; cells = cells_after h.cells more (h.version +ℤ pos 1); marks = marks })
sound_changed h more marks s well are =
    let from_0 : pos 0 ≤ℤ h.version = s.from_0 in
    let changes : changes_of (cells_after h.cells more (h.version +ℤ pos 1)) ≡ join (kept_of h) more = changes_of-cells_after h.cells more (h.version +ℤ pos 1) s.kept in
    record {
      names = s.names;
      stored = s.stored;
      from_0 = omega (arith, ints);
      kept = ap keep changes ∙ keep_keep (kept_of h ++ more) ∙ sym changes;
      stamped = stamped_after h.cells more h.version s.from_0 s.stamped;
      stamps = stamps_after h.cells more h.version s.stamped s.stamps;
      well_formed = subst (AreWellFormed h.tables) (sym changes) (all_joined (λ c. fault_in h.tables c ≡ None) (kept_of h) more s.well_formed well);
      marks = are;
    }

sound_marked : (h : Holding) (marks : List Mark) → IsSound h → AreMarks marks → IsSound (record h { marks = marks })
sound_marked h marks s are = record {
  names = s.names;
  stored = s.stored;
  from_0 = s.from_0;
  kept = s.kept;
  stamped = s.stamped;
  stamps = s.stamps;
  well_formed = s.well_formed;
  marks = are;
}

pub committed-changed : (h : Holding) (more : List Change) (peer : Option Mark) → is_changed (kept_of h) more ≡ true → committed h more peer ≡ record h { version = h.version +ℤ pos 1; cells = cells_after h.cells more (h.version +ℤ pos 1); marks = marks_after h.marks peer }
committed-changed h more peer e = rw e refl

pub committed-unchanged : (h : Holding) (more : List Change) (peer : Option Mark) → IsSound h → is_changed (kept_of h) more ≡ false → committed h more peer ≡ record h { marks = marks_after h.marks peer }
committed-unchanged h more peer s e = rw (e, unchanged_cells h.cells more (h.version +ℤ pos 1) s.kept e) refl

pub sound_committed : (h : Holding) (more : List Change) (peer : Option Mark) → IsSound h → AreWellFormed h.tables more → ForSome peer (λ m. pos 0 ≤ℤ m.1) → IsSound (committed h more peer)
sound_committed h more peer s well from_0 =
    let are = are_marks_after h.marks peer s.marks from_0 in
    elim (split (is_changed (kept_of h) more)) [
      | inl so ↦ subst IsSound (sym (committed-changed h more peer so)) (sound_changed h more _ s well are)
      | inr not_so ↦ subst IsSound (sym (committed-unchanged h more peer s not_so)) (sound_marked h _ s are)
    ]

-- ---- as code goes: h has the fields, and h' is what is seen of them

pub sound_added : (h h' : Holding) (ts : List Table) (def : TableDef) (b : Bool) → h ≡ h' → ts ≡ with_table h.tables def b → IsSound h → IsNewTable h'.tables def → (not b || has_defaults def) ≡ true → IsSound (record h { tables = ts })
sound_added h h' ts def b seen is s new defaults =
    subst (λ ts. IsSound (record h { tables = ts })) (sym is) (sound_with_table h def b s (subst (λ h. IsNewTable h.tables def) (sym seen) new) defaults)

pub sound_replicated : (h h' : Holding) (ts : List Table) (name : List ℕ) → h ≡ h' → ts ≡ with_replicated name h.tables → IsSound h → is_markable name h'.tables ≡ true → IsSound (record h { tables = ts })
sound_replicated h h' ts name seen is s markable =
    subst (λ ts. IsSound (record h { tables = ts })) (sym is) (sound_with_replicated h name s (ap (λ (h : Holding). is_markable name h.tables) seen ∙ markable))

well_seen : (h h' : Holding) (more : List Change) → h ≡ h' → AreWellFormed h'.tables more → AreWellFormed h.tables more
well_seen h h' more seen well = subst (λ h. AreWellFormed h.tables more) (sym seen) well

pub sound_some : (h h' : Holding) (cells : List Stamped) (from version : ℤ) (more : List Change) (peer : Option Mark) (a : Advance) (olds marks : List Mark)
    → h ≡ h' → cells ≡ h.cells → from ≡ h.version → version ≡ a.version → olds ≡ h.marks → marks ≡ marks_after olds peer
    → IsAdvance cells from more a → IsSound h → AreWellFormed h'.tables more → ForSome peer (λ m. pos 0 ≤ℤ m.1)
    → IsSound (record h { version = version; cells = a.cells.items; marks = marks })
sound_some h h' cells from version more peer a olds marks seen of_h from_h same olds_h marked adv s well from_0 =
    let v : version ≡ h.version +ℤ pos 1 = same ∙ adv.version ∙ ap (λ n. n +ℤ pos 1) from_h in
    let cs : a.cells.items ≡ cells_after h.cells more (h.version +ℤ pos 1) = adv.after ∙ ap (λ ss. cells_after ss more (from +ℤ pos 1)) of_h ∙ ap (λ n. cells_after h.cells more (n +ℤ pos 1)) from_h in
    let ms : marks ≡ marks_after h.marks peer = marked ∙ ap (λ ms. marks_after ms peer) olds_h in
    subst IsSound (λ i. record h { version = sym v i; cells = sym cs i; marks = sym ms i })
    (sound_changed h more (marks_after h.marks peer) s (well_seen h h' more seen well) (are_marks_after h.marks peer s.marks from_0))

pub sound_none : (h : Holding) (peer : Option Mark) (olds marks : List Mark) → olds ≡ h.marks → marks ≡ marks_after olds peer → IsSound h → ForSome peer (λ m. pos 0 ≤ℤ m.1) → IsSound (record h { marks = marks })
sound_none h peer olds marks olds_h marked s from_0 =
    let ms : marks ≡ marks_after h.marks peer = marked ∙ ap (λ ms. marks_after ms peer) olds_h in
    subst (λ ms. IsSound (record h { marks = ms })) (sym ms) (sound_marked h (marks_after h.marks peer) s (are_marks_after h.marks peer s.marks from_0))

not_past : (h : Holding) (more : List Change) → is_changed (kept_of h) more ≡ false → is_past_limit h more ≡ false
not_past h more e = rw e refl

pub commits_none : (h h' : Holding) (cells : List Stamped) (more : List Change) (peer : Option Mark) (olds marks : List Mark) → h ≡ h' → cells ≡ h.cells → olds ≡ h.marks → marks ≡ marks_after olds peer → IsSound h
    → is_changed (changes_of cells) more ≡ false → (record h { marks = marks } ≡ committed h' more peer) × (false ≡ is_changed (kept_of h') more) × (is_past_limit h' more ≡ false)
commits_none h h' cells more peer olds marks seen of_h olds_h marked s e =
    let e' : is_changed (kept_of h) more ≡ false = ap (λ ss. is_changed (changes_of ss) more) (sym of_h) ∙ e in
    let e'' : is_changed (kept_of h') more ≡ false = ap (λ (h : Holding). is_changed (kept_of h) more) (sym seen) ∙ e' in (
      ap (λ ms. record h { marks = ms }) (marked ∙ ap (λ ms. marks_after ms peer) olds_h) ∙ sym (committed-unchanged h more peer s e') ∙ ap (λ h. committed h more peer) seen,
      sym e'',
      not_past h' more e'',
    )
