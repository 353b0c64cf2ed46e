-- Rows that a look-up leaves out come to nothing.
use Rattle.std.proofs.Common.{◌≡◌, ◌⊎◌, inl, inr, ◌∙◌, ℕ, Bool, true, false, cond, List, [], ◌∷◌, ◌++◌, length, map, Option, Some, None, option_map, Result, Ok, Err, refl, sym, ap, subst, append_assoc, append-nil}
use Rattle.std.specs.Prelude.{filter, nat_lt, IfOk, IfSome, MatchOption}
use Rattle.std.specs.List.{list_any, zip}
use Rattle.std.specs.Option.{option_and_then, option_map_or}
use Rattle.std.proofs.lemmas.Bool.{ltb-true}
use Rattle.cr_value.specs.declared.value.Value.{Value}
use Rattle.std.specs.Borrow.{Bor}
use Rattle.std.specs.declared.alloc.AllocError.{AllocError}
use Rattle.cr_lattice.proofs.Tested.{and_true, or_false}
use Rattle.cr_scalar.specs.Host.{Host}
use Rattle.cr_scalar.specs.declared.fault.EvalFault.{EvalFault}
use Rattle.cr_term.specs.declared.expr.Expr.{Expr}
use Rattle.cr_term.specs.Terms.{plain as is_plain}
use Rattle.cr_term.specs.declared.query.Joined.{Joined}
use Rattle.cr_term.specs.declared.query.Query.{Query as Resolved}
use Rattle.cr_bags.specs.Bags.{joins, gather, those, single}
use Rattle.cr_query.specs.Query.{Row, Meaning, all_true, combined, joined, joined_with, nulls, or_padded, with_rows}
use Rattle.cr_query.proofs.PlanLaws.{gather-map}
use Rattle.cr_meaning.specs.View.{Ordered, joining, plain, query, terms as terms_of}
use Rattle.cr_meaning.specs.Meaning.{Regard, regarded}
use Rattle.cr_exec.specs.declared.source.LookUp.{LookUp}
use Rattle.cr_exec.specs.declared.source.Source.{Source}
use Rattle.cr_exec.specs.Answers.{Stage, Faults, IsMeant, Adds, behind}
use Rattle.cr_exec.specs.Combinations.{tail, left_with}
use Rattle.cr_exec.specs.Equalities.{OrdersBytes, is_equal, sought}
use Rattle.cr_exec.specs.LookUps.{IsWanted, rows_with, AreSound, IsIndexOf, IsLookUpOf, IsQuietFirst, IsSound, asked, cell, is_left, is_wide, join_of, joined_rows, rows_of, terms_on, with_value, Wants}
use Rattle.cr_exec.specs.Scopes.{there}
use Rattle.cr_exec.specs.Tails.{with_quiet_first}
use Rattle.cr_exec.proofs.Stages.{faults_on, meant_on}
use Rattle.cr_exec.proofs.Tails.{tail_inner, adds_on, rest_inner, rest_left, rest_fault, joined_fault, joined_both}
use Rattle.cr_exec.proofs.Sought.{asked_wide, not_all_true}

-- ---- rows on which a condition is false

-- on a combination with this row, whatever stands behind it, the terms are not all true, and do not fault
abbrev Rejects : Host → List Value → List Ordered → Row → Row → Type 0
Rejects host params terms c r = (regard : Regard) (more : Row) → all_true (regarded regard host params) terms ((c ++ r) ++ more) ≡ Some false

-- rows are left out that are rejected
record Leaves (host : Host) (params : List Value) (terms : List Ordered) (c : Row) (rows kept : List Row) : Type 0 where
  passes : Row → Bool
  are : kept ≡ filter passes rows
  rejects : (r : Row) → passes r ≡ false → Rejects host params terms c r

-- a row without the place passes, but there is none
passes_at : ℕ → Value → Row → Bool
passes_at place v r = cond (nat_lt place (length r)) (is_equal v (cell place r)) true

all_wide : (place : ℕ) (v : Value) (rows : List Row) → is_wide place rows ≡ true → with_value place v rows ≡ filter (passes_at place v) rows
unfolding passes_at
all_wide place v [] h = refl
all_wide place v (r ∷ rs) h =
    let k = and_true (nat_lt place (length r)) (is_wide place rs) h in
    (λ i. cond (is_equal v (cell place r)) (r ∷ all_wide place v rs k.1 i) (all_wide place v rs k.1 i))
    ∙ ap (λ b. cond (cond b (is_equal v (cell place r)) true) (r ∷ filter (passes_at place v) rs) (filter (passes_at place v) rs)) (sym k.0)

left_out : (b t : Bool) → cond b t true ≡ false → (b ≡ true) × (t ≡ false)
left_out true t h = (refl, h)
left_out false t h = absurd cc

pub record AreFound (params : List Value) (c : Row) (rows : List Row) (l : LookUp) (found : List Row) : Type 0 where
  pub beside : length c ≡ l.start
  pub value : Value
  pub wanted : Wants params c l.equality.wanted.now l.equality.takes value
  pub are : found ≡ with_value l.equality.place value rows

-- the rows that are gone through
abbrev pub AreCandidates : List Value → Row → Source → List Row → Type 0
AreCandidates params c s rows = (rows ≡ rows_of s) ⊎ ((l : LookUp) × (s.look_up ≡ Some l) × AreFound params c (rows_of s) l rows)

are_candidates : (params : List Value) (c : Row) (s : Source) (o : Option Value) (rows : List Row) → IfSome o (IsWanted params c s) → rows ≡ rows_with s o → AreCandidates params c s rows
are_candidates params c s None rows w is = inl is
are_candidates params c s (Some v) rows w is = inr (
  w.by,
  w.there,
  record {
    beside = w.beside;
    value = v;
    wanted = w.wanted;
    are = is ∙ ap (λ o. option_map_or (λ (l : LookUp). with_value l.equality.place v (rows_of s)) o (rows_of s)) w.there;
  },
)

leaves : (host : Host) (params : List Value) (terms : List Ordered) (later : List Source) (s : Source) (l : LookUp) (c : Row) (kept : List Row)
    → IsQuietFirst (terms_on terms s.join.now) → IsSound host terms later s.join.now (rows_of s) l → AreFound params c (rows_of s) l kept → Leaves host params (terms_on terms s.join.now) c (rows_of s) kept
unfolding passes_at
leaves host params terms later s l c kept first sound found = record {
  passes = passes_at l.equality.place found.value;
  are = found.are ∙ all_wide l.equality.place found.value (rows_of s) (asked_wide l.start (rows_of s) (terms_on terms s.join.now) (sought l.equality) sound.by_terms.asks);
  rejects = λ r out regard more.
      let k = left_out (nat_lt l.equality.place (length r)) (is_equal found.value (cell l.equality.place r)) out in
      not_all_true host sound.bytes params c r more l.start (sought l.equality) found.value found.beside (ltb-true l.equality.place (length r) k.0) found.wanted k.1 regard (rows_of s) (terms_on terms s.join.now) first sound.by_terms.asks;
}

-- ---- look-ups that serve

pub inner_sound : (host : Host) (terms : List Ordered) (later : List Source) (j : Joined) (rows : List Row) (start : ℕ) (left : Bool) → OrdersBytes host → j.is_left ≡ false → left ≡ list_any is_left later → left ≡ false
    → (r : Result (Option LookUp) AllocError) → IfOk r (λ o. MatchOption o (asked start rows terms ≡ None) (IsLookUpOf start terms rows)) → IfOk r (λ o. IfSome o (IsSound host terms later j rows))
inner_sound host terms later j rows start left bytes inner is none (Err e) h = tt
inner_sound host terms later j rows start left bytes inner is none (Ok None) h = tt
inner_sound host terms later j rows start left bytes inner is none (Ok (Some l)) h =
    let on : terms_on terms j ≡ terms = ap (λ b. cond b (with_quiet_first (map plain j.on)) terms) inner in
    record {
      bytes = bytes;
      by_terms = record { starts = refl; asks = (λ i. asked (h.starts i) rows (on i)) ∙ h.asks; index = h.index };
      no_left_follows = λ e. sym is ∙ none;
    }

pub left_sound : (host : Host) (terms own : List Ordered) (later : List Source) (j : Joined) (rows : List Row) (start : ℕ) → OrdersBytes host → j.is_left ≡ true → own ≡ with_quiet_first (map plain j.on)
    → (r : Result (Option LookUp) AllocError) → IfOk r (λ o. MatchOption o (asked start rows own ≡ None) (IsLookUpOf start own rows)) → IfOk r (λ o. IfSome o (IsSound host terms later j rows))
left_sound host terms own later j rows start bytes left is (Err e) h = tt
left_sound host terms own later j rows start bytes left is (Ok None) h = tt
left_sound host terms own later j rows start bytes left is (Ok (Some l)) h =
    let on : terms_on terms j ≡ own = ap (λ b. cond b (with_quiet_first (map plain j.on)) terms) left ∙ sym is in
    record {
      bytes = bytes;
      by_terms = record { starts = refl; asks = (λ i. asked (h.starts i) rows (on i)) ∙ h.asks; index = h.index };
      no_left_follows = λ e. absurd (let b : true ≡ false = sym left ∙ e in cc);
    }

-- ---- what is gathered

gather_out : {X Y : Type 0} (f : X → Option (List Y)) (p : X → Bool) → ((x : X) → p x ≡ false → f x ≡ Some []) → (xs : List X) → gather f xs ≡ gather f (filter p xs)
gather_out f p none [] = refl
gather_out {Y = Y} f p none (x ∷ xs) =
    elim (p x) as (λ b. p x ≡ b → joins (f x) (gather f xs) ≡ gather f (cond b (x ∷ filter p xs) (filter p xs))) [
      | true ↦ λ e. ap (joins (f x)) (gather_out f p none xs)
      | false ↦ λ e. ap (λ o. joins o (gather f xs)) (none x e) ∙ nothing (gather f xs) ∙ gather_out f p none xs
    ] refl where
      nothing : (o : Option (List Y)) → joins (Some []) o ≡ o
      nothing None = refl
      nothing (Some ys) = refl

gather_none : {X Y : Type 0} (f : X → Option (List Y)) → ((x : X) → f x ≡ Some []) → (xs : List X) → gather f xs ≡ Some []
gather_none f none [] = refl
gather_none f none (x ∷ xs) = λ i. joins (none x i) (gather_none f none xs i)

-- with rows that come to nothing or without
fewer : {Y : Type 0} (g : Row → Option (List Y)) (c : Row) (p : Row → Bool) (rows kept : List Row) → kept ≡ filter p rows → ((r : Row) → p r ≡ false → g (c ++ r) ≡ Some [])
    → gather g (with_rows c rows) ≡ gather g (with_rows c kept)
fewer g c p rows kept is none =
    gather-map (λ r. c ++ r) g rows
    ∙ gather_out (λ r. g (c ++ r)) p none rows
    ∙ sym (gather-map (λ r. c ++ r) g (filter p rows))
    ∙ ap (λ (l : List Row). gather g (with_rows c l)) (sym is)

module _ (regard : Regard) (host : Host) (params : List Value) (terms : List Ordered) where
  abbrev m : Meaning Ordered
  m = regarded regard host params

  abbrev rest : List Source → Row → Option (List Row)
  rest sources = tail m terms (map join_of sources) (map rows_of sources)

  -- what every extension of a combination rejects comes to nothing, where no LEFT JOIN follows
  to_nothing : (later : List Source) (d : Row) → list_any is_left later ≡ false → ((more : Row) → all_true m terms (d ++ more) ≡ Some false) → rest later d ≡ Some []
  to_nothing [] d inner out = ap (λ o. joins (option_map (λ b. cond b (single d) []) o) (Some [])) (ap (all_true m terms) (sym (append-nil d)) ∙ out [])
  to_nothing (s ∷ ss) d inner out =
      let k = or_false (is_left s) (list_any is_left ss) inner in
      tail_inner regard host params terms s.join.now (map join_of ss) (rows_of s) (map rows_of ss) d k.0
      ∙ gather-map (λ r. d ++ r) (rest ss) (rows_of s)
      ∙ gather_none (λ r. rest ss (d ++ r)) (λ r. to_nothing ss (d ++ r) k.1 (λ more. ap (all_true m terms) (append_assoc d r more) ∙ out (r ++ more))) (rows_of s)

  module _ (first : IsQuietFirst terms) (s : Source) (later : List Source) (c : Row) (kept : List Row) (sound : AreSound host terms (s ∷ later)) (are : AreCandidates params c s kept) where
    found_by : (l : LookUp) → s.look_up ≡ Some l → IsSound host terms later s.join.now (rows_of s) l
    found_by l is = by s.look_up is sound.0 where
      by : (o : Option LookUp) → o ≡ Some l → IfSome o (IsSound host terms later s.join.now (rows_of s)) → IsSound host terms later s.join.now (rows_of s) l
      by None e h = absurd cc
      by (Some k) e h = subst (IsSound host terms later s.join.now (rows_of s)) (let q : k ≡ l = cc in q) h

    -- an inner table
    pub inner_kept : is_left s ≡ false → gather (rest later) (with_rows c kept) ≡ gather (rest later) (with_rows c (rows_of s))
    inner_kept inner = elim are [
      | inl all ↦ ap (λ (l : List Row). gather (rest later) (with_rows c l)) all
      | inr found ↦ (
          let sound = found_by found.0 found.1 in
          let on : terms_on terms s.join.now ≡ terms = ap (λ b. cond b (with_quiet_first (map plain s.join.now.on)) terms) inner in
          let l = leaves host params terms later s found.0 c kept (subst IsQuietFirst (sym on) first) sound found.2 in
          sym (fewer (rest later) c l.passes (rows_of s) kept l.are
          (λ r out. to_nothing later (c ++ r) (sound.no_left_follows inner) (λ more. ap (λ es. all_true m es ((c ++ r) ++ more)) (sym on) ∙ l.rejects r out regard more))))
    ]

    -- a table that a LEFT JOIN brings
    pub left_kept : is_left s ≡ true → left_with m s.join.now kept c ≡ left_with m s.join.now (rows_of s) c
    left_kept left = elim are [
      | inl all ↦ ap (λ (l : List Row). left_with m s.join.now l c) all
      | inr found ↦ (
          let own = with_quiet_first (map plain s.join.now.on) in
          let on : terms_on terms s.join.now ≡ own = ap (λ b. cond b own terms) left in
          let l = leaves host params terms later s found.0 c kept (record { of = map plain s.join.now.on; are = on }) (found_by found.0 found.1) found.2 in
          let none = λ (r : Row) (out : l.passes r ≡ false).
          ap (λ o. option_map (λ b. cond b (single (c ++ r)) []) o)
          (ap (all_true m own) (sym (append-nil (c ++ r))) ∙ ap (λ es. all_true m es ((c ++ r) ++ [])) (sym on) ∙ l.rejects r out regard []) in
          ap (option_map (or_padded (nulls (length s.join.now.relation.definition.columns)) c))
          (sym (fewer (λ x. option_map (λ b. cond b (single x) []) (all_true m own x)) c l.passes (rows_of s) kept l.are none)))
    ]

-- ---- the tables of FROM

module _ (m : Meaning Ordered) where
  then_same : {X Y : Type 0} (f g : X → Option Y) → ((x : X) → f x ≡ g x) → (o : Option X) → option_and_then f o ≡ option_and_then g o
  then_same f g h None = refl
  then_same f g h (Some x) = h x

  -- tables and their joins are combined as far as there are both
  pub combined_zip : (js : List Joined) (tables : List (List Row)) (sources : List Source) (cs : List Row) → map joined_rows sources ≡ zip js tables
      → combined m (map joining (map join_of sources)) (map rows_of sources) cs ≡ combined m (map joining js) tables cs
  combined_zip [] tables [] cs h = refl
  combined_zip [] tables (s ∷ ss) cs h = absurd cc
  combined_zip (j ∷ js) [] [] cs h = refl
  combined_zip (j ∷ js) [] (s ∷ ss) cs h = absurd cc
  combined_zip (j ∷ js) (t ∷ ts) [] cs h = absurd cc
  combined_zip (j ∷ js) (t ∷ ts) (s ∷ ss) cs h =
      let one : joined_rows s ≡ (j, t) = cc in
      let join : s.join.now ≡ j = ap (λ p. p.0) one in
      let rows : rows_of s ≡ t = ap (λ p. p.1) one in
      let more : map joined_rows ss ≡ zip js ts = cc in
      (λ i. option_and_then (combined m (map joining (map join_of ss)) (map rows_of ss)) (gather (joined_with m (joining (join i)) (rows i)) cs))
      ∙ then_same (combined m (map joining (map join_of ss)) (map rows_of ss)) (combined m (map joining js) ts) (λ ds. combined_zip js ts ss ds more) (gather (joined_with m (joining j) t) cs)

-- ---- what is put behind

module _ (host : Host) (params : List Value) (terms : List Ordered) (first : IsQuietFirst terms) (sources : List Source) (s : Source) (later : List Source) (cut : sources ≡ s ∷ later)
    (c : Row) (sound : AreSound host terms sources) (o : Option Value) (wanted : IfSome o (IsWanted params c s)) (kept : List Row) (is : kept ≡ rows_with s o) where
  parted : AreSound host terms (s ∷ later)
  parted = subst (AreSound host terms) cut sound

  are : AreCandidates params c s kept
  are = are_candidates params c s o kept wanted is

  abbrev tail_of : Stage (List Row)
  tail_of m = tail m terms (map join_of sources) (map rows_of sources) c

  -- an inner table's rows that are gone through
  pub inner_adds : is_left s ≡ false → (old new : List Row) (r : Result (Unit {0}) EvalFault)
      → Adds host params (λ m. gather (tail m terms (map join_of later) (map rows_of later)) (with_rows c kept)) old new r → Adds host params tail_of old new r
  inner_adds inner old new r h =
      rest_inner host params terms (map join_of sources) (map join_of later) s.join.now (map rows_of sources) (map rows_of later) (rows_of s) c (ap (map join_of) cut) (ap (map rows_of) cut) inner old new r
      (adds_on host params (λ m. gather (tail m terms (map join_of later) (map rows_of later)) (with_rows c kept)) (λ m. gather (tail m terms (map join_of later) (map rows_of later)) (with_rows c (rows_of s)))
      (λ regard. inner_kept regard host params terms first s later c kept parted are inner) old new r h)

  -- those of a LEFT JOIN's
  pub left_faults : is_left s ≡ true → (e : EvalFault) → Faults host params (λ m. left_with m s.join.now kept c) e → Faults host params tail_of e
  left_faults left e h =
      rest_fault host params terms (map join_of sources) (map join_of later) s.join.now (map rows_of sources) (map rows_of later) (rows_of s) c (ap (map join_of) cut) (ap (map rows_of) cut) left e
      (faults_on host params (λ m. left_with m s.join.now kept c) (λ m. left_with m s.join.now (rows_of s) c) e
      (λ regard k. sym (left_kept regard host params terms first s later c kept parted are left) ∙ k) h)

  pub left_adds : is_left s ≡ true → (cs : List Row) → IsMeant host params (λ m. left_with m s.join.now kept c) cs → (old new : List Row) (r : Result (Unit {0}) EvalFault)
      → Adds host params (λ m. gather (tail m terms (map join_of later) (map rows_of later)) (with_rows [] cs)) old new r → Adds host params tail_of old new r
  left_adds left cs b old new r h =
      rest_left host params terms (map join_of sources) (map join_of later) s.join.now (map rows_of sources) (map rows_of later) (rows_of s) c (ap (map join_of) cut) (ap (map rows_of) cut) left cs
      (meant_on host params (λ m. left_with m s.join.now kept c) (λ m. left_with m s.join.now (rows_of s) c) cs cs
      (λ regard k. sym (left_kept regard host params terms first s later c kept parted are left) ∙ k) b) old new r h

-- ---- a query's FROM

module _ (host : Host) (params : List Value) (q : Resolved) (tables : List (List Row)) (sources : List Source) (ts : List (Bor Expr)) (js : List Joined)
    (same : map there ts ≡ with_quiet_first (terms_of q)) (all : js ≡ q.joined) (zipped : map joined_rows sources ≡ zip js tables) where
  abbrev over_sources : Stage (List Row)
  over_sources m = tail m (map there ts) (map join_of sources) (map rows_of sources) []

  from_sources : (m : Meaning Ordered) → over_sources m ≡ tail m (map there ts) js tables []
  from_sources m = ap (option_and_then (those (all_true m (map there ts)))) (combined_zip m js tables sources (single []) zipped)

  pub sources_fault : (e : EvalFault) → Faults host params over_sources e → Faults host params (λ m. joined m (query q) tables) e
  sources_fault e h =
      joined_fault host params q tables ts js same all e
      (faults_on host params over_sources (λ m. tail m (map there ts) js tables []) e (λ regard k. sym (from_sources (regarded regard host params)) ∙ k) h)

  pub sources_both : (old new : List Row) → old ≡ [] → IsMeant host params (λ m. behind old (over_sources m)) new → IsMeant host params (λ m. joined m (query q) tables) new
  sources_both old new none h =
      joined_both host params q tables ts js same all old new none
      (meant_on host params (λ m. behind old (over_sources m)) (λ m. behind old (tail m (map there ts) js tables [])) new new
      (λ regard k. ap (behind old) (sym (from_sources (regarded regard host params))) ∙ k) h)

-- an index of the rows of a table, where its look-up is sound
pub indexed : (host : Host) (terms : List Ordered) (sources : List Source) (s : Source) (later : List Source) → sources ≡ s ∷ later → AreSound host terms sources → IfSome s.look_up (λ l. IsIndexOf l.equality.place (rows_of s) l.index)
indexed host terms sources s later cut sound = by s.look_up (subst (AreSound host terms) cut sound).0 where
  by : (o : Option LookUp) → IfSome o (IsSound host terms later s.join.now (rows_of s)) → IfSome o (λ l. IsIndexOf l.equality.place (rows_of s) l.index)
  by None h = tt
  by (Some l) h = h.by_terms.index

pub later_sound : (host : Host) (terms : List Ordered) (sources : List Source) (s : Source) (later : List Source) → sources ≡ s ∷ later → AreSound host terms sources → AreSound host terms later
later_sound host terms sources s later cut sound = (subst (AreSound host terms) cut sound).1

-- one table more
pub more_zipped : (j : Joined) (js : List Joined) (t : List Row) (ts : List (List Row)) (joined : List Joined) (tables : List (List Row)) (s : Source) (ss sources : List Source)
    → joined ≡ j ∷ js → tables ≡ t ∷ ts → sources ≡ s ∷ ss → s.join.now ≡ j → rows_of s ≡ t → map joined_rows ss ≡ zip js ts → map joined_rows sources ≡ zip joined tables
more_zipped j js t ts joined tables s ss sources a b c join rows more =
    ap (map joined_rows) c ∙ (λ i. (join i, rows i) ∷ more i) ∙ (λ i. zip (sym a i) (sym b i))

pub more_sound : (host : Host) (terms : List Ordered) (s : Source) (ss sources : List Source) → sources ≡ s ∷ ss → IfSome s.look_up (IsSound host terms ss s.join.now (rows_of s)) → AreSound host terms ss → AreSound host terms sources
more_sound host terms s ss sources c one more = subst (AreSound host terms) (sym c) (one, more)

-- a value that a table's look-up asks for
pub wanted_by : (params : List Value) (c : Row) (s : Source) (l : LookUp) → s.look_up ≡ Some l → length c ≡ l.start → (r : Result (Option Value) AllocError)
    → IfOk r (λ o. MatchOption o (is_plain l.equality.wanted.now ≡ false) (Wants params c l.equality.wanted.now l.equality.takes)) → IfOk r (λ o. IfSome o (IsWanted params c s))
wanted_by params c s l there beside (Err e) h = tt
wanted_by params c s l there beside (Ok None) h = tt
wanted_by params c s l there beside (Ok (Some v)) h = record { by = l; there = there; beside = beside; wanted = h }
