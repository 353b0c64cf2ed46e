-- The promises of marks stay: what a replica becomes, and what its peers then know of it.
use Rattle.std.proofs.Common.{◌≡◌, ◌⊎◌, inl, inr, ℕ, zero, suc, ℤ, pos, ◌+ℤ◌, ◌≤ℤ◌, ◌<ℤ◌, arith, Bool, true, false, ◌&&◌, ◌||◌, cond, List, [], ◌∷◌, ◌++◌, Option, Some, None, Ok, refl, sym, ap, subst, ◌∙◌, length, slice_get}
use Rattle.std.specs.Prelude.{unwrap_or, if◌then◌else◌}
use Rattle.std.specs.List.{list_any}
use Rattle.std.specs.Ordering.{int_eq, is_eq}
use Rattle.std.specs.Option.{option_map_or}
use Rattle.std.specs.Cmp.{tied_itself}
use Rattle.std.proofs.lemmas.Int.{ints}
use Rattle.std.specs.Cmp.{int_cmp_total}
use Rattle.cr_value.specs.OrderLaws.{bytes_total, bytes_exact}
use Rattle.cr_lattice.specs.declared.change.Change.{Change}
use Rattle.cr_lattice.specs.declared.stamped.Stamped.{Stamped}
use Rattle.cr_lattice.specs.declared.table.Table.{Table}
use Rattle.cr_lattice.specs.Change.{change_cmp}
use Rattle.cr_lattice.specs.ChangeOrder.{change_total}
use Rattle.cr_lattice.specs.Check.{same_bytes}
use Rattle.cr_lattice.specs.Keep.{keep}
use Rattle.cr_lattice.specs.Sync.{Knows, StampsAbove, has_stamp}
use Rattle.cr_lattice.proofs.KeepLaws.{keep_keep}
use Rattle.cr_lattice.proofs.SyncLemmas.{knows_after_mine, knows_after_theirs}
use Rattle.cr_cells.specs.Holding.{Holding, kept_of}
use Rattle.cr_cells.specs.Marks.{Mark, seen_of}
use Rattle.cr_cells.specs.Commit.{is_changed, cells_after, committed}
use Rattle.cr_cells.proofs.MemberLemmas.{any_from, all_from}
use Rattle.cr_cells.proofs.CommitLemmas.{after-from, stamped-at}
use Rattle.cr_cells.proofs.CellLemmas.{eq_true}
use Rattle.cr_cells.proofs.LawLemmas.{kept-committed, seen-with_mark, seen-other_site}
use Rattle.cr_query.specs.Query.{Row}
use Rattle.cr_replica.specs.ChangeRow.{change_of}
use Rattle.cr_world.specs.declared.command.Command.{Command}
use Rattle.cr_world.specs.declared.command.Command.TheVariants.{Open, Use, Define, Take, Rows, Changes, Pull, PullSince, Policy, Sql}
use Rattle.cr_world.specs.declared.command.Declaration.TheVariants.{Real, Table as Declared}
use Rattle.cr_world.specs.declared.command.FleetReply.{FleetReply}
use Rattle.cr_world.specs.declared.command.FleetReply.TheVariants.{Script, Rows as Shown, Changes as Told, Done, Refused}
use Rattle.cr_world.specs.declared.command.Reply.{Reply}
use Rattle.cr_world.specs.declared.refusal.Refusal.{Refusal}
use Rattle.cr_world.specs.Resolved.{Resolved, Select, Mark as Marks, Insert, Update, Delete, Create, Alter, Begin, Commit, Rollback}
use Rattle.cr_world.specs.Language.{Language, Piece, Statement, Unread}
use Rattle.cr_world.specs.State.{State, ModuleState}
use Rattle.cr_world.specs.Statement.{Host, adding, ended, writes, changes_by, left_by, is_memory, ends, stepped, allowed_of, rows_of}
use Rattle.cr_world.specs.Scripts.{after_script}
use Rattle.cr_world.specs.Takings.{taking, taking_row}
use Rattle.cr_world.specs.World.{Member, Keeps, changed_at, new_member}
use Rattle.cr_world.specs.Answers.{has_site}
use Rattle.cr_fleet.specs.Fleets.{AreMarked, KnowsOf}
use Rattle.cr_session.specs.Sessions.{own_after}

first_false : (a b : Bool) → (a || b) ≡ false → a ≡ false
first_false true b e = absurd (let q : ⊥ = cc in q)
first_false false b e = refl

second_false : (a b : Bool) → (a || b) ≡ false → b ≡ false
second_false true b e = absurd (let q : ⊥ = cc in q)
second_false false b e = e

both_false : (a b : Bool) → a ≡ false → b ≡ false → (a || b) ≡ false
both_false a b e f = λ i. e i || f i

-- sites are told apart either way around
same_flips : (s t : List ℕ) → same_bytes s t ≡ true → same_bytes t s ≡ true
same_flips s t e = let same : s ≡ t = bytes_exact s t (eq_true _ e) in subst (λ (x : List ℕ). same_bytes x s ≡ true) same (ap is_eq (tied_itself bytes_total s))

-- ---- what a store holds grows

abbrev pub IsKept : Holding → Type 0
IsKept h = keep (kept_of h) ≡ kept_of h

pub kept_by : (m : Member) → Keeps m → IsKept m.state.holding
kept_by m k = ap keep k.keeps ∙ keep_keep m.held ∙ sym k.keeps

-- what was known of it is still known, and what it knew it still knows
pub record Grew (h h' : Holding) : Type 0 where
  pub site : h'.site ≡ h.site
  pub theirs : (mine : List Change) (mark : ℤ) → Knows mine h.cells h.version mark → Knows mine h'.cells h'.version mark
  pub mine : (peer : List Stamped) (version mark : ℤ) → Knows (kept_of h) peer version mark → Knows (kept_of h') peer version mark

-- the same where its marks stay
pub record Grows (h h' : Holding) : Type 0 where
  pub grew : Grew h h'
  pub marks : h'.marks ≡ h.marks
  pub kept : IsKept h'

abbrev pub GrowsFrom : Holding → Holding → Type 0
GrowsFrom h h' = IsKept h → Grows h h'

pub grew_not : (h : Holding) → Grew h h
grew_not h = record { site = refl; theirs = λ mine mark k. k; mine = λ peer version mark k. k }

pub same_grows : (h : Holding) → GrowsFrom h h
same_grows h kept = record { grew = grew_not h; marks = refl; kept = kept }

grew_then : (a b c : Holding) → Grew a b → Grew b c → Grew a c
grew_then a b c f g = record {
  site = g.site ∙ f.site;
  theirs = λ mine mark k. g.theirs mine mark (f.theirs mine mark k);
  mine = λ peer version mark k. g.mine peer version mark (f.mine peer version mark k);
}

grows_then : (a b c : Holding) → GrowsFrom a b → GrowsFrom b c → GrowsFrom a c
grows_then a b c f g kept =
    let x = f kept in
    let y = g x.kept in
    record { grew = grew_then a b c x.grew y.grew; marks = y.marks ∙ x.marks; kept = y.kept }

pub tables_grow : (h : Holding) (ts : List Table) → GrowsFrom h (record h { tables = ts })
tables_grow h ts kept = record { grew = record { site = refl; theirs = λ mine mark k. k; mine = λ peer version mark k. k }; marks = refl; kept = kept }

-- ---- a commit

stands : (s t : Stamped) → s ≡ t → (is_eq (change_cmp t.change s.change) && int_eq t.version s.version) ≡ true
stands s t e =
    let here : is_eq (change_cmp s.change s.change) ≡ true = ap is_eq (tied_itself change_total s.change) in
    let there : int_eq s.version s.version ≡ true = ap is_eq (tied_itself int_cmp_total s.version) in
    subst (λ (t : Stamped). (is_eq (change_cmp t.change s.change) && int_eq t.version s.version) ≡ true) e (rw (here, there) refl)

above_all : (h : Holding) (more : List Change) → StampsAbove h.version h.cells (cells_after h.cells more (h.version +ℤ pos 1))
above_all h more =
    all_from (λ s. (has_stamp h.cells s ≡ true) ⊎ (h.version <ℤ s.version)) _ (λ s a. elim (after-from h.cells more (h.version +ℤ pos 1) s a) [
      | inl old ↦ inl (any_from (λ t. is_eq (change_cmp t.change s.change) && int_eq t.version s.version) h.cells s old (stands s s refl))
      | inr new ↦ (let e : s.version ≡ (h.version +ℤ pos 1) = (stamped-at (h.version +ℤ pos 1) (pos 0) _ s new).0 in inr (omega (arith, ints)))
    ])

later : (b : Bool) (v : ℤ) → v ≤ℤ (if b then v +ℤ pos 1 else v)
later true v = omega (arith, ints)
later false v = omega (arith, ints)

pub commit_grew : (h : Holding) (more : List Change) (mark : Option Mark) → IsKept h → Grew h (committed h more mark)
commit_grew h more mark kept = record {
  site = refl;
  theirs = λ mine at k. knows_after_theirs mine h.cells (committed h more mark).cells h.version (committed h more mark).version at (above_all h more) (later (is_changed (kept_of h) more) h.version) k;
  mine = λ peer version at k. subst (λ (ks : List Change). Knows ks peer version at) (sym (kept-committed h more mark kept)) (knows_after_mine (kept_of h) more peer version at k);
}

commit_kept : (h : Holding) (more : List Change) (mark : Option Mark) → IsKept h → IsKept (committed h more mark)
commit_kept h more mark kept = let one = kept-committed h more mark kept in ap keep one ∙ keep_keep (kept_of h ++ more) ∙ sym one

pub commit_grows : (h : Holding) (more : List Change) → GrowsFrom h (committed h more None)
commit_grows h more kept = record { grew = commit_grew h more None kept; marks = refl; kept = commit_kept h more None kept }

-- ---- statements and scripts

abbrev with_added : State → List Change → Option (List Change) → State
with_added st more o = elim o as (λ _. State) [ None ↦ record st { holding = committed st.holding more None } | Some p ↦ record st { pending = Some (p ++ more) } ]

added_grows : (st : State) (more : List Change) (o : Option (List Change)) → GrowsFrom st.holding (with_added st more o).holding
added_grows st more None = commit_grows st.holding more
added_grows st more (Some p) = same_grows st.holding

either_grows : (h : Holding) (b : Bool) (st new : State) → GrowsFrom h st.holding → GrowsFrom h new.holding → GrowsFrom h (cond b st new).holding
either_grows h true st new f g = f
either_grows h false st new f g = g

write_grows : (st : State) (b : Bool) (more : List Change) → GrowsFrom st.holding (cond b (adding more st) st).holding
write_grows st b more = either_grows st.holding b (adding more st) st (added_grows st more st.pending) (same_grows st.holding)

left_grows : {E : Type 0} (st : State) (r : Resolved E) (rows : List Row) (ms : List ModuleState) → GrowsFrom st.holding (left_by st r rows ms).holding
left_grows st (Select names q) rows ms = same_grows st.holding
left_grows st (Marks t b) rows ms = either_grows st.holding b st _ (same_grows st.holding) (tables_grow st.holding _)
left_grows st (Create def b) rows ms = either_grows st.holding b st _ (same_grows st.holding) (tables_grow st.holding _)
left_grows st (Alter t col) rows ms = tables_grow st.holding _
left_grows st Begin rows ms = same_grows st.holding
left_grows st Commit rows ms = commit_grows st.holding (unwrap_or st.pending [])
left_grows st Rollback rows ms = same_grows st.holding
left_grows st (Insert t w) rows ms = write_grows st (writes (Insert t w)) (changes_by st (Insert t w) rows)
left_grows st (Update t w) rows ms = write_grows st (writes (Update t w)) (changes_by st (Update t w) rows)
left_grows st (Delete t w) rows ms = write_grows st (writes (Delete t w)) (changes_by st (Delete t w) rows)

refused_grows : (st : State) (a b : Bool) → GrowsFrom st.holding (cond a st (cond b (ended st) st)).holding
refused_grows st a b = either_grows st.holding a st _ (same_grows st.holding) (either_grows st.holding b (ended st) st (same_grows st.holding) (same_grows st.holding))

module _ {S E : Type 0} (l : Language S E) (host : Host) where
  accepted_grows : (st : State) (o : Option (Resolved E)) → GrowsFrom st.holding (option_map_or (λ r. left_by st r (rows_of l host st [] r) st.modules) o st).holding
  accepted_grows st None = same_grows st.holding
  accepted_grows st (Some r) = left_grows st r (rows_of l host st [] r) st.modules

  script_grows : (st : State) (ps : List (Piece S)) (xs : List Reply) (f : Option Refusal) → GrowsFrom st.holding (after_script l host st ps xs f).holding
  script_grows st [] xs f = same_grows st.holding
  script_grows st (Unread why ∷ ps) xs f = same_grows st.holding
  script_grows st (Statement x ∷ ps) [] None = same_grows st.holding
  script_grows st (Statement x ∷ ps) [] (Some r) = refused_grows st (is_memory r) (ends l host st [] x)
  script_grows st (Statement x ∷ ps) (y ∷ ys) f =
      let next = stepped l host st [] x (Ok y) st.modules in
      grows_then st.holding next.holding _ (accepted_grows st (allowed_of l host st [] x)) (script_grows next ps ys f)

  row_grows : (m : Member) (o : Option Change) → GrowsFrom m.state.holding (taking_row o m).state.holding
  row_grows m None = same_grows m.state.holding
  row_grows m (Some c) = commit_grows m.state.holding (c ∷ [])

  -- ---- a command of one replica

  pub own_grows : (c : Command) (reply : FleetReply) (m : Member) → GrowsFrom m.state.holding (own_after l host c reply m).state.holding
  own_grows (Define Real) reply m = same_grows m.state.holding
  own_grows (Define (Declared def)) Done m = tables_grow m.state.holding _
  own_grows (Define (Declared def)) (Script x) m = same_grows m.state.holding
  own_grows (Define (Declared def)) (Shown rows) m = same_grows m.state.holding
  own_grows (Define (Declared def)) (Told cells) m = same_grows m.state.holding
  own_grows (Define (Declared def)) (Refused r) m = same_grows m.state.holding
  own_grows (Take row) Done m = row_grows m (change_of row)
  own_grows (Take row) (Script x) m = same_grows m.state.holding
  own_grows (Take row) (Shown rows) m = same_grows m.state.holding
  own_grows (Take row) (Told cells) m = same_grows m.state.holding
  own_grows (Take row) (Refused r) m = same_grows m.state.holding
  own_grows (Sql text) (Script x) m = script_grows m.state (l.pieces text) x.replies x.refusal
  own_grows (Sql text) Done m = same_grows m.state.holding
  own_grows (Sql text) (Shown rows) m = same_grows m.state.holding
  own_grows (Sql text) (Told cells) m = same_grows m.state.holding
  own_grows (Sql text) (Refused r) m = same_grows m.state.holding
  own_grows (Rows name) reply m = same_grows m.state.holding
  own_grows (Changes n) reply m = same_grows m.state.holding
  own_grows (Open name site) reply m = same_grows m.state.holding
  own_grows (Use name) reply m = same_grows m.state.holding
  own_grows (Policy rule) reply m = same_grows m.state.holding
  own_grows (Pull name) reply m = same_grows m.state.holding
  own_grows (PullSince name) reply m = same_grows m.state.holding

-- ---- one member becomes another

-- what one member may become, for the promises to stay
pub record Moves (ms : List Member) (m m' : Member) : Type 0 where
  pub grew : Grew m.state.holding m'.state.holding
  pub knows : (j : ℕ) (peer : Member) → slice_get ms j ≡ Some peer → KnowsOf m' peer
  pub none_else : (site : List ℕ) → list_any (has_site site) ms ≡ false → seen_of m'.state.holding.marks site ≡ pos 0

pub moves : (ms : List Member) (i : ℕ) (m m' : Member) → AreMarked ms → slice_get ms i ≡ Some m → Keeps m → GrowsFrom m.state.holding m'.state.holding → Moves ms m m'
moves ms i m m' a at keeps grows =
    let g = grows (kept_by m keeps) in
    record {
      grew = g.grew;
      knows = λ j peer there.
          subst (λ (marks : List Mark). Knows (kept_of m'.state.holding) peer.state.holding.cells peer.state.holding.version (seen_of marks peer.state.holding.site)) (sym g.marks)
          (g.grew.mine _ _ _ (a.known i j m peer at there));
      none_else = λ site none. ap (λ (marks : List Mark). seen_of marks site) g.marks ∙ a.none_else i m site at none;
    }

-- what stands at a place now
record Was (f : Member → Member) (ms : List Member) (i j : ℕ) (x : Member) : Type 0 where
  member : Member
  at : slice_get ms j ≡ Some member
  is : ((i ≡ j) × (x ≡ f member)) ⊎ (x ≡ member)

was_at : (f : Member → Member) (i : ℕ) (ms : List Member) (j : ℕ) (x : Member) → slice_get (changed_at i f ms) j ≡ Some x → Was f ms i j x
was_at f i [] j x e = absurd (let q : ⊥ = cc in q)
was_at f zero (m ∷ ms) zero x e = record { member = m; at = refl; is = inl (refl, (let q : x ≡ f m = cc in q)) }
was_at f zero (m ∷ ms) (suc j) x e = record { member = x; at = e; is = inr refl }
was_at f (suc i) (m ∷ ms) zero x e = record { member = m; at = refl; is = inr (let q : x ≡ m = cc in q) }
was_at f (suc i) (m ∷ ms) (suc j) x e =
    let w = was_at f i ms j x e in
    record { member = w.member; at = w.at; is = elim w.is [ inl both ↦ inl (ap suc both.0, both.1) | inr same ↦ inr same ] }

-- the sites stay
sites_stay : (f : Member → Member) (site : List ℕ) (i : ℕ) (ms : List Member) (m : Member) → slice_get ms i ≡ Some m → (f m).state.holding.site ≡ m.state.holding.site
    → list_any (has_site site) (changed_at i f ms) ≡ list_any (has_site site) ms
sites_stay f site i [] m at e = refl
sites_stay f site zero (n ∷ ms) m at e =
    let q : m ≡ n = cc in
    let same : (f n).state.holding.site ≡ n.state.holding.site = subst (λ (k : Member). (f k).state.holding.site ≡ k.state.holding.site) q e in
    ap (λ (s : List ℕ). same_bytes s site || list_any (has_site site) ms) same
sites_stay f site (suc i) (n ∷ ms) m at e = ap (λ (b : Bool). has_site site n || b) (sites_stay f site i ms m at e)

module _ (f : Member → Member) (ms : List Member) (i : ℕ) (m : Member) (a : AreMarked ms) (at : slice_get ms i ≡ Some m) (mv : Moves ms m (f m)) where
  one_at : (j : ℕ) (n : Member) → slice_get ms j ≡ Some n → i ≡ j → m ≡ n
  one_at j n there e = let q : Some m ≡ Some n = sym at ∙ ap (slice_get ms) e ∙ there in let z : m ≡ n = cc in z

  grew_at : (j : ℕ) (x : Member) → (w : Was f ms i j x) → Grew w.member.state.holding x.state.holding
  grew_at j x w = elim w.is [
    | inl both ↦ subst (λ (y : Member). Grew w.member.state.holding y.state.holding) (sym both.1) (subst (λ (n : Member). Grew n.state.holding (f n).state.holding) (one_at j w.member w.at both.0) mv.grew)
    | inr same ↦ subst (λ (y : Member). Grew w.member.state.holding y.state.holding) (sym same) (grew_not w.member.state.holding)
  ]

  knows_at : (j k : ℕ) (x peer : Member) → Was f ms i j x → slice_get ms k ≡ Some peer → KnowsOf x peer
  knows_at j k x peer w there = elim w.is [
    | inl both ↦ subst (λ (y : Member). KnowsOf y peer) (sym both.1) (subst (λ (n : Member). KnowsOf (f n) peer) (one_at j w.member w.at both.0) (mv.knows k peer there))
    | inr same ↦ subst (λ (y : Member). KnowsOf y peer) (sym same) (a.known j k w.member peer w.at there)
  ]

  none_at : (j : ℕ) (x : Member) (site : List ℕ) → Was f ms i j x → list_any (has_site site) ms ≡ false → seen_of x.state.holding.marks site ≡ pos 0
  none_at j x site w none = elim w.is [
    | inl both ↦ subst (λ (y : Member). seen_of y.state.holding.marks site ≡ pos 0) (sym both.1) (subst (λ (n : Member). seen_of (f n).state.holding.marks site ≡ pos 0) (one_at j w.member w.at both.0) (mv.none_else site none))
    | inr same ↦ subst (λ (y : Member). seen_of y.state.holding.marks site ≡ pos 0) (sym same) (a.none_else j w.member site w.at none)
  ]

  pub marks_set : AreMarked (changed_at i f ms)
  marks_set = record {
    known = λ j k x y ex ey.
        let wx = was_at f i ms j x ex in
        let wy = was_at f i ms k y ey in
        let g = grew_at k y wy in
        g.theirs (kept_of x.state.holding) (seen_of x.state.holding.marks y.state.holding.site)
        (subst (λ (site : List ℕ). Knows (kept_of x.state.holding) wy.member.state.holding.cells wy.member.state.holding.version (seen_of x.state.holding.marks site)) (sym g.site)
        (knows_at j k x wy.member wx wy.at));
    from_1 = λ j x ex. let w = was_at f i ms j x ex in (grew_at j x w).theirs [] (pos 0) (a.from_1 j w.member w.at);
    apart = λ j k x y ex ey same.
        let wx = was_at f i ms j x ex in
        let wy = was_at f i ms k y ey in
        a.apart j k wx.member wy.member wx.at wy.at ((λ n. same_bytes (sym (grew_at j x wx).site n) (sym (grew_at k y wy).site n)) ∙ same);
    none_else = λ j x site ex none. none_at j x site (was_at f i ms j x ex) (sym (sites_stay f site i ms m at mv.grew.site) ∙ none);
  }

-- ---- an incremental pull

-- no member has the site
other_site : (site : List ℕ) (ms : List Member) (j : ℕ) (m : Member) → slice_get ms j ≡ Some m → list_any (has_site site) ms ≡ false → same_bytes m.state.holding.site site ≡ false
other_site site [] j m at none = absurd (let q : ⊥ = cc in q)
other_site site (n ∷ ms) zero m at none =
    let q : m ≡ n = cc in subst (λ (k : Member). same_bytes k.state.holding.site site ≡ false) (sym q) (first_false (has_site site n) (list_any (has_site site) ms) none)
other_site site (n ∷ ms) (suc j) m at none = other_site site ms j m at (second_false (has_site site n) (list_any (has_site site) ms) none)

module _ (ms : List Member) (i j : ℕ) (m q : Member) (a : AreMarked ms) (at : slice_get ms i ≡ Some m) (there : slice_get ms j ≡ Some q) (keeps : Keeps m) (changes held : List Change) where
  abbrev its_mark : Mark
  its_mark = (q.state.holding.site, q.state.holding.version)

  abbrev pulled : Member
  pulled = record m { state = taking changes (Some its_mark) m.state; held = held }

  module _ (knows : Knows (kept_of pulled.state.holding) q.state.holding.cells q.state.holding.version q.state.holding.version) where
    abbrev Known : Member → ℤ → Type 0
    Known peer version = Knows (kept_of pulled.state.holding) peer.state.holding.cells peer.state.holding.version version

    its_own : KnowsOf pulled q
    its_own = subst (Known q) (sym (seen-with_mark m.state.holding.marks its_mark)) knows

    known_by : (n : ℕ) (peer : Member) (b : Bool) → same_bytes q.state.holding.site peer.state.holding.site ≡ b → slice_get ms n ≡ Some peer → KnowsOf pulled peer
    known_by n peer true e met =
        let same : q ≡ peer = (let z : Some q ≡ Some peer = sym there ∙ ap (slice_get ms) (a.apart j n q peer there met e) ∙ met in cc) in
        subst (λ (p : Member). KnowsOf pulled p) same its_own
    known_by n peer false e met =
        subst (Known peer) (sym (seen-other_site m.state.holding.marks its_mark peer.state.holding.site e))
        ((commit_grew m.state.holding changes (Some its_mark) (kept_by m keeps)).mine _ _ _ (a.known i n m peer at met))

    pub pull_moves : Moves ms m pulled
    pull_moves = record {
      grew = commit_grew m.state.holding changes (Some its_mark) (kept_by m keeps);
      knows = λ n peer met. known_by n peer (same_bytes q.state.holding.site peer.state.holding.site) refl met;
      none_else = λ site none. seen-other_site m.state.holding.marks its_mark site (other_site site ms j q there none) ∙ a.none_else i m site at none;
    }

-- ---- a new member

-- what stands at a place of a list with one more
more_at : (ms : List Member) (n : Member) (j : ℕ) (x : Member) → slice_get (ms ++ n ∷ []) j ≡ Some x → (slice_get ms j ≡ Some x) ⊎ ((j ≡ length ms) × (x ≡ n))
more_at [] n zero x e = inr (refl, (let q : x ≡ n = cc in q))
more_at [] n (suc j) x e = absurd (let q : ⊥ = cc in q)
more_at (m ∷ ms) n zero x e = inl e
more_at (m ∷ ms) n (suc j) x e = elim (more_at ms n j x e) [ inl old ↦ inl old | inr new ↦ inr (ap suc new.0, new.1) ]

none_before : (p : Member → Bool) (ms : List Member) (n : Member) → list_any p (ms ++ n ∷ []) ≡ false → list_any p ms ≡ false
none_before p [] n e = refl
none_before p (m ∷ ms) n e = both_false (p m) (list_any p ms) (first_false (p m) (list_any p (ms ++ n ∷ [])) e) (none_before p ms n (second_false (p m) (list_any p (ms ++ n ∷ [])) e))

module _ (ms : List Member) (name site : List ℕ) (a : AreMarked ms) (free : list_any (has_site site) ms ≡ false) where
  abbrev one_more : Member
  one_more = new_member name site

  no_marks : (s : List ℕ) → seen_of [] s ≡ pos 0
  unfolding seen_of
  no_marks s = refl

  nothing_known : (mine : List Change) → Knows mine [] (pos 0) (pos 0)
  nothing_known mine = record { covered = tt; past = omega (arith, ints) }

  known_more : (x y : Member) (j k : ℕ) → (slice_get ms j ≡ Some x) ⊎ ((j ≡ length ms) × (x ≡ one_more)) → (slice_get ms k ≡ Some y) ⊎ ((k ≡ length ms) × (y ≡ one_more)) → KnowsOf x y
  known_more x y j k (inl old) (inl old') = a.known j k x y old old'
  known_more x y j k (inl old) (inr new) =
      subst (λ (p : Member). KnowsOf x p) (sym new.1)
      (subst (Knows (kept_of x.state.holding) [] (pos 0)) (sym (a.none_else j x site old free)) (nothing_known (kept_of x.state.holding)))
  known_more x y j k (inr new) (inl old) =
      subst (λ (p : Member). KnowsOf p y) (sym new.1)
      (subst (Knows [] y.state.holding.cells y.state.holding.version) (sym (no_marks y.state.holding.site)) (a.from_1 k y old))
  known_more x y j k (inr new) (inr new') =
      subst (λ (p : Member). KnowsOf p y) (sym new.1) (subst (λ (p : Member). KnowsOf one_more p) (sym new'.1)
      (subst (Knows [] [] (pos 0)) (sym (no_marks site)) (nothing_known [])))

  first_more : (x : Member) (j : ℕ) → (slice_get ms j ≡ Some x) ⊎ ((j ≡ length ms) × (x ≡ one_more)) → Knows [] x.state.holding.cells x.state.holding.version (pos 0)
  first_more x j (inl old) = a.from_1 j x old
  first_more x j (inr new) = subst (λ (p : Member). Knows [] p.state.holding.cells p.state.holding.version (pos 0)) (sym new.1) (nothing_known [])

  not_both : (b : Bool) → b ≡ true → b ≡ false → ⊥
  not_both b e f = let q : true ≡ false = sym e ∙ f in let z : ⊥ = cc in z

  apart_more : (x y : Member) (j k : ℕ) → (slice_get ms j ≡ Some x) ⊎ ((j ≡ length ms) × (x ≡ one_more)) → (slice_get ms k ≡ Some y) ⊎ ((k ≡ length ms) × (y ≡ one_more))
      → same_bytes x.state.holding.site y.state.holding.site ≡ true → j ≡ k
  apart_more x y j k (inl old) (inl old') e = a.apart j k x y old old' e
  apart_more x y j k (inl old) (inr new) e =
      absurd (not_both (same_bytes x.state.holding.site site) (subst (λ (p : Member). same_bytes x.state.holding.site p.state.holding.site ≡ true) new.1 e) (other_site site ms j x old free))
  apart_more x y j k (inr new) (inl old) e =
      absurd (not_both (same_bytes y.state.holding.site site)
      (same_flips site y.state.holding.site (subst (λ (p : Member). same_bytes p.state.holding.site y.state.holding.site ≡ true) new.1 e)) (other_site site ms k y old free))
  apart_more x y j k (inr new) (inr new') e = new.0 ∙ sym new'.0

  pub marks_more : AreMarked (ms ++ one_more ∷ [])
  marks_more = record {
    known = λ j k x y ex ey. known_more x y j k (more_at ms one_more j x ex) (more_at ms one_more k y ey);
    from_1 = λ j x ex. first_more x j (more_at ms one_more j x ex);
    apart = λ j k x y ex ey e. apart_more x y j k (more_at ms one_more j x ex) (more_at ms one_more k y ey) e;
    none_else = λ j x s ex none. elim (more_at ms one_more j x ex) [
      | inl old ↦ a.none_else j x s old (none_before (has_site s) ms one_more none)
      | inr new ↦ subst (λ (p : Member). seen_of p.state.holding.marks s ≡ pos 0) (sym new.1) (no_marks s)
    ];
  }
