-- A script leaves a replica that keeps what all that it ever held keeps.
use Rattle.std.proofs.Common.{◌≡◌, inl, inr, ℕ, zero, suc, pos, Bool, true, false, not, ◌&&◌, cond, List, [], ◌∷◌, ◌++◌, Option, Some, None, Ok, Err, refl, sym, ap, subst, ◌∙◌, append_assoc}
use Rattle.std.specs.Prelude.{unwrap_or, is_some}
use Rattle.std.specs.Option.{option_map_or}
use Rattle.cr_lattice.specs.declared.change.Change.{Change}
use Rattle.cr_lattice.specs.Keep.{keep, join}
use Rattle.cr_lattice.specs.Keep.{SameMembers}
use Rattle.cr_lattice.specs.Sync.{Knows, changes_of, changes_above}
use Rattle.cr_lattice.proofs.KeepLaws.{keep_keep, keep_members, join_keeps_first, join_keeps_second}
use Rattle.cr_lattice.proofs.SyncLemmas.{pull_above_is_pull, knows_after_pull}
use Rattle.cr_cells.specs.Holding.{Holding, kept_of, since}
use Rattle.cr_cells.specs.Marks.{Mark, seen_of}
use Rattle.cr_cells.specs.Commit.{committed}
use Rattle.cr_cells.proofs.LawLemmas.{kept-committed, since-all, changes-since}
use Rattle.cr_query.specs.Query.{Row}
use Rattle.cr_world.specs.declared.refusal.Refusal.{Refusal}
use Rattle.cr_world.specs.declared.command.Reply.{Reply}
use Rattle.cr_world.specs.declared.command.Script.{Script as TheScript}
use Rattle.cr_world.specs.Resolved.{Resolved, Select, Mark as Marks, Insert, Update, Delete, Create, Alter, Begin, Commit, Rollback}
use Rattle.cr_world.specs.Language.{Language, Piece, Statement, Unread}
use Rattle.cr_world.specs.State.{State, ModuleState}
use Rattle.cr_world.specs.Statement.{Host, Answers, ModulesLeave, adding, ended, writes, changes_by, commits, left_by, is_memory, ends, stepped, allowed_of, rows_of}
use Rattle.cr_world.specs.Scripts.{Moment, Runs, RunsEach, accepted, moment, after_script, added_by, added_by_script}
use Rattle.cr_world.specs.World.{World, Member, Keeps, Closures, host_of}
use Rattle.cr_world.specs.Answers.{script_run}
use Rattle.cr_world.specs.Headline.{PullsKeep, IncrementalPullsKeep}

append_nil : {X : Type 0} (xs : List X) → xs ++ [] ≡ xs
append_nil [] = refl
append_nil (x ∷ xs) = ap (λ l. x ∷ l) (append_nil xs)

pub kept_more : (h : Holding) (held more : List Change) (mark : Option Mark) → kept_of h ≡ keep held → kept_of (committed h more mark) ≡ keep (held ++ more)
kept_more h held more mark e = kept-committed h more mark (ap keep e ∙ keep_keep held ∙ sym e) ∙ ap (λ (ks : List Change). join ks more) e ∙ join_keeps_first held more

same_kept : (kept held : List Change) → kept ≡ keep held → kept ≡ keep (held ++ [])
same_kept kept held e = e ∙ ap keep (sym (append_nil held))

abbrev with_added : State → List Change → Option (List Change) → State
with_added st more o = elim o as (λ _. State) [ None ↦ record st { holding = committed st.holding more None } | Some p ↦ record st { pending = Some (p ++ more) } ]

abbrev what_commits : Bool → List Change → Option (List Change) → List Change
what_commits b more o = unwrap_or (cond (b && not (is_some o)) (Some more) None) []

write_keeps : (st : State) (b : Bool) (more held : List Change) (o : Option (List Change)) → st.pending ≡ o → kept_of st.holding ≡ keep held
    → kept_of (cond b (adding more st) st).holding ≡ keep (held ++ what_commits b more st.pending)
write_keeps st false more held o p e = same_kept (kept_of st.holding) held e
write_keeps st true more held None p e =
    ap (λ (o : Option (List Change)). kept_of (with_added st more o).holding) p
    ∙ kept_more st.holding held more None e
    ∙ ap (λ (o : Option (List Change)). keep (held ++ what_commits true more o)) (sym p)
write_keeps st true more held (Some q) p e =
    ap (λ (o : Option (List Change)). kept_of (with_added st more o).holding) p
    ∙ same_kept (kept_of st.holding) held e
    ∙ ap (λ (o : Option (List Change)). keep (held ++ what_commits true more o)) (sym p)

mark_keeps : (b : Bool) (st new : State) (held : List Change) → kept_of new.holding ≡ kept_of st.holding → kept_of st.holding ≡ keep held → kept_of (cond b st new).holding ≡ keep (held ++ [])
mark_keeps true st new held s e = same_kept (kept_of st.holding) held e
mark_keeps false st new held s e = s ∙ same_kept (kept_of st.holding) held e

left_keeps : {E : Type 0} (st : State) (r : Resolved E) (rows : List Row) (ms : List ModuleState) (held : List Change) → kept_of st.holding ≡ keep held
    → kept_of (left_by st r rows ms).holding ≡ keep (held ++ unwrap_or (commits st r rows) [])
left_keeps st (Select names q) rows ms held e = same_kept (kept_of st.holding) held e
left_keeps st (Marks t b) rows ms held e = mark_keeps b st _ held refl e
left_keeps st (Create def b) rows ms held e = mark_keeps b st _ held refl e
left_keeps st (Alter t col) rows ms held e = same_kept (kept_of st.holding) held e
left_keeps st Begin rows ms held e = same_kept (kept_of st.holding) held e
left_keeps st Commit rows ms held e = kept_more st.holding held (unwrap_or st.pending []) None e
left_keeps st Rollback rows ms held e = same_kept (kept_of st.holding) held e
left_keeps st (Insert t w) rows ms held e = write_keeps st (writes (Insert t w)) (changes_by st (Insert t w) rows) held st.pending refl e
left_keeps st (Update t w) rows ms held e = write_keeps st (writes (Update t w)) (changes_by st (Update t w) rows) held st.pending refl e
left_keeps st (Delete t w) rows ms held e = write_keeps st (writes (Delete t w)) (changes_by st (Delete t w) rows) held st.pending refl e

-- ---- modules

adding_modules : (st : State) (more : List Change) (o : Option (List Change)) → st.pending ≡ o → (adding more st).modules ≡ st.modules
adding_modules st more None p = ap (λ (o : Option (List Change)). (with_added st more o).modules) p
adding_modules st more (Some q) p = ap (λ (o : Option (List Change)). (with_added st more o).modules) p

cond_modules : (b : Bool) (st new old : State) → new.modules ≡ old.modules → st.modules ≡ old.modules → (cond b st new).modules ≡ old.modules
cond_modules true st new old e f = f
cond_modules false st new old e f = e

left_modules : {E : Type 0} (st : State) (r : Resolved E) (rows : List Row) → (left_by st r rows st.modules).modules ≡ st.modules
left_modules st (Select names q) rows = refl
left_modules st (Marks t b) rows = cond_modules b st _ st refl refl
left_modules st (Create def b) rows = cond_modules b st _ st refl refl
left_modules st (Alter t col) rows = refl
left_modules st Begin rows = refl
left_modules st Commit rows = refl
left_modules st Rollback rows = refl
left_modules st (Insert t w) rows = refl
left_modules st (Update t w) rows = cond_modules (writes (Update t w)) _ st st refl (adding_modules st _ st.pending refl)
left_modules st (Delete t w) rows = cond_modules (writes (Delete t w)) _ st st refl (adding_modules st _ st.pending refl)

-- ---- statements and scripts

pub record Stays (st : State) (held : List Change) : Type 0 where
  pub keeps : kept_of st.holding ≡ keep held
  pub none : st.modules ≡ []

refused_stays : (st : State) (a b : Bool) (held : List Change) → Stays st held → Stays (cond a st (cond b (ended st) st)) (held ++ [])
refused_stays st true b held s = record { keeps = same_kept (kept_of st.holding) held s.keeps; none = s.none }
refused_stays st false true held s = record { keeps = same_kept (kept_of st.holding) held s.keeps; none = s.none }
refused_stays st false false held s = record { keeps = same_kept (kept_of st.holding) held s.keeps; none = s.none }

module _ {S E : Type 0} (l : Language S E) (host : Host) where
  accepted_stays : (st : State) (o : Option (Resolved E)) (held : List Change) → Stays st held
      → Stays (option_map_or (λ r. left_by st r (rows_of l host st [] r) st.modules) o st) (held ++ option_map_or (λ r. unwrap_or (commits st r (rows_of l host st [] r)) []) o [])
  accepted_stays st None held s = record { keeps = same_kept (kept_of st.holding) held s.keeps; none = s.none }
  accepted_stays st (Some r) held s = record { keeps = left_keeps st r (rows_of l host st [] r) st.modules held s.keeps; none = left_modules st r (rows_of l host st [] r) ∙ s.none }

  pub script_stays : (st : State) (ps : List (Piece S)) (xs : List Reply) (f : Option Refusal) (held : List Change) → Stays st held → Stays (after_script l host st ps xs f) (held ++ added_by_script l host st ps xs)
  script_stays st [] xs f held s = subst (Stays st) (sym (append_nil held)) s
  script_stays st (Unread why ∷ ps) xs f held s = subst (Stays st) (sym (append_nil held)) s
  script_stays st (Statement x ∷ ps) [] None held s = subst (Stays st) (sym (append_nil held)) s
  script_stays st (Statement x ∷ ps) [] (Some r) held s = refused_stays st (is_memory r) (ends l host st [] x) held s
  script_stays st (Statement x ∷ ps) (y ∷ ys) f held s =
      subst (Stays (after_script l host (stepped l host st [] x (Ok y) st.modules) ps ys f)) (append_assoc held (added_by l host st x) (added_by_script l host (stepped l host st [] x (Ok y) st.modules) ps ys))
      (script_stays (stepped l host st [] x (Ok y) st.modules) ps ys f (held ++ added_by l host st x) (accepted_stays st (allowed_of l host st [] x) held s))

  -- ---- the moments of a script

  none_left : (name : Option (List ℕ)) (rows : List Row) (old ms : List ModuleState) → old ≡ [] → ModulesLeave name rows old ms → ms ≡ old
  none_left name rows old [] e h = sym e
  none_left name rows old (m ∷ ms) e h = absurd (subst (λ (o : List ModuleState). ModulesLeave name rows o (m ∷ ms)) e h)

  accepted_modules : (st : State) (o : Option (Resolved E)) → st.modules ≡ [] → (option_map_or (λ r. left_by st r (rows_of l host st [] r) st.modules) o st).modules ≡ []
  accepted_modules st None n = n
  accepted_modules st (Some r) n = left_modules st r (rows_of l host st [] r) ∙ n

  -- a session without modules stands where the statements of a script left it
  each_leaves : (st : State) (ps : List (Piece S)) (xs : List Reply) (f : Option Refusal) (new : State) → st.modules ≡ [] → RunsEach l host st ps xs f new → after_script l host st ps xs f ≡ new
  each_leaves st [] [] None new n run = sym run
  each_leaves st [] [] (Some r) new n run = absurd run
  each_leaves st [] (x ∷ xs) f new n run = absurd run
  each_leaves st (Unread why ∷ ps) [] None new n run = absurd run
  each_leaves st (Unread why ∷ ps) [] (Some r) new n run = sym run.1
  each_leaves st (Unread why ∷ ps) (x ∷ xs) f new n run = absurd run
  each_leaves st (Statement s ∷ ps) [] None new n run = absurd run
  each_leaves st (Statement s ∷ ps) [] (Some r) new n run = sym run.1
  each_leaves st (Statement s ∷ ps) (x ∷ xs) f new n run =
      let same = none_left _ _ st.modules run.0 n run.1.0.2 in
      each_leaves (accepted l host st s x) ps xs f new (accepted_modules st (allowed_of l host st [] s) n)
      (subst (λ (ms : List ModuleState). RunsEach l host (stepped l host st [] s (Ok x) ms) ps xs f new) same run.1.1)

  pub runs_leave : (st : State) (ps : List (Piece S)) (xs : List Reply) (f : Option Refusal) (new : State) → st.modules ≡ [] → Runs l host st ps xs f new → after_script l host st ps xs f ≡ new
  runs_leave st ps xs f new n (inl run) = each_leaves st ps xs f new n run
  runs_leave st ps xs f new n (inr want) = ap (λ (qs : List (Piece S)). after_script l host st qs xs f) want.0 ∙ sym want.3

  -- a moment of a session that keeps what it held has an answer for where the session stood
  pub record IsMoment (m : Moment S) : Type 0 where
    pub stays : Stays m.state m.held
    pub modules : List ModuleState
    pub answers : Answers l host m.state [] m.statement m.reply modules

  some_moment : (m n : Moment S) → Some m ≡ Some n → IsMoment m → IsMoment n
  some_moment m n e h = let q : m ≡ n = cc in subst IsMoment q h

  no_moment : {A : Type 0} (n : Moment S) → None ≡ Some n → A
  no_moment n e = absurd (let q : ⊥ = cc in q)

  each_answers : (st : State) (held : List Change) (ps : List (Piece S)) (xs : List Reply) (f : Option Refusal) (new : State) (i : ℕ) (n : Moment S)
      → Stays st held → RunsEach l host st ps xs f new → moment l host st held ps xs f i ≡ Some n → IsMoment n
  each_answers st held [] xs f new i n k run e = no_moment n e
  each_answers st held (Unread why ∷ ps) xs f new i n k run e = no_moment n e
  each_answers st held (Statement s ∷ ps) [] None new i n k run e = no_moment n e
  each_answers st held (Statement s ∷ ps) [] (Some r) new zero n k run e =
      some_moment (record { state = st; held = held; statement = s; reply = Err r }) n e (record { stays = k; modules = st.modules; answers = run.0 })
  each_answers st held (Statement s ∷ ps) [] (Some r) new (suc i) n k run e = no_moment n e
  each_answers st held (Statement s ∷ ps) (x ∷ xs) f new zero n k run e =
      some_moment (record { state = st; held = held; statement = s; reply = Ok x }) n e (record { stays = k; modules = run.0; answers = run.1.0 })
  each_answers st held (Statement s ∷ ps) (x ∷ xs) f new (suc i) n k run e =
      let same = none_left _ _ st.modules run.0 k.none run.1.0.2 in
      each_answers (accepted l host st s x) (held ++ added_by l host st s) ps xs f new i n (accepted_stays st (allowed_of l host st [] s) held k)
      (subst (λ (ms : List ModuleState). RunsEach l host (stepped l host st [] s (Ok x) ms) ps xs f new) same run.1.1) e

  pub moments_answer : (st : State) (held : List Change) (ps : List (Piece S)) (xs : List Reply) (f : Option Refusal) (new : State) (i : ℕ) (n : Moment S)
      → Stays st held → Runs l host st ps xs f new → moment l host st held ps xs f i ≡ Some n → IsMoment n
  moments_answer st held ps xs f new i n k (inl run) e = each_answers st held ps xs f new i n k run e
  moments_answer st held ps xs f new i n k (inr want) e = no_moment n (sym (ap (λ (qs : List (Piece S)). moment l host st held qs xs f i) want.0) ∙ e)

pub script_keeps : {S E : Type 0} (l : Language S E) (k : Closures) (w : World) (text : List ℕ) (x : TheScript) (m : Member) → Keeps m → Keeps (script_run l k w text x m)
script_keeps l k w text x m h =
    let s = script_stays l (host_of k w) m.state (l.pieces text) x.replies x.refusal m.held (record { keeps = h.keeps; none = h.no_modules }) in
    record { keeps = s.keeps; no_modules = s.none }

-- ---- pulls

both_keep : (mine theirs held held' : List Change) → mine ≡ keep held → theirs ≡ keep held' → join mine theirs ≡ keep (held ++ held')
both_keep mine theirs held held' e f = (λ i. join (e i) (f i)) ∙ join_keeps_first held (keep held') ∙ join_keeps_second held held'

fixed : (h : Holding) (held : List Change) → kept_of h ≡ keep held → keep (kept_of h) ≡ kept_of h
fixed h held e = ap keep e ∙ keep_keep held ∙ sym e

join_members : (mine a b : List Change) → SameMembers a b → join mine a ≡ join mine b
join_members mine a b s = sym (join_keeps_second mine a) ∙ ap (join mine) (keep_members a b s) ∙ join_keeps_second mine b

pub pull_keeps : {S E : Type 0} (l : Language S E) (k : Closures) → PullsKeep l k
pull_keeps l k m peer h g sound = record {
  keeps =
      kept-committed m.state.holding (changes_of (since peer.state.holding.cells (pos 0))) None (fixed m.state.holding m.held h.keeps)
      ∙ join_members (kept_of m.state.holding) (changes_of (since peer.state.holding.cells (pos 0))) (kept_of peer.state.holding) (since-all peer.state.holding sound)
      ∙ both_keep (kept_of m.state.holding) (kept_of peer.state.holding) m.held peer.held h.keeps g.keeps;
  no_modules = h.no_modules;
}

pub incremental_pull_keeps : {S E : Type 0} (l : Language S E) (k : Closures) → IncrementalPullsKeep l k
incremental_pull_keeps l k m peer h g knows =
    let mine = kept_of m.state.holding in
    let mark = seen_of m.state.holding.marks peer.state.holding.site in
    let taken = changes_of (since peer.state.holding.cells mark) in
    let members : SameMembers taken (changes_above mark peer.state.holding.cells) = changes-since peer.state.holding.cells mark in
    let joined = kept-committed m.state.holding taken (Some (peer.state.holding.site, peer.state.holding.version)) (fixed m.state.holding m.held h.keeps) in (
      record {
        keeps = joined ∙ pull_above_is_pull mine taken peer.state.holding.cells peer.state.holding.version mark members knows
            ∙ both_keep mine (kept_of peer.state.holding) m.held peer.held h.keeps g.keeps;
        no_modules = h.no_modules;
      },
      subst (λ (ks : List Change). Knows ks peer.state.holding.cells peer.state.holding.version peer.state.holding.version) (sym joined)
          (knows_after_pull mine taken peer.state.holding.cells peer.state.holding.version mark members knows),
    )
