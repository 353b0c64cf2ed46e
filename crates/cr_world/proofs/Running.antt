-- Runs of a fleet, command by command, and what two replicas answer that held the same.
use Rattle.std.proofs.Common.{◌≡◌, ℕ, zero, suc, List, [], ◌∷◌, Option, Some, None, refl, sym, ap, subst, ◌∙◌, slice_get}
use Rattle.cr_lattice.proofs.KeepLaws.{keep_members}
use Rattle.cr_cells.specs.Holding.{kept_of}
use Rattle.cr_guard.specs.Guard.{asked, vetoed}
use Rattle.cr_world.specs.declared.command.Command.{Command}
use Rattle.cr_world.specs.declared.command.Command.TheVariants.{Open, Use, Define, Take, Rows, Changes, Pull, PullSince, Policy, Sql}
use Rattle.cr_world.specs.declared.command.FleetReply.{FleetReply}
use Rattle.cr_world.specs.declared.command.FleetReply.TheVariants.{Script, Rows as Shown, Changes as Told, Done, Refused}
use Rattle.cr_world.specs.Language.{Language, IsLanguage}
use Rattle.cr_world.specs.State.{State, now, with_pending}
use Rattle.cr_world.specs.Statement.{Host, Answers as AnswersTo}
use Rattle.cr_world.specs.Scripts.{Moment}
use Rattle.cr_world.specs.World.{World, Member, AllKeep, Closures, host_of, used}
use Rattle.cr_world.specs.Answers.{Answers, OfUsed, RunsScript, after}
use Rattle.cr_world.specs.Run.{Run, world_before, moment_of_used, moment_of, moment_at}
use Rattle.cr_world.specs.Headline.{AreAlike, ShowTheSame, Converges, RowsConverge}
use Rattle.cr_world.proofs.Alike.{sessions_agree}
use Rattle.cr_world.proofs.Keeping.{Stays, IsMoment, moments_answer}
use Rattle.cr_world.proofs.Showing.{used_keeps, both_shown}

-- outside a transaction the rows shown are those of what is kept
now_outside : (st : State) → st.pending ≡ None → now st ≡ kept_of st.holding
unfolding now
now_outside st e = ap (with_pending (kept_of st.holding)) e

now_same : {S : Type 0} (names : List (List ℕ)) (m n : Moment S) → Stays m.state m.held → Stays n.state n.held → AreAlike names m n → now m.state ≡ now n.state
now_same names m n k h a =
    now_outside m.state a.first ∙ k.keeps ∙ keep_members m.held n.held a.held ∙ sym h.keeps ∙ sym (now_outside n.state a.second)

module _ {S E : Type 0} (l : Language S E) (k : Closures) where
  -- the reply at a place of a run
  record ReplyAt (w : World) (cs : List Command) (rs : List FleetReply) (p : ℕ) (c : Command) : Type 0 where
    reply : FleetReply
    at : slice_get rs p ≡ Some reply
    answers : Answers l k (world_before l k w cs rs p) c reply
    keep : AllKeep (world_before l k w cs rs p)

  run_at : (w : World) (cs : List Command) (rs : List FleetReply) (p : ℕ) (c : Command) → Run l k w cs rs → slice_get cs p ≡ Some c → ReplyAt w cs rs p c
  run_at w [] rs p c run e = absurd (let q : ⊥ = cc in q)
  run_at w (d ∷ ds) [] p c run e = absurd run
  run_at w (d ∷ ds) (x ∷ xs) zero c run e = record { reply = x; at = refl; answers = (let q : d ≡ c = cc in subst (λ (z : Command). Answers l k w z x) q run.1); keep = run.0 }
  run_at w (d ∷ ds) (x ∷ xs) (suc p) c run e = let t = run_at (after l k w d x) ds xs p c run.2 e in record { reply = t.reply; at = t.at; answers = t.answers; keep = t.keep }

  -- ---- rows

  pub rows_converge : (w : World) (cs : List Command) (rs : List FleetReply) → Run l k w cs rs → RowsConverge l k w cs rs
  rows_converge w cs rs run p q name e f h t =
      let a = run_at w cs rs p (Rows name) run e in
      let b = run_at w cs rs q (Rows name) run f in
      subst (λ (o : Option FleetReply). ShowTheSame o (slice_get rs q)) (sym a.at)
      (subst (λ (o : Option FleetReply). ShowTheSame (Some a.reply) o) (sym b.at)
      (both_shown l k (world_before l k w cs rs p) (world_before l k w cs rs q) name a.reply b.reply a.keep b.keep h t a.answers b.answers))

  -- ---- statements

  no_moment : {A : Type 0} (n : Moment S) → None ≡ Some n → A
  no_moment n e = absurd (let q : ⊥ = cc in q)

  -- a statement that a script came to is answered for where its replica stood, which kept what it held
  in_script : (w : World) (text : List ℕ) (reply : FleetReply) (i : ℕ) (n : Moment S) (o : Option Member) → AllKeep w → used w ≡ o
      → OfUsed o reply (λ m. RunsScript l k w m text reply) → moment_of_used l k w o text (Some reply) i ≡ Some n → IsMoment l (host_of k w) n
  in_script w text reply i n None keep u a e = no_moment n e
  in_script w text Done i n (Some m) keep u a e = no_moment n e
  in_script w text (Shown rows) i n (Some m) keep u a e = no_moment n e
  in_script w text (Told cells) i n (Some m) keep u a e = no_moment n e
  in_script w text (Refused r) i n (Some m) keep u a e = no_moment n e
  in_script w text (Script x) i n (Some m) keep u a e =
      let h = used_keeps w w.in_use m keep u in
      moments_answer l (host_of k w) m.state m.held (l.pieces text) x.replies x.refusal a.0 i n (record { keeps = h.keeps; none = h.no_modules }) a.1 e

  in_command : (w : World) (c : Command) (reply : FleetReply) (i : ℕ) (n : Moment S) → AllKeep w → Answers l k w c reply → moment_of l k w (Some c) (Some reply) i ≡ Some n → IsMoment l (host_of k w) n
  in_command w (Sql text) reply i n keep a e = in_script w text reply i n (used w) keep refl a e
  in_command w (Open name site) reply i n keep a e = no_moment n e
  in_command w (Use name) reply i n keep a e = no_moment n e
  in_command w (Define d) reply i n keep a e = no_moment n e
  in_command w (Take row) reply i n keep a e = no_moment n e
  in_command w (Rows name) reply i n keep a e = no_moment n e
  in_command w (Changes v) reply i n keep a e = no_moment n e
  in_command w (Pull name) reply i n keep a e = no_moment n e
  in_command w (PullSince name) reply i n keep a e = no_moment n e
  in_command w (Policy rule) reply i n keep a e = no_moment n e

  at_command : (w : World) (cs : List Command) (rs : List FleetReply) (p i : ℕ) (n : Moment S) (o : Option Command) → Run l k w cs rs → slice_get cs p ≡ o
      → moment_of l k (world_before l k w cs rs p) o (slice_get rs p) i ≡ Some n → IsMoment l (host_of k (world_before l k w cs rs p)) n
  at_command w cs rs p i n None run f e = no_moment n e
  at_command w cs rs p i n (Some c) run f e =
      let t = run_at w cs rs p c run f in
      in_command (world_before l k w cs rs p) c t.reply i n t.keep t.answers
      (subst (λ (o : Option FleetReply). moment_of l k (world_before l k w cs rs p) (Some c) o i ≡ Some n) t.at e)

  pub moments_stand : (w : World) (cs : List Command) (rs : List FleetReply) (p i : ℕ) (n : Moment S) → Run l k w cs rs → moment_at l k w cs rs p i ≡ Some n
      → IsMoment l (host_of k (world_before l k w cs rs p)) n
  moments_stand w cs rs p i n run e = at_command w cs rs p i n (slice_get cs p) run refl e

  -- ---- the headline

  hosts_same : (v w : World) → v.rules ≡ w.rules → host_of k v ≡ host_of k w
  hosts_same v w e = λ i. record { ask = asked (e i) k.allows; vetoes = vetoed (e i) k.refuses }

  pub run_converges : IsLanguage l → (w : World) (cs : List Command) (rs : List FleetReply) → Run l k w cs rs → Converges l k w cs rs
  run_converges law w cs rs run p q i j m n e f same sel free a r =
      let x = moments_stand w cs rs p i m run e in
      let y = moments_stand w cs rs q j n run f in
      let host = host_of k (world_before l k w cs rs q) in
      sessions_agree l law host [] n.statement m.state n.state m.reply n.reply x.modules y.modules sel free (now_same (l.names n.statement) m n x.stays y.stays a) a.tables
      (subst (λ (h : Host). AnswersTo l h m.state [] n.statement m.reply x.modules) (hosts_same (world_before l k w cs rs p) (world_before l k w cs rs q) r)
      (subst (λ (s : S). AnswersTo l (host_of k (world_before l k w cs rs p)) m.state [] s m.reply x.modules) same x.answers))
      y.answers
