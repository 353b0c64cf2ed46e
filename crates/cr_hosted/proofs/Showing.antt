-- A SELECT over modules answers what stands there, in whatever order they give their rows.
use Rattle.std.proofs.Common.{◌≡◌, inl, inr, ℕ, true, false, List, [], map, find, Option, Result, Ok, Err, refl, sym, ap, subst, ◌∙◌}
use Rattle.std.specs.Prelude.{unwrap_or}
use Rattle.std.specs.Cmp.{IsTotalOrder}
use Rattle.cr_value.specs.declared.value.Value.{Value}
use Rattle.cr_lattice.specs.declared.change.Change.{Change}
use Rattle.cr_cells.specs.Holding.{Holding}
use Rattle.cr_cells.specs.Tables.{is_named}
use Rattle.cr_delta.proofs.Among.{Among}
use Rattle.cr_scalar.specs.Host.{Host as Means}
use Rattle.cr_term.specs.declared.query.Joined.{Joined}
use Rattle.cr_term.specs.declared.query.Query.{Query}
use Rattle.cr_term.specs.declared.query.Resolved.TheVariants as r
use Rattle.cr_language.specs.Sql.{view}
use Rattle.cr_replica.specs.declared.snapshot.Listing.{Listing}
use Rattle.cr_replica.specs.declared.snapshot.Snapshot.{Snapshot}
use Rattle.cr_snapshot.specs.Seen.{IsSeen, name_of}
use Rattle.cr_world.specs.declared.command.Reply.{Reply}
use Rattle.cr_world.specs.declared.refusal.Refusal.{Refusal}
use Rattle.cr_world.specs.State.{State, ModuleState, row_of, rows_or}
use Rattle.cr_world.specs.Statement.{Host, touches}
use Rattle.cr_session.specs.Lookup.{IsSeenIn, ShowsStrictly, ShowsTables, in_order, names_changes}
use Rattle.cr_session.specs.Performing.{PerformsWith, PerformedWith, Says, placed, with_limit}
use Rattle.cr_session.specs.Sessions.{state_of}
use Rattle.cr_session.proofs.Beside.{all_stay}
use Rattle.cr_session.proofs.Making.{still}
use Rattle.cr_session.proofs.ByTable.{is_one_of, not_changes, rows_or_alike}
use Rattle.cr_touched.specs.Tables.{is_name_of}
use Rattle.cr_modules.specs.States.{Best}
use Rattle.cr_hosted.specs.Planned.{ShowsModules}
use Rattle.cr_hosted.proofs.ByPlan.{HasName, shows_planned}

-- ---- what a session saw

all_has : (st : State) (snap : Snapshot) → IsSeen st snap → (name : List ℕ) → HasName st snap name
all_has st snap is name = record {
  rows = λ others i. rows_or (sym is.kept i) (find (is_named name) (sym is.tables i)) others;
  changes = λ e. ap (map row_of) (sym is.cells);
}

some_has : (h : Holding) (pending : Option (List Change)) (tables : List (List ℕ)) (snap : Snapshot) → IsSeenIn (state_of h pending) tables snap → names_changes tables ≡ false
    → (name : List ℕ) → is_name_of tables name ≡ true → HasName (state_of h pending) snap name
some_has h pending tables snap at other name there = record {
  rows = λ others. rows_or_alike h pending tables snap at name there (find (is_named name) h.tables) refl others ∙ (λ i. rows_or (sym at.kept i) (find (is_named name) (sym at.named.tables i)) others);
  changes = λ e. absurd (let q : true ≡ false = sym e ∙ not_changes tables name other there in let z : ⊥ = cc in z);
}

saw : (h : Holding) (pending : Option (List Change)) (snap : Snapshot) (q : Query) → ShowsTables (state_of h pending) (in_order (map name_of q.joined)) snap
    → (j : Joined) → Among q.joined j → HasName (state_of h pending) snap (name_of j)
saw h pending snap q (inl all) j m = all_has (state_of h pending) snap all.1 (name_of j)
saw h pending snap q (inr some) j m = some_has h pending (in_order (map name_of q.joined)) snap some.1 some.0 (name_of j) (is_one_of q.joined j m)

-- beside modules, which gave rows by what they were offered, a query answers over what a session saw of its tables
pub shows_modules : (h : Holding) (pending : Option (List Change)) (bests : List Best) (ms : List ModuleState) (snap : Snapshot) (ls : List Listing) (means : Means) (params : List Value) (q : Query) → ((name : List ℕ) → IsTotalOrder (means.order name))
    → ShowsTables (state_of h pending) (in_order (map name_of q.joined)) snap → ShowsModules means params snap.tables bests ms q ls → ShowsStrictly means params q (placed ms (state_of h pending)) (record snap { modules = ls })
shows_modules h pending bests ms snap ls means params q total shown shows = shows_planned means params q total h pending snap bests ms ls shows (saw h pending snap q shown)

-- a query leaves the modules as they are
pub answers_beside : (means : Means) (params : List Value) (host : Host) (st : State) (q : Query) (result : Result Reply Refusal) → touches st.modules (view (r.Select q)) ≡ true → Says means params host st (view (r.Select q)) result st → PerformsWith means params host st (view (r.Select q)) result st
answers_beside means params host st q (Ok reply) touched p = (p.0, (p.1.0, (all_stay (unwrap_or (with_limit means params host st (view (r.Select q))) []) st.modules, refl)))
answers_beside means params host st q (Err f) touched p = (p.0, (p.1, λ untouched. absurd (let e : true ≡ false = sym touched ∙ untouched in let z : ⊥ = cc in z)))

-- a session beside modules
pub selects : {H : Type 0} {means : Means} {params : List Value} {host : Host} {is_honest is_clean : H → Type 0} {stands : H → State} (old new : H) (q : Query) (result : Result Reply Refusal) (h : Holding) (pending : Option (List Change)) (bests : List Best) (ms : List ModuleState) (snap : Snapshot) (ls : List Listing)
    → touches ms (view (r.Select q)) ≡ true → stands old ≡ placed ms (state_of h pending) → (is_clean new → stands new ≡ stands old) → ((name : List ℕ) → IsTotalOrder (means.order name)) → (is_clean new → ShowsTables (state_of h pending) (in_order (map name_of q.joined)) snap) → ShowsModules means params snap.tables bests ms q ls
    → ((st : State) → ShowsStrictly means params q st (record snap { modules = ls }) → Says means params host st (view (r.Select q)) result st)
    → (is_honest new → is_honest old) → (is_clean new → is_clean old) → (is_honest new → is_clean old → is_clean new) → PerformedWith means params host is_honest is_clean stands old (r.Select q) result new
selects {H} {means} {params} {host} {is_honest} {is_clean} {stands} old new q result h pending bests ms snap ls touched here same total shown listed answered honest_was was stays = record {
  device = record { was_honest = honest_was; was_clean = was; stays_clean = λ honest clean. still result (is_clean new) (stays honest clean) };
  performs = λ clean.
      subst (PerformsWith means params host (stands old) (view (r.Select q)) result) (sym (same clean))
      (subst (λ (st : State). PerformsWith means params host st (view (r.Select q)) result st) (sym here)
      (answers_beside means params host (placed ms (state_of h pending)) q result touched (answered (placed ms (state_of h pending)) (shows_modules h pending bests ms snap ls means params q total (shown clean) listed))));
}
