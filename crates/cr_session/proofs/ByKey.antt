-- What is seen of some keys suffices for a statement whose WHERE leaves out the rows of others, and else what is seen of the tables that
-- it names.
use Rattle.std.proofs.Common.{◌≡◌, inl, inr, ℕ, true, false, List, [], ◌∷◌, Option, Some, Result, Ok, Err, refl, sym, ap, subst, ◌∙◌, ◌≤◌, ◌<◌, arith, find, get_or, length, map}
use Rattle.std.specs.Prelude.{◌==◌}
use Rattle.std.proofs.lemmas.Bool.{eqb-true}
use Rattle.cr_value.specs.declared.value.Value.{Value}
use Rattle.cr_lattice.specs.declared.change.Change.{Change}
use Rattle.cr_lattice.specs.declared.table.Table.{Table}
use Rattle.cr_lattice.specs.declared.table.TableDef.{TableDef}
use Rattle.cr_lattice.specs.Profile.{has_key}
use Rattle.cr_cells.specs.declared.store.CellsError.{CellsError}
use Rattle.cr_cells.specs.Holding.{Holding, IsSound}
use Rattle.cr_cells.specs.Tables.{has_defaults, is_named}
use Rattle.cr_delta.proofs.Among.{Among}
use Rattle.cr_term.specs.declared.expr.Expr.{Expr}
use Rattle.cr_term.specs.declared.query.Delete.{Delete}
use Rattle.cr_term.specs.declared.query.Joined.{Joined}
use Rattle.cr_term.specs.declared.query.Query.{Query}
use Rattle.cr_term.specs.declared.query.Update.{Update}
use Rattle.cr_scalar.specs.Host.{Host as Means}
use Rattle.cr_query.specs.Query.{answer}
use Rattle.cr_meaning.specs.View.{query}
use Rattle.cr_meaning.specs.Meaning.{regarded}
use Rattle.cr_replica.specs.declared.snapshot.Snapshot.{Snapshot}
use Rattle.cr_snapshot.specs.Seen.{IsSeen, name_of}
use Rattle.cr_snapshot.proofs.Standing.{named}
use Rattle.cr_taken.specs.Taken.{Replicates, replicated}
use Rattle.cr_touched.specs.Parts.{is_key_of, part}
use Rattle.cr_touched.specs.Tables.{is_name_of}
use Rattle.cr_touched.specs.Shown.{AreKeptOf}
use Rattle.cr_world.specs.declared.refusal.Refusal.{Refusal}
use Rattle.cr_world.specs.State.{State, now}
use Rattle.cr_changed.specs.Changed.{Changes, IsRefused, Leads}
use Rattle.cr_sought.specs.Laws.{LeaveOutOthers, of_keys}
use Rattle.cr_sought.specs.Sought.{assigns_key}
use Rattle.cr_sought.specs.Writes.{delete_over, update_over}
use Rattle.cr_sought.proofs.Answers.{answers_by_keys, telling_leaves_out}
use Rattle.cr_sought.proofs.Writes.{deletes_by_keys, updates_by_keys}
use Rattle.cr_session.specs.Lookup.{IsLook, IsSeenAt, IsSought, IsWithin, Looks, ShowsDelete, ShowsQuery, ShowsTables, ShowsUpdate, in_order}
use Rattle.cr_session.specs.Sessions.{state_of}
use Rattle.cr_session.proofs.ByTable.{delete_of_table, is_one_of, is_only, query_of_tables, update_of_table}
use Rattle.cr_session.proofs.OfTables.{now_unbeaten}
use Rattle.cr_session.proofs.OneTable as one
use Rattle.cr_session.proofs.Selecting.{tables_are}

-- ---- the table of the name, and what shows of the keys

module _ (means : Means) (params : List Value) (h : Holding) (sound : IsSound h) (pending : Option (List Change)) (name : List ℕ) (terms : List Expr) (keys : List (List ℕ))
    (is : IsWithin means params (state_of h pending) name terms keys) (snap : Snapshot) (at : IsSeenAt (state_of h pending) name keys snap) where
  abbrev st : State
  st = state_of h pending

  abbrev def : TableDef
  def = is.def

  abbrev name_is : def.name ≡ name
  name_is = one.name_is h sound pending name is.fit def is.there

  kept_is : snap.kept ≡ of_keys def keys (now st)
  kept_is = at.kept ∙ (λ i. part (sym name_is i) (is_key_of keys) (now st))

  abbrev keyed : has_key def ≡ true
  keyed = one.keyed h sound pending name is.fit def is.there

  abbrev defaults : has_defaults def ≡ true
  defaults = one.defaults h sound pending name is.fit def is.there

  abbrev kept_of_it : AreKeptOf def (now st)
  kept_of_it = one.kept_of_it h sound pending name is.fit def is.there

  others_of : (ts : List Expr) → ts ≡ terms → LeaveOutOthers means params def (now st) ts keys
  others_of ts same = subst (λ (x : List Expr). LeaveOutOthers means params def (now st) x keys) (sym same) is.others

  pub query_by_keys : (q : Query) (j : Joined) → q.joined ≡ j ∷ [] → j.is_left ≡ false → j.on ≡ [] → name_of j ≡ name → q.filter ≡ terms → ShowsQuery means params q st snap
  query_by_keys q j only inner no_on named same =
      one.query_of_one h sound pending name is.fit def is.there snap at.named (of_keys def keys (now st)) kept_is means params q j only named
      (λ regard limit. answers_by_keys means params regard def (now st) q j keys limit keyed kept_of_it only inner no_on (others_of q.filter same))

  -- ---- writes

  module _ (d : TableDef) (same_name : d.name ≡ name) (held : Replicates h.tables d) where
    same_def : def ≡ d
    same_def = let e : find (is_named name) h.tables ≡ Some (replicated d) = subst (λ (x : List ℕ). find (is_named x) h.tables ≡ Some (replicated d)) same_name held in
        let both : Some (replicated def) ≡ Some (replicated d) = sym is.there ∙ e in
        let same : replicated def ≡ replicated d = cc in
        ap (λ (t : Table). t.definition) same

  module _ (u : Update) (same_name : u.relation.definition.name ≡ name) (held : Replicates h.tables u.relation.definition) (same : u.filter ≡ terms) (stays : assigns_key u ≡ false) where
    made : (result : Result (List Change) Refusal) → Changes means params def snap.site snap.kept (update_over snap.kept u) result (λ changes. changes) → Changes means params def st.holding.site (now st) (update_over (now st) u) result (λ changes. changes)
    made result c =
        updates_by_keys means params def st.holding.site (now st) u keys result (λ changes. changes) keyed defaults kept_of_it (sym (same_def u.relation.definition same_name held)) stays (others_of u.filter same)
        (subst (λ (kept : List Change). Changes means params def st.holding.site kept (update_over kept u) result (λ changes. changes)) kept_is
        (subst (λ (site : List ℕ). Changes means params def site snap.kept (update_over snap.kept u) result (λ changes. changes)) at.named.site c))

    pub update_by_keys : ShowsUpdate means params u st snap
    update_by_keys = record {
      named = at.named;
      leads = λ changes l. subst (λ (t : TableDef). Leads means params t st.holding.site (now st) (update_over (now st) u) changes) (same_def u.relation.definition same_name held)
          (made (Ok changes) (subst (λ (t : TableDef). Leads means params t snap.site snap.kept (update_over snap.kept u) changes) (sym (same_def u.relation.definition same_name held)) l));
      refused = λ f l. subst (λ (t : TableDef). IsRefused means params t st.holding.site (now st) (update_over (now st) u) f) (same_def u.relation.definition same_name held)
          (made (Err f) (subst (λ (t : TableDef). IsRefused means params t snap.site snap.kept (update_over snap.kept u) f) (sym (same_def u.relation.definition same_name held)) l));
    }

  module _ (d : Delete) (same_name : d.relation.definition.name ≡ name) (held : Replicates h.tables d.relation.definition) (same : d.filter ≡ terms) where
    left : (result : Result (List Change) Refusal) → Changes means params def snap.site snap.kept (delete_over snap.kept d) result (λ changes. changes) → Changes means params def st.holding.site (now st) (delete_over (now st) d) result (λ changes. changes)
    left result c =
        deletes_by_keys means params def st.holding.site (now st) d keys result (λ changes. changes) keyed defaults kept_of_it (sym (same_def d.relation.definition same_name held)) (others_of d.filter same)
        (subst (λ (kept : List Change). Changes means params def st.holding.site kept (delete_over kept d) result (λ changes. changes)) kept_is
        (subst (λ (site : List ℕ). Changes means params def site snap.kept (delete_over snap.kept d) result (λ changes. changes)) at.named.site c))

    pub delete_by_keys : ShowsDelete means params d st snap
    delete_by_keys = record {
      named = at.named;
      leads = λ changes l. subst (λ (t : TableDef). Leads means params t st.holding.site (now st) (delete_over (now st) d) changes) (same_def d.relation.definition same_name held)
          (left (Ok changes) (subst (λ (t : TableDef). Leads means params t snap.site snap.kept (delete_over snap.kept d) changes) (sym (same_def d.relation.definition same_name held)) l));
      refused = λ f l. subst (λ (t : TableDef). IsRefused means params t st.holding.site (now st) (delete_over (now st) d) f) (same_def d.relation.definition same_name held)
          (left (Err f) (subst (λ (t : TableDef). IsRefused means params t snap.site snap.kept (delete_over snap.kept d) f) (sym (same_def d.relation.definition same_name held)) l));
    }

-- ---- all that shows there

module _ (means : Means) (params : List Value) (st : State) (snap : Snapshot) (is : IsSeen st snap) where
  pub query_seen : (q : Query) → ShowsQuery means params q st snap
  query_seen q = λ regard limit. λ i. answer (regarded regard means params) (query q) (tables_are st snap is q.joined i)

  pub update_seen : (u : Update) → ShowsUpdate means params u st snap
  update_seen u = record {
    named = named st snap is;
    leads = λ changes l. subst (λ (site : List ℕ). Leads means params u.relation.definition site (now st) (update_over (now st) u) changes) is.site
        (subst (λ (kept : List Change). Leads means params u.relation.definition snap.site kept (update_over kept u) changes) is.kept l);
    refused = λ f l. subst (λ (site : List ℕ). IsRefused means params u.relation.definition site (now st) (update_over (now st) u) f) is.site
        (subst (λ (kept : List Change). IsRefused means params u.relation.definition snap.site kept (update_over kept u) f) is.kept l);
  }

  pub delete_seen : (d : Delete) → ShowsDelete means params d st snap
  delete_seen d = record {
    named = named st snap is;
    leads = λ changes l. subst (λ (site : List ℕ). Leads means params d.relation.definition site (now st) (delete_over (now st) d) changes) is.site
        (subst (λ (kept : List Change). Leads means params d.relation.definition snap.site kept (delete_over kept d) changes) is.kept l);
    refused = λ f l. subst (λ (site : List ℕ). IsRefused means params d.relation.definition site (now st) (delete_over (now st) d) f) is.site
        (subst (λ (kept : List Change). IsRefused means params d.relation.definition snap.site kept (delete_over kept d) f) is.kept l);
  }

-- what was looked for at one place shows at the same place then
pub shows_then : (Shows : State → Snapshot → Type 0) (old new : State) (snap : Snapshot) → Looks (Shows old) old new (Ok snap) → Shows new snap
shows_then Shows old new snap l = subst (λ (x : State). Shows x snap) (sym l.same) l.looks

-- the same of tables that are the same
pub retabled : (means : Means) (params : List Value) (pending : Option (List Change)) (ts us : List Table) (name : List ℕ) (terms : List Expr) (keys : List (List ℕ)) → ts ≡ us
    → IsSought means params pending ts name terms keys → IsSought means params pending us name terms keys
retabled means params pending ts us name terms keys e is = subst (λ (x : List Table). IsSought means params pending x name terms keys) e is

-- terms that tell keys leave out the rows of others
pub sought_within : (means : Means) (params : List Value) (h : Holding) → IsSound h → (pending : Option (List Change)) (name : List ℕ) (terms : List Expr) (keys : List (List ℕ))
    → IsSought means params pending h.tables name terms keys → IsWithin means params (state_of h pending) name terms keys
sought_within means params h sound pending name terms keys is = record {
  fit = is.fit;
  def = is.def;
  there = is.there;
  others = telling_leaves_out means params is.def (now (state_of h pending)) terms keys is.bytes (one.keyed h sound pending name is.fit is.def is.there) (one.kept_of_it h sound pending name is.fit is.def is.there) is.told;
}

-- what is seen of keys within which the terms can be true
pub looked_at : (means : Means) (params : List Value) (old new : State) (name : List ℕ) (terms : List Expr) (keys : List (List ℕ)) (result : Result Snapshot CellsError)
    → IsWithin means params old name terms keys → Looks (IsSeenAt old name keys) old new result → Looks (IsLook means params old name terms) old new result
looked_at means params old new name terms keys (Ok s) is l = record { same = l.same; looks = inr (keys, is, l.looks) }
looked_at means params old new name terms keys (Err e) is l = record { same = l.same; looks = l.looks }

-- what is seen of the table
pub looked_in : (means : Means) (params : List Value) (old new : State) (name : List ℕ) (terms : List Expr) (result : Result Snapshot CellsError)
    → Looks (ShowsTables old (name ∷ [])) old new result → Looks (IsLook means params old name terms) old new result
looked_in means params old new name terms (Ok s) l = record { same = l.same; looks = inl l.looks }
looked_in means params old new name terms (Err e) l = record { same = l.same; looks = l.looks }

-- what was looked for after a reading that left the session where it stands
pub looks_from : (Is : State → Snapshot → Type 0) (old middle new : State) (result : Result Snapshot CellsError) → middle ≡ old → Looks (Is middle) middle new result → Looks (Is old) old new result
looks_from Is old middle new result same l = subst (λ (st : State). Looks (Is st) st new result) same l

-- from one of both to what suffices
pub suffices : (P Q : Snapshot → Type 0) (old new : State) (result : Result Snapshot CellsError) → ((s : Snapshot) → P s → Q s) → Looks P old new result → Looks Q old new result
suffices P Q old new (Ok s) f l = record { same = l.same; looks = f s l.looks }
suffices P Q old new (Err e) f l = record { same = l.same; looks = l.looks }

-- a list of one
pub one_of : {X : Type 0} (xs : List X) (x : X) → 1 ≤ length xs → length xs < 2 → x ≡ get_or xs 0 x → xs ≡ x ∷ []
one_of [] x some few is = absurd (omega (arith, some))
one_of (y ∷ []) x some few is = λ i. sym is i ∷ []
one_of (y ∷ z ∷ zs) x some few is = absurd (omega (arith, few))

pub empty_is : {X : Type 0} (xs : List X) → (length xs == 0) ≡ true → xs ≡ []
empty_is [] none = refl
empty_is (x ∷ xs) none = let e = eqb-true (length (x ∷ xs)) 0 none in absurd (omega (arith, e))

-- the names of one table are its own
each_only : (js : List Joined) (j : Joined) (name : List ℕ) → js ≡ j ∷ [] → name ≡ name_of j → (k : Joined) → Among js k → is_name_of (name ∷ []) (name_of k) ≡ true
each_only js j name one named k m =
    elim (subst (λ (l : List Joined). Among l k) one m) [ inl here ↦ is_only name (name_of k) (named ∙ ap name_of (sym here)) | inr none ↦ absurd none ]

-- ---- what suffices for a statement, of what is looked for

module _ (means : Means) (params : List Value) (h : Holding) (sound : IsSound h) (pending : Option (List Change)) (s : Snapshot) where
  abbrev here : State
  here = state_of h pending

  -- ---- what is seen of the tables that it names

  query_shown : (tables : List (List ℕ)) (q : Query) → ((j : Joined) → Among q.joined j → is_name_of tables (name_of j) ≡ true) → ShowsTables here tables s → ShowsQuery means params q here s
  query_shown tables q each (inl (named, is)) = query_seen means params here s is q
  query_shown tables q each (inr (other, at)) = query_of_tables h pending tables s at means params q other each

  pub query_joined : (q : Query) (js : List Joined) → js ≡ q.joined → ShowsTables here (in_order (map name_of js)) s → ShowsQuery means params q here s
  query_joined q js same shows = query_shown (in_order (map name_of js)) q (λ j m. is_one_of js j (subst (λ (l : List Joined). Among l j) (sym same) m)) shows

  pub update_shown : (u : Update) (name : List ℕ) → name ≡ u.relation.definition.name → ShowsTables here (name ∷ []) s → ShowsUpdate means params u here s
  update_shown u name named (inl (all, is)) = update_seen means params here s is u
  update_shown u name named (inr (other, at)) = update_of_table h pending (name ∷ []) s at means params u (is_only name u.relation.definition.name named) (now_unbeaten h pending sound)

  delete_shown : (d : Delete) (name : List ℕ) → name ≡ d.relation.definition.name → ShowsTables here (name ∷ []) s → ShowsDelete means params d here s
  delete_shown d name named (inl (all, is)) = delete_seen means params here s is d
  delete_shown d name named (inr (other, at)) = delete_of_table h pending (name ∷ []) s at means params d (is_only name d.relation.definition.name named) (now_unbeaten h pending sound)

  -- ---- that, or what is seen of some keys

  pub query_looked : (q : Query) (j : Joined) (name : List ℕ) (terms : List Expr) → q.joined ≡ j ∷ [] → j.is_left ≡ false → j.on ≡ [] → name ≡ name_of j → terms ≡ q.filter → IsLook means params here name terms s → ShowsQuery means params q here s
  query_looked q j name terms one inner no_on named same (inl shows) = query_shown (name ∷ []) q (each_only q.joined j name one named) shows
  query_looked q j name terms one inner no_on named same (inr (keys, within, at)) = query_by_keys means params h sound pending name terms keys within s at q j one inner no_on (sym named) (sym same)

  pub update_looked : (u : Update) (name : List ℕ) (terms : List Expr) → name ≡ u.relation.definition.name → terms ≡ u.filter → assigns_key u ≡ false → Replicates h.tables u.relation.definition
      → IsLook means params here name terms s → ShowsUpdate means params u here s
  update_looked u name terms named same stays held (inl shows) = update_shown u name named shows
  update_looked u name terms named same stays held (inr (keys, within, at)) = update_by_keys means params h sound pending name terms keys within s at u (sym named) held (sym same) stays

  pub delete_looked : (d : Delete) (name : List ℕ) (terms : List Expr) → name ≡ d.relation.definition.name → terms ≡ d.filter → Replicates h.tables d.relation.definition
      → IsLook means params here name terms s → ShowsDelete means params d here s
  delete_looked d name terms named same held (inl shows) = delete_shown d name named shows
  delete_looked d name terms named same held (inr (keys, within, at)) = delete_by_keys means params h sound pending name terms keys within s at d (sym named) held (sym same)
