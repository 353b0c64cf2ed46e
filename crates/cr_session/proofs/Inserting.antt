-- INSERT of a session, from the rows that it brings to where the session then stands.
use Rattle.std.proofs.Common.{◌≡◌, ◌⊎◌, inl, inr, ℕ, true, false, List, ◌++◌, Result, Err, sym, subst, ◌∙◌}
use Rattle.std.specs.Option.{ForSome}
use Rattle.cr_value.specs.declared.value.Value.{Value}
use Rattle.cr_lattice.specs.declared.change.Change.{Change}
use Rattle.cr_lattice.specs.declared.table.Table.{Table}
use Rattle.cr_lattice.specs.declared.table.TableDef.{TableDef}
use Rattle.cr_lattice.specs.Rows.{rows}
use Rattle.cr_cells.specs.Holding.{Holding, IsSound}
use Rattle.cr_cells.specs.Tables.{AreWellFormed}
use Rattle.cr_term.specs.declared.query.Insert.{Insert}
use Rattle.cr_term.specs.declared.query.Resolved.TheVariants as r
use Rattle.cr_scalar.specs.Host.{Host as Means}
use Rattle.cr_scalar.specs.declared.fault.EvalFault.{EvalFault}
use Rattle.cr_query.specs.Query.{Row}
use Rattle.cr_exec.specs.Answers.{Faults, IsMeant}
use Rattle.cr_replica.specs.declared.snapshot.Snapshot.{Snapshot}
use Rattle.cr_snapshot.specs.Seen.{IsNamed, catalog_of}
use Rattle.cr_taken.specs.Taken.{AreKept}
use Rattle.cr_touched.specs.Parts.{is_key_of, keys_of, part}
use Rattle.cr_world.specs.declared.command.Reply.{Reply}
use Rattle.cr_world.specs.declared.refusal.Refusal.{Refusal}
use Rattle.cr_world.specs.declared.refusal.Refusal.TheVariants as refusal
use Rattle.cr_world.specs.Refusals.{of_fault}
use Rattle.cr_world.specs.Causes.{Free}
use Rattle.cr_world.specs.State.{State, now}
use Rattle.cr_world.specs.Statement.{Host}
use Rattle.cr_fit.specs.Suited.{HasRelation}
use Rattle.cr_changed.specs.Changed.{AreMade, IsRefused, Leads, Stands, StandsAlone, insert_brings, insert_wants}
use Rattle.cr_session.specs.Performing.{Adds, Performed, is_table, not_replicated}
use Rattle.cr_session.specs.Sessions.{SessionOf, clean, honest, standing}
use Rattle.cr_session.proofs.Changing.{Replicated}
use Rattle.cr_session.proofs.Bringing.{alone_stands, faults_behind, made_leads, made_over, told_over, told_refused}
use Rattle.cr_session.proofs.Committing.{insert_refused_rows, inserts, replicated_seen, replicated_there}
use Rattle.cr_session.proofs.Looking.{after_look}
use Rattle.cr_session.proofs.Seeing.{now_kept}

-- what may stand against rows, or memory is wanting
abbrev pub Told : TableDef → List ℕ → List Change → List Row → Refusal → Type 0
Told def site kept rows f = (f ≡ refusal.Memory) ⊎ Stands def site kept rows f

module _ {C : Type 0} (means : Means) (params : List Value) (host : Host) (is_honest is_clean : C → Type 0) (holding : C → Holding) (old middle : SessionOf C) (names : Snapshot) (named : is_clean old.0 → IsNamed (standing holding old) names)
    (i : Insert) (has : HasRelation (catalog_of names) i.relation) (e : is_table i.relation.held ≡ true) (yet : not_replicated i.relation ≡ Free) (used : i.is_ignored ≡ false)
    (more : List Row) (both : IsMeant means params (insert_brings i) more) (honest_was : is_honest middle.0 → is_honest old.0) (was : is_clean middle.0 → is_clean old.0) (stays : is_honest middle.0 → is_clean old.0 → is_clean middle.0) (same : is_clean middle.0 → standing holding middle ≡ standing holding old) where
  abbrev stands : State
  stands = standing holding old

  abbrev def : TableDef
  def = i.relation.definition

  -- all rows that show there with those that come
  abbrev all : List Row
  all = rows (now stands) def ++ more

  named_then : is_clean middle.0 → IsNamed (standing holding middle) names
  named_then clean = subst (λ (st : State). IsNamed st names) (sym (same clean)) (named (was clean))

  abbrev Does : Result Reply Refusal → SessionOf C → Type 0
  Does result new = Performed means params host (honest is_honest) (clean is_clean) (standing holding) old (r.Insert i) result new

  pub brings : (changes : List Change) (result : Result Reply Refusal) (new : SessionOf C) → (is_clean middle.0 → AreMade def stands.holding.site (now stands) all changes)
      → Adds host (honest is_honest) (clean is_clean) (standing holding) middle changes result new → Does result new
  brings changes result new made added =
      after_look means params host is_honest is_clean holding old middle (r.Insert i) honest_was was same result new stays
      (inserts means params host is_honest is_clean holding middle names named_then i has e yet used new changes result
      (λ clean. subst (λ (st : State). Leads means params def st.holding.site (now st) (insert_wants (now st) i) changes) (sym (same clean)) (made_leads means params i more both (now stands) stands.holding.site changes (made clean))) added)

  pub brings_refused : (f : Refusal) → (is_clean middle.0 → Told def stands.holding.site (now stands) all f) → Does (Err f) middle
  brings_refused f told =
      after_look means params host is_honest is_clean holding old middle (r.Insert i) honest_was was same (Err f) middle stays
      (insert_refused_rows means params host is_honest is_clean holding middle names named_then i has e yet used f
      (λ clean. subst (λ (st : State). IsRefused means params def st.holding.site (now st) (insert_wants (now st) i) f) (sym (same clean)) (told_refused means params i more both (now stands) stands.holding.site f (told clean))))

-- the fault of an expression
pub insert_faults : {C : Type 0} (means : Means) (params : List Value) (host : Host) (is_honest is_clean : C → Type 0) (holding : C → Holding) (old : SessionOf C) (names : Snapshot) (named : is_clean old.0 → IsNamed (standing holding old) names)
    (i : Insert) (has : HasRelation (catalog_of names) i.relation) (e : is_table i.relation.held ≡ true) (yet : not_replicated i.relation ≡ Free) (used : i.is_ignored ≡ false) (fault : EvalFault) (f : Refusal) → f ≡ of_fault fault
    → Faults means params (insert_brings i) fault → Performed means params host (honest is_honest) (clean is_clean) (standing holding) old (r.Insert i) (Err f) old
insert_faults means params host is_honest is_clean holding old names named i has e yet used fault f told faults =
    insert_refused_rows means params host is_honest is_clean holding old names named i has e yet used f
    (λ clean. inr (inl (fault, told, faults_behind means params i (now (standing holding old)) fault faults)))

-- ---- by what is seen of the keys of the rows

module _ {C : Type 0} (is_clean : C → Type 0) (holding : C → Holding) (old : SessionOf C) (sound : is_clean old.0 → IsSound (holding old.0)) (names : Snapshot) (named : is_clean old.0 → IsNamed (standing holding old) names)
    (fit : ForSome old.1 (AreWellFormed names.tables)) (i : Insert) (has : HasRelation (catalog_of names) i.relation) (e : is_table i.relation.held ≡ true) (yet : not_replicated i.relation ≡ Free) (more : List Row) where
  abbrev at : State
  at = standing holding old

  abbrev table : TableDef
  table = i.relation.definition

  module _ (here : is_clean old.0) where
    there : Replicated at table
    there = replicated_seen at names table (named here) (replicated_there names i.relation has e yet)

    are : AreKept at.holding.tables (now at)
    are = now_kept (holding old.0) old.1 (sound here) (subst (λ (ts : List Table). ForSome old.1 (AreWellFormed ts)) (named here).tables fit)

    pub alone_told : (f : Refusal) → StandsAlone table more f → Told table at.holding.site (now at) (rows (now at) table ++ more) f
    alone_told f s = inr (alone_stands at.holding.tables (now at) table are there more at.holding.site f s)

    module _ (kept : List Change) (site : List ℕ) (seen : kept ≡ part table.name (is_key_of (keys_of table more)) (now at)) (own : site ≡ names.site) where
      own_there : site ≡ at.holding.site
      own_there = own ∙ (named here).site

      pub made_read : (changes : List Change) → AreMade table site kept (rows kept table ++ more) changes → AreMade table at.holding.site (now at) (rows (now at) table ++ more) changes
      made_read changes m =
          made_over at.holding.tables (now at) table are there more kept seen at.holding.site changes
          (subst (λ (x : List ℕ). AreMade table x kept (rows kept table ++ more) changes) own_there m)

      pub told_read : (f : Refusal) → Told table site kept (rows kept table ++ more) f → Told table at.holding.site (now at) (rows (now at) table ++ more) f
      told_read f t =
          told_over at.holding.tables (now at) table are there more kept seen at.holding.site f
          (subst (λ (x : List ℕ). Told table x kept (rows kept table ++ more) f) own_there t)
