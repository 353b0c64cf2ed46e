-- Writes of a session, from what a snapshot shows to where the session then stands.
use Rattle.std.proofs.Common.{◌≡◌, inl, Bool, true, false, ◌&&◌, cond, List, [], ◌∷◌, Option, Some, None, Result, Err, refl, sym, ap, subst, ◌∙◌, find}
use Rattle.std.specs.Prelude.{if◌then◌else◌}
use Rattle.std.specs.Option.{is_none}
use Rattle.std.specs.List.{list_all}
use Rattle.cr_value.specs.declared.value.Value.{Value}
use Rattle.cr_lattice.specs.declared.catalog.Catalog.{Catalog}
use Rattle.cr_lattice.specs.declared.change.Change.{Change}
use Rattle.cr_lattice.specs.declared.profile.ProfileFault.{ProfileFault}
use Rattle.cr_lattice.specs.declared.profile.ProfileFault.TheVariants as profile
use Rattle.cr_lattice.specs.declared.table.ColumnDef.{ColumnDef}
use Rattle.cr_lattice.specs.declared.table.Table.{Table}
use Rattle.cr_lattice.specs.declared.table.TableDef.{TableDef}
use Rattle.cr_lattice.specs.Profile.{profile_fault, has_key}
use Rattle.cr_lattice.specs.Rows.{rows}
use Rattle.cr_cells.specs.Holding.{Holding}
use Rattle.cr_cells.specs.Tables.{is_named}
use Rattle.cr_term.specs.declared.query.Held.{Held}
use Rattle.cr_term.specs.declared.query.Held.TheVariants as held
use Rattle.cr_term.specs.declared.query.Relation.{Relation}
use Rattle.cr_term.specs.declared.query.Insert.{Insert}
use Rattle.cr_term.specs.declared.query.Update.{Update}
use Rattle.cr_term.specs.declared.query.Delete.{Delete}
use Rattle.cr_term.specs.declared.query.Resolved.{Resolved as Answered}
use Rattle.cr_term.specs.declared.query.Resolved.TheVariants as r
use Rattle.cr_scalar.specs.Host.{Host as Means}
use Rattle.cr_query.specs.Query.{Row}
use Rattle.cr_query.specs.Queries as queries
use Rattle.cr_query.specs.Writes.{wanted_by_insert, wanted_by_update, wanted_by_delete}
use Rattle.cr_query.proofs.Refining.{Gains}
use Rattle.cr_meaning.specs.View.{Ordered, insert, update, delete}
use Rattle.cr_meaning.specs.Meaning.{exact, sized, strict}
use Rattle.cr_meaning.proofs.Limits.{refines}
use Rattle.cr_query.proofs.RefiningWrites.{insert_refines, update_refines, delete_refines}
use Rattle.cr_replica.specs.declared.snapshot.Snapshot.{Snapshot}
use Rattle.cr_replica.specs.Snapshots.{IsWhole, is_in_profile}
use Rattle.cr_snapshot.specs.Seen.{IsNamed, catalog_of}
use Rattle.cr_language.specs.Sql.{view}
use Rattle.cr_world.specs.declared.command.Reply.{Reply}
use Rattle.cr_world.specs.declared.refusal.Refusal.{Refusal}
use Rattle.cr_world.specs.Causes.{Free}
use Rattle.cr_world.specs.Resolved.{Resolved}
use Rattle.cr_world.specs.Resolved as world
use Rattle.cr_world.specs.State.{State, now}
use Rattle.cr_world.specs.Statement.{Host}
use Rattle.cr_fit.specs.Suited.{HasHeld, HasRelation}
use Rattle.cr_changed.specs.Changed.{Leads, IsRefused, insert_wants, update_wants, delete_wants}
use Rattle.cr_session.specs.Lookup.{ShowsDelete, ShowsUpdate}
use Rattle.cr_session.specs.Performing.{Adds, AreAdded, Performed, Performs, is_table, not_replicated, unreplicated}
use Rattle.cr_session.specs.Sessions.{SessionOf, clean, honest, standing}
use Rattle.cr_session.proofs.Making.{target_is, untouched}
use Rattle.cr_session.proofs.Changing.{Replicated, insert_write, update_write, delete_write, performs_write, refuses_write}

-- ---- the table that a relation is

there_by : (c : Catalog) (place : Held) (d : TableDef) → HasHeld c d place → is_table place ≡ true → unreplicated place d.name ≡ Free
    → find (is_named d.name) c.tables ≡ Some (record { definition = d; is_replicated = true })
there_by c (held.Table at true) d has e f = has
there_by c (held.Table at false) d has e f = absurd (let z : ⊥ = cc in z)
there_by c (held.Module at) d has e f = absurd (let z : ⊥ = cc in z)

-- a table that passes as a replicated one
pub replicated_there : (snap : Snapshot) (x : Relation) → HasRelation (catalog_of snap) x → is_table x.held ≡ true → not_replicated x ≡ Free
    → find (is_named x.definition.name) snap.tables ≡ Some (record { definition = x.definition; is_replicated = true })
replicated_there snap x has e f = there_by (catalog_of snap) x.held x.definition has e f

both_hold : (a b : Bool) → (a && b) ≡ true → (a ≡ true) × (b ≡ true)
both_hold true true e = (refl, refl)
both_hold true false e = absurd (let z : ⊥ = cc in z)
both_hold false b e = absurd (let z : ⊥ = cc in z)

all_at : (q : Table → Bool) (s t : Table) (b : Bool) (later : Option Table) → cond b (Some s) later ≡ Some t → q s ≡ true → (later ≡ Some t → q t ≡ true) → q t ≡ true
all_at q s t true later e good further = let same : s ≡ t = cc in ap q (sym same) ∙ good
all_at q s t false later e good further = further e

pub all_found : (p q : Table → Bool) (t : Table) (ts : List Table) → list_all q ts ≡ true → find p ts ≡ Some t → q t ≡ true
all_found p q t [] good e = absurd (let z : ⊥ = cc in z)
all_found p q t (s ∷ ts) good e =
    let both = both_hold (q s) (list_all q ts) good in
    all_at q s t (p s) (find p ts) e both.0 (λ f. all_found p q t ts both.1 f)

pub none_is : {X : Type 0} (o : Option X) → is_none o ≡ true → o ≡ None
none_is None e = refl
none_is (Some x) e = absurd (let z : ⊥ = cc in z)

keyed_by : (b : Bool) (later : Option ProfileFault) → (if b then later else Some profile.PrimaryKey) ≡ None → b ≡ true
keyed_by true later e = refl
keyed_by false later e = absurd (let z : ⊥ = cc in z)

pub has_key_by : (def : TableDef) → profile_fault def ≡ None → has_key def ≡ true
unfolding profile_fault
has_key_by def e = keyed_by (has_key def) _ e

-- a table of a snapshot has a key
pub has_key_there : (snap : Snapshot) (d : TableDef) → IsWhole snap → find (is_named d.name) snap.tables ≡ Some (record { definition = d; is_replicated = true }) → has_key d ≡ true
has_key_there snap d whole e =
    has_key_by d (none_is (profile_fault d) (all_found (is_named d.name) is_in_profile (record { definition = d; is_replicated = true }) snap.tables whole.tables e))

-- ---- what is seen of a session

pub replicated_seen : (st : State) (snap : Snapshot) (d : TableDef) → IsNamed st snap → find (is_named d.name) snap.tables ≡ Some (record { definition = d; is_replicated = true }) → Replicated st d
replicated_seen st snap d is e = subst (λ (ts : List Table). find (is_named d.name) ts ≡ Some (record { definition = d; is_replicated = true })) is.tables e

-- a limit on values takes rows away and changes none
module _ (means : Means) (params : List Value) (shown : List Row) where
  insert_gains : (cols : List ColumnDef) (w : queries.Insert Ordered) → Gains (wanted_by_insert (sized means params) cols w shown) (wanted_by_insert (exact means params) cols w shown)
  insert_gains cols w = insert_refines (sized means params) (exact means params) (refines means params (strict None) (inl refl)) cols w shown

  update_gains : (cols : List ColumnDef) (w : queries.Update Ordered) → Gains (wanted_by_update (sized means params) cols w shown) (wanted_by_update (exact means params) cols w shown)
  update_gains cols w = update_refines (sized means params) (exact means params) (refines means params (strict None) (inl refl)) cols w shown

  delete_gains : (w : queries.Delete Ordered) → Gains (wanted_by_delete (sized means params) w shown) (wanted_by_delete (exact means params) w shown)
  delete_gains w = delete_refines (sized means params) (exact means params) (refines means params (strict None) (inl refl)) w shown

-- ---- statements by their tables

insert_view : (i : Insert) (b : Bool) → is_table i.relation.held ≡ true → i.is_ignored ≡ b
    → view (r.Insert i) ≡ world.Insert (world.Table i.relation.definition) (record { places = (insert i).places; tuples = (insert i).tuples; is_ignored = b })
insert_view i b e ig = λ j. world.Insert (target_is i.relation e j) (record { places = (insert i).places; tuples = (insert i).tuples; is_ignored = ig j })

update_view : (u : Update) → is_table u.relation.held ≡ true → view (r.Update u) ≡ world.Update (world.Table u.relation.definition) (update u)
update_view u e = λ j. world.Update (target_is u.relation e j) (update u)

delete_view : (d : Delete) → is_table d.relation.held ≡ true → view (r.Delete d) ≡ world.Delete (world.Table d.relation.definition) (delete d)
delete_view d e = λ j. world.Delete (target_is d.relation e j) (delete d)

-- ---- INSERT of a session

module _ {C : Type 0} (means : Means) (params : List Value) (host : Host) (is_honest is_clean : C → Type 0) (holding : C → Holding) (old : SessionOf C) (names : Snapshot) (named : is_clean old.0 → IsNamed (standing holding old) names)
    (i : Insert) (has : HasRelation (catalog_of names) i.relation) (e : is_table i.relation.held ≡ true) (yet : not_replicated i.relation ≡ Free) (used : i.is_ignored ≡ false) where
  abbrev stands : State
  stands = standing holding old

  abbrev def : TableDef
  def = i.relation.definition

  abbrev inserting : Bool → queries.Insert Ordered
  inserting b = record { places = (insert i).places; tuples = (insert i).tuples; is_ignored = b }

  pub held_there : is_clean old.0 → Replicated stands def
  held_there clean = replicated_seen stands names def (named clean) (replicated_there names i.relation has e yet)

  -- the rows can't be inserted
  pub insert_refused_rows : (f : Refusal) → (is_clean old.0 → IsRefused means params def stands.holding.site (now stands) (insert_wants (now stands) i) f)
      → Performed means params host (honest is_honest) (clean is_clean) (standing holding) old (r.Insert i) (Err f) old
  insert_refused_rows f l = untouched means params host (honest is_honest) (clean is_clean) (standing holding) old (r.Insert i) (Err f) (λ clean.
      subst (λ (x : Resolved Ordered). Performs means params host stands x (Err f) stands) (sym (insert_view i false e used))
      (refuses_write means params host stands def _ _ (insert_write host (holding old.0) old.1 def (insert i).places (insert i).tuples) (held_there clean) f (insert_gains means params (rows (now stands) def) def.columns (inserting false))
      (subst (λ (b : Bool). IsRefused means params def stands.holding.site (now stands) (λ m. wanted_by_insert m def.columns (inserting b) (rows (now stands) def)) f) used (l clean))))

  pub inserts : (new : SessionOf C) (changes : List Change) (result : Result Reply Refusal) → (is_clean old.0 → Leads means params def stands.holding.site (now stands) (insert_wants (now stands) i) changes)
      → Adds host (honest is_honest) (clean is_clean) (standing holding) old changes result new → Performed means params host (honest is_honest) (clean is_clean) (standing holding) old (r.Insert i) result new
  inserts new changes result l c = record {
    device = c.device;
    performs = λ clean. (
        let before = c.device.was_clean clean in
        subst (λ (x : Resolved Ordered). Performs means params host stands x result (standing holding new)) (sym (insert_view i false e used))
        (performs_write means params host stands def _ _ (insert_write host (holding old.0) old.1 def (insert i).places (insert i).tuples) (held_there before) changes result (standing holding new)
        (subst (λ (b : Bool). Leads means params def stands.holding.site (now stands) (λ m. wanted_by_insert m def.columns (inserting b) (rows (now stands) def)) changes) used (l before)) (c.adds clean)));
  }

-- ---- UPDATE and DELETE of a session

module _ {C : Type 0} (means : Means) (params : List Value) (host : Host) (is_honest is_clean : C → Type 0) (holding : C → Holding) (old : SessionOf C) (snap : Snapshot) where
  abbrev here : State
  here = standing holding old

  abbrev Does : Answered → Result Reply Refusal → SessionOf C → Type 0
  Does x result new = Performed means params host (honest is_honest) (clean is_clean) (standing holding) old x result new

  abbrev Added : List Change → Result Reply Refusal → SessionOf C → Type 0
  Added changes result new = Adds host (honest is_honest) (clean is_clean) (standing holding) old changes result new

  -- a write whose changes are added
  added_as : (new : SessionOf C) (x : Answered) (changes : List Change) (result : Result Reply Refusal) → Added changes result new
      → (is_clean old.0 → AreAdded host here changes result (standing holding new) → Performs means params host here (view x) result (standing holding new)) → Does x result new
  added_as new x changes result c p = record {
    device = c.device;
    performs = λ clean. p (c.device.was_clean clean) (c.adds clean);
  }

  -- ---- UPDATE

  module _ (u : Update) (shows : is_clean old.0 → ShowsUpdate means params u here snap) (has : HasRelation (catalog_of snap) u.relation) where
    module _ (e : is_table u.relation.held ≡ true) where
      abbrev changed : TableDef
      changed = u.relation.definition

      module _ (yet : not_replicated u.relation ≡ Free) where
        changed_there : is_clean old.0 → Replicated here changed
        changed_there clean = replicated_seen here snap changed (shows clean).named (replicated_there snap u.relation has e yet)

        pub update_refused_rows : (f : Refusal) → IsRefused means params changed snap.site snap.kept (update_wants snap u) f → Does (r.Update u) (Err f) old
        update_refused_rows f l = untouched means params host (honest is_honest) (clean is_clean) (standing holding) old (r.Update u) (Err f) (λ clean.
            subst (λ (x : Resolved Ordered). Performs means params host here x (Err f) here) (sym (update_view u e))
            (refuses_write means params host here changed _ _ (update_write host (holding old.0) old.1 changed (update u)) (changed_there clean) f (update_gains means params (rows (now here) changed) changed.columns (update u))
            ((shows clean).refused f l)))

        pub updates : (new : SessionOf C) (changes : List Change) (result : Result Reply Refusal) → Leads means params changed snap.site snap.kept (update_wants snap u) changes
            → Added changes result new → Does (r.Update u) result new
        updates new changes result l c = added_as new (r.Update u) changes result c (λ clean a.
            subst (λ (x : Resolved Ordered). Performs means params host here x result (standing holding new)) (sym (update_view u e))
            (performs_write means params host here changed _ _ (update_write host (holding old.0) old.1 changed (update u)) (changed_there clean) changes result (standing holding new)
            ((shows clean).leads changes l) a))

  -- ---- DELETE

  module _ (d : Delete) (shows : is_clean old.0 → ShowsDelete means params d here snap) (has : HasRelation (catalog_of snap) d.relation) where
    module _ (e : is_table d.relation.held ≡ true) where
      abbrev thinned : TableDef
      thinned = d.relation.definition

      module _ (yet : not_replicated d.relation ≡ Free) where
        thinned_there : is_clean old.0 → Replicated here thinned
        thinned_there clean = replicated_seen here snap thinned (shows clean).named (replicated_there snap d.relation has e yet)

        pub delete_refused_rows : (f : Refusal) → IsRefused means params thinned snap.site snap.kept (delete_wants snap d) f → Does (r.Delete d) (Err f) old
        delete_refused_rows f l = untouched means params host (honest is_honest) (clean is_clean) (standing holding) old (r.Delete d) (Err f) (λ clean.
            subst (λ (x : Resolved Ordered). Performs means params host here x (Err f) here) (sym (delete_view d e))
            (refuses_write means params host here thinned _ _ (delete_write host (holding old.0) old.1 thinned (delete d)) (thinned_there clean) f (delete_gains means params (rows (now here) thinned) (delete d))
            ((shows clean).refused f l)))

        pub deletes : (new : SessionOf C) (changes : List Change) (result : Result Reply Refusal) → Leads means params thinned snap.site snap.kept (delete_wants snap d) changes
            → Added changes result new → Does (r.Delete d) result new
        deletes new changes result l c = added_as new (r.Delete d) changes result c (λ clean a.
            subst (λ (x : Resolved Ordered). Performs means params host here x result (standing holding new)) (sym (delete_view d e))
            (performs_write means params host here thinned _ _ (delete_write host (holding old.0) old.1 thinned (delete d)) (thinned_there clean) changes result (standing holding new)
            ((shows clean).leads changes l) a))
