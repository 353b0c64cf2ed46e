-- New tables, tables that get a column, and tables that become replicated.
use Rattle.std.proofs.Common.{◌≡◌, inl, inr, ℕ, Bool, true, false, not, ◌&&◌, ◌||◌, cond, List, [], ◌∷◌, Option, Some, None, Result, Ok, Err, refl, sym, ap, subst, ◌∙◌, find, position}
use Rattle.std.specs.Prelude.{is_some, if◌then◌else◌}
use Rattle.std.specs.Option.{option_map}
use Rattle.std.specs.List.{list_any}
use Rattle.cr_value.specs.declared.value.Value.{Value}
use Rattle.cr_lattice.specs.declared.change.Change.{Change}
use Rattle.cr_lattice.specs.declared.table.TableDef.{TableDef}
use Rattle.cr_lattice.specs.declared.table.Table.{Table}
use Rattle.cr_lattice.specs.Check.{same_bytes}
use Rattle.cr_lattice.specs.Profile.{lacks_default}
use Rattle.cr_cells.specs.declared.store.CellsError.{CellsError}
use Rattle.cr_cells.specs.declared.store.CellsError.TheVariants as cells
use Rattle.cr_cells.specs.Calls.{Defines, UnlessWant}
use Rattle.cr_cells.specs.Calls as calls
use Rattle.cr_cells.specs.Holding.{Holding, IsSound}
use Rattle.cr_cells.proofs.NewLemmas.{same_is}
use Rattle.cr_cells.specs.Tables.{is_named, is_markable, has_defaults, with_replicated, with_added, IsNewColumn}
use Rattle.cr_term.specs.declared.query.Alter.{Alter}
use Rattle.cr_term.specs.declared.query.Held.{Held}
use Rattle.cr_term.specs.declared.query.Held.TheVariants as held
use Rattle.cr_term.specs.declared.query.Relation.{Relation}
use Rattle.cr_term.specs.declared.query.MarkReplicated.{MarkReplicated}
use Rattle.cr_term.specs.declared.query.Resolved.{Resolved}
use Rattle.cr_term.specs.declared.query.Resolved.TheVariants as r
use Rattle.cr_scalar.specs.Host.{Host as Means}
use Rattle.cr_query.specs.Query.{Meaning}
use Rattle.cr_meaning.specs.View.{Ordered}
use Rattle.cr_meaning.specs.Meaning.{Regard, regarded}
use Rattle.cr_language.specs.Sql.{target, target_by, module_target, view}
use Rattle.cr_world.specs.declared.command.Reply.{Reply}
use Rattle.cr_world.specs.declared.command.Reply.TheVariants.{Done}
use Rattle.cr_world.specs.declared.refusal.Refusal.{Refusal}
use Rattle.cr_world.specs.declared.refusal.Refusal.TheVariants as refusal
use Rattle.cr_world.specs.Refusals.{is_want, of_store}
use Rattle.cr_world.specs.Causes.{Cause, Free, Is, Evaluation, IsWant, Tells, or_else, of_option, where_true}
use Rattle.cr_world.specs.Resolved as world
use Rattle.cr_world.specs.State.{State, catalog, changes_name, in_transaction, name_of}
use Rattle.cr_world.specs.Statement.{Host, ended, is_memory, marked_reply, no_default, not_a_table, column_name, with_tables}
use Rattle.cr_world.specs.Statement as statement
use Rattle.cr_fit.specs.Suited.{HasRelation, FitsIn}
use Rattle.cr_fit.proofs.Adding.{new_column}
use Rattle.cr_session.specs.Performing.{IsFound, Passes, Performs, Performed, against, is_commit, is_table, refused}
use Rattle.cr_session.specs.Sessions.{clean, honest, standing, state_of}
use Rattle.cr_session.proofs.Selecting.{or_free}
use Rattle.cr_session.proofs.Takings.{want_of_store, wanting}

-- ---- causes, one behind the other

pub told_first : (c d : Cause) (f : Refusal) → Tells c f → Tells (or_else c d) f
told_first Free d f t = absurd t
told_first (Is x) d f t = t
told_first (Evaluation b) d f t = t

pub told_then : (c d : Cause) (f : Refusal) → c ≡ Free → Tells d f → Tells (or_else c d) f
told_then c d f e t = subst (λ (x : Cause). Tells (or_else x d) f) (sym e) t

pub both_free : (c d : Cause) → c ≡ Free → d ≡ Free → or_else c d ≡ Free
both_free c d e f = ap (λ (x : Cause). or_else x d) e ∙ f

pub still : {X : Type 0} (result : Result X Refusal) (P : Type 0) → P → UnlessWant is_want result P
still (Ok x) P p = p
still (Err f) P p = λ e. p

-- nothing of the store is asked for
pub untouched : {C : Type 0} (means : Means) (params : List Value) (host : Host) (is_honest is_clean : C → Type 0) (stands : C → State) (old : C) (x : Resolved) (result : Result Reply Refusal)
    → (is_clean old → Performs means params host (stands old) (view x) result (stands old)) → Performed means params host is_honest is_clean stands old x result old
untouched means params host is_honest is_clean stands old x result p = record {
  device = record { was_honest = λ honest. honest; was_clean = λ clean. clean; stays_clean = λ honest clean. still result (is_clean old) clean };
  performs = p;
}

-- what is told of a store is told of no evaluation
pub store_finds : (under : Regard → Meaning Ordered) (st : State) (x : world.Resolved Ordered) (e : CellsError) → statement.IsFound under st x (of_store e)
store_finds under st x cells.Memory = tt
store_finds under st x (cells.Store f) = tt
store_finds under st x cells.VersionLimit = tt

-- ---- a definition of a store

module _ {C : Type 0} (means : Means) (params : List Value) (host : Host) (is_honest is_clean : C → Type 0) (holding : C → Holding) (old new : C) (x : Resolved) (wanted : Holding)
    (honest_was : is_honest new → is_honest old) (was : is_clean new → is_clean old) where
  abbrev Does : Result Reply Refusal → Type 0
  Does result = Performed means params host (honest is_honest) (clean is_clean) (standing holding) (old, None) x result (new, None)

  pub defined : (reply : Reply) → (is_honest new → is_clean old → is_clean new) → (is_clean new → Defines (holding old) (holding new) (Ok tt) wanted)
      → (is_clean new → Performs means params host (standing holding (old, None)) (view x) (Ok reply) (state_of wanted None)) → Does (Ok reply)
  defined reply stays defines p = record {
    device = record { was_honest = honest_was; was_clean = was; stays_clean = stays };
    performs = λ clean. subst (λ (h : Holding). Performs means params host (standing holding (old, None)) (view x) (Ok reply) (state_of h None)) (sym (defines clean)) (p clean);
  }

  pub not_defined : (e : CellsError) (f : Refusal) → f ≡ of_store e → is_commit (view x) ≡ false → (is_honest new → is_clean old → calls.is_want e ≡ false → is_clean new) → (is_clean new → Defines (holding old) (holding new) (Err e) wanted)
      → Does (Err f)
  not_defined e f told lasts stays defines = record {
    device = record { was_honest = honest_was; was_clean = was; stays_clean = λ honest clean want. stays honest clean (sym (want_of_store e) ∙ ap is_want (sym told) ∙ want) };
    performs = λ clean. (
      inl (subst IsWant (sym told) (wanting e (defines clean).1)),
      (
        ap (λ (h : Holding). state_of h None) (defines clean).0 ∙ sym (ap (λ (b : Bool). cond (b && false) (ended (standing holding (old, None))) (standing holding (old, None))) lasts),
        subst (IsFound means params host (standing holding (old, None)) (view x)) (sym told) (store_finds (λ g. regarded g means params) (standing holding (old, None)) (view x) e),
      ),
    );
  }

pub none_is : {X : Type 0} (o : Option X) → is_some o ≡ false → o ≡ None
none_is None e = refl
none_is (Some x) e = absurd (let z : ⊥ = cc in z)

-- outside of transactions
pub outside : {C : Type 0} (means : Means) (params : List Value) (host : Host) (is_honest is_clean : C → Type 0) (holding : C → Holding) (old new : C) (x : Resolved) (result : Result Reply Refusal) (pending : Option (List Change)) → is_some pending ≡ false
    → Performed means params host (honest is_honest) (clean is_clean) (standing holding) (old, None) x result (new, None) → Performed means params host (honest is_honest) (clean is_clean) (standing holding) (old, pending) x result (new, pending)
outside means params host is_honest is_clean holding old new x result pending e =
    subst (λ (p : Option (List Change)). Performed means params host (honest is_honest) (clean is_clean) (standing holding) (old, p) x result (new, p)) (sym (none_is pending e))

-- ---- what stands for a name

-- a module is no table
no_table_by : (d : TableDef) (b : Bool) → not_a_table (if b then world.Changes else world.Module d.name d.columns) ≡ Free → ⊥
no_table_by d true e = let z : ⊥ = cc in z
no_table_by d false e = let z : ⊥ = cc in z

table_by : (place : Held) (d : TableDef) → not_a_table (target_by place d) ≡ Free → is_table place ≡ true
table_by (held.Table at b) d e = refl
table_by (held.Module at) d e = absurd (no_table_by d (same_bytes d.name changes_name) e)

-- what passes as a table is one
pub passed_is_table : (x : Relation) → not_a_table (target x) ≡ Free → is_table x.held ≡ true
passed_is_table x e = table_by x.held x.definition e

target_in : (place : Held) (d : TableDef) → is_table place ≡ true → target_by place d ≡ world.Table d
target_in (held.Table at b) d e = refl
target_in (held.Module at) d e = absurd (let z : ⊥ = cc in z)

pub target_is : (x : Relation) → is_table x.held ≡ true → target x ≡ world.Table x.definition
target_is x e = target_in x.held x.definition e

-- a module is told as what can't be changed so
module_told_by : (d : TableDef) (b : Bool) → same_bytes d.name changes_name ≡ b → not_a_table (if b then world.Changes else world.Module d.name d.columns) ≡ Is (refusal.ReadOnly d.name)
module_told_by d true e = ap (λ (n : List ℕ). Is (refusal.ReadOnly n)) (sym (same_is d.name changes_name e))
module_told_by d false e = refl

pub module_told : (d : TableDef) → not_a_table (module_target d) ≡ Is (refusal.ReadOnly d.name)
module_told d = module_told_by d (same_bytes d.name changes_name) refl

pub module_refused : (x : Relation) (at : ℕ) (name : List ℕ) → x.held ≡ held.Module at → name ≡ x.definition.name → Passes (not_a_table (target x)) (Err (refusal.ReadOnly name))
module_refused x at name e same =
    inr (subst (λ (c : Cause). Tells c (refusal.ReadOnly name)) (sym (ap (λ (place : Held). not_a_table (target_by place x.definition)) e ∙ module_told x.definition)) (ap refusal.ReadOnly same))

-- and where it is judged first, nothing is changed
pub refuses_module : (means : Means) (params : List Value) (host : Host) (st : State) (x : Relation) (y : world.Resolved Ordered) (rest : Cause) (f : Refusal) → is_commit y ≡ false
    → against means params host st y ≡ or_else (not_a_table (target x)) rest → Passes (not_a_table (target x)) (Err f) → Performs means params host st y (Err f) st
refuses_module means params host st x y rest f lasts is passes = by passes where
  same : st ≡ refused st y f
  same = sym (ap (λ (b : Bool). cond (b && (in_transaction st && not (is_memory f))) (ended st) st) lasts)

  found : (t : world.Target) → Tells (not_a_table t) f → IsFound means params host st y f
  found (world.Table d) told = absurd told
  found world.Changes told = subst (IsFound means params host st y) (sym told) tt
  found (world.Module name columns) told = subst (IsFound means params host st y) (sym told) tt

  by : Passes (not_a_table (target x)) (Err f) → Performs means params host st y (Err f) st
  by (inl memory) = (inl (inl memory), (same, subst (IsFound means params host st y) (sym memory) tt))
  by (inr told) = (inr (subst (λ (c : Cause). Tells c f) (sym is) (told_first (not_a_table (target x)) rest f told)), (same, found (target x) told))

-- the table that a name stands for, by the place of its relation
abbrev TableIn : Holding → Held → TableDef → Type 0
TableIn h place d = (b : Bool) × (find (is_named d.name) h.tables ≡ Some (record { definition = d; is_replicated = b }))

table_in : (h : Holding) (x : Relation) → HasRelation (catalog (state_of h None)) x → is_table x.held ≡ true → TableIn h x.held x.definition
table_in h x has e = in_place x.held x.definition has e where
  in_place : (place : Held) (d : TableDef) → HasRelation (catalog (state_of h None)) (record { held = place; definition = d }) → is_table place ≡ true → TableIn h place d
  in_place (held.Table at b) d has e = (b, has)
  in_place (held.Module at) d has e = absurd (let z : ⊥ = cc in z)

-- ---- the call that makes a table replicated

any_at : (p q : Table → Bool) (t s : Table) (ts : List Table) (b : Bool) → cond b (Some s) (find p ts) ≡ Some t → q t ≡ true → (find p ts ≡ Some t → list_any (λ s. p s && q s) ts ≡ true)
    → ((b && q s) || list_any (λ s. p s && q s) ts) ≡ true
any_at p q t s ts true e good further = let same : s ≡ t = cc in let fine : q s ≡ true = ap q same ∙ good in ap (λ (b : Bool). b || list_any (λ s. p s && q s) ts) fine
any_at p q t s ts false e good further = further e

any_found : (p q : Table → Bool) (t : Table) (ts : List Table) → find p ts ≡ Some t → q t ≡ true → list_any (λ s. p s && q s) ts ≡ true
any_found p q t [] e good = absurd (let z : ⊥ = cc in z)
any_found p q t (s ∷ ts) e good = any_at p q t s ts (p s) e good (λ f. any_found p q t ts f good)

none_lacks : (o : Option ℕ) (g : ℕ → Refusal) → of_option (option_map g o) ≡ Free → is_some o ≡ false
none_lacks None g e = refl
none_lacks (Some i) g e = absurd (let z : ⊥ = cc in z)

pub markable : (h : Holding) (x : Relation) (name : List ℕ) → HasRelation (catalog (state_of h None)) x → not_a_table (target x) ≡ Free → no_default (world.Table x.definition) ≡ Free → name ≡ x.definition.name
    → is_markable name h.tables ≡ true
unfolding is_markable has_defaults
markable h x name has table defaults e =
    let found = table_in h x has (passed_is_table x table) in
    subst (λ (n : List ℕ). is_markable n h.tables ≡ true) (sym e)
    (any_found (is_named x.definition.name) (λ t. has_defaults t.definition) (record { definition = x.definition; is_replicated = found.0 }) h.tables found.1
    (ap not (none_lacks (position lacks_default x.definition.columns) (λ i. refusal.NoDefault (column_name x.definition.columns i)) defaults)))

module _ (means : Means) (params : List Value) (host : Host) (h : Holding) (m : MarkReplicated) where
  abbrev st : State
  st = state_of h None

  mark_cause : against means params host st (view (r.MarkReplicated m)) ≡ or_else (not_a_table (target m.relation)) (no_default (target m.relation))
  mark_cause = ap (or_else (not_a_table (target m.relation))) (or_free (no_default (target m.relation)))

  -- the columns are the table's
  defaults_are : not_a_table (target m.relation) ≡ Free → no_default (target m.relation) ≡ no_default (world.Table m.relation.definition)
  defaults_are e = ap no_default (target_is m.relation (passed_is_table m.relation e))

  free : not_a_table (target m.relation) ≡ Free → no_default (world.Table m.relation.definition) ≡ Free → against means params host st (view (r.MarkReplicated m)) ≡ Free
  free e d = mark_cause ∙ both_free (not_a_table (target m.relation)) (no_default (target m.relation)) e (defaults_are e ∙ d)

  pub performs_marked : (reply : Reply) (name : List ℕ) → m.is_ignored ≡ false → reply ≡ marked_reply m.is_ignored → not_a_table (target m.relation) ≡ Free → no_default (world.Table m.relation.definition) ≡ Free → name ≡ m.relation.definition.name
      → Performs means params host st (view (r.MarkReplicated m)) (Ok reply) (state_of (record h { tables = with_replicated name h.tables }) None)
  performs_marked reply name marks is e d named = (
    free e d,
    (
      is,
      ap (λ (n : List ℕ). with_tables (with_replicated n h.tables) st) (named ∙ sym (ap name_of (target_is m.relation (passed_is_table m.relation e))))
          ∙ sym (ap (λ (b : Bool). cond b st (with_tables (with_replicated (name_of (target m.relation)) h.tables) st)) marks),
    ),
  )

-- ---- a column that is added

not_lacking : (b : Bool) (f : Refusal) → where_true b f ≡ Free → b ≡ false
not_lacking true f e = absurd (let z : ⊥ = cc in z)
not_lacking false f e = refl

module _ (h : Holding) (a : Alter) where
  -- a store takes the column
  pub addable : (name : List ℕ) → IsSound h → HasRelation (catalog (state_of h None)) a.relation → FitsIn a.relation.definition a.column → not_a_table (target a.relation) ≡ Free
      → where_true (lacks_default a.column) (refusal.NoDefault a.column.name) ≡ Free → name ≡ a.relation.definition.name → IsNewColumn h.tables name a.column
  addable name sound has fits table default named =
      let found = table_in h a.relation has (passed_is_table a.relation table) in
      subst (λ (n : List ℕ). IsNewColumn h.tables n a.column) (sym named)
      (new_column h.tables a.relation.definition found.0 a.column sound.names sound.stored found.1 fits (not_lacking (lacks_default a.column) (refusal.NoDefault a.column.name) default))

  module _ (means : Means) (params : List Value) (host : Host) where
    abbrev at : State
    at = state_of h None

    alter_cause : against means params host at (view (r.Alter a)) ≡ or_else (not_a_table (target a.relation)) (where_true (lacks_default a.column) (refusal.NoDefault a.column.name))
    alter_cause = ap (or_else (not_a_table (target a.relation))) (or_free (where_true (lacks_default a.column) (refusal.NoDefault a.column.name)))

    pub performs_altered : (name : List ℕ) → not_a_table (target a.relation) ≡ Free → where_true (lacks_default a.column) (refusal.NoDefault a.column.name) ≡ Free → name ≡ a.relation.definition.name
        → Performs means params host at (view (r.Alter a)) (Ok Done) (state_of (record h { tables = with_added name a.column h.tables }) None)
    performs_altered name table default named = (
      alter_cause ∙ both_free (not_a_table (target a.relation)) (where_true (lacks_default a.column) (refusal.NoDefault a.column.name)) table default,
      (refl, ap (λ (n : List ℕ). with_tables (with_added n a.column h.tables) at) (named ∙ sym (ap name_of (target_is a.relation (passed_is_table a.relation table))))),
    )
