-- What a statement names beside modules, and what it may name without them.
use Rattle.std.proofs.Common.{◌≡◌, ℕ, Bool, true, false, ◌||◌, cond, List, [], ◌∷◌, map, find, Option, Some, None, refl, sym, ap, subst, ◌∙◌}
use Rattle.std.specs.Prelude.{is_some, if◌then◌else◌}
use Rattle.std.specs.List.{list_any}
use Rattle.std.specs.Option.{option_map}
use Rattle.std.proofs.lemmas.Simd.{map-map}
use Rattle.cr_lattice.specs.declared.table.TableDef.{TableDef}
use Rattle.cr_lattice.specs.Check.{same_bytes}
use Rattle.cr_cells.specs.Tables.{is_named}
use Rattle.cr_cells.proofs.NewLemmas.{same_is}
use Rattle.cr_term.specs.declared.query.Held.{Held}
use Rattle.cr_term.specs.declared.query.Held.TheVariants as held
use Rattle.cr_term.specs.declared.query.Joined.{Joined}
use Rattle.cr_term.specs.declared.query.Query.{Query}
use Rattle.cr_term.specs.declared.query.Relation.{Relation}
use Rattle.cr_term.specs.declared.query.Resolved.{Resolved}
use Rattle.cr_term.specs.declared.query.Resolved.TheVariants as r
use Rattle.cr_fit.specs.Suited.{HasHeld, HasRelation, Suits}
use Rattle.cr_language.specs.Sql.{target, target_by, view}
use Rattle.cr_replica.specs.declared.snapshot.Listing.{Listing}
use Rattle.cr_replica.specs.declared.snapshot.Snapshot.{Snapshot}
use Rattle.cr_snapshot.specs.Seen.{IsNamed, catalog_of, definition_of, name_of}
use Rattle.cr_world.specs.Resolved.{Target}
use Rattle.cr_world.specs.Resolved as world
use Rattle.cr_world.specs.State.{State, ModuleState, changes_definition, changes_name, is_module, module_definition}
use Rattle.cr_world.specs.Statement.{is_module_target}
use Rattle.cr_modules.specs.States.{definition_listed, module_in}
use Rattle.cr_session.specs.Performing.{has_target, is_held, placed}
use Rattle.cr_world.specs.Statement.{touches}
use Rattle.cr_hosted.specs.Hosted.{alone}

-- ---- names

-- without modules a session has the names of its store
pub named_alone : (st other : State) (names : Snapshot) → other.holding ≡ st.holding → other.modules ≡ [] → IsNamed st names → IsNamed other (alone names)
named_alone st other names same none is = record {
  modules = sym (ap (map module_definition) none);
  tables = is.tables ∙ sym (ap (λ h. h.tables) same);
  site = is.site ∙ sym (ap (λ h. h.site) same);
  version = is.version ∙ sym (ap (λ h. h.version) same);
}

-- with the definitions of its modules it has theirs, too
pub named_beside : (st : State) (ms : List ModuleState) (names : Snapshot) (ls : List Listing) → ls ≡ map definition_listed ms → IsNamed st names → IsNamed (placed ms st) (record names { modules = ls })
named_beside st ms names ls e is = record {
  modules = ap (map definition_of) e ∙ map-map definition_of definition_listed ms;
  tables = is.tables;
  site = is.site;
  version = is.version;
}

-- ---- what a statement works on

is_changes_by : (d : TableDef) (b : Bool) → is_module_target (if b then world.Changes else world.Module d.name d.columns) ≡ false → b ≡ true
is_changes_by d true e = refl
is_changes_by d false e = absurd (let z : ⊥ = cc in z)

is_host_by : (d : TableDef) (b : Bool) → is_module_target (if b then world.Changes else world.Module d.name d.columns) ≡ true → b ≡ false
is_host_by d true e = absurd (let z : ⊥ = cc in z)
is_host_by d false e = refl

first_same : {X : Type 0} (b : Bool) (x d : X) (o p : Option X) → b ≡ true → cond b (Some x) o ≡ Some d → cond b (Some x) p ≡ Some d
first_same true x d o p e f = f
first_same false x d o p e f = absurd (let z : ⊥ = cc in z)

-- the other way round
turned : (d : TableDef) → same_bytes d.name changes_name ≡ true → same_bytes changes_name d.name ≡ true
turned d e = subst (λ (n : List ℕ). same_bytes changes_name n ≡ true) (sym (same_is d.name changes_name e)) refl

held_alone : (names : Snapshot) (place : Held) (d : TableDef) → is_module_target (target_by place d) ≡ false → HasHeld (catalog_of names) d place → HasHeld (catalog_of (alone names)) d place
held_alone names (held.Table at b) d e has = has
held_alone names (held.Module at) d e has =
    (has.0, first_same (same_bytes changes_name d.name) changes_definition d _ None (turned d (is_changes_by d (same_bytes d.name changes_name) e)) has.1)

relation_alone : (names : Snapshot) (x : Relation) → is_module_target (target x) ≡ false → HasRelation (catalog_of names) x → HasRelation (catalog_of (alone names)) x
relation_alone names x e has = held_alone names x.held x.definition e has

-- a statement that touches no module suits what is there without them
pub suits_alone : (names : Snapshot) (ms : List ModuleState) (y : Resolved) → touches ms (view y) ≡ false → Suits (catalog_of names) y → Suits (catalog_of (alone names)) y
suits_alone names ms (r.Select q) e has = has
suits_alone names ms (r.MarkReplicated m) e has = relation_alone names m.relation e has
suits_alone names ms (r.Insert i) e has = relation_alone names i.relation e has
suits_alone names ms (r.Update u) e has = relation_alone names u.relation e has
suits_alone names ms (r.Delete d) e has = relation_alone names d.relation e has
suits_alone names ms (r.Create x) e has = has
suits_alone names ms (r.Alter a) e has = (relation_alone names a.relation e has.0, has.1)
suits_alone names ms r.Begin e has = has
suits_alone names ms r.Commit e has = has
suits_alone names ms r.Rollback e has = has

either_held : (st : State) (d : TableDef) (b : Bool) → is_held st (if b then world.Changes else world.Module d.name d.columns) ≡ true
either_held st d true = refl
either_held st d false = refl

held_there : (st : State) (names : Snapshot) → IsNamed st names → (place : Held) (d : TableDef) → HasHeld (catalog_of names) d place → is_held st (target_by place d) ≡ true
held_there st names is (held.Table at b) d has = ap is_some (sym (ap (find (is_named d.name)) is.tables) ∙ has)
held_there st names is (held.Module at) d has = either_held st d (same_bytes d.name changes_name)

-- the table that rows are written to is there
pub has_its_target : (st : State) (names : Snapshot) (y : Resolved) → IsNamed st names → Suits (catalog_of names) y → has_target st (view y) ≡ true
has_its_target st names (r.Select q) is has = refl
has_its_target st names (r.MarkReplicated m) is has = refl
has_its_target st names (r.Insert i) is has = held_there st names is i.relation.held i.relation.definition has
has_its_target st names (r.Update u) is has = held_there st names is u.relation.held u.relation.definition has
has_its_target st names (r.Delete d) is has = held_there st names is d.relation.held d.relation.definition has
has_its_target st names (r.Create x) is has = refl
has_its_target st names (r.Alter a) is has = refl
has_its_target st names r.Begin is has = refl
has_its_target st names r.Commit is has = refl
has_its_target st names r.Rollback is has = refl

-- ---- a module that is written to

-- what is no table and not the table of changes is a module
pub module_is : (place : Held) (d : TableDef) → is_module_target (target_by place d) ≡ true → target_by place d ≡ world.Module d.name d.columns
module_is (held.Table at b) d e = absurd (let z : ⊥ = cc in z)
module_is (held.Module at) d e = ap (λ (b : Bool). if b then world.Changes else world.Module d.name d.columns) (is_host_by d (same_bytes d.name changes_name) e)

first_found : (m : ModuleState) (b : Bool) (o : Option ModuleState) (p : Option TableDef) → p ≡ option_map module_definition o → cond b (Some (module_definition m)) p ≡ option_map module_definition (cond b (Some m) o)
first_found m true o p e = refl
first_found m false o p e = e

pub found_of : (name : List ℕ) (ms : List ModuleState) → find (λ (d : TableDef). same_bytes d.name name) (map module_definition ms) ≡ option_map module_definition (module_in ms name)
found_of name [] = refl
found_of name (m ∷ ms) = first_found m (is_module name m) (module_in ms name) (find (λ (d : TableDef). same_bytes d.name name) (map module_definition ms)) (found_of name ms)

second : {X : Type 0} (b : Bool) (x : X) (o p : Option X) → b ≡ false → cond b (Some x) o ≡ p → o ≡ p
second true x o p e f = absurd (let z : ⊥ = cc in z)
second false x o p e f = f

columns_by : (o : Option ModuleState) (d : TableDef) (m : ModuleState) → option_map module_definition o ≡ Some d → o ≡ Some m → m.columns ≡ d.columns
columns_by None d m e f = absurd (let z : ⊥ = cc in z)
columns_by (Some n) d m e f =
    let same : module_definition n ≡ d = cc in
    let other : n ≡ m = cc in
    ap (λ (k : ModuleState). k.columns) (sym other) ∙ ap (λ (x : TableDef). x.columns) same

not_turned : (d : TableDef) (b : Bool) → same_bytes changes_name d.name ≡ b → same_bytes d.name changes_name ≡ false → b ≡ false
not_turned d false e f = refl
not_turned d true e f =
    let same : changes_name ≡ d.name = same_is changes_name d.name e in
    let q : same_bytes d.name changes_name ≡ true = subst (λ (n : List ℕ). same_bytes n changes_name ≡ true) same refl in
    absurd (let z : true ≡ false = sym q ∙ f in let w : ⊥ = cc in w)

columns_held : (names : Snapshot) (ms : List ModuleState) → names.modules ≡ map definition_listed ms → (place : Held) (d : TableDef) → is_module_target (target_by place d) ≡ true → HasHeld (catalog_of names) d place
    → (m : ModuleState) → module_in ms d.name ≡ Some m → m.columns ≡ d.columns
columns_held names ms listed (held.Table at b) d e has m f = absurd (let z : ⊥ = cc in z)
columns_held names ms listed (held.Module at) d e has m f =
    let apart : same_bytes changes_name d.name ≡ false = not_turned d (same_bytes changes_name d.name) refl (is_host_by d (same_bytes d.name changes_name) e) in
    let there : find (λ (x : TableDef). same_bytes x.name d.name) (map definition_of names.modules) ≡ Some d = second (same_bytes changes_name d.name) changes_definition _ (Some d) apart has.1 in
    let defined : map definition_of names.modules ≡ map module_definition ms = ap (map definition_of) listed ∙ map-map definition_of definition_listed ms in
    columns_by (module_in ms d.name) d m (sym (found_of d.name ms) ∙ ap (find (λ (x : TableDef). same_bytes x.name d.name)) (sym defined) ∙ there) f

-- a module that is written to has the columns of its definition
pub columns_are : (names : Snapshot) (ms : List ModuleState) (x : Relation) → names.modules ≡ map definition_listed ms → is_module_target (target x) ≡ true → HasRelation (catalog_of names) x
    → (m : ModuleState) → module_in ms x.definition.name ≡ Some m → m.columns ≡ x.definition.columns
columns_are names ms x listed e has = columns_held names ms listed x.held x.definition e has

-- ---- which modules are named

any_named : (ms : List ModuleState) (js : List Joined) → list_any (λ (j : Joined). is_some (module_in ms (name_of j))) js ≡ list_any (λ (name : List ℕ). is_some (module_in ms name)) (map name_of js)
any_named ms [] = refl
any_named ms (j ∷ js) = ap (λ (b : Bool). is_some (module_in ms (name_of j)) || b) (any_named ms js)

pub names_one : (ms : List ModuleState) (q : Query) → list_any (λ (j : Joined). is_some (module_in ms (name_of j))) q.joined ≡ touches ms (view (r.Select q))
names_one ms q = any_named ms q.joined
