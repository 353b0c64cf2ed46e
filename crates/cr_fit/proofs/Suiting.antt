-- The relation and the table of a statement that is resolved, over the catalog.
use Rattle.std.proofs.Common.{◌≡◌, refl, sym, ap, subst, ◌∙◌, ℕ, suc, Bool, true, false, List, [], ◌∷◌, ◌++◌, find, Option, Some, None, Ok, if◌then◌else◌}
use Rattle.std.specs.Prelude.{cond}
use Rattle.std.specs.Option.{option_or}
use Rattle.std.specs.Str.{bytes_eq, str_to_ascii_lowercase}
use Rattle.cr_lattice.specs.Check.{same_bytes}
use Rattle.cr_lattice.specs.declared.table.Table.{Table}
use Rattle.cr_lattice.specs.declared.table.TableDef.{TableDef}
use Rattle.cr_lattice.specs.declared.catalog.Catalog.{Catalog}
use Rattle.cr_cells.specs.Tables.{is_named}
use Rattle.cr_tree.specs.declared.statement.Select.{Select}
use Rattle.cr_tree.specs.declared.statement.Statement.{Statement}
use Rattle.cr_tree.specs.declared.statement.Statement.TheVariants as s
use Rattle.cr_term.specs.declared.query.Held.TheVariants as held
use Rattle.cr_term.specs.declared.query.Relation.{Relation}
use Rattle.cr_term.specs.declared.query.Resolved.{Resolved}
use Rattle.cr_term.specs.declared.query.Resolved.TheVariants as r
use Rattle.cr_questions.specs.Questions.{Name, Answers, questions, first_denied, left_of}
use Rattle.cr_questions.specs.declared.question.Question.{Question}
use Rattle.cr_resolve.specs.declared.refusal.Refusal.{Refusal}
use Rattle.cr_resolve.specs.Known.{Known, table_at, module_at, relation_of, or_no_table, table}
use Rattle.cr_resolve.specs.Resolve.{select_or_mark, marked, read, cast_outside, complaints, or_allowed, judged, resolved}
use Rattle.cr_fit.specs.Folded.{DefinesFolded}
use Rattle.cr_fit.specs.Suited.{HasRelation, Suits, ResolvedSuit}
use Rattle.cr_fit.proofs.Keys.{both_none, same, turned}
use Rattle.cr_fit.proofs.Fitting.{same_name, created_are_new}
use Rattle.cr_fit.proofs.Adding.{fits_in}

-- ---- the first of a name

module _ {X : Type 0} (makes : ℕ → X → Relation) (p : X → Bool) where
  -- a relation is what the first that passes a test makes
  abbrev Found : List X → Relation → Type 0
  Found xs y = (at : ℕ) × (x : X) × (y ≡ makes at x) × (p x ≡ true) × (find p xs ≡ Some x)

  first_is : (x : X) (xs : List X) (b : Bool) → p x ≡ b → find p (x ∷ xs) ≡ cond b (Some x) (find p xs)
  first_is x xs b h = ap (λ a. cond a (Some x) (find p xs)) h

  found_by : (at : ℕ) (x : X) (xs : List X) (y : Relation) (more : Option Relation) (b : Bool) → p x ≡ b → (more ≡ Some y → Found xs y) → (if b then Some (makes at x) else more) ≡ Some y → Found (x ∷ xs) y
  found_by at x xs y more true h rest e = let is : makes at x ≡ y = cc in (at, x, sym is, h, first_is x xs true h)
  found_by at x xs y more false h rest e = let r = rest e in (r.0, r.1, r.2, r.3, first_is x xs false h ∙ r.4)

  none_by : (at : ℕ) (x : X) (xs : List X) (more : Option Relation) (b : Bool) → p x ≡ b → (more ≡ None → find p xs ≡ None) → (if b then Some (makes at x) else more) ≡ None → find p (x ∷ xs) ≡ None
  none_by at x xs more true h rest e = absurd (let z : ⊥ = cc in z)
  none_by at x xs more false h rest e = first_is x xs false h ∙ rest e

abbrev of_table : ℕ → Table → Relation
of_table at t = record { held = held.Table at t.is_replicated; definition = t.definition }

abbrev of_module : ℕ → TableDef → Relation
of_module at d = record { held = held.Module at; definition = d }

abbrev is_module : Name → TableDef → Bool
is_module name d = same_bytes d.name name

as_named : (m n : Name) → bytes_eq m n ≡ same_bytes n m
as_named m n = turned m n ∙ same_name n m

table_found : (name : Name) (at : ℕ) (ts : List Table) (x : Relation) → table_at name at ts ≡ Some x → Found of_table (is_named name) ts x
table_found name at [] x e = absurd (let z : ⊥ = cc in z)
table_found name at (t ∷ ts) x e =
    found_by of_table (is_named name) at t ts x (table_at name (suc at) ts) (bytes_eq name t.definition.name) (sym (as_named name t.definition.name)) (table_found name (suc at) ts x) e

no_table : (name : Name) (at : ℕ) (ts : List Table) → table_at name at ts ≡ None → find (is_named name) ts ≡ None
no_table name at [] e = refl
no_table name at (t ∷ ts) e =
    none_by of_table (is_named name) at t ts (table_at name (suc at) ts) (bytes_eq name t.definition.name) (sym (as_named name t.definition.name)) (no_table name (suc at) ts) e

module_found : (name : Name) (at : ℕ) (ds : List TableDef) (x : Relation) → module_at name at ds ≡ Some x → Found of_module (is_module name) ds x
module_found name at [] x e = absurd (let z : ⊥ = cc in z)
module_found name at (d ∷ ds) x e =
    found_by of_module (is_module name) at d ds x (module_at name (suc at) ds) (bytes_eq name d.name) (sym (as_named name d.name)) (module_found name (suc at) ds x) e

-- ---- a name in the catalog

table_has : (c : Catalog) (name : Name) (x : Relation) → Found of_table (is_named name) c.tables x → HasRelation c x
table_has c name x (at, t, is, named, first) =
    let e : name ≡ t.definition.name = same name t.definition.name (as_named name t.definition.name ∙ named) in
    subst (HasRelation c) (sym is) (ap (λ (n : Name). find (is_named n) c.tables) (sym e) ∙ first)

module_has : (c : Catalog) (name : Name) (x : Relation) → find (is_named name) c.tables ≡ None → Found of_module (is_module name) c.modules x → HasRelation c x
module_has c name x none (at, d, is, named, first) =
    let e : name ≡ d.name = same name d.name (as_named name d.name ∙ named) in
    subst (HasRelation c) (sym is) (ap (λ (n : Name). find (is_named n) c.tables) (sym e) ∙ none, ap (λ (n : Name). find (is_module n) c.modules) (sym e) ∙ first)

either_has : (c : Catalog) (name : Name) (x : Relation) (o : Option Relation) → table_at name 0 c.tables ≡ o → option_or o (module_at name 0 c.modules) ≡ Some x → HasRelation c x
either_has c name x (Some y) h e = table_has c name x (table_found name 0 c.tables x (h ∙ e))
either_has c name x None h e = module_has c name x (no_table name 0 c.tables h) (module_found name 0 c.modules x e)

by_option : (known : Known) (name : Name) (o : Option Relation) → relation_of known name ≡ o → (or_no_table name o).bad ≡ [] → HasRelation known.catalog (or_no_table name o).made
by_option known name None e bad = absurd (let z : ⊥ = cc in z)
by_option known name (Some x) e bad = either_has known.catalog name x (table_at name 0 known.catalog.tables) refl e

table_stands : (known : Known) (name : Name) → (table known name).bad ≡ [] → HasRelation known.catalog (table known name).made
table_stands known name bad = by_option known name (relation_of known name) refl bad

-- ---- what is read

written_fine : (relation columns more : List Refusal) (misplaced : List Refusal) → ((relation ++ columns) ++ more) ++ misplaced ≡ [] → relation ≡ []
written_fine relation columns more misplaced e = (both_none relation columns (both_none (relation ++ columns) more (both_none ((relation ++ columns) ++ more) misplaced e).0).0).0

deleted_fine : (relation more misplaced : List Refusal) → (relation ++ more) ++ misplaced ≡ [] → relation ≡ []
deleted_fine relation more misplaced e = (both_none relation more (both_none (relation ++ more) misplaced e).0).0

altered_fine : (before relation more : List Refusal) → (before ++ relation) ++ more ≡ [] → relation ≡ []
altered_fine before relation more e = (both_none before relation (both_none (before ++ relation) more e).0).1

marked_suits : (known : Known) (q : Select) (o : Option Name) → (select_or_mark known q o).bad ≡ [] → Suits known.catalog (select_or_mark known q o).made
marked_suits known q (Some name) e = table_stands known (str_to_ascii_lowercase name) e
marked_suits known q None e = tt

read_suits : (known : Known) (x : Statement) → DefinesFolded x → (read known x).bad ≡ [] → Suits known.catalog (read known x).made
read_suits known (s.Select q) folded e = marked_suits known q (marked q) e
read_suits known (s.Insert i) folded e = table_stands known i.table (written_fine (table known i.table).bad _ _ _ e)
read_suits known (s.Update u) folded e = table_stands known u.table (written_fine (table known u.table).bad _ _ _ e)
read_suits known (s.Delete d) folded e = table_stands known d.table (deleted_fine (table known d.table).bad _ _ e)
read_suits known (s.Create c) folded e = created_are_new known c folded e
read_suits known (s.Alter a) folded e = (table_stands known a.table (altered_fine _ (table known a.table).bad _ e), fits_in known a folded e)
read_suits known (s.Begin mode) folded e = tt
read_suits known s.Commit folded e = tt
read_suits known s.Rollback folded e = tt

-- ---- what is left of it

left_suits : (c : Catalog) (answers : Answers) (y : Resolved) → Suits c y → Suits c (left_of answers y)
left_suits c answers (r.Select q) h = tt
left_suits c answers (r.MarkReplicated m) h = h
left_suits c answers (r.Insert i) h = h
left_suits c answers (r.Update u) h = h
left_suits c answers (r.Delete d) h = h
left_suits c answers (r.Create x) h = h
left_suits c answers (r.Alter a) h = h
left_suits c answers r.Begin h = tt
left_suits c answers r.Commit h = tt
left_suits c answers r.Rollback h = tt

allowed_left : (answers : Answers) (x y : Resolved) (o : Option Question) → or_allowed answers x o ≡ Ok y → (y ≡ left_of answers x) × (o ≡ None)
allowed_left answers x y (Some q) e = absurd (let z : ⊥ = cc in z)
allowed_left answers x y None e = let is : left_of answers x ≡ y = cc in (sym is, refl)

by_complaints : (answers : Answers) (x y : Resolved) (bad : List Refusal) → judged answers x bad ≡ Ok y → (y ≡ left_of answers x) × (bad ≡ []) × (first_denied answers (questions x) ≡ None)
by_complaints answers x y (f ∷ fs) e = absurd (let z : ⊥ = cc in z)
by_complaints answers x y [] e = let r = allowed_left answers x y (first_denied answers (questions x)) e in (r.0, refl, r.1)

-- a statement that is not refused: it is what is left of what is read, nothing stands against it, and no question is denied
pub judged_left : (known : Known) (answers : Answers) (x : Statement) (y : Resolved) → resolved known answers x ≡ Ok y
    → (y ≡ left_of answers (read known x).made) × (complaints known x ≡ []) × (first_denied answers (questions (read known x).made) ≡ None)
judged_left known answers x y e = by_complaints answers (read known x).made y (complaints known x) e

pub resolved_suit : ResolvedSuit
resolved_suit known answers x y folded e =
    let r = judged_left known answers x y e in
    subst (Suits known.catalog) (sym r.0) (left_suits known.catalog answers (read known x).made (read_suits known x folded (both_none (cast_outside x) (read known x).bad r.1).1))
