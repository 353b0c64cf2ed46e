-- What a statement that is resolved works on: a table or a module of the catalog, or a table or a column that a store takes.
-- Source: this project's own.
use Rattle.std.specs.Prelude.{◌≡◌, false, find, Some, None, Ok}
use Rattle.cr_lattice.specs.Check.{same_bytes}
use Rattle.cr_lattice.specs.declared.table.ColumnDef.{ColumnDef}
use Rattle.cr_lattice.specs.declared.table.TableDef.{TableDef}
use Rattle.cr_lattice.specs.declared.catalog.Catalog.{Catalog}
use Rattle.cr_tree.specs.declared.statement.Statement.{Statement}
use Rattle.cr_term.specs.declared.query.Held.{Held}
use Rattle.cr_term.specs.declared.query.Held.TheVariants as held
use Rattle.cr_term.specs.declared.query.Relation.{Relation}
use Rattle.cr_term.specs.declared.query.Resolved.{Resolved}
use Rattle.cr_term.specs.declared.query.Resolved.TheVariants as r
use Rattle.cr_cells.specs.Tables.{IsFit, IsNewTable, is_named, with_column}
use Rattle.cr_questions.specs.Questions.{Answers}
use Rattle.cr_resolve.specs.Known.{Known}
use Rattle.cr_resolve.specs.Resolve.{resolved}
use Rattle.cr_fit.specs.Folded.{DefinesFolded}

-- the first table of that name has this definition; or no table has the name, and the first module of it has the definition
abbrev pub HasHeld : Catalog → TableDef → Held → Type 0
HasHeld c def (held.Table at is_replicated) = find (is_named def.name) c.tables ≡ Some (record { definition = def; is_replicated = is_replicated })
HasHeld c def (held.Module at) = (find (is_named def.name) c.tables ≡ None) × (find (λ d. same_bytes d.name def.name) c.modules ≡ Some def)

-- the relation is that for which its name stands in the catalog
abbrev pub HasRelation : Catalog → Relation → Type 0
HasRelation c x = HasHeld c x.definition x.held

-- a column outside the key, with which a fit definition is still fit
abbrev pub FitsIn : TableDef → ColumnDef → Type 0
FitsIn def col = (col.key ≡ None) × (IsFit def → IsFit (with_column col def))

-- a statement works on relations of the catalog, adds a column that fits in its table, and makes a table that a store takes, where no table has its name
abbrev pub Suits : Catalog → Resolved → Type 0
Suits c (r.Select q) = Unit {0}
Suits c (r.MarkReplicated m) = HasRelation c m.relation
Suits c (r.Insert i) = HasRelation c i.relation
Suits c (r.Update u) = HasRelation c u.relation
Suits c (r.Delete d) = HasRelation c d.relation
Suits c (r.Create x) = x.is_there ≡ false → IsNewTable c.tables x.definition
Suits c (r.Alter a) = HasRelation c a.relation × FitsIn a.relation.definition a.column
Suits c r.Begin = Unit {0}
Suits c r.Commit = Unit {0}
Suits c r.Rollback = Unit {0}

-- each statement with folded names that is not refused
abbrev pub ResolvedSuit : Type 0
ResolvedSuit = (known : Known) (answers : Answers) (x : Statement) (y : Resolved) → DefinesFolded x → resolved known answers x ≡ Ok y → Suits known.catalog y
