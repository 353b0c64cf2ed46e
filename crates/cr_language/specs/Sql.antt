-- This project's SQL as a language of sessions. Source: this project's own.
use Rattle.std.specs.Prelude.{ℕ, nat_lt, Bool, false, List, [], ◌∷◌, drop, length, map, Option, Some, None, Result, Ok, Err, if◌then◌else◌}
use Rattle.std.specs.Option.{is_none}
use Rattle.std.specs.Str.{str_to_ascii_lowercase}
use Rattle.std.specs.Cmp.{IsTotalOrder}
use Rattle.cr_lattice.specs.declared.catalog.Catalog.{Catalog}
use Rattle.cr_lattice.specs.declared.table.TableDef.{TableDef}
use Rattle.cr_lattice.specs.Check.{same_bytes}
use Rattle.cr_host.specs.declared.function.Definition.{Definition}
use Rattle.cr_lex.specs.declared.token.Token.{Token}
use Rattle.cr_tree.specs.declared.limits.LimitKind.{LimitKind}
use Rattle.cr_tree.specs.declared.limits.LimitKind.TheVariants as kind
use Rattle.cr_tree.specs.declared.statement.Select.{Select}
use Rattle.cr_tree.specs.declared.statement.Statement.{Statement}
use Rattle.cr_tree.specs.declared.statement.Statement.TheVariants as s
use Rattle.cr_term.specs.Parts.{columns}
use Rattle.cr_term.specs.declared.query.Held.{Held}
use Rattle.cr_term.specs.declared.query.Held.TheVariants as held
use Rattle.cr_term.specs.declared.query.Relation.{Relation}
use Rattle.cr_term.specs.declared.query.Resolved.{Resolved}
use Rattle.cr_term.specs.declared.query.Resolved.TheVariants as r
use Rattle.cr_scalar.specs.Host.{Host}
use Rattle.cr_meaning.specs.View.{Ordered, query, insert, update, delete}
use Rattle.cr_meaning.specs.Meaning.{regarded}
use Rattle.cr_questions.specs.Questions.{Name}
use Rattle.cr_resolve.specs.declared.refusal.Refusal.{Refusal as Unresolved}
use Rattle.cr_resolve.specs.declared.refusal.Refusal.TheVariants as unresolved
use Rattle.cr_resolve.specs.declared.refusal.Limit.{Limit as DefinitionLimit}
use Rattle.cr_resolve.specs.declared.refusal.Limit.TheVariants as definition
use Rattle.cr_resolve.specs.declared.refusal.Outside.{Outside}
use Rattle.cr_resolve.specs.declared.refusal.Outside.TheVariants as outside
use Rattle.cr_resolve.specs.Known.{Known}
use Rattle.cr_resolve.specs.Resolve.{marked, resolved}
use Rattle.cr_resolve.specs.Parameters.{fits}
use Rattle.cr_statement.specs.Sql.{Refusal as Unread, is_semicolon, told, judged}
use Rattle.cr_statement.specs.Sql as read
use Rattle.cr_statement.specs.Scripts as scripts
use Rattle.cr_world.specs.declared.refusal.Refusal.{Refusal}
use Rattle.cr_world.specs.declared.refusal.Refusal.TheVariants as refusal
use Rattle.cr_world.specs.declared.refusal.OutOfProfile.{OutOfProfile}
use Rattle.cr_world.specs.declared.refusal.OutOfProfile.TheVariants as out
use Rattle.cr_world.specs.declared.refusal.Limit.{Limit}
use Rattle.cr_world.specs.declared.refusal.Limit.TheVariants as limit
use Rattle.cr_world.specs.Resolved as world
use Rattle.cr_world.specs.Resolved.{Target}
use Rattle.cr_world.specs.Language.{Language, Piece}
use Rattle.cr_world.specs.Language as language
use Rattle.cr_world.specs.State.{changes_name}
use Rattle.cr_language.specs.Laws.{asks_no_replica, table_names}
use Rattle.cr_language.specs.Standing.{standing}

-- what a host has registered, what that means, and the tokens of each text
pub record Engine : Type 0 where
  pub function_of : Name → ℕ → Option Definition
  pub has_function : Name → Bool
  pub has_collation : Name → Bool
  pub host : Host
  pub order_total : (name : List ℕ) → IsTotalOrder (host.order name)
  pub tokens : List ℕ → List Token

-- what a statement may name on a replica of this catalog
abbrev pub known : Engine → Catalog → Known
known e c = record { catalog = c; function_of = e.function_of; has_function = e.has_function; has_collation = e.has_collation }

-- ---- refusals

abbrev pub of_outside : Outside → OutOfProfile
of_outside outside.Real = out.Real
of_outside outside.PrimaryKey = out.PrimaryKey
of_outside outside.Collate = out.Collate
of_outside outside.RowCid = out.RowCid
of_outside outside.Default = out.Default
of_outside outside.Distinct = out.Distinct

abbrev pub of_limit : DefinitionLimit → Limit
of_limit definition.Columns = limit.Columns
of_limit definition.KeyColumns = limit.KeyColumns

abbrev pub of_unresolved : Unresolved → Refusal
of_unresolved (unresolved.OutOfProfile what) = refusal.OutOfProfile (of_outside what)
of_unresolved (unresolved.Limit which) = refusal.Limit (of_limit which)
of_unresolved (unresolved.BadName name) = refusal.BadName name
of_unresolved (unresolved.NoSuchTable name) = refusal.NoSuchTable name
of_unresolved (unresolved.NoSuchColumn name) = refusal.NoSuchColumn name
of_unresolved (unresolved.AmbiguousColumn name) = refusal.AmbiguousColumn name
of_unresolved (unresolved.NoSuchFunction name) = refusal.NoSuchFunction name
of_unresolved (unresolved.WrongArity name) = refusal.WrongArity name
of_unresolved (unresolved.NoSuchCollation name) = refusal.NoSuchCollation name
of_unresolved unresolved.Misaggregate = refusal.Misaggregate
of_unresolved (unresolved.TableExists name) = refusal.TableExists name
of_unresolved (unresolved.Denied q) = refusal.Denied q.action q.a q.b
of_unresolved unresolved.Memory = refusal.Memory

abbrev pub of_kind : LimitKind → Limit
of_kind kind.Depth = limit.Depth
of_kind kind.Arguments = limit.Arguments
of_kind kind.Tables = limit.Tables

abbrev pub of_unread : Unread → Refusal
of_unread read.Memory = refusal.Memory
of_unread (read.Syntax at) = refusal.Syntax at
of_unread (read.OutOfProfile word) = refusal.OutOfProfile (out.Word word)
of_unread (read.Limit which) = refusal.Limit (of_kind which)

-- ---- resolved statements as sessions carry them out

-- the table of changes is a module of the catalog
abbrev pub module_target : TableDef → Target
module_target d = if same_bytes d.name changes_name then world.Changes else world.Module d.name d.columns

abbrev pub target_by : Held → TableDef → Target
target_by (held.Table at is_replicated) d = world.Table d
target_by (held.Module at) d = module_target d

abbrev pub target : Relation → Target
target x = target_by x.held x.definition

abbrev pub view : Resolved → world.Resolved Ordered
view (r.Select q) = world.Select (map (λ j. j.relation.definition.name) q.joined) (query q)
view (r.MarkReplicated m) = world.Mark (target m.relation) m.is_ignored
view (r.Insert i) = world.Insert (target i.relation) (insert i)
view (r.Update u) = world.Update (target u.relation) (update u)
view (r.Delete d) = world.Delete (target d.relation) (delete d)
view (r.Create c) = world.Create c.definition c.is_there
view (r.Alter a) = world.Alter (target a.relation) a.column
view r.Begin = world.Begin
view r.Commit = world.Commit
view r.Rollback = world.Rollback

abbrev pub viewed : Result Resolved Unresolved → Result (world.Resolved Ordered) Refusal
viewed (Ok x) = Ok (view x)
viewed (Err f) = Err (of_unresolved f)

-- ---- texts

abbrev pub piece : scripts.Piece → Piece Statement
piece (scripts.Reads x) = language.Statement x
piece (scripts.Refused why) = language.Unread (of_unread why)

-- no script is longer
abbrev pub script_limit : ℕ
script_limit = 1000000

abbrev pub too_long : Piece Statement
too_long = language.Unread (refusal.Limit limit.Script)

abbrev pub pieces : List ℕ → List Token → List (Piece Statement)
pieces text tokens = if nat_lt script_limit (length text) then too_long ∷ [] else map piece (scripts.pieces text tokens)

-- nothing may stand behind the `;`
abbrev pub nothing_behind : Piece Statement → List Token → Piece Statement
nothing_behind p [] = p
nothing_behind p (semicolon ∷ []) = p
nothing_behind p (semicolon ∷ t ∷ ts) = language.Unread (refusal.Syntax t.from)

abbrev pub read_single : List Token → Result (Statement × ℕ) Unread → Piece Statement
read_single tokens (Ok x) = nothing_behind (language.Statement x.0) (drop x.1 tokens)
read_single tokens (Err why) = language.Unread (of_unread why)

abbrev pub empty_single : List Token → Option (Piece Statement)
empty_single [] = None
empty_single (t ∷ ts) = Some (language.Unread (refusal.Syntax t.from))

abbrev pub single_of : List ℕ → List Token → Option (Piece Statement)
single_of text [] = None
single_of text (t ∷ ts) =
    if is_semicolon text t then empty_single ts else Some (read_single (t ∷ ts) (told text (t ∷ ts) (judged text (t ∷ ts))))

abbrev pub single : List ℕ → List Token → Option (Piece Statement)
single text tokens = if nat_lt script_limit (length text) then Some too_long else single_of text tokens

-- ---- statements

abbrev pub select_names : Select → Option Name → List Name
select_names q (Some name) = str_to_ascii_lowercase name ∷ []
select_names q None = table_names q

abbrev pub names : Statement → List Name
names (s.Select q) = select_names q (marked q)
names (s.Insert i) = i.table ∷ []
names (s.Update u) = u.table ∷ []
names (s.Delete d) = d.table ∷ []
names (s.Create c) = c.table ∷ []
names (s.Alter a) = a.table ∷ []
names (s.Begin mode) = []
names s.Commit = []
names s.Rollback = []

abbrev pub is_select : Statement → Bool
is_select (s.Select q) = is_none (marked q)
is_select (s.Insert i) = false
is_select (s.Update u) = false
is_select (s.Delete d) = false
is_select (s.Create c) = false
is_select (s.Alter a) = false
is_select (s.Begin mode) = false
is_select s.Commit = false
is_select s.Rollback = false

-- the places of an expression's columns in a combination
abbrev pub places : Ordered → List ℕ
places e = map (λ c. c.at) (columns e.expr)

-- ---- the language

abbrev pub sql : Engine → Language Statement Ordered
sql e = record {
  pieces = λ text. pieces text (e.tokens text);
  single = λ text. single text (e.tokens text);
  names = names;
  has_collation = e.has_collation;
  resolved = λ c ask x. viewed (resolved (known e c) ask x);
  fits = fits;
  is_select = is_select;
  is_free = asks_no_replica;
  standing = standing places;
  regarded = λ regard params. regarded regard e.host params;
}
