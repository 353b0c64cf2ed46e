-- What an authorizer keeps from a select: what stands in columns whose READ is not answered with OK. Source: "Compile-Time
-- Authorization Callbacks" of SQLite's C interface.
use Rattle.std.specs.Prelude.{◌≡◌, Bool, true, false, List, [], length, map, Result, Ok}
use Rattle.std.specs.Option.{option_map_or}
use Rattle.std.specs.List.{AllByRecursion}
use Rattle.cr_value.specs.declared.value.Value.{Value}
use Rattle.cr_lattice.specs.declared.catalog.Catalog.{Catalog}
use Rattle.cr_lattice.specs.declared.table.TableDef.{TableDef}
use Rattle.cr_host.specs.declared.meaning.Action.TheVariants.{Read}
use Rattle.cr_host.specs.declared.meaning.Auth.{Auth}
use Rattle.cr_host.specs.declared.meaning.Auth.TheVariants as auth
use Rattle.cr_tree.specs.declared.statement.Statement.{Statement}
use Rattle.cr_query.specs.Query.{Row, SameTables}
use Rattle.cr_query.specs.Queries.{Query}
use Rattle.cr_query.specs.Plans.{AllWithin, seen}
use Rattle.cr_meaning.specs.View.{Ordered}
use Rattle.cr_questions.specs.Questions.{Name, Answers}
use Rattle.cr_world.specs.declared.command.Reply.{Reply}
use Rattle.cr_world.specs.declared.refusal.Refusal.{Refusal}
use Rattle.cr_world.specs.Headline.{SayTheSame}
use Rattle.cr_world.specs.Language.{definition_in}
use Rattle.cr_world.specs.Resolved.{Select}
use Rattle.cr_world.specs.State.{State, ModuleState, catalog, tables_named}
use Rattle.cr_world.specs.Statement as world
use Rattle.cr_world.specs.Statement.{Host}
use Rattle.cr_language.specs.Laws.{asks_no_replica}
use Rattle.cr_language.specs.Sql.{Engine, is_select, names, sql}

abbrev pub is_ok : Auth → Bool
is_ok auth.Ok = true
is_ok auth.Deny = false
is_ok auth.Ignore = false

-- which of a table's columns may be read
abbrev pub readable : Answers → TableDef → List Bool
readable answers d = map (λ c. is_ok (answers Read d.name c.name)) d.columns

-- for each name, which columns of the table or module that it stands for may be read
abbrev pub readable_of : Catalog → Answers → List Name → List (List Bool)
readable_of c answers names = map (λ n. option_map_or (readable answers) (definition_in c n) []) names

-- Whatever the authorizer answers, the columns that stand in an accepted select are among those that may be read.
abbrev pub OnlyReadableColumnsStand : Engine → Type 0
OnlyReadableColumnsStand e = (c : Catalog) (answers : Answers) (x : Statement) (names : List Name) (q : Query Ordered) → (sql e).resolved c answers x ≡ Ok (Select names q)
    → AllWithin ((sql e).standing q) (readable_of c answers names)

-- the rows of tables, with NULL for what may not be read
abbrev pub readable_rows : Host → State → List Name → List (List Row)
readable_rows host st names = seen (readable_of (catalog st) host.ask names) (tables_named st names)

-- each row of a module has a value for each column
abbrev pub ModulesAreWide : State → Type 0
ModulesAreWide st = AllByRecursion (λ m. AllByRecursion (λ row. length row ≡ length m.columns) m.rows) st.modules

-- Sessions that define a select's tables alike, and show the same in the columns that may be read, answer it alike, whatever
-- stands in the others.
abbrev pub UnreadableColumnsChangeNoAnswer : Engine → Type 0
UnreadableColumnsChangeNoAnswer e = (host : Host) (st new : State) (params : List Value) (x : Statement) (r t : Result Reply Refusal) (ms ns : List ModuleState)
    → is_select x ≡ true → asks_no_replica x ≡ true
    → AllByRecursion (λ n. definition_in (catalog st) n ≡ definition_in (catalog new) n) (names x) → ModulesAreWide st → ModulesAreWide new
    → SameTables (readable_rows host st (names x)) (readable_rows host new (names x))
    → world.Answers (sql e) host st params x r ms → world.Answers (sql e) host new params x t ns → SayTheSame r t
