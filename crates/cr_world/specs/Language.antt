-- What statements and expressions mean, as the layers below say it: S are trees of statements, E expressions after their
-- names are resolved. Source: this project's own.
use Rattle.std.specs.Prelude.{◌≡◌, ℕ, Bool, true, List, [], ◌∷◌, length, find, slice_get, Option, Some, Result, Ok}
use Rattle.std.specs.Option.{option_map, option_or}
use Rattle.std.specs.List.{AllByRecursion}
use Rattle.cr_value.specs.declared.value.Value.{Value}
use Rattle.cr_lattice.specs.declared.catalog.Catalog.{Catalog}
use Rattle.cr_lattice.specs.declared.table.TableDef.{TableDef}
use Rattle.cr_lattice.specs.Check.{same_bytes}
use Rattle.cr_cells.specs.Tables.{is_named}
use Rattle.cr_host.specs.declared.meaning.Action.{Action}
use Rattle.cr_host.specs.declared.meaning.Auth.{Auth}
use Rattle.cr_query.specs.Queries.{Query, Joining}
use Rattle.cr_query.specs.Query.{Row, Meaning, Lawful, answer}
use Rattle.cr_query.specs.Plans.{seen}
use Rattle.cr_meaning.specs.Meaning.{Regard, strict}
use Rattle.cr_world.specs.declared.refusal.Refusal.{Refusal}
use Rattle.cr_world.specs.Resolved.{Resolved}
use Rattle.cr_world.specs.Resolved as r

-- what stands between the semicolons of a script; empty statements are left out
pub data Piece (S : Type 0) : Type 0 where
  Statement : S → Piece S
  -- it is read no further, for this
  Unread : Refusal → Piece S

-- what may be done
abbrev pub Asked : Type 0
Asked = Action → List ℕ → List ℕ → Auth

-- the definition that a name stands for: a table's, else a module's
abbrev pub definition_in : Catalog → List ℕ → Option TableDef
definition_in c name = option_or (option_map (λ t. t.definition) (find (is_named name) c.tables)) (find (λ d. same_bytes d.name name) c.modules)

-- ---- a language

pub record Language (S E : Type 0) : Type 0 where
  -- a script up to where it is read
  pub pieces : List ℕ → List (Piece S)
  -- a text that is to be one statement, with nothing behind its `;`, or empty
  pub single : List ℕ → Option (Piece S)
  -- the names of tables that stand in a statement
  pub names : S → List (List ℕ)
  -- there is a collation of this name
  pub has_collation : List ℕ → Bool
  -- What a statement is once its names are read and its questions answered, with NULL for what is ignored. Else the first
  -- that stands against it: in its definition or its casts, then in its names, then the first question that is denied.
  pub resolved : Catalog → Asked → S → Result (Resolved E) Refusal
  -- its parameters are numbered up to this count
  pub fits : S → ℕ → Bool
  -- it is a select, and not the call that makes a table replicated
  pub is_select : S → Bool
  -- it asks for neither site nor version
  pub is_free : S → Bool
  -- for each table of a query, which of its columns stand in it
  pub standing : Query E → List (List Bool)
  -- what expressions mean with these parameters, as they are regarded
  pub regarded : Regard → List Value → Meaning E

-- each row has as many values as its table has columns
abbrev pub AreWide : {E : Type 0} → List (Joining E) → List (List Row) → Type 0
AreWide [] tables = Unit {0}
AreWide (j ∷ js) [] = Unit {0}
AreWide (j ∷ js) (rows ∷ tables) = AllByRecursion (λ row. length row ≡ j.width) rows × AreWide js tables

-- the name is one of these
abbrev pub IsOf : List (List ℕ) → List ℕ → Type 0
IsOf names name = (i : ℕ) × (slice_get names i ≡ Some name)

-- it is a query over these tables
abbrev pub IsSelect : {E : Type 0} → Resolved E → Type 0
IsSelect {E} x = (names : List (List ℕ)) × ((q : Query E) × (x ≡ r.Select names q))

-- what the layers below promise of them
pub record IsLanguage {S E : Type 0} (l : Language S E) : Type 0 where
  pub lawful : (most : Option ℕ) (params : List Value) → Lawful (l.regarded (strict most) params)
  -- a select that asks for neither site nor version looks at what its own names stand for, and at nothing else
  pub local : (s : S) (c d : Catalog) (ask : Asked) → l.is_select s ≡ true → l.is_free s ≡ true → AllByRecursion (λ n. definition_in c n ≡ definition_in d n) (l.names s)
      → l.resolved c ask s ≡ l.resolved d ask s
  -- a select reads tables whose names stand in it
  pub reads : (s : S) (c : Catalog) (ask : Asked) (names : List (List ℕ)) (q : Query E) → l.is_select s ≡ true → l.resolved c ask s ≡ Ok (r.Select names q)
      → AllByRecursion (IsOf (l.names s)) names
  -- a select stays one, whatever is ignored
  pub selects : (s : S) (c : Catalog) (ask : Asked) (x : Resolved E) → l.is_select s ≡ true → l.resolved c ask s ≡ Ok x → IsSelect x
  -- NULL may stand for every column that doesn't stand in a query
  pub unseen : (most : Option ℕ) (q : Query E) (params : List Value) (tables : List (List Row)) → AreWide q.sources tables
      → answer (l.regarded (strict most) params) q (seen (l.standing q) tables) ≡ answer (l.regarded (strict most) params) q tables
