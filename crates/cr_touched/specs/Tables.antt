-- What is kept of some tables, and the rows that they show. Source: this project's own.
use Rattle.std.specs.Prelude.{◌≡◌, ℕ, Bool, true, List, filter}
use Rattle.std.specs.List.{flat_map}
use Rattle.cr_lattice.specs.declared.change.Change.{Change}
use Rattle.cr_lattice.specs.declared.table.TableDef.{TableDef}
use Rattle.cr_lattice.specs.Keep.{keep, join}
use Rattle.cr_lattice.specs.Rows.{rows}
use Rattle.cr_cells.specs.Holding.{is_of_table}
use Rattle.cr_delta.specs.Delta.{delta}
use Rattle.cr_query.specs.Query.{Row}
use Rattle.cr_touched.specs.Parts.{is_key_of}

-- it is one of the names
abbrev pub is_name_of : List (List ℕ) → List ℕ → Bool
is_name_of = is_key_of

-- a change of one of the tables of these names
abbrev pub is_of_one : List (List ℕ) → Change → Bool
is_of_one names c = is_name_of names c.table

-- the changes of these tables
unfoldable pub of_tables : List (List ℕ) → List Change → List Change
of_tables names cs = filter (is_of_one names) cs

-- Of some tables is kept what is kept and of one of these.
abbrev pub TablesAreKept : Type 0
TablesAreKept = (names : List (List ℕ)) (s : List Change) → keep (of_tables names s) ≡ of_tables names (keep s)

abbrev pub TablesAreJoined : Type 0
TablesAreJoined = (names : List (List ℕ)) (xs ys : List Change) → join (of_tables names xs) (of_tables names ys) ≡ of_tables names (join xs ys)

-- The changes of each table, put together, are those of these tables.
abbrev pub EachMakesThem : Type 0
EachMakesThem =
    (names : List (List ℕ)) (s : List Change) → keep (flat_map (λ name. filter (is_of_table name) s) names) ≡ of_tables names (keep s)

-- They show the rows of each of these tables, as the whole does.
abbrev pub TheyShowTheirRows : Type 0
TheyShowTheirRows =
    (names : List (List ℕ)) (def : TableDef) (kept : List Change) → is_name_of names def.name ≡ true → rows (of_tables names kept) def ≡ rows kept def

-- They lead to the same changes of each of these tables.
abbrev pub TheyLeadAlike : Type 0
TheyLeadAlike =
    (names : List (List ℕ)) (def : TableDef) (site : List ℕ) (s : List Change) (wanted : List Row) → is_name_of names def.name ≡ true
    → delta def site (of_tables names (keep s)) wanted ≡ delta def site (keep s) wanted
