-- What CREATE TABLE and ALTER TABLE define, and what stands against it. Source: SQLite's CREATE TABLE and ALTER TABLE; the profile is this project's own.
use Rattle.std.specs.Prelude.{ℕ, suc, ◌+◌, ◌==◌, nat_lt, Bool, true, false, not, ◌&&◌, max, min, List, [], ◌∷◌, ◌++◌, length, map, position, count_by, sum_by, codes, Option, Some, None, if◌then◌else◌}
use Rattle.std.specs.Option.{option_map, option_or, unwrap_or, is_some, is_none}
use Rattle.std.specs.List.{list_any}
use Rattle.std.specs.Str.{bytes_eq}
use Rattle.cr_value.specs.declared.value.Value.{Value}
use Rattle.cr_value.specs.declared.value.Value.TheVariants.{Null}
use Rattle.cr_value.specs.declared.affinity.Affinity.{Affinity}
use Rattle.cr_value.specs.declared.affinity.Affinity.TheVariants.{Blob}
use Rattle.cr_value.specs.Affinity.{affinity_of_type, applied}
use Rattle.cr_lattice.specs.declared.table.ColumnDef.{ColumnDef}
use Rattle.cr_lattice.specs.declared.table.TableDef.{TableDef}
use Rattle.cr_lattice.specs.Check.{is_key_column}
use Rattle.cr_lattice.specs.Profile.{is_collated_key, is_named_row, is_default_too_long, is_reserved, most_columns}
use Rattle.cr_tree.specs.declared.statement.Constraint.{Constraint}
use Rattle.cr_tree.specs.declared.statement.Constraint.TheVariants as has
use Rattle.cr_tree.specs.declared.statement.Column.{Column}
use Rattle.cr_tree.specs.declared.statement.Create.{Create as CreateTree}
use Rattle.cr_tree.specs.declared.statement.Alter.{Alter as AlterTree}
use Rattle.cr_term.specs.declared.query.Alter.{Alter}
use Rattle.cr_term.specs.declared.query.Create.{Create}
use Rattle.cr_term.specs.declared.query.Relation.{Relation}
use Rattle.cr_questions.specs.Questions.{Name}
use Rattle.cr_resolve.specs.declared.refusal.Refusal.{Refusal}
use Rattle.cr_resolve.specs.declared.refusal.Refusal.TheVariants.{OutOfProfile, Limit, BadName, TableExists, NoSuchColumn, AmbiguousColumn}
use Rattle.cr_resolve.specs.declared.refusal.Outside.TheVariants as outside
use Rattle.cr_resolve.specs.declared.refusal.Limit.TheVariants as limit
use Rattle.cr_resolve.specs.Reading.{Read, when}
use Rattle.cr_resolve.specs.Known.{Known, relation_of, collation, collations, table}
use Rattle.cr_resolve.specs.Expressions.{spaced}

-- ---- constraints: the last DEFAULT and the last COLLATE count

abbrev pub is_primary : Constraint → Bool
is_primary has.PrimaryKey = true
is_primary has.NotNull = false
is_primary (has.Default v) = false
is_primary (has.Collate n) = false

abbrev pub is_not_null : Constraint → Bool
is_not_null has.PrimaryKey = false
is_not_null has.NotNull = true
is_not_null (has.Default v) = false
is_not_null (has.Collate n) = false

abbrev pub default_after : Value → List Constraint → Value
default_after v [] = v
default_after v (has.PrimaryKey ∷ cs) = default_after v cs
default_after v (has.NotNull ∷ cs) = default_after v cs
default_after v (has.Default w ∷ cs) = default_after w cs
default_after v (has.Collate n ∷ cs) = default_after v cs

abbrev pub collation_after : Name → List Constraint → Name
collation_after name [] = name
collation_after name (has.PrimaryKey ∷ cs) = collation_after name cs
collation_after name (has.NotNull ∷ cs) = collation_after name cs
collation_after name (has.Default w ∷ cs) = collation_after name cs
collation_after name (has.Collate n ∷ cs) = collation_after n cs

-- ---- columns

-- none is REAL
abbrev pub affinity_of : Column → Option Affinity
affinity_of c = affinity_of_type (spaced c.type_words)

-- the place of a name in a list behind the columns, from 1
abbrev pub listed_place : Option (List Name) → Name → Option ℕ
listed_place None name = None
listed_place (Some names) name = option_map suc (position (bytes_eq name) names)

abbrev pub key_place : Option (List Name) → Column → Option ℕ
key_place key c = option_or (listed_place key c.name) (if list_any is_primary c.constraints then Some 1 else None)

abbrev pub column_def : Option (List Name) → Column → ColumnDef
column_def key c = let affinity : Affinity = unwrap_or (affinity_of c) Blob in record {
  name = c.name;
  affinity = affinity;
  collation = collation_after (codes "binary") c.constraints;
  not_null = list_any is_not_null c.constraints;
  key = key_place key c;
  default = applied affinity (default_after Null c.constraints);
}

abbrev pub definition : CreateTree → TableDef
definition c = record { name = c.table; columns = map (column_def c.key) c.columns }

-- ---- what stands against it

abbrev pub or_none : Option (List Name) → List Name
or_none None = []
or_none (Some names) = names

-- how many PRIMARY KEYs are written
abbrev pub clauses : CreateTree → ℕ
clauses c = sum_by (λ col. count_by is_primary col.constraints) c.columns + min 1 (length (or_none c.key))

abbrev pub is_real : Column → Bool
is_real c = is_none (affinity_of c)

abbrev pub out_of_profile : CreateTree → TableDef → List Refusal
out_of_profile c def =
    when (list_any is_real c.columns) (OutOfProfile outside.Real)
    ++ when (not (clauses c == 1)) (OutOfProfile outside.PrimaryKey)
    ++ when (list_any is_collated_key def.columns) (OutOfProfile outside.Collate)
    ++ when (list_any is_named_row def.columns) (OutOfProfile outside.RowCid)
    ++ when (list_any is_default_too_long def.columns) (OutOfProfile outside.Default)

-- a list of key columns counts as it is written
abbrev pub over_limits : CreateTree → TableDef → List Refusal
over_limits c def =
    when (nat_lt most_columns (length def.columns)) (Limit limit.Columns)
    ++ when (nat_lt 8 (max (count_by is_key_column def.columns) (length (or_none c.key)))) (Limit limit.KeyColumns)

-- each name that stands before
abbrev pub repeats : List Name → List Name → List Refusal
repeats before [] = []
repeats before (n ∷ ns) = when (list_any (bytes_eq n) before) (AmbiguousColumn n) ++ repeats (n ∷ before) ns

abbrev pub missing : List Name → List Name → List Refusal
missing names [] = []
missing names (n ∷ ns) = when (not (list_any (bytes_eq n) names)) (NoSuchColumn n) ++ missing names ns

abbrev pub is_taken : Known → CreateTree → Bool
is_taken known c = is_some (relation_of known c.table)

abbrev pub against_names : Known → CreateTree → TableDef → List Refusal
against_names known c def =
    when (is_reserved c.table) (BadName c.table)
    ++ when (is_taken known c && not c.if_not_exists) (TableExists c.table)
    ++ repeats [] (map (λ col. col.name) c.columns)
    ++ missing (map (λ col. col.name) c.columns) (or_none c.key)
    ++ repeats [] (or_none c.key)
    ++ collations known (map (λ col. col.collation) def.columns)

abbrev pub create : Known → CreateTree → Read Create
create known c = let def : TableDef = definition c in record {
  bad = out_of_profile c def ++ over_limits c def ++ against_names known c def;
  misplaced = false;
  made = record { definition = def; is_there = is_taken known c };
}

-- ---- ALTER TABLE ADD COLUMN, which may add no key column

abbrev pub added_out_of_profile : Column → ColumnDef → List Refusal
added_out_of_profile c def =
    when (is_real c) (OutOfProfile outside.Real)
    ++ when (list_any is_primary c.constraints) (OutOfProfile outside.PrimaryKey)
    ++ when (is_named_row def) (OutOfProfile outside.RowCid)
    ++ when (is_default_too_long def) (OutOfProfile outside.Default)

-- the table has a column of that name
abbrev pub has_column : TableDef → Name → Bool
has_column def name = list_any (λ c. bytes_eq name c.name) def.columns

abbrev pub against_column : Known → TableDef → ColumnDef → List Refusal
against_column known def column =
    when (has_column def column.name) (AmbiguousColumn column.name)
    ++ collation known column.collation
    ++ when (not (nat_lt (length def.columns) most_columns)) (Limit limit.Columns)

abbrev pub alter : Known → AlterTree → Read Alter
alter known a =
    let column : ColumnDef = column_def None a.column in
    let relation : Read Relation = table known a.table in record {
      bad = added_out_of_profile a.column column ++ relation.bad ++ against_column known relation.made.definition column;
      misplaced = false;
      made = record { relation = relation.made; column = column };
    }
