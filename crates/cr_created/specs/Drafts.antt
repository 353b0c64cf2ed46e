-- The definitions of columns before the limits on a key are tested: a place in the key that is past what a definition can
-- hold stands as the greatest that it holds. Where a definition passes the limits, it is the definition that is meant.
use Rattle.std.specs.Prelude.{ℕ, ◌==◌, ◌&&◌, ◌++◌, Bool, false, not, min, List, [], map, count_by, sum_by, Option}
use Rattle.std.specs.Option.{option_map}
use Rattle.std.specs.List.{list_any}
use Rattle.cr_lattice.specs.declared.table.ColumnDef.{ColumnDef}
use Rattle.cr_lattice.specs.declared.table.TableDef.{TableDef}
use Rattle.cr_lattice.specs.Profile.{is_collated_key, is_default_too_long, is_named_row, is_reserved}
use Rattle.cr_tree.specs.declared.statement.Column.{Column}
use Rattle.cr_tree.specs.declared.statement.Create.{Create as CreateTree}
use Rattle.cr_questions.specs.Questions.{Name}
use Rattle.cr_resolve.specs.declared.refusal.Refusal.{Refusal}
use Rattle.cr_resolve.specs.declared.refusal.Refusal.TheVariants.{OutOfProfile, BadName, TableExists}
use Rattle.cr_resolve.specs.declared.refusal.Outside.TheVariants as outside
use Rattle.cr_resolve.specs.Known.{Known, collations}
use Rattle.cr_resolve.specs.Creates.{clauses, column_def, is_primary, is_real, is_taken, key_place as place, missing, or_none, over_limits, repeats}
use Rattle.cr_resolve.specs.Reading.{Read, when}

abbrev pub key_place : Option (List Name) → Column → Option ℕ
key_place key c = option_map (λ p. min p 255) (place key c)

unfoldable pub draft : Option (List Name) → Column → ColumnDef
draft key c = record (column_def key c) { key = key_place key c }

abbrev pub column_read : Option (List Name) → Column → Read ColumnDef
column_read key c = record { bad = when (is_real c) (OutOfProfile outside.Real); misplaced = false; made = draft key c }

abbrev pub columns_read : Option (List Name) → List Column → Read (List ColumnDef)
columns_read key cs = record { bad = when (list_any is_real cs) (OutOfProfile outside.Real); misplaced = false; made = map (draft key) cs }

-- ---- what stands against a table of these columns

abbrev pub table_of : CreateTree → List ColumnDef → TableDef
table_of c columns = record { name = c.table; columns = columns }

-- how many PRIMARY KEYs are written at columns
abbrev pub primaries : List Column → ℕ
primaries cs = sum_by (λ c. count_by is_primary c.constraints) cs

-- out of the profile, beside a column's type
abbrev pub outside_types : CreateTree → List ColumnDef → List Refusal
outside_types c columns =
    when (not (clauses c == 1)) (OutOfProfile outside.PrimaryKey)
    ++ when (list_any is_collated_key columns) (OutOfProfile outside.Collate)
    ++ when (list_any is_named_row columns) (OutOfProfile outside.RowCid)
    ++ when (list_any is_default_too_long columns) (OutOfProfile outside.Default)

abbrev pub drafted : CreateTree → Read (List ColumnDef)
drafted c =
    let r : Read (List ColumnDef) = columns_read c.key c.columns in record {
      bad = r.bad ++ (outside_types c r.made ++ over_limits c (table_of c r.made));
      misplaced = false;
      made = r.made;
    }

abbrev pub against_table : CreateTree → Bool → List Refusal
against_table c taken = when (is_reserved c.table) (BadName c.table) ++ when (taken && not c.if_not_exists) (TableExists c.table)

abbrev pub against_columns : List Column → List Name → List Refusal
against_columns cs key = repeats [] (map (λ c. c.name) cs) ++ missing (map (λ c. c.name) cs) key ++ repeats [] key

abbrev pub names_read : Known → CreateTree → List ColumnDef → Read Bool
names_read known c columns = record {
  bad = against_table c (is_taken known c) ++ against_columns c.columns (or_none c.key) ++ collations known (map (λ d. d.collation) columns);
  misplaced = false;
  made = is_taken known c;
}

-- ---- a column that is added

-- out of the profile, beside its type
abbrev pub added_outside : Column → ColumnDef → List Refusal
added_outside c column =
    when (list_any is_primary c.constraints) (OutOfProfile outside.PrimaryKey)
    ++ when (is_named_row column) (OutOfProfile outside.RowCid)
    ++ when (is_default_too_long column) (OutOfProfile outside.Default)
