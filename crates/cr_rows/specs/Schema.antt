-- Tables with a key that is no rowid, written out.
use Rattle.std.specs.Prelude.{true, false, [], ◌∷◌, None, List, ℕ}
use Rattle.sqlite.specs.Collation.TheVariants.{Binary}
use Rattle.sqlite.specs.declared.types.Value.TheVariants.{Null}
use Rattle.sqlite.specs.Table.{Table}
use Rattle.sqlite.specs.Schema.{Schema}
use Rattle.sqlite.specs.Kind.{Kind}
use Rattle.sqlite_schema.specs.declared.schema.Column.{Column}
use Rattle.sqlite_schema.specs.declared.schema.Index.{Index}
use Rattle.sqlite_value.specs.Keys.{plain}

abbrev pub column : List ℕ → Kind → Column
column name kind = record { name = name; kind = kind; is_strict = false; not_null = false; default = Null; collation = Binary }

-- a table with a key that is no rowid
abbrev pub keyed : List ℕ → ℕ → List Column → List ℕ → Table
keyed name tree columns key = record {
  name = name;
  tree = tree;
  columns = columns;
  key = None;
  primary = key;
  uniques = key ∷ [];
  orders = plain ∷ [];
  checks = [];
  references = [];
  computed = [];
  stamps = record { places = []; terms = []; formats = [] };
  is_counted = false;
}

-- the index that SQLite makes for the table's key
abbrev pub index_of : List ℕ → Table → List ℕ → ℕ → Index
index_of name table key tree = record { name = name; tree = tree; table = table.tree; columns = key; order = plain; is_unique = true }

abbrev pub no_schema : Schema
no_schema = record { tables = []; indexes = []; views = [] }
