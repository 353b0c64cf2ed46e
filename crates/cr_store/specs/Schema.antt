-- The schemas of a store: its tables in the order in which they are made, each with the index of its key.
use Rattle.std.specs.Prelude.{[], ◌∷◌, codes, List, ℕ}
use Rattle.sqlite.specs.Table.{Table}
use Rattle.sqlite.specs.Schema.{Schema}
use Rattle.sqlite.specs.Kind.TheVariants.{Integer, Text, Any}
use Rattle.sqlite_schema.specs.declared.schema.Column.{Column}
use Rattle.cr_rows.specs.Schema.{column, keyed, index_of}
use Rattle.cr_store.specs.declared.format.Format.{Format}
use Rattle.cr_store.specs.declared.format.Format.TheVariants.{First, Second}

abbrev pub meta_columns : List Column
meta_columns = column (codes "name") Text ∷ column (codes "val") Any ∷ []

abbrev pub table_columns : List Column
table_columns = column (codes "name") Text ∷ column (codes "ordinal") Integer ∷ column (codes "crr") Integer ∷ column (codes "def") Any ∷ []

abbrev pub cell_columns : List Column
cell_columns =
    column (codes "tbl") Text ∷ column (codes "pk") Any ∷ column (codes "cid") Text ∷ column (codes "cl") Integer ∷ column (codes "ver") Integer ∷ column (codes "val") Any
    ∷ column (codes "site") Any ∷ column (codes "dbv") Integer ∷ column (codes "seq") Integer ∷ []

abbrev pub cell2_columns : List Column
cell2_columns =
    column (codes "tab") Integer ∷ column (codes "pk") Any ∷ column (codes "cid") Text ∷ column (codes "cl") Integer ∷ column (codes "ver") Integer ∷ column (codes "val") Any
    ∷ column (codes "site") Any ∷ column (codes "dbv") Integer ∷ column (codes "seq") Integer ∷ []

abbrev pub peer_columns : List Column
peer_columns = column (codes "site") Any ∷ column (codes "seen") Integer ∷ []

abbrev pub meta_table : ℕ → Table
meta_table tree = keyed (codes "cr_meta") tree meta_columns (1 ∷ [])

abbrev pub schema_table : ℕ → Table
schema_table tree = keyed (codes "cr_schema") tree table_columns (1 ∷ [])

abbrev pub cell_table : ℕ → Table
cell_table tree = keyed (codes "cr_cell") tree cell_columns (1 ∷ 2 ∷ 3 ∷ [])

abbrev pub peer_table : ℕ → Table
peer_table tree = keyed (codes "cr_peer") tree peer_columns (1 ∷ [])

abbrev pub cell2_table : ℕ → Table
cell2_table tree = keyed (codes "cr_cell2") tree cell2_columns (1 ∷ 2 ∷ 3 ∷ [])

-- of format 1
abbrev pub old_schema : Schema
old_schema = record {
  tables = meta_table 0 ∷ schema_table 2 ∷ cell_table 4 ∷ peer_table 6 ∷ [];
  indexes = index_of (codes "sqlite_autoindex_cr_meta_1") (meta_table 0) (1 ∷ []) 1 ∷ index_of (codes "sqlite_autoindex_cr_schema_1") (schema_table 2) (1 ∷ []) 3
      ∷ index_of (codes "sqlite_autoindex_cr_cell_1") (cell_table 4) (1 ∷ 2 ∷ 3 ∷ []) 5 ∷ index_of (codes "sqlite_autoindex_cr_peer_1") (peer_table 6) (1 ∷ []) 7 ∷ [];
  views = [];
}

-- of format 2, which has one table more
abbrev pub store_schema : Schema
store_schema = record {
  tables = meta_table 0 ∷ schema_table 2 ∷ cell_table 4 ∷ peer_table 6 ∷ cell2_table 8 ∷ [];
  indexes = index_of (codes "sqlite_autoindex_cr_meta_1") (meta_table 0) (1 ∷ []) 1 ∷ index_of (codes "sqlite_autoindex_cr_schema_1") (schema_table 2) (1 ∷ []) 3
      ∷ index_of (codes "sqlite_autoindex_cr_cell_1") (cell_table 4) (1 ∷ 2 ∷ 3 ∷ []) 5 ∷ index_of (codes "sqlite_autoindex_cr_peer_1") (peer_table 6) (1 ∷ []) 7
      ∷ index_of (codes "sqlite_autoindex_cr_cell2_1") (cell2_table 8) (1 ∷ 2 ∷ 3 ∷ []) 9 ∷ [];
  views = [];
}

abbrev pub schema_of : Format → Schema
schema_of First = old_schema
schema_of Second = store_schema
