-- Without defaults an INSERT must look at all that is kept.
use Rattle.std.proofs.Common.{◌≡◌, ℕ, pos, true, false, List, [], ◌∷◌, ◌++◌, Some, None, refl}
use Rattle.cr_value.specs.declared.affinity.Affinity.TheVariants as affinity
use Rattle.cr_value.specs.declared.value.Value.TheVariants.{Null}
use Rattle.cr_value.specs.Unpacking.{int_at, value_at, values_at, unpacked}
use Rattle.cr_lattice.specs.declared.change.Change.{Change}
use Rattle.cr_lattice.specs.declared.table.ColumnDef.{ColumnDef}
use Rattle.cr_lattice.specs.declared.table.TableDef.{TableDef}
use Rattle.cr_lattice.specs.Change.{row_cid}
use Rattle.cr_lattice.specs.Rows.{alive_keys, kept_change, row, rows}
use Rattle.cr_query.specs.Writes.{lacks_value}
use Rattle.cr_touched.specs.Parts.{part, under_keys}

key_column : ColumnDef
key_column = record { name = 97 ∷ []; affinity = affinity.Integer; collation = 98 ∷ []; not_null = false; key = Some 1; default = Null }

wanting_column : ColumnDef
wanting_column = record { name = 99 ∷ []; affinity = affinity.Integer; collation = 98 ∷ []; not_null = true; key = None; default = Null }

table : List ColumnDef → TableDef
table columns = record { name = 116 ∷ []; columns = columns }

-- a row that is present
present : List ℕ → Change
present pk = record { table = 116 ∷ []; pk = pk; cid = row_cid; val = Null; col_version = pos 1; site = []; cl = pos 1 }

bytes : List ℕ
bytes = 1 ∷ 1 ∷ 0 ∷ 0 ∷ 0 ∷ 0 ∷ 0 ∷ 0 ∷ 1 ∷ 0 ∷ []

-- ---- a column that wants a value, and has no default

all_lacks_one : lacks_value (table (key_column ∷ wanting_column ∷ [])) (rows (present bytes ∷ []) (table (key_column ∷ wanting_column ∷ [])) ++ []) ≡ true
unfolding key_column wanting_column table present bytes lacks_value rows row alive_keys kept_change unpacked values_at value_at int_at
all_lacks_one = refl

theirs_lacks_none : lacks_value (table (key_column ∷ wanting_column ∷ [])) (rows (under_keys (table (key_column ∷ wanting_column ∷ [])) [] (present bytes ∷ [])) (table (key_column ∷ wanting_column ∷ [])) ++ []) ≡ false
unfolding key_column wanting_column table present bytes lacks_value rows row alive_keys kept_change part
theirs_lacks_none = refl
