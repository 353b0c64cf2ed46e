-- The change that a row of the table of changes tells of. Source: this project's own; cr-sqlite's `crsql_changes`.
use Rattle.std.specs.Prelude.{ℕ, ℤ, ◌==◌, List, length, Option, Some, None, if◌then◌else◌}
use Rattle.cr_value.specs.declared.value.Value.{Value}
use Rattle.cr_value.specs.declared.value.Value.TheVariants.{Null, Int, Text, Blob}
use Rattle.cr_lattice.specs.declared.change.Change.{Change}
use Rattle.cr_replica.specs.declared.change_row.ChangeRow.{ChangeRow}

-- a text, a blob or an integer, or nothing where the value is of another type
abbrev pub text_of : Value → Option (List ℕ)
text_of (Text t) = Some t
text_of Null = None
text_of (Int n) = None
text_of (Blob b) = None

abbrev pub blob_of : Value → Option (List ℕ)
blob_of (Blob b) = Some b
blob_of Null = None
blob_of (Int n) = None
blob_of (Text t) = None

abbrev pub integer_of : Value → Option ℤ
integer_of (Int n) = Some n
integer_of Null = None
integer_of (Text t) = None
integer_of (Blob b) = None

abbrev pub site_of : Value → Option (List ℕ)
site_of Null = None
site_of (Int n) = None
site_of (Text t) = None
site_of (Blob b) = if length b == 16 then Some b else None

abbrev pub change_with : Value → Option (List ℕ) → Option (List ℕ) → Option (List ℕ) → Option ℤ → Option (List ℕ) → Option ℤ → Option Change
change_with val (Some table) (Some pk) (Some cid) (Some version) (Some site) (Some cl) =
    Some (record { table = table; pk = pk; cid = cid; val = val; col_version = version; site = site; cl = cl })
change_with val table pk cid version site cl = None

-- the row's change, where each of its values is of the type that a change has
unfoldable pub change_of : ChangeRow → Option Change
change_of r = change_with r.val (text_of r.table) (blob_of r.pk) (text_of r.cid) (integer_of r.col_version) (site_of r.site_id) (integer_of r.cl)
