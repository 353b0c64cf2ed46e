-- The definition of a table in a line, `NAME COL COL ..`. Source: this project's own line format.
use Rattle.std.specs.Prelude.{ℕ, zero, suc, ◌+◌, Bool, true, false, not, ◌&&◌, ◌||◌, ◌==◌, nat_lt, List, [], ◌∷◌, length, take, drop, map, Option, Some, None, is_some, codes, if◌then◌else◌}
use Rattle.std.specs.List.{list_any, prefix_len}
use Rattle.std.specs.Option.{option_map, option_map_or}
use Rattle.std.specs.Str.{is_utf8}
use Rattle.cr_value.specs.declared.value.Value.{Value}
use Rattle.cr_value.specs.declared.value.Value.TheVariants.{Null}
use Rattle.cr_value.specs.declared.affinity.Affinity.{Affinity}
use Rattle.cr_value.specs.declared.affinity.Affinity.TheVariants.{Blob}
use Rattle.cr_value.specs.Affinity.{affinity_of_type}
use Rattle.cr_value.specs.Unpacking.{◌>>=◌}
use Rattle.cr_value.specs.Reading.{literal_at}
use Rattle.cr_world.specs.declared.command.Command.{Command}
use Rattle.cr_world.specs.declared.command.Command.TheVariants.{Define}
use Rattle.cr_world.specs.declared.command.Declaration.{Declaration}
use Rattle.cr_world.specs.declared.command.Declaration.TheVariants.{Real, Table}
use Rattle.cr_host.specs.Names.{folded}
use Rattle.cr_shell.specs.declared.table_line.Marks.{Marks}
use Rattle.cr_shell.specs.declared.table_line.Column.{Column}
use Rattle.cr_shell.specs.Words.{split_at_space, behind, is_empty}

-- ---- the parts of a column

-- whether a byte stands here, and what is behind it
abbrev pub mark_at : ℕ → List ℕ → Bool × List ℕ
mark_at c bytes = option_map_or (λ rest. (true, rest)) (behind c bytes) (false, bytes)

-- `*` (in the key) and `!` (NOT NULL), each at most once, in either order
abbrev pub marks_at : List ℕ → Marks × List ℕ
marks_at bytes =
    let first = mark_at 42 bytes in
    let second = mark_at 33 first.1 in
    let third = mark_at 42 second.1 in
    if first.0
    then (record { in_key = true; not_null = second.0 }, second.1)
    else (record { in_key = third.0; not_null = second.0 }, third.1)

-- how many bytes stand before the first space or that byte
abbrev pub word_len : ℕ → List ℕ → ℕ
word_len stop bytes = prefix_len (λ c. not (c == 32 || c == stop)) bytes

-- the text before the first space or that byte, and the rest
unfoldable pub word_at : ℕ → List ℕ → Option (List ℕ × List ℕ)
word_at stop bytes =
    let n = word_len stop bytes in
    if is_utf8 (take n bytes) then Some (take n bytes, drop n bytes) else None

abbrev pub default_of : List ℕ → Option (List ℕ) → Option (Value × List ℕ)
default_of bytes None = Some (Null, bytes)
default_of bytes (Some rest) = literal_at rest

-- the literal behind `=`, else NULL
abbrev pub default_at : List ℕ → Option (Value × List ℕ)
default_at bytes = default_of bytes (behind 61 bytes)

-- ---- a column

-- the place in the key behind so many key columns: from 1, none past 255
abbrev pub place_in_key : ℕ → Bool → Option ℕ
place_in_key keys in_key = if in_key && nat_lt keys 255 then Some (keys + 1) else None

-- what a column with no affinity, as REAL is none, has in its place
abbrev pub affinity_or_blob : Option Affinity → Affinity
affinity_or_blob None = Blob
affinity_or_blob (Some a) = a

unfoldable pub column_of : ℕ → Marks → List ℕ → List ℕ → Value → Column
column_of keys marks name type default = record {
  definition = record {
    name = folded name;
    affinity = affinity_or_blob (affinity_of_type type);
    collation = codes "binary";
    not_null = marks.not_null;
    key = place_in_key keys marks.in_key;
    default = default;
  };
  is_real = not (is_some (affinity_of_type type));
}

-- The marks, the name, `:`, the type and the default of a column that so many key columns stand before, and the rest.
unfoldable pub column_at : ℕ → List ℕ → Option (Column × List ℕ)
column_at keys bytes = do
  name ← word_at 58 (marks_at bytes).1
  behind_name ← behind 58 name.1
  type ← word_at 61 behind_name
  default ← default_at type.1
  Some (column_of keys (marks_at bytes).0 name.0 type.0 default.0, default.1)

-- ---- the line

-- how many columns are in the key, with this one behind so many
abbrev pub keys_with : ℕ → Column → ℕ
keys_with keys column = option_map_or (λ place. place) column.definition.key keys

-- One column or more up to the end, one space between two; at most so many, behind so many key columns.
unfoldable pub columns_in : ℕ → ℕ → List ℕ → Option (List Column)
columns_in zero keys bytes = None
columns_in (suc most) keys bytes =
    column_at keys bytes >>= λ x.
    if is_empty x.1 then Some (x.0 ∷ [])
    else (behind 32 x.1 >>= λ rest. option_map (λ more. x.0 ∷ more) (columns_in most (keys_with keys x.0) rest))

-- no column may be REAL
abbrev pub declaration_of : List ℕ → List Column → Declaration
declaration_of name columns =
    if list_any (λ c. c.is_real) columns then Real
    else Table (record { name = folded name; columns = map (λ c. c.definition) columns })

unfoldable pub table_of : List ℕ → Option Command
table_of bytes = do
  words ← split_at_space bytes
  columns ← columns_in (length words.1) 0 words.1
  Some (Define (declaration_of words.0 columns))
