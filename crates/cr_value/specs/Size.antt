-- The size of a value. Source: "Limits In SQLite", the length of a string or BLOB, in bytes; this project counts nothing else.
use Rattle.std.specs.Prelude.{ℕ, length}
use Rattle.cr_value.specs.declared.value.Value.{Value}
use Rattle.cr_value.specs.declared.value.Value.TheVariants as value

-- the bytes of a text or a blob
abbrev pub value_len : Value → ℕ
value_len value.Null = 0
value_len (value.Int n) = 0
value_len (value.Text t) = length t
value_len (value.Blob b) = length b
