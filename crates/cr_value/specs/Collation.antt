-- How texts are ordered. Source: "Datatypes In SQLite", section 7, "Collating Sequences".
use Rattle.std.specs.Prelude.{ℕ, ◌==◌, List, drop, reverse}
use Rattle.std.specs.List.{prefix_len}
use Rattle.std.specs.declared.cmp.Ordering.{Ordering}
use Rattle.std.specs.Ordering.{on}
use Rattle.std.specs.Str.{str_to_ascii_lowercase}
use Rattle.cr_value.specs.Bytes.{bytes_cmp}
use Rattle.cr_value.specs.declared.collation.Collation.{Collation}
use Rattle.cr_value.specs.declared.collation.Collation.TheVariants.{Binary, Nocase, Rtrim}

abbrev pub without_leading_spaces : List ℕ → List ℕ
without_leading_spaces t = drop (prefix_len (λ c. c == 32) t) t

abbrev pub without_trailing_spaces : List ℕ → List ℕ
without_trailing_spaces t = reverse (without_leading_spaces (reverse t))

-- by their bytes: as they are, with ASCII letters in lower case, or without the spaces at their end
abbrev pub text_cmp : Collation → List ℕ → List ℕ → Ordering
text_cmp Binary = bytes_cmp
text_cmp Nocase = on str_to_ascii_lowercase bytes_cmp
text_cmp Rtrim = on without_trailing_spaces bytes_cmp
