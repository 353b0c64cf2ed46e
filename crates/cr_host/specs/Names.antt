-- Names and counts of arguments that a registry takes. Source: this project's own rules;
-- the count -1 is that of "Create Or Redefine SQL Functions" of SQLite's C interface.
use Rattle.std.specs.Prelude.{ℕ, ℤ, pos, negsuc, zero, suc, List, Bool, not, ◌&&◌, ◌||◌, nat_le, length, codes, Option, Some, None, if◌then◌else◌}
use Rattle.std.specs.Str.{str_to_ascii_lowercase, bytes_eq}
use Rattle.std.specs.Option.{is_some}
use Rattle.cr_value.specs.declared.collation.Collation.{Collation}
use Rattle.cr_value.specs.declared.collation.Collation.TheVariants.{Binary, Nocase, Rtrim}
use Rattle.cr_host.specs.declared.arity.Arity.{Arity}
use Rattle.cr_host.specs.declared.arity.Arity.TheVariants.{Any, Exactly}

-- the ASCII letters of a name count in either case
abbrev pub folded : List ℕ → List ℕ
folded = str_to_ascii_lowercase

abbrev pub has_name_length : List ℕ → Bool
has_name_length name = nat_le 1 (length name) && nat_le (length name) 255

abbrev pub is_reserved_function : List ℕ → Bool
is_reserved_function name = bytes_eq (folded name) (codes "crsql_as_crr") || bytes_eq (folded name) (codes "crsql_site_id") || bytes_eq (folded name) (codes "crsql_db_version")

abbrev pub built_in_collation : List ℕ → Option Collation
built_in_collation name =
    if bytes_eq (folded name) (codes "binary") then Some Binary
    else if bytes_eq (folded name) (codes "nocase") then Some Nocase
    else if bytes_eq (folded name) (codes "rtrim") then Some Rtrim
    else None

abbrev pub is_function_name : List ℕ → Bool
is_function_name name = has_name_length name && not (is_reserved_function name)

abbrev pub is_collation_name : List ℕ → Bool
is_collation_name name = has_name_length name && not (is_some (built_in_collation name))

-- -1 is any count, 0 to 100 that count, and other numbers are none
abbrev pub arity_of : ℤ → Option Arity
arity_of (pos n) = if nat_le n 100 then Some (Exactly n) else None
arity_of (negsuc zero) = Some Any
arity_of (negsuc (suc n)) = None
