-- A scalar function, an aggregate and a collation that a host may register. Source: this project's own.
use Rattle.std.specs.Prelude.{ℕ, ℤ, pos, List, [], ◌∷◌, Result, Ok, Err, if◌then◌else◌, length, codes, int_div, int_rem}
use Rattle.std.specs.Int.{w64, int_bit_xor}
use Rattle.std.specs.declared.cmp.Ordering.{Ordering}
use Rattle.std.specs.Ordering.{nat_cmp, int_eq, on}
use Rattle.cr_value.specs.declared.value.Value.{Value}
use Rattle.cr_value.specs.declared.value.Value.TheVariants.{Null, Int}

-- half of an even integer, NULL of NULL
abbrev pub half : List Value → Result Value (List ℕ)
half (Null ∷ []) = Ok Null
half ((Int n) ∷ []) = if int_eq (int_rem n (pos 2)) (pos 0) then Ok (Int (int_div n (pos 2))) else Err (codes "odd")
half args = Err (codes "odd")

-- bit by bit, exclusive or of integers of 64 bits
abbrev pub exclusive_or : ℤ → ℤ → ℤ
exclusive_or a b = int_bit_xor w64 a b

-- exclusive or with the next integer; NULLs are passed over, and NULL is held before the first integer
abbrev pub xorall_step : Value → List Value → Result Value (List ℕ)
xorall_step held (Null ∷ []) = Ok held
xorall_step Null ((Int n) ∷ []) = Ok (Int n)
xorall_step (Int m) ((Int n) ∷ []) = Ok (Int (exclusive_or m n))
xorall_step held row = Err (codes "not an integer")

abbrev pub xorall_finish : Value → Result Value (List ℕ)
xorall_finish held = Ok held

-- by number of bytes
abbrev pub bylen : List ℕ → List ℕ → Ordering
bylen a b = on length nat_cmp a b
