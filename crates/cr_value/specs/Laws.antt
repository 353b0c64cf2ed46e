-- What holds of all values, whatever they are.
use Rattle.std.specs.Prelude.{◌≡◌, ℕ, List, ◌++◌, ◌+◌, length, slice_index, ◌==◌, false}
use Rattle.std.specs.Char.{is_ascii_digit}
use Rattle.std.specs.Cmp.{IsTotalOrder}
use Rattle.cr_value.specs.declared.value.Value.{Value}
use Rattle.cr_value.specs.declared.affinity.Affinity.{Affinity}
use Rattle.cr_value.specs.declared.collation.Collation.{Collation}
use Rattle.cr_value.specs.Affinity.{applied}
use Rattle.cr_value.specs.Collation.{text_cmp}
use Rattle.cr_value.specs.Literal.{literal, IsLiteral, Begins}
use Rattle.cr_value.specs.Packing.{IsValue, Packed}

-- A collation is total, transitive and the same from both sides, and it may tie texts that are not the same.
abbrev pub CollationsAreTotal : Type 0
CollationsAreTotal = (c : Collation) → IsTotalOrder (text_cmp c)

abbrev pub AffinityOnceIsEnough : Type 0
AffinityOnceIsEnough = (a : Affinity) (v : Value) → applied a (applied a v) ≡ applied a v

abbrev pub OneSpelling : Type 0
OneSpelling = (vs : List Value) (x y : List ℕ) → Packed vs x → Packed vs y → x ≡ y

abbrev pub OneMeaning : Type 0
OneMeaning = (vs ws : List Value) (bytes : List ℕ) → Packed vs bytes → Packed ws bytes → vs ≡ ws

-- one literal at most begins at a place
abbrev pub OneLiteral : Type 0
OneLiteral = (text : List ℕ) (at : ℕ) (v w : Value) (end last : ℕ) → Begins text at v end → Begins text at w last → (v ≡ w) × (end ≡ last)

-- What is written of a value is a literal of it, where what follows begins with no digit and no quote.
abbrev pub IsWritten : Type 0
IsWritten = (v : Value) (after : List ℕ) → IsValue v → is_ascii_digit (slice_index after 0) ≡ false → (slice_index after 0 == 39) ≡ false → IsLiteral v (literal v) after

-- what is written of a value is read back, unless what follows goes on with it
abbrev pub LiteralsAreReadBack : Type 0
LiteralsAreReadBack = (before after : List ℕ) (v : Value) → IsLiteral v (literal v) after
    → Begins (before ++ literal v ++ after) (length before) v (length before + length (literal v))
