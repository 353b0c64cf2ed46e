-- How sqlite compares the keys of a store's rows.
use Rattle.std.proofs.Common.{◌≡◌, ◌∷◌, [], ℕ, ℤ, List, Bool, true, false, ◌&&◌, Some, refl, ap, ◌∙◌, is_eq, is_gt, int_cmp, arith}
use Rattle.std.specs.Prelude.{int_lt}
use Rattle.std.specs.Ordering.{is_lt}
use Rattle.std.proofs.lemmas.Int.{ints}
use Rattle.std.proofs.lemmas.Bool.Decides.{nat_tests}
use Rattle.sqlite.specs.declared.types.Value.TheVariants.{Int, Text, Blob}
use Rattle.sqlite.specs.Order.{Row}
use Rattle.sqlite_value.specs.Order.{value_cmp}
use Rattle.sqlite_value.proofs.OrderLemmas.{value_cmp-Text, value_cmp-Blob, value_cmp-Int}
use Rattle.sqlite_value.specs.declared.keys.Collation.TheVariants.{Binary}
use Rattle.sqlite_sql.specs.Ops.{unary, binary, is_true, from_truth}
use Rattle.sqlite_sql.specs.declared.ops.BinaryOp.TheVariants.{Compare}
use Rattle.sqlite_sql.specs.declared.ops.CompareOp.TheVariants.{Eq}
use Rattle.sqlite_sql.specs.declared.ops.UnaryOp.TheVariants.{ToNumeric}
use Rattle.cr_rows.proofs.SelectLemmas.{passes_all}
use Rattle.cr_rows.proofs.TextLemmas.{equals_is, above_is, below_is, and_true}
use Rattle.cr_lattice.specs.declared.change.Change.{Change}
use Rattle.cr_lattice.specs.declared.stamped.Stamped.{Stamped}
use Rattle.cr_lattice.specs.declared.table.Table.{Table}
use Rattle.cr_lattice.specs.Check.{same_bytes}
use Rattle.cr_lattice.specs.Rows.{is_of_row}
use Rattle.cr_cells.specs.Holding.{is_of_table}
use Rattle.cr_store.specs.declared.format.Format.TheVariants.{Second}
use Rattle.cr_store.specs.Ordinals.{ordinal, has_table, IsNamed}
use Rattle.cr_store.specs.Rows.{cell_row}
use Rattle.cr_store.specs.Words.{same_key}
use Rattle.cr_store.proofs.OrdinalLemmas.{same_ordinal}
use Rattle.cr_store.proofs.TextLemmas.{at_first, at_key, at_old_key, at_row, at_table, above}

pub same_text : (x y : List ℕ) → is_eq (value_cmp (Text x) (Text y)) ≡ same_bytes x y
same_text x y = ap is_eq (value_cmp-Text x y)

pub same_blob : (x y : List ℕ) → is_eq (value_cmp (Blob x) (Blob y)) ≡ same_bytes x y
same_blob x y = ap is_eq (value_cmp-Blob x y)

later : (m n : ℤ) → is_gt (value_cmp (Int m) (Int n)) ≡ int_lt n m
later m n = ap is_gt (value_cmp-Int m n) ∙ grind (arith, ints, nat_tests)

earlier : (m n : ℤ) → is_lt (value_cmp (Int m) (Int n)) ≡ int_lt m n
earlier m n = ap is_lt (value_cmp-Int m n) ∙ grind (arith, ints, nat_tests)

pub passes_text : (name x : List ℕ) (id : ℤ) (given rest : Row) → passes_all at_first (Text name ∷ given) (Int id ∷ Text x ∷ rest) ≡ same_bytes x name
passes_text name x id given rest = and_true _ ∙ equals_is (Text x) (Text name) refl ∙ same_text x name

pub passes_blob : (site x : List ℕ) (id : ℤ) (given rest : Row) → passes_all at_first (Blob site ∷ given) (Int id ∷ Blob x ∷ rest) ≡ same_bytes x site
passes_blob site x id given rest = and_true _ ∙ equals_is (Blob x) (Blob site) refl ∙ same_blob x site

three : (p q r t : Bool) → (p && (q && (r && (t && true)))) ≡ ((p && (q && r)) && t)
three true true true t = and_true t
three true true false t = refl
three true false r t = refl
three false q r t = refl

pub same_int : (m n : ℤ) → is_eq (value_cmp (Int m) (Int n)) ≡ is_eq (int_cmp m n)
same_int m n = ap is_eq (value_cmp-Int m n)

pub one_way : (b : Bool) → is_true (from_truth (Some b)) ≡ b
one_way true = refl
one_way false = refl

-- SQL's = between a column's integer and a given one
pub same_number : (m n : ℤ) → is_true (binary (Compare Eq Binary) (Int m) (unary ToNumeric (Int n))) ≡ is_eq (value_cmp (Int m) (Int n))
unfolding binary unary
same_number m n = one_way (is_eq (value_cmp (Int m) (Int n)))

-- the ordinal of a table that is there is that of no other name
pub same_table : (ts : List Table) (x y : List ℕ) → has_table ts x ≡ true → is_eq (value_cmp (Int (ordinal ts x)) (Int (ordinal ts y))) ≡ same_bytes x y
same_table ts x y there = same_int (ordinal ts x) (ordinal ts y) ∙ same_ordinal ts x y there

module _ (ts : List Table) where
  pub passes_key : (c : Change) (given : Row) (id : ℤ) (s : Stamped) → IsNamed ts s → passes_all at_key (Int (ordinal ts c.table) ∷ Blob c.pk ∷ Text c.cid ∷ given) (Int id ∷ cell_row Second ts s) ≡ same_key s.change c
  passes_key c given id s there =
      rw (same_number (ordinal ts s.change.table) (ordinal ts c.table), equals_is (Blob s.change.pk) (Blob c.pk) refl, equals_is (Text s.change.cid) (Text c.cid) refl, and_true (is_eq (value_cmp (Text s.change.cid) (Text c.cid))), same_table ts s.change.table c.table there, same_blob s.change.pk c.pk, same_text s.change.cid c.cid)

  pub passes_old : (c : Change) (version : ℤ) (id : ℤ) (s : Stamped) → IsNamed ts s
      → passes_all at_old_key (Int (ordinal ts c.table) ∷ Blob c.pk ∷ Text c.cid ∷ Int version ∷ []) (Int id ∷ cell_row Second ts s) ≡ (same_key s.change c && int_lt s.version version)
  passes_old c version id s there =
      rw (same_number (ordinal ts s.change.table) (ordinal ts c.table), equals_is (Blob s.change.pk) (Blob c.pk) refl, equals_is (Text s.change.cid) (Text c.cid) refl, below_is s.version version, same_table ts s.change.table c.table there, same_blob s.change.pk c.pk, same_text s.change.cid c.cid, earlier s.version version)
      (three (same_bytes s.change.table c.table) (same_bytes s.change.pk c.pk) (same_bytes s.change.cid c.cid) (int_lt s.version version))

  pub passes_above : (version id : ℤ) (s : Stamped) → passes_all above (Int version ∷ []) (Int id ∷ cell_row Second ts s) ≡ int_lt version s.version
  passes_above version id s = and_true _ ∙ above_is s.version version ∙ later s.version version

  pub passes_row : (table pk : List ℕ) (id : ℤ) (s : Stamped) → IsNamed ts s → passes_all at_row (Int (ordinal ts table) ∷ Blob pk ∷ []) (Int id ∷ cell_row Second ts s) ≡ is_of_row table pk s.change
  passes_row table pk id s there =
      rw (same_number (ordinal ts s.change.table) (ordinal ts table), equals_is (Blob s.change.pk) (Blob pk) refl, and_true (is_eq (value_cmp (Blob s.change.pk) (Blob pk))), same_table ts s.change.table table there, same_blob s.change.pk pk)

  pub passes_table : (table : List ℕ) (id : ℤ) (s : Stamped) → IsNamed ts s → passes_all at_table (Int (ordinal ts table) ∷ []) (Int id ∷ cell_row Second ts s) ≡ is_of_table table s.change
  passes_table table id s there =
      and_true _ ∙ same_number (ordinal ts s.change.table) (ordinal ts table) ∙ same_table ts s.change.table table there
