-- What casts and comparisons of SQL make of values.
use Rattle.std.proofs.Common.{◌≡◌, ℤ, Bool, true, false, cond, Some, ◌&&◌, is_eq, is_gt, refl, sym, ap}
use Rattle.std.specs.Ordering.{is_lt}
use Rattle.sqlite.specs.declared.types.Value.{Value}
use Rattle.sqlite.specs.declared.types.Value.TheVariants.{Null, Int, Real, Text, Blob}
use Rattle.sqlite.specs.Kind.TheVariants.{Integer}
use Rattle.sqlite_value.specs.Order.{value_cmp}
use Rattle.sqlite_value.proofs.OrderLemmas.{value_cmp-Null}
use Rattle.sqlite_value.specs.declared.keys.Collation.TheVariants.{Binary}
use Rattle.sqlite_sql.specs.Ops.{unary, binary, is_true, is_null, from_truth}
use Rattle.sqlite_sql.specs.declared.ops.BinaryOp.TheVariants.{Compare}
use Rattle.sqlite_sql.specs.declared.ops.CompareOp.TheVariants.{Eq, Gt, Lt}
use Rattle.sqlite_sql.specs.declared.ops.UnaryOp.TheVariants.{ToNumeric}
use Rattle.sqlite_rules.specs.Cast.{cast}

either : (b : Bool) (x : Value) → cond b x x ≡ x
either true x = refl
either false x = refl

pub cast_null : cast Integer Null ≡ Null
unfolding unary
cast_null = either _ Null

pub cast_int : (n : ℤ) → cast Integer (Int n) ≡ Int n
unfolding unary
cast_int n = either _ (Int n)

true_is : (b : Bool) → is_true (from_truth (Some b)) ≡ b
true_is true = refl
true_is false = refl

pub and_true : (b : Bool) → (b && true) ≡ b
and_true true = refl
and_true false = refl

-- SQL's =, where the right side is no NULL
pub equals_is : (a b : Value) → is_null b ≡ false → is_true (binary (Compare Eq Binary) a b) ≡ is_eq (value_cmp a b)
unfolding binary
equals_is Null Null h = absurd (let e : true ≡ false = h in cc)
equals_is Null (Int n) h = sym (ap is_eq (value_cmp-Null (Int n)))
equals_is Null (Real x) h = sym (ap is_eq (value_cmp-Null (Real x)))
equals_is Null (Text t) h = sym (ap is_eq (value_cmp-Null (Text t)))
equals_is Null (Blob t) h = sym (ap is_eq (value_cmp-Null (Blob t)))
equals_is (Int n) b h = rw h (true_is (is_eq (value_cmp (Int n) b)))
equals_is (Real n) b h = rw h (true_is (is_eq (value_cmp (Real n) b)))
equals_is (Text n) b h = rw h (true_is (is_eq (value_cmp (Text n) b)))
equals_is (Blob n) b h = rw h (true_is (is_eq (value_cmp (Blob n) b)))

pub above_is : (m n : ℤ) → is_true (binary (Compare Gt Binary) (Int m) (unary ToNumeric (Int n))) ≡ is_gt (value_cmp (Int m) (Int n))
unfolding binary unary
above_is m n = true_is (is_gt (value_cmp (Int m) (Int n)))

pub below_is : (m n : ℤ) → is_true (binary (Compare Lt Binary) (Int m) (unary ToNumeric (Int n))) ≡ is_lt (value_cmp (Int m) (Int n))
unfolding binary unary
below_is m n = true_is (is_lt (value_cmp (Int m) (Int n)))
