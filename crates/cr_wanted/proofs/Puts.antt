-- Values put into a row, one after another.
use Rattle.std.proofs.Common.{◌≡◌, ℕ, zero, suc, ◌<◌, ◌≤◌, List, [], ◌∷◌, length, get_or, refl, ap, arith}
use Rattle.std.specs.List.{zip}
use Rattle.std.proofs.Math.ListN.{set}
use Rattle.cr_value.specs.declared.value.Value.{Value}
use Rattle.cr_value.specs.Affinity.{applied}
use Rattle.cr_lattice.specs.declared.table.ColumnDef.{ColumnDef}
use Rattle.cr_query.specs.Writes.{put, put_all}

-- where there is no column
pub put-none : (cols : List ColumnDef) (place : ℕ) (v : Value) (row : List Value) → length cols ≤ place → put cols place v row ≡ row
put-none [] place v row h = refl
put-none (col ∷ cols) zero v row h = absurd (omega arith)
put-none (col ∷ cols) (suc place) v [] h = refl
put-none (col ∷ cols) (suc place) v (old ∷ row) h = ap (λ l. old ∷ l) (put-none cols place v row (omega arith))

-- where the row ends before
pub put-past : (cols : List ColumnDef) (place : ℕ) (v : Value) (row : List Value) → length row ≤ place → put cols place v row ≡ row
put-past [] place v row h = refl
put-past (col ∷ cols) zero v [] h = refl
put-past (col ∷ cols) zero v (old ∷ row) h = absurd (omega arith)
put-past (col ∷ cols) (suc place) v [] h = refl
put-past (col ∷ cols) (suc place) v (old ∷ row) h = ap (λ l. old ∷ l) (put-past cols place v row (omega arith))

pub put-at : (cols : List ColumnDef) (place : ℕ) (v : Value) (row : List Value) (col : ColumnDef) → place < length cols → place < length row → put cols place v row ≡ set row place (applied (get_or cols place col).affinity v)
put-at [] place v row d h k = absurd (omega arith)
put-at (col ∷ cols) place v [] d h k = absurd (omega arith)
put-at (col ∷ cols) zero v (old ∷ row) d h k = refl
put-at (col ∷ cols) (suc place) v (old ∷ row) d h k = ap (λ l. old ∷ l) (put-at cols place v row d (omega arith) (omega arith))

-- the same by pairs of a place and a value
abbrev pub put_pairs : List ColumnDef → List (ℕ × Value) → List Value → List Value
put_pairs cols [] row = row
put_pairs cols (p ∷ ps) row = put_pairs cols ps (put cols p.0 p.1 row)

pub by_pairs : (cols : List ColumnDef) (places : List ℕ) (vs row : List Value) → put_pairs cols (zip places vs) row ≡ put_all cols places vs row
by_pairs cols [] vs row = refl
by_pairs cols (p ∷ ps) [] row = refl
by_pairs cols (p ∷ ps) (v ∷ vs) row = by_pairs cols ps vs (put cols p v row)
