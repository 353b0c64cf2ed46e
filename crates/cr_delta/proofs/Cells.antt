-- The cells of a row, each a column and its value.
use Rattle.std.proofs.Common.{◌≡◌, inl, inr, ℕ, zero, suc, ◌<◌, Bool, true, false, not, ◌&&◌, ◌||◌, List, [], ◌∷◌, length, get_or, refl, sym, ap, ◌∙◌, arith}
use Rattle.std.specs.Prelude.{AllPairs}
use Rattle.std.specs.List.{zip, list_any}
use Rattle.cr_value.specs.declared.value.Value.{Value}
use Rattle.cr_value.specs.declared.value.Value.TheVariants.{Null, Int, Text, Blob}
use Rattle.cr_value.specs.OrderLaws.{value_exact}
use Rattle.cr_value.specs.Affinity.{applied}
use Rattle.cr_lattice.specs.declared.table.ColumnDef.{ColumnDef}
use Rattle.cr_lattice.specs.declared.table.TableDef.{TableDef}
use Rattle.cr_lattice.specs.Change.{row_cid}
use Rattle.cr_lattice.specs.Check.{same_bytes, is_key_column, is_row_cid}
use Rattle.cr_lattice.specs.Profile.{has_row_cid, HasDistinctNames}
use Rattle.cr_lattice.specs.Rows.{shown}
use Rattle.cr_delta.specs.Key.{cells_of}
use Rattle.cr_delta.specs.Delta.{value_cells}
use Rattle.cr_delta.specs.Wanted.{may_hold}
use Rattle.cr_delta.proofs.Among.{and_true, Among, Among-filter, filter_member, any_member}
use Rattle.cr_delta.proofs.Members.{eq_true, not_true, is_same}

-- where a member stands
pub member_at : {A : Type 0} (xs : List A) (a : A) → Among xs a → (k : ℕ) × (k < length xs) × ((d : A) → get_or xs k d ≡ a)
member_at [] a m = absurd m
member_at (x ∷ xs) a m =
    elim m [
      | inl here ↦ (zero, omega arith, λ d. sym here)
      | inr there ↦ (let r = member_at xs a there in (suc r.0, omega (arith, r.1), r.2))
    ]

pub pair_first : {A : Type 0} (R : A → A → Type 0) (x : A) (xs : List A) (a : A) → AllPairs R (x ∷ xs) → Among xs a → R x a
pair_first R x xs a all m = let k = member_at xs a m in rw (k.2 x) at (all zero (suc k.0) x (omega arith) (omega (arith, k.1)))

pub pair_rest : {A : Type 0} (R : A → A → Type 0) (x : A) (xs : List A) → AllPairs R (x ∷ xs) → AllPairs R xs
pair_rest R x xs all = λ i j d lt below. all (suc i) (suc j) d (omega arith) (omega arith)

pub column_of : (cols : List ColumnDef) (row : List Value) (cell : ColumnDef × Value) → Among (zip cols row) cell → Among cols cell.0
column_of [] row cell m = absurd m
column_of (col ∷ cols) [] cell m = absurd m
column_of (col ∷ cols) (v ∷ vs) cell m = elim m [ inl here ↦ inl (ap (λ (x : ColumnDef × Value). x.0) here) | inr there ↦ inr (column_of cols vs cell there) ]

-- a name is one column's, so it is one cell's
one_named : (cols : List ColumnDef) (row : List Value) (a b : ColumnDef × Value) → AllPairs (λ x y. same_bytes x.name y.name ≡ false) cols
    → Among (zip cols row) a → Among (zip cols row) b → a.0.name ≡ b.0.name → a ≡ b
one_named [] row a b apart m n e = absurd m
one_named (col ∷ cols) [] a b apart m n e = absurd m
one_named (col ∷ cols) (v ∷ vs) a b apart m n e =
    let other : (x : ColumnDef × Value) → Among (zip cols vs) x → col.name ≡ x.0.name → ⊥ = λ x i same. (
    let no_same = pair_first (λ x y. same_bytes x.name y.name ≡ false) col cols x.0 apart (column_of cols vs x i) in
    let so = is_same col.name x.0.name same in
    absurd cc) in
    elim m [
      | inl here ↦ elim n [
        | inl here' ↦ here ∙ sym here'
        | inr there' ↦ absurd (other b there' (ap (λ (x : ColumnDef × Value). x.0.name) (sym here) ∙ e))
      ]
      | inr there ↦ elim n [
        | inl here' ↦ absurd (other a there (ap (λ (x : ColumnDef × Value). x.0.name) (sym here') ∙ sym e))
        | inr there' ↦ one_named cols vs a b (pair_rest (λ x y. same_bytes x.name y.name ≡ false) col cols apart) there there' e
      ]
    ]

pub cell_of_value : (def : TableDef) (row : List Value) (cell : ColumnDef × Value) → Among (value_cells def row) cell → Among (cells_of def row) cell × (is_key_column cell.0 ≡ false)
unfolding value_cells
cell_of_value def row cell m = let r = Among-filter (λ x. not (is_key_column x.0)) (cells_of def row) cell m in (r.0, not_true _ r.1)

pub value_cell : (def : TableDef) (row : List Value) (cell : ColumnDef × Value) → Among (cells_of def row) cell → is_key_column cell.0 ≡ false → Among (value_cells def row) cell
unfolding value_cells
value_cell def row cell m e = filter_member (λ x. not (is_key_column x.0)) (cells_of def row) cell m (ap not e)

pub one_cell : (def : TableDef) (row : List Value) (a b : ColumnDef × Value) → HasDistinctNames def → Among (value_cells def row) a → Among (value_cells def row) b → a.0.name ≡ b.0.name → a ≡ b
one_cell def row a b apart m n e = one_named def.columns row a b apart (cell_of_value def row a m).0 (cell_of_value def row b n).0 e

pub not_row_cid : (def : TableDef) (row : List Value) (cell : ColumnDef × Value) → has_row_cid def ≡ false → Among (value_cells def row) cell → cell.0.name ≡ row_cid → ⊥
unfolding has_row_cid
not_row_cid def row cell none m e =
    let some : list_any (λ col. is_row_cid col.name) def.columns ≡ true = any_member (λ col. is_row_cid col.name) def.columns cell.0 (column_of def.columns row cell (cell_of_value def row cell m).0) (is_same _ _ e) in
    absurd cc

-- ---- what a column shows of a value that it may hold

fixed : (col : ColumnDef) (v : Value) → may_hold col v ≡ true → applied col.affinity v ≡ v
fixed col v e = value_exact _ _ (eq_true _ (and_true _ _ e).0)

nullable : (key wants : Bool) → not ((key || wants) && true) ≡ true → wants ≡ false
nullable true wants e = absurd cc
nullable false true e = absurd cc
nullable false false e = refl

pub shown_value : (col : ColumnDef) (v : Value) → may_hold col v ≡ true → shown col v ≡ v
shown_value col Null e =
    let free : col.not_null ≡ false = nullable (is_key_column col) col.not_null (and_true _ _ e).1 in
    rw free refl
shown_value col (Int n) e = fixed col (Int n) e
shown_value col (Text t) e = fixed col (Text t) e
shown_value col (Blob b) e = fixed col (Blob b) e
