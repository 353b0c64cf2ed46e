-- Reading columns one after the other, as a loop does.
use Rattle.std.proofs.Common.{◌≡◌, ℕ, suc, ◌-◌, ◌+◌, ◌≤◌, ◌<◌, List, [], ◌∷◌, ◌++◌, Option, Some, None, refl, sym, ap, ◌∙◌, append_assoc, arith}
use Rattle.std.proofs.lemmas.List.{append-nil}
use Rattle.cr_lattice.specs.declared.table.ColumnDef.{ColumnDef}
use Rattle.cr_value.specs.declared.packing.Unread.{Unread}
use Rattle.cr_value.specs.declared.packing.Unread.TheVariants as unread
use Rattle.cr_value.specs.Unpacking.{◌>>=◌, Fails}
use Rattle.cr_layout.specs.Reading.{column_at, columns_at}

-- what was read before, and what is still read
abbrev pub with_front : List ColumnDef → Option (List ColumnDef × List ℕ) → Option (List ColumnDef × List ℕ)
with_front front read = read >>= λ x. Some (front ++ x.0, x.1)

regroup : (front : List ColumnDef) (c : ColumnDef) (read : Option (List ColumnDef × List ℕ)) → with_front front (read >>= λ x. Some (c ∷ x.0, x.1)) ≡ with_front (front ++ c ∷ []) read
regroup front c (Some x) = ap (λ (cs : List ColumnDef). Some (cs, x.1)) (simp append_assoc)
regroup front c None = refl

pub goes_on : (front : List ColumnDef) (count i : ℕ) (bytes : List ℕ) (c : ColumnDef) (after : List ℕ) (total : Option (List ColumnDef × List ℕ)) → i < count → column_at bytes ≡ Some (c, after)
    → with_front front (columns_at (count - i) bytes) ≡ total → with_front (front ++ c ∷ []) (columns_at (count - (i + 1)) after) ≡ total
unfolding columns_at
goes_on front count i bytes c after total lt h so_far =
    let k : count - i ≡ suc (count - (i + 1)) = omega arith in
    let one : with_front front (columns_at (count - i) bytes) ≡ with_front (front ++ c ∷ []) (columns_at (count - (i + 1)) after) = rw (k, h) (regroup front c (columns_at (count - (i + 1)) after)) in
    sym one ∙ so_far

pub ends : (e : Unread) (front : List ColumnDef) (count i : ℕ) (bytes : List ℕ) (total : Option (List ColumnDef × List ℕ)) → i < count → Fails e (column_at bytes)
    → with_front front (columns_at (count - i) bytes) ≡ total → Fails e total
unfolding columns_at
ends unread.Memory front count i bytes total lt h so_far = tt
ends unread.Malformed front count i bytes total lt h so_far =
    let k : count - i ≡ suc (count - (i + 1)) = omega arith in
    let one : with_front front (columns_at (count - i) bytes) ≡ None = rw (k, h) refl in
    sym so_far ∙ one

pub is_done : (front : List ColumnDef) (count i : ℕ) (bytes : List ℕ) (total : Option (List ColumnDef × List ℕ)) → count ≤ i → with_front front (columns_at (count - i) bytes) ≡ total → total ≡ Some (front, bytes)
unfolding columns_at
is_done front count i bytes total le so_far =
    let k : count - i ≡ 0 = omega arith in
    let one : with_front front (columns_at (count - i) bytes) ≡ Some (front, bytes) = rw k (ap (λ (cs : List ColumnDef). Some (cs, bytes)) (append-nil front)) in
    sym so_far ∙ one
