-- The orders of entries and marks are total, and only equal ones tie.
use Rattle.std.proofs.Common.{◌≡◌, Bool, true, false, Ordering, Less, Equal, Greater, refl}
use Rattle.std.specs.Ordering.{ordering_then, bool_cmp}
use Rattle.std.specs.Cmp.{IsTotalOrder, bool_cmp_total}
use Rattle.std.specs.FinMap.{IsAntisymmetric}
use Rattle.std.specs.FinSet.{int_cmp-IsAntisymmetric}
use Rattle.std.proofs.lemmas.Cmp.{on_total, then_total, int_cmp_total}
use Rattle.cr_value.specs.OrderLaws.{bytes_total, bytes_exact, value_total, value_exact}
use Rattle.cr_store.specs.Stored.{meta_cmp, table_cmp, seen_cmp}

tie_parts : (o p : Ordering) → ordering_then o p ≡ Equal → (o ≡ Equal) × (p ≡ Equal)
tie_parts Less p e = absurd cc
tie_parts Equal p e = (refl, e)
tie_parts Greater p e = absurd cc

pub meta_total : IsTotalOrder meta_cmp
unfolding meta_cmp
meta_total = then_total (on_total (λ e. e.name) bytes_total) (on_total (λ e. e.val) value_total)

pub meta_exact : IsAntisymmetric meta_cmp
unfolding meta_cmp
meta_exact a b e =
    let p = tie_parts _ _ e in
    let name = bytes_exact a.name b.name p.0 in
    let val = value_exact a.val b.val p.1 in
    λ i. record { name = name i; val = val i }

pub seen_total : IsTotalOrder seen_cmp
unfolding seen_cmp
seen_total = then_total (on_total (λ m. m.0) bytes_total) (on_total (λ m. m.1) int_cmp_total)

pub seen_exact : IsAntisymmetric seen_cmp
unfolding seen_cmp
seen_exact a b e =
    let p = tie_parts _ _ e in
    let site = bytes_exact a.0 b.0 p.0 in
    let seen = int_cmp-IsAntisymmetric a.1 b.1 p.1 in
    λ i. (site i, seen i)

pub table_total : IsTotalOrder table_cmp
unfolding table_cmp
table_total = then_total (on_total (λ e. e.ordinal) int_cmp_total) (then_total (on_total (λ e. e.name) bytes_total) (then_total (on_total (λ e. e.is_replicated) bool_cmp_total) (on_total (λ e. e.layout) bytes_total)))

same_bool : (a b : Bool) → bool_cmp a b ≡ Equal → a ≡ b
same_bool true true e = refl
same_bool true false e = absurd cc
same_bool false true e = absurd cc
same_bool false false e = refl

pub table_exact : IsAntisymmetric table_cmp
unfolding table_cmp
table_exact a b e =
    let p = tie_parts _ _ e in let q = tie_parts _ _ p.1 in let s = tie_parts _ _ q.1 in
    let ordinal = int_cmp-IsAntisymmetric a.ordinal b.ordinal p.0 in
    let name = bytes_exact a.name b.name q.0 in
    let crr = same_bool a.is_replicated b.is_replicated s.0 in
    let layout = bytes_exact a.layout b.layout s.1 in
    λ i. record { ordinal = ordinal i; name = name i; is_replicated = crr i; layout = layout i }
