-- The order of values under a collation is total where the collation's is.
use Rattle.std.proofs.Common.{◌≡◌, ◌∙◌, ℕ, ℤ, pos, List, [], Option, Some, None, refl, sym, ap, subst, Ordering, Less, Equal, Greater, nat_cmp, int_cmp}
use Rattle.std.specs.Option.{unwrap_or}
use Rattle.std.specs.Ordering.{ordering_then, on, then_cmp}
use Rattle.std.specs.Cmp.{IsTotalOrder, tied_itself}
use Rattle.std.proofs.lemmas.Cmp.{on_total, then_total, nat_cmp_total, int_cmp_total, nat_list_cmp_total}
use Rattle.cr_value.specs.declared.value.Value.{Value}
use Rattle.cr_value.specs.declared.value.Value.TheVariants.{Null, Int, Text, Blob}
use Rattle.cr_value.specs.Bytes.{bytes_cmp}
use Rattle.cr_scalar.specs.Compare.{value_cmp_by}
use Rattle.cr_scalar.specs.Host.{orders}

abbrev class : Value → ℕ
class Null = 0
class (Int n) = 1
class (Text t) = 2
class (Blob b) = 3

abbrev number : Value → ℤ
number Null = pos 0
number (Int n) = n
number (Text t) = pos 0
number (Blob b) = pos 0

abbrev text_in : Value → List ℕ
text_in Null = []
text_in (Int n) = []
text_in (Text t) = t
text_in (Blob b) = []

abbrev blob_in : Value → List ℕ
blob_in Null = []
blob_in (Int n) = []
blob_in (Text t) = []
blob_in (Blob b) = b

abbrev ranked : (List ℕ → List ℕ → Ordering) → Value → Value → Ordering
ranked order = then_cmp (on class nat_cmp) (then_cmp (on number int_cmp) (then_cmp (on text_in order) (on blob_in bytes_cmp)))

then_none : (o : Ordering) → o ≡ ordering_then o Equal
then_none Less = refl
then_none Equal = refl
then_none Greater = refl

by_rank : (order : List ℕ → List ℕ → Ordering) → order [] [] ≡ Equal → (a b : Value) → value_cmp_by order a b ≡ ranked order a b
by_rank order e Null Null = sym (ap (λ o. ordering_then o Equal) e)
by_rank order e Null (Int n) = refl
by_rank order e Null (Text t) = refl
by_rank order e Null (Blob b) = refl
by_rank order e (Int m) Null = refl
by_rank order e (Int m) (Int n) = then_none (int_cmp m n) ∙ ap (λ o. ordering_then (int_cmp m n) (ordering_then o Equal)) (sym e)
by_rank order e (Int m) (Text t) = refl
by_rank order e (Int m) (Blob b) = refl
by_rank order e (Text s) Null = refl
by_rank order e (Text s) (Int n) = refl
by_rank order e (Text s) (Text t) = then_none (order s t)
by_rank order e (Text s) (Blob b) = refl
by_rank order e (Blob s) Null = refl
by_rank order e (Blob s) (Int n) = refl
by_rank order e (Blob s) (Text t) = refl
by_rank order e (Blob s) (Blob t) = sym (ap (λ o. ordering_then o (bytes_cmp s t)) e)

pub values_total : (order : List ℕ → List ℕ → Ordering) → IsTotalOrder order → IsTotalOrder (value_cmp_by order)
values_total order o =
    subst IsTotalOrder (λ i a b. sym (by_rank order (tied_itself o []) a b) i)
    (then_total (on_total class nat_cmp_total) (then_total (on_total number int_cmp_total) (then_total (on_total text_in o) (on_total blob_in nat_list_cmp_total))))

found_or_binary : (o : Option (List ℕ → List ℕ → Ordering)) → ((order : List ℕ → List ℕ → Ordering) → o ≡ Some order → IsTotalOrder order) → IsTotalOrder (unwrap_or o bytes_cmp)
found_or_binary None h = nat_list_cmp_total
found_or_binary (Some order) h = h order refl

pub named_total : (order_of : List ℕ → Option (List ℕ → List ℕ → Ordering)) → ((name : List ℕ) (order : List ℕ → List ℕ → Ordering) → order_of name ≡ Some order → IsTotalOrder order) → (name : List ℕ) → IsTotalOrder (orders order_of name)
named_total order_of total name = found_or_binary (order_of name) (total name)
