-- Each collation that is found is a total preorder, where those of the host are.
use Rattle.std.proofs.Common.{◌≡◌, ℕ, List, Option, Some, None, slice_get, subst, Ordering}
use Rattle.std.specs.Option.{option_map}
use Rattle.std.specs.Cmp.{IsTotalOrder}
use Rattle.std.proofs.lemmas.Cmp.{on_total, nat_list_cmp_total}
use Rattle.std.specs.Str.{str_to_ascii_lowercase}
use Rattle.cr_value.specs.declared.collation.Collation.{Collation}
use Rattle.cr_value.specs.declared.collation.Collation.TheVariants.{Binary, Nocase, Rtrim}
use Rattle.cr_value.specs.Bytes.{bytes_cmp}
use Rattle.cr_value.specs.Collation.{text_cmp, without_trailing_spaces}
use Rattle.cr_host.specs.declared.function.FoundCollation.{FoundCollation}
use Rattle.cr_host.specs.declared.function.FoundCollation.TheVariants.{BuiltIn, Host}
use Rattle.cr_host.specs.Names.{built_in_collation}
use Rattle.cr_host.specs.Registry.{Named, number_at, order_for, order_at, found_order}

text_total : (c : Collation) → IsTotalOrder (text_cmp c)
text_total Binary = nat_list_cmp_total
text_total Nocase = on_total str_to_ascii_lowercase nat_list_cmp_total
text_total Rtrim = on_total without_trailing_spaces nat_list_cmp_total

pub order_for_total : (order : ℕ → List ℕ → List ℕ → Ordering) → ((n : ℕ) → IsTotalOrder (order n)) → (name : List ℕ) (cs : List Named) (o : List ℕ → List ℕ → Ordering) → order_for order name cs ≡ Some o → IsTotalOrder o
order_for_total order total name cs o = by (built_in_collation name) (number_at name cs)
  where
    by : (b : Option Collation) (n : Option ℕ) → elim b as (λ _. Option (List ℕ → List ℕ → Ordering)) [ Some c ↦ Some (text_cmp c) | None ↦ option_map order n ] ≡ Some o → IsTotalOrder o
    by (Some c) n e = let q : text_cmp c ≡ o = cc in subst IsTotalOrder q (text_total c)
    by None None e = cc
    by None (Some n) e = let q : order n ≡ o = cc in subst IsTotalOrder q (total n)

-- the collation at a place
pub order_at_total : (order : ℕ → List ℕ → List ℕ → Ordering) → ((n : ℕ) → IsTotalOrder (order n)) → (cs : List Named) (place : ℕ) → IsTotalOrder (order_at order cs place)
order_at_total order total cs place = by (slice_get cs place)
  where
    by : (c : Option Named) → IsTotalOrder (elim c as (λ _. List ℕ → List ℕ → Ordering) [ Some c ↦ order c.number | None ↦ bytes_cmp ])
    by (Some c) = total c.number
    by None = nat_list_cmp_total

-- and one that was found
pub found_order_total : (at : ℕ → List ℕ → List ℕ → Ordering) → ((place : ℕ) → IsTotalOrder (at place)) → (found : FoundCollation) → IsTotalOrder (found_order at found)
found_order_total at total (BuiltIn c) = text_total c
found_order_total at total (Host place) = total place

-- an order for where there is no host
abbrev pub built_in_only : ℕ → List ℕ → List ℕ → Ordering
built_in_only n = bytes_cmp

pub built_in_only_total : (n : ℕ) → IsTotalOrder (built_in_only n)
built_in_only_total n = nat_list_cmp_total
