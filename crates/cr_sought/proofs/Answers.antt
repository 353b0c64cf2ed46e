-- A SELECT whose terms leave out the rows of other keys answers the same over what is kept of these keys, so do those that tell keys,
-- and one whose terms tell a bound over the rows above it.
use Rattle.std.proofs.Common.{◌≡◌, ◌∙◌, ℕ, ℤ, ◌≤ℤ◌, arith, Bool, true, false, cond, List, [], ◌∷◌, ◌++◌, map, get_or, Option, Some, None, refl, sym, ap}
use Rattle.std.proofs.lemmas.Int.{ints}
use Rattle.std.specs.Prelude.{filter, not}
use Rattle.std.specs.List.{flat_map}
use Rattle.std.specs.Option.{option_map, option_and_then}
use Rattle.cr_value.specs.declared.value.Value.{Value}
use Rattle.cr_value.specs.declared.value.Value.TheVariants.{Null, Int, Text, Blob}
use Rattle.cr_lattice.specs.Rows.{rows}
use Rattle.cr_delta.specs.Key.{key_of}
use Rattle.cr_delta.proofs.Among.{member_has}
use Rattle.cr_bags.specs.Bags.{joins, gather, single}
use Rattle.cr_query.specs.Query.{Row, holds, shown, finished}
use Rattle.cr_query.proofs.PlanLaws.{step, joined_one}
use Rattle.cr_meaning.specs.View.{Ordered}
use Rattle.cr_meaning.specs.View as view
use Rattle.cr_meaning.specs.Meaning.{regarded}
use Rattle.cr_touched.specs.Parts.{is_key_of}
use Rattle.cr_touched.specs.Touched.{passes}
use Rattle.cr_sought.specs.Bounds.{AnswersAbove, is_above, is_up_to}
use Rattle.cr_sought.specs.Laws.{of_keys, AnswersByKeys, TellingLeavesOut}
use Rattle.cr_sought.proofs.Joins.{told_rows}
use Rattle.cr_sought.proofs.LeftOut.{each_member, gather_left}
use Rattle.cr_sought.proofs.Lists.{sought_rejects}
use Rattle.cr_sought.proofs.Pins.{rejects_below}

pub telling_leaves_out : TellingLeavesOut
telling_leaves_out host params def kept terms keys bytes keyed are sought = λ regard limit.
    each_member (λ r. is_key_of keys (key_of def r) ≡ false → holds (regarded regard host params) (map view.plain terms) r ≡ Some false) (rows kept def)
    (λ r among out. sought_rejects host params regard limit bytes def keyed kept are terms keys sought r among out)

pub answers_by_keys : AnswersByKeys
answers_by_keys host params regard def kept q j keys limit keyed are one inner no_on others =
    let m = regarded regard host params in
    let v = view.query q in
    let over = λ (table : List Row). joined_one m v (view.joining j) (ap (map view.joining) one) inner table in
    let terms_are : view.terms q ≡ map view.plain q.filter =
    (λ i. flat_map view.inner_terms (one i) ++ map view.plain q.filter)
    ∙ (λ i. (cond (inner i) [] (map view.plain (no_on i)) ++ []) ++ map view.plain q.filter) in
    let p = passes def (is_key_of keys) in
    let none = each_member (λ r. p r ≡ false → step m v r ≡ Some []) (rows kept def)
    (λ r among out.
    ap (option_map (λ b. cond b (single r) []))
    (ap (λ ts. holds m ts r) terms_are
    ∙ member_has (λ x. is_key_of keys (key_of def x) ≡ false → holds m (map view.plain q.filter) x ≡ Some false) (rows kept def) r (others regard limit) among out)) in
    ap (λ o. option_map (finished m v) (option_and_then (shown m v) o))
    (over (rows kept def)
    ∙ gather_left (step m v) p (rows kept def) none
    ∙ ap (gather (step m v)) (told_rows def keyed kept are (is_key_of keys))
    ∙ sym (over (rows (of_keys def keys kept) def)))

-- ---- a bound

module _ {A B : Type 0} (f : A → Option (List B)) (p : A → Bool) (out : (x : A) → p x ≡ false → f x ≡ Some []) where
  nothing_first : (o : Option (List B)) → joins (Some []) o ≡ o
  nothing_first None = refl
  nothing_first (Some us) = refl

  -- what gives nothing may be left out
  gather_filter : (xs : List A) → gather f xs ≡ gather f (filter p xs)
  gather_filter [] = refl
  gather_filter (x ∷ xs) =
      elim (p x) as (λ b. p x ≡ b → gather f (x ∷ xs) ≡ gather f (cond b (x ∷ filter p xs) (filter p xs))) [
        | true ↦ λ so. ap (joins (f x)) (gather_filter xs)
        | false ↦ λ not_so. ap (λ o. joins o (gather f xs)) (out x not_so) ∙ nothing_first (gather f xs) ∙ gather_filter xs
      ] refl

-- a row that isn't above has an integer there
record UpTo (at : ℕ) (n : ℤ) (r : Row) : Type 0 where
  pub value : ℤ
  pub is : get_or r at Null ≡ Int value
  pub low : value ≤ℤ n

up_to : (at : ℕ) (n : ℤ) (r : Row) → is_above at n r ≡ false → UpTo at n r
up_to at n r e = by (get_or r at Null) refl e where
  by : (v : Value) → get_or r at Null ≡ v → not (is_up_to n v) ≡ false → UpTo at n r
  by (Int v) is h = record { value = v; is = is; low = grind (arith, ints) }
  by Null is h = absurd cc
  by (Text t) is h = absurd cc
  by (Blob t) is h = absurd cc

pub answers_above : AnswersAbove
answers_above host params regard q j table at n one inner told =
    let m = regarded regard host params in
    let v = view.query q in
    let sources = ap (map view.joining) one in
    let over = λ (rows : List Row). joined_one m v (view.joining j) sources inner rows in
    let front = flat_map view.inner_terms q.joined in
    let none = λ (r : Row) (e : is_above at n r ≡ false).
    (let u = up_to at n r e in
    ap (option_map (λ b. cond b (single r) [])) (rejects_below host params r regard front q.filter at n u.value told u.is u.low)) in
    ap (λ o. option_map (finished m v) (option_and_then (shown m v) o))
    (over table ∙ gather_filter (step m v) (is_above at n) none table ∙ sym (over (filter (is_above at n) table)))
