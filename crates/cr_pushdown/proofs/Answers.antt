-- A statement looks at the rows that pass.
use Rattle.std.proofs.Common.{◌≡◌, ◌∙◌, inr, Bool, true, false, not, cond, List, [], ◌++◌, map, Option, Some, None, refl, sym, ap}
use Rattle.std.specs.Prelude.{filter}
use Rattle.std.specs.List.{flat_map}
use Rattle.std.specs.Option.{option_map, option_and_then}
use Rattle.cr_value.specs.declared.value.Value.{Value}
use Rattle.cr_lattice.specs.Rows.{rows}
use Rattle.cr_delta.specs.Key.{key_of}
use Rattle.cr_delta.proofs.Among.{any_member, filter_member, map_member}
use Rattle.cr_delta.proofs.Members.{is_same}
use Rattle.cr_touched.specs.Parts.{is_key_of}
use Rattle.cr_lattice.specs.Check.{same_bytes}
use Rattle.cr_scalar.specs.Host.{Host}
use Rattle.cr_scalar.specs.declared.fault.EvalFault.{EvalFault}
use Rattle.cr_scalar.specs.declared.fault.EvalFault.TheVariants as fault
use Rattle.cr_scalar.specs.Meaning.{byte_limit}
use Rattle.cr_bags.specs.Bags.{single}
use Rattle.cr_query.specs.Query.{Row, all_true, finished, holds, shown}
use Rattle.cr_query.specs.Plans.{is_false}
use Rattle.cr_query.proofs.PlanLaws.{step, joined_one}
use Rattle.cr_query.proofs.Refining.{holds_refines}
use Rattle.cr_meaning.specs.View.{Ordered}
use Rattle.cr_meaning.specs.View as view
use Rattle.cr_meaning.specs.Meaning.{IsLimit, Regard, regarded, sized, strict}
use Rattle.cr_meaning.proofs.Limits.{refines}
use Rattle.cr_exec.specs.Answers.{Faults, IsMeant}
use Rattle.cr_sought.proofs.LeftOut.{each_member, gather_left}
use Rattle.cr_pushdown.specs.Passing.{is_memory, passes, passing}
use Rattle.cr_pushdown.specs.Laws.{AnswersByPassing, PassingLeavesOut}

pub known_false : (o : Option Bool) → not (is_false o) ≡ false → o ≡ Some false
known_false None e = absurd cc
known_false (Some true) e = absurd cc
known_false (Some false) e = refl

none_is : {A B : Type 0} (a : A) → None ≡ Some a → B
none_is a e = absurd (let q : ⊥ = cc in q)

module _ (host : Host) (params : List Value) where
  -- what is known with a limit on values is known without
  pub holds_for : (g : Regard) → IsLimit g.most → (es : List Ordered) (r : Row) (x : Bool) → holds (sized host params) es r ≡ Some x → holds (regarded g host params) es r ≡ Some x
  holds_for g limit es r x e = holds_refines (sized host params) (regarded g host params) (refines host params g limit) es r x e

  none_passes : (o : Option Bool) → o ≡ None → true ≡ not (is_false o)
  none_passes o none = ap (λ p. not (is_false p)) (sym none)

  -- a row on which a term has a fault passes
  pub fault_passes : (e : EvalFault) → is_memory e ≡ false → (es : List Ordered) (r : Row) → Faults host params (λ m. all_true m es r) e → true ≡ not (is_false (all_true (sized host params) es r))
  fault_passes fault.Overflow other es r h = none_passes _ (h.under (strict byte_limit) (inr refl, (refl, refl)))
  fault_passes fault.NotANumber other es r h = none_passes _ (h.under (strict byte_limit) (inr refl, (refl, refl)))
  fault_passes fault.NotUtf8 other es r h = none_passes _ (h.under (strict byte_limit) (inr refl, (refl, refl)))
  fault_passes (fault.Host text) other es r h = none_passes _ (h.under (strict byte_limit) (inr refl, (refl, refl)))
  fault_passes fault.TooBig other es r h = none_passes _ (h.under (strict byte_limit) (refl, (refl, refl)))
  fault_passes fault.Memory other es r h = absurd cc

  known_passes : (o : Option Bool) (b : Bool) → o ≡ Some b → b ≡ not (is_false o)
  known_passes o true is = ap (λ p. not (is_false p)) (sym is)
  known_passes o false is = ap (λ p. not (is_false p)) (sym is)

  -- and one on which they are known
  pub sized_passes : (es : List Ordered) (r : Row) (b : Bool) → IsMeant host params (λ m. all_true m es r) b → b ≡ not (is_false (all_true (sized host params) es r))
  sized_passes es r b both = known_passes (all_true (sized host params) es r) b (both.under (strict byte_limit) (inr refl))

pub answers_by_passing : AnswersByPassing
answers_by_passing host params g limit rows q j one inner no_on =
    let m = regarded g host params in
    let v = view.query q in
    let over = λ (table : List Row). joined_one m v (view.joining j) (ap (map view.joining) one) inner table in
    let terms_are : view.terms q ≡ map view.plain q.filter =
    (λ i. flat_map view.inner_terms (one i) ++ map view.plain q.filter)
    ∙ (λ i. (cond (inner i) [] (map view.plain (no_on i)) ++ []) ++ map view.plain q.filter) in
    let none = each_member (λ r. passes host params q.filter r ≡ false → step m v r ≡ Some []) rows
    (λ r among out.
    ap (option_map (λ b. cond b (single r) []))
    (ap (λ ts. holds m ts r) terms_are ∙ holds_for host params g limit (map view.plain q.filter) r false (known_false _ out))) in
    ap (λ o. option_map (finished m v) (option_and_then (shown m v) o))
    (over rows ∙ gather_left (step m v) (passes host params q.filter) rows none ∙ sym (over (filter (passes host params q.filter) rows)))

neither : (b : Bool) → (b ≡ true → ⊥) → b ≡ false
neither true never = absurd (never refl)
neither false never = refl

pub passing_leaves_out : PassingLeavesOut
passing_leaves_out host params def kept terms = λ g limit.
    let p = passes host params terms in
    let k = key_of def in
    let keys = map k (passing host params terms def kept) in
    each_member (λ r. is_key_of keys (k r) ≡ false → holds (regarded g host params) (map view.plain terms) r ≡ Some false) (rows kept def)
    (λ r among other.
    let out : p r ≡ false = neither (p r) (λ so.
    let there = any_member (same_bytes (k r)) keys (k r) (map_member k (filter p (rows kept def)) r (filter_member p (rows kept def) r among so)) (is_same (k r) (k r) refl) in
    let both : true ≡ false = sym there ∙ other in cc) in
    holds_for host params g limit (map view.plain terms) r false (known_false _ out))
