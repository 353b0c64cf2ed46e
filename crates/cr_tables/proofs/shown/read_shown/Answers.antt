use Rattle.std.proofs.Common.{◌≡◌, ◌∙◌, ◌<◌, ◌≤◌, ℕ, List, ap, take, drop, length, arith, refl, sym, subst, rules}
use Rattle.std.specs.List.Sorted.{IsSortedBy}
use Rattle.cr_lattice.specs.declared.change.Change.{Change}
use Rattle.cr_lattice.specs.Rows.{has_lesser_key, rows}
use Rattle.cr_tables.specs.Shown.{first_group, first_key, is_shown, later_groups}
use Rattle.cr_tables.proofs.Walks.{behind_sorted, dropped_front, emptied, ends, no_more_than, shorter, skipped, starts, taken_front, whole_is}
use Rattle.cr_tables.proofs.shown.read_shown.Goals as goal

pub split_at-requires : goal.split_at-requires
split_at-requires c =
    let rest = c.loop-rest.rest.now in
    let le : length (first_group rest) ≤ length rest = no_more_than (first_key rest) rest in
    omega (arith, c.group_length.ensures, le)

pub invariant_of-result : goal.invariant_of-result
invariant_of-result c =
    let rest = c.loop-rest.rest.now in
    let group = c.split_at.ensures.front ∙ ap (λ (n : ℕ). take n rest) c.group_length.ensures ∙ taken_front (first_key rest) rest in
    let later = c.split_at.ensures.back ∙ ap (λ (n : ℕ). drop n rest) c.group_length.ensures ∙ dropped_front (first_key rest) rest in
    let shown = ap (λ (name : List ℕ). is_shown name c.split_at.result.0.now) (sym c.as_str.ensures.value) ∙ sym c.is_shown.ensures ∙ c.if-is_shown.true in
    starts c.args.def.now.name rest c.split_at.result.0.now c.split_at.result.1.now c.in_ok-key.key.items c.loop-rest.invariant.0 group later shown c.in_ok-key.ensures

pub returns-then-is_shown : goal.returns-then-is_shown
returns-then-is_shown c =
    let rest = c.loop-rest.rest.now in
    let group = c.split_at.ensures.front ∙ ap (λ (n : ℕ). take n rest) c.group_length.ensures ∙ taken_front (first_key rest) rest in
    let later = c.split_at.ensures.back ∙ ap (λ (n : ℕ). drop n rest) c.group_length.ensures ∙ dropped_front (first_key rest) rest in
    whole_is c.args.def.now rest c.split_at.result.0.now c.split_at.result.1.now group later ∙ c.loop-rest.invariant.1

pub loop-rest-smaller : goal.loop-rest-smaller
loop-rest-smaller c =
    let rest = c.loop-rest.rest.now in
    let later = c.split_at.ensures.back ∙ ap (λ (n : ℕ). drop n rest) c.group_length.ensures ∙ dropped_front (first_key rest) rest in
    let some : 0 < length rest = search rules in
    let less : length (later_groups rest) < length rest = shorter rest some in
    omega (arith, ap (λ (cs : List Change). length cs) later, less)

pub loop-rest-preserved : goal.loop-rest-preserved
loop-rest-preserved c =
    let rest = c.loop-rest.rest.now in
    let group = c.split_at.ensures.front ∙ ap (λ (n : ℕ). take n rest) c.group_length.ensures ∙ taken_front (first_key rest) rest in
    let later = c.split_at.ensures.back ∙ ap (λ (n : ℕ). drop n rest) c.group_length.ensures ∙ dropped_front (first_key rest) rest in
    let def = c.args.def.now in
    let none =
    ap (λ (cs : List Change). is_shown def.name cs) (sym group) ∙ ap (λ (name : List ℕ). is_shown name c.split_at.result.0.now) (sym c.as_str.ensures.value)
    ∙ sym c.is_shown.ensures ∙ c.if-is_shown.false in (
      subst (IsSortedBy has_lesser_key) (sym later) (behind_sorted (first_key rest) rest c.loop-rest.invariant.0),
      ap (λ (cs : List Change). rows cs def) later ∙ skipped def rest c.loop-rest.invariant.0 none ∙ c.loop-rest.invariant.1,
    )

pub invariant_of-result-2 : goal.invariant_of-result-2
invariant_of-result-2 c = ends c.args.def.now.name _ _ c.new.result.items refl refl c.new.ensures.items

pub returns : goal.returns
returns c =
    let def = c.args.def.now in
    let none : length c.loop-rest.rest.now ≡ 0 = search rules in
    ap (λ (cs : List Change). rows cs def) (sym (emptied c.loop-rest.rest.now none)) ∙ c.loop-rest.invariant.1
