use Rattle.std.proofs.Common.{rules, ◌∙◌, sym, ap, subst}
use Rattle.std.specs.Prelude.{filter}
use Rattle.std.specs.List.Sorted.{IsSortedBy}
use Rattle.std.specs.Borrow.{Bor}
use Rattle.std.specs.Ordering.{is_eq, is_lt}
use Rattle.std.proofs.lemmas.List.Sorted.{IsPartitionPoint-from_clause}
use Rattle.cr_query.specs.Query.{Row}
use Rattle.cr_exec.specs.Equalities.{is_equal}
use Rattle.cr_exec.specs.LookUps.{at_place, by_place}
use Rattle.cr_exec.proofs.Indexed.{below_is, level_is, equal_is, null_finds, place_total, with_cell}
use Rattle.cr_exec.proofs.Runs.{class_is, filter_agree, less_parted, level_parted, rest_is}
use Rattle.cr_exec.proofs.index.Index.equal_to.Goals as goal

pub returns-then-is_null : goal.returns-then-is_null
returns-then-is_null c = sym (null_finds c.args.value.now (at_place c.args.self.now.place) c.args.self.now.rows.items (sym c.is_null.ensures ∙ c.if-is_null.true))

pub returns : goal.returns
returns c =
    let place = c.args.self.now.place in
    let v = c.args.value.now in
    let R = by_place place in
    let total = place_total place in
    let xs = c.as_slice-rows.result.now in
    let k = with_cell place v in
    let i = c.partition_point-start.result in
    let rest = rest_is i xs in
    let up = subst (IsSortedBy (λ a b. is_lt (R a b))) (sym c.as_slice-rows.ensures.value) c.requires in
    let split = IsPartitionPoint-from_clause (λ (y : Bor Row). is_lt (R y k)) xs i c.partition_point-start.ensures.partitioned (less_parted R total k xs up) (λ a r f' h. (below_is place v a.0.now r (search rules), search rules)) in
    let stretch = IsPartitionPoint-from_clause (λ (y : Bor Row). is_eq (R y k)) _ c.partition_point-count.result c.partition_point-count.ensures.partitioned (level_parted R total k xs i c.partition_point-start.ensures.bound split _ rest up) (λ a r f' h. (level_is place v a.0.now r (search rules), search rules)) in
    class_is R total k xs i c.partition_point-start.ensures.bound split _ rest c.partition_point-count.result stretch
    ∙ filter_agree (λ y. is_eq (R k y)) (λ y. is_equal v (at_place place y)) (equal_is place v (sym c.is_null.ensures ∙ c.if-is_null.false)) xs
    ∙ ap (filter (λ y. is_equal v (at_place place y))) c.as_slice-rows.ensures.value
