use Rattle.std.proofs.Common.{◌∙◌, ℕ, List, Option, ap, rules, sym}
use Rattle.std.specs.Prelude.{filter}
use Rattle.std.proofs.lemmas.List.Sorted.{IsPartitionPoint-from_clause}
use Rattle.cr_lattice.specs.Rows.{is_below_or_under}
use Rattle.cr_lattice.proofs.KeyLemmas.{partitioned_to}
use Rattle.cr_cells.specs.Pages.{up_to}
use Rattle.cr_pushdown.specs.Scan.{is_behind}
use Rattle.cr_pushdown.proofs.Orders.{all_stay, back_is, front_is, none_stays}
use Rattle.cr_pushdown.proofs.scan.split.Goals as goal

pub returns-in-Some-clause-front : goal.returns-in-Some-clause-front
returns-in-Some-clause-front c =
    let xs = c.args.changes.now in
    let b = c.in-Some.bound in
    let to = IsPartitionPoint-from_clause (is_below_or_under b) xs c.partition_point.result c.partition_point.ensures.partitioned (partitioned_to xs b c.requires) (λ a r f' called. search rules) in
    c.split_at.ensures.front ∙ front_is (is_below_or_under b) xs c.partition_point.result c.partition_point.ensures.bound to
    ∙ ap (λ (o : Option (List ℕ)). filter (λ d. up_to o d.pk) xs) (sym c.in-Some.is)

pub returns-in-Some-clause-back : goal.returns-in-Some-clause-back
returns-in-Some-clause-back c =
    let xs = c.args.changes.now in
    let b = c.in-Some.bound in
    let to = IsPartitionPoint-from_clause (is_below_or_under b) xs c.partition_point.result c.partition_point.ensures.partitioned (partitioned_to xs b c.requires) (λ a r f' called. search rules) in
    c.split_at.ensures.back ∙ back_is (is_below_or_under b) xs c.partition_point.result c.partition_point.ensures.bound to
    ∙ ap (λ (o : Option (List ℕ)). filter (is_behind o) xs) (sym c.in-Some.is)

pub returns-in-None-clause-front : goal.returns-in-None-clause-front
returns-in-None-clause-front c = sym (all_stay c.args.changes.now) ∙ ap (λ (o : Option (List ℕ)). filter (λ d. up_to o d.pk) c.args.changes.now) (sym c.in-None.is)

pub returns-in-None-clause-back : goal.returns-in-None-clause-back
returns-in-None-clause-back c = sym (none_stays c.args.changes.now) ∙ ap (λ (o : Option (List ℕ)). filter (is_behind o) c.args.changes.now) (sym c.in-None.is)
