use Rattle.std.proofs.Common.{◌∙◌, rules}
use Rattle.std.specs.Ordering.{on}
use Rattle.std.proofs.lemmas.Cmp.{on_total}
use Rattle.cr_bags.proofs.SortLaws.{sorted_by_closure}
use Rattle.cr_query.specs.Query.{row_cmp}
use Rattle.cr_exec.specs.Groups.{row_there}
use Rattle.cr_exec.proofs.Sorted.{sort-map}
use Rattle.cr_exec.proofs.Orders.{row_total, row_exact}
use Rattle.cr_exec.proofs.group.in_order.Goals as goal

pub returns : goal.returns
returns c =
    sorted_by_closure (on row_there row_cmp) (on_total row_there row_total) row_there (λ a b. row_exact a.now b.now) c.args.rows.items c.sort_by.new.self.items c.sort_by.ensures.permutation c.in_ok-sort_by.ensures.sorted (λ a r f' k. search rules)
    ∙ sort-map row_cmp row_there c.args.rows.items
