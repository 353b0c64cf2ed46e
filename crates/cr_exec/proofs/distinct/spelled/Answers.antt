use Rattle.std.proofs.Common.{◌∙◌, rules}
use Rattle.std.specs.Ordering.{on}
use Rattle.cr_bags.proofs.SortLaws.{sorted_by_closure}
use Rattle.cr_query.specs.Query.{spelled_cmp}
use Rattle.cr_exec.specs.Shows.{shown_of}
use Rattle.cr_exec.proofs.Sorted.{sort-map}
use Rattle.cr_exec.proofs.Orders.{spelled_total, spelled_exact}
use Rattle.cr_exec.proofs.distinct.spelled.Goals as goal

pub returns : goal.returns
returns c =
    sorted_by_closure (on shown_of spelled_cmp) spelled_total shown_of spelled_exact c.args.shown.items c.sort_by.new.self.items c.sort_by.ensures.permutation c.in_ok-sort_by.ensures.sorted (λ a r f' k. search rules)
    ∙ sort-map spelled_cmp shown_of c.args.shown.items
