use Rattle.std.proofs.Common.{◌∙◌, ap}
use Rattle.std.specs.List.{flat_map}
use Rattle.cr_select.specs.Aggregates.{or_any}
use Rattle.cr_grouped.specs.Grouping.{order_aggregates, output_aggregates}
use Rattle.cr_grouped.proofs.Grouped.{grouped_when}
use Rattle.cr_grouped.proofs.grouping.is_grouped.Goals as goal

pub returns : goal.returns
returns c =
    grouped_when c.args.named.now c.has_clause-found.result c.or_in_results-found.result c.or_in_order.result c.has_clause-found.ensures
    (c.or_in_results-found.ensures ∙ ap (λ os. or_any c.has_clause-found.result (flat_map output_aggregates os)) c.as_slice.ensures)
    (c.or_in_order.ensures ∙ ap (λ ts. or_any c.or_in_results-found.result (flat_map order_aggregates ts)) c.as_slice-2.ensures)
