-- What a query without GROUP BY evaluates over its one group, where what the aggregates give is shown. Source: this project's own.
use Rattle.std.specs.Prelude.{◌≡◌, cond, List, [], map, Option, Some, option_map}
use Rattle.std.specs.Option.{option_and_then}
use Rattle.cr_bags.specs.Bags.{single}
use Rattle.cr_bags.specs.Bags.{each as values_of}
use Rattle.cr_term.specs.declared.query.Query.{Query}
use Rattle.cr_expr.specs.Setting.{Setting}
use Rattle.cr_expr.specs.Eval.{each, if_any}
use Rattle.cr_expr.specs.Eval as eval
use Rattle.cr_query.specs.Queries.{Shown}
use Rattle.cr_query.specs.Query.{Group, Meaning, has, pair}
use Rattle.cr_meaning.specs.View.{Ordered, plain}
use Rattle.cr_tally.specs.declared.over.OverGroup.{OverGroup}
use Rattle.cr_tally.specs.declared.show.Call.{Call}
use Rattle.cr_tally.specs.Showing.{Known}

-- the values of a query's expressions in one setting are those of the others in another
pub record SameOver (s t : Setting) (q : Query) (o : OverGroup) : Type 0 where
  pub having : if_any s (option_map eval.meaning q.having) ≡ if_any t (option_map eval.meaning o.having)
  pub results : each (map eval.meaning (map (λ c. c.expr) q.results)) s ≡ each (map eval.meaning o.results.items) t
  pub keys : each (map eval.meaning (map (λ c. c.expr) q.order)) s ≡ each (map eval.meaning o.keys.items) t

abbrev pub ShowsQuery : List Call → List Call → Query → OverGroup → Type 0
ShowsQuery old new q o = Known old new (λ s t. SameOver s t q o)

-- what the group shows, if it has what HAVING asks
abbrev pub group_shows : Meaning Ordered → OverGroup → Group → Option (List Shown)
group_shows m o g =
    option_and_then (λ b. cond b (option_map single (pair (values_of (λ e. m.over e g) (map plain o.results.items)) (values_of (λ e. m.over e g) (map plain o.keys.items)))) (Some []))
    (has m (option_map plain o.having) (λ e. m.over e g))
