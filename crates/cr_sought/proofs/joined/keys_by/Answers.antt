use Rattle.std.proofs.Common.{◌+◌, List, Option, Some, drop, sym, ap, ◌∙◌, ℕ}
use Rattle.std.specs.Option.{option_map}
use Rattle.cr_bags.specs.Bags.{gather, joins}
use Rattle.cr_query.specs.Query.{Row}
use Rattle.cr_exec.proofs.Loops.{rest_at}
use Rattle.cr_sought.specs.Sought.{key_or_none, keys_beside}
use Rattle.cr_sought.proofs.Joins.{joins_two}
use Rattle.cr_sought.proofs.joined.keys_by.Goals as goal

pub loop-row-preserved : goal.loop-row-preserved
loop-row-preserved c =
    let l = c.args.lookup.now in
    let g : Row → Option (List (List ℕ)) = λ r. keys_beside l.base l.definition.now l.params.now l.terms.now (record { start = c.args.partner.now.start; row = r }) in
    let rows = c.as_slice-row-items.result.now in
    let i = c.loop-row.row-index in
    let items = c.loop-row.keys.items in
    let given = sym (ap (option_map key_or_none) (sym c.in-Some.is) ∙ c.in_ok-key.ensures ∙ ap g c.as_slice.ensures) in
    ap (λ ks. joins (Some ks) (gather g (drop (i + 1) c.args.partner.now.rows))) c.in_ok-push_key-in-Some.ensures
    ∙ joins_two items (key_or_none c.in-Some.key) (gather g (drop (i + 1) c.args.partner.now.rows))
    ∙ ap (λ o. joins (Some items) (joins o (gather g (drop (i + 1) c.args.partner.now.rows)))) (sym given)
    ∙ ap (λ rs. joins (Some items) (joins (g c.row-item.result) (gather g (drop (i + 1) rs)))) (sym c.as_slice-row-items.ensures)
    ∙ ap (λ rs. joins (Some items) (gather g rs)) (sym (rest_at rows i c.row-item.result c.loop-row-test.true c.row-item.is))
    ∙ ap (λ rs. joins (Some items) (gather g (drop i rs))) c.as_slice-row-items.ensures
    ∙ c.loop-row.invariant
