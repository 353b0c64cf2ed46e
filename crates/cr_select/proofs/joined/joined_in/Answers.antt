use Rattle.std.proofs.Common.{◌≡◌, ◌+◌, ◌<◌, List, length, get_or, Some, rules, subst}
use Rattle.cr_tree.specs.declared.statement.Join.{Join}
use Rattle.cr_resolve.specs.Queries.{joined_from, written}
use Rattle.cr_resolve.specs.Told.{Refuses}
use Rattle.cr_select.specs.Joins.{joined_by}
use Rattle.cr_select.proofs.Joins.{fails}
use Rattle.cr_select.proofs.joined.joined_in.Goals as goal

pub returns-in_err-next : goal.returns-in_err-next
returns-in_err-next g c =
    let known = g.K.Naming.known c.args.known.now in
    let below : c.loop-place.place < length c.args.tables.now.joins = subst (λ (js : List Join). c.loop-place.place < length js) c.as_slice-join-items.ensures c.loop-place-test.true in
    let item : c.join-item.result ≡ get_or c.args.tables.now.joins c.loop-place.place c.join-item.result =
    subst (λ (js : List Join). c.join-item.result ≡ get_or js c.loop-place.place c.join-item.result) c.as_slice-join-items.ensures c.join-item.is in
    let there : c.loop-place.place < length c.in-Some.rest.now = search rules in
    let source : c.in-Some-get.source.now ≡ get_or c.in-Some.rest.now c.loop-place.place c.in-Some-get.source.now = search rules in
    let why : Refuses (joined_from known c.args.sources.now 0 (written (Some c.args.tables.now)) c.args.sources.now).bad c.in_err-next.field-0.0 =
    fails known c.args.sources.now c.args.tables.now.joins c.in-Some.rest.now c.loop-place.place c.join-item.result c.in-Some-get.source.now c.loop-place.is_misplaced c.loop-place.made
    c.in_err-next.field-0.0 (joined_from known c.args.sources.now 0 (written (Some c.args.tables.now)) c.args.sources.now) below item there source
    (subst (λ b. Refuses (joined_by known c.args.sources.now (c.loop-place.place + 1) b c.join-item.result.on c.in-Some-get.source.now).bad c.in_err-next.field-0.0) c.is_left-is_left.ensures c.in_err-next.ensures)
    c.loop-place.invariant in
    search rules
