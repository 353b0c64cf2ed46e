use Rattle.std.proofs.Common.{[], rules}
use Rattle.cr_resolve.specs.Told.{Refuses}
use Rattle.cr_resolve.specs.Writes.{targets}
use Rattle.cr_written.proofs.Columns.{target_fails, target_next}
use Rattle.cr_written.proofs.targets.targets.Goals as goal

pub returns-in_err-place : goal.returns-in_err-place
returns-in_err-place c =
    let def = c.args.definition.now in
    let names = c.args.names.now in
    let why : Refuses (targets def [] names).bad c.in_err-place.field-0.0 =
    target_fails def names c.loop-number.places c.loop-number.number c.index-names-number.result c.has_name-is_repeated.result c.loop-number-test.true c.index-names-number.is c.has_name-is_repeated.ensures c.loop-number.invariant
    c.in_err-place.field-0.0 c.in_err-place.ensures in
    search rules

pub loop-number-preserved : goal.loop-number-preserved
loop-number-preserved c =
    target_next c.args.definition.now c.args.names.now c.loop-number.places c.loop-number.number c.index-names-number.result c.has_name-is_repeated.result c.loop-number-test.true c.index-names-number.is c.has_name-is_repeated.ensures c.loop-number.invariant
    c.push.new.self c.in_ok-place.place c.in_ok-place.ensures c.in_ok-push.ensures.ok
