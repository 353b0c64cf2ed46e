use Rattle.cr_session.specs.Joining.{IsTableOf}
use Rattle.cr_session.proofs.Joins.{one_more_holds, all_hold}
use Rattle.cr_session.proofs.joining.are_tables_of.Goals as goal

pub loop-table-preserved : goal.loop-table-preserved
loop-table-preserved c =
    one_more_holds (IsTableOf c.args.tables.now) c.args.joined.now c.loop-table.table-index c.table-item.result c.loop-table-test.true c.table-item.is c.loop-table.invariant
    (c.is_table_of.ensures c.if-not-is_table_of.false)

pub returns : goal.returns
returns c = λ so. all_hold (IsTableOf c.args.tables.now) c.args.joined.now c.loop-table.table-index c.loop-table-test.false c.loop-table.invariant
