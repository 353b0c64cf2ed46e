use Rattle.cr_exec.proofs.Evaluated.{under_collate}
use Rattle.cr_exec.proofs.value.+plain_value.Goals as goal

pub returns-in-Collate : goal.returns-in-Collate
returns-in-Collate t c = under_collate c.args.given.now c.args.expr.now c.in-Collate.operand c.get.result.now c.in-Collate.field-1 c.plain_value.result c.in-Collate.is c.get.ensures c.plain_value.ensures
