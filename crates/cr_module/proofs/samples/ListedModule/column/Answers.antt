use Rattle.std.proofs.Common.{rules}
use Rattle.cr_module.proofs.Single.{none_beside}
use Rattle.cr_module.proofs.samples.ListedModule.column.Goals as goal

pub returns-else-at-eq0 : goal.returns-else-at-eq0
returns-else-at-eq0 c = none_beside c.args.self.now.values.items c.args.cursor.now.at c.args.at (λ e. search rules)
