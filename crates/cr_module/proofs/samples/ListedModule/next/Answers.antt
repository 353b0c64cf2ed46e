use Rattle.cr_module.proofs.Single.{rest_from}
use Rattle.cr_module.proofs.samples.ListedModule.next.Goals as goal

pub returns : goal.returns
returns c = rest_from c.args.self.now.values.items c.args.cursor.now.at
