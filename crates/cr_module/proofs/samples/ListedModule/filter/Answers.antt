use Rattle.cr_module.proofs.Single.{singles_wide}
use Rattle.cr_module.proofs.samples.ListedModule.filter.Goals as goal

pub returns-clause-wide : goal.returns-clause-wide
returns-clause-wide c = singles_wide c.args.self.now.columns c.args.self.now.values.items c.args.self.now.one

pub returns-clause-all_wide : goal.returns-clause-all_wide
returns-clause-all_wide c = singles_wide c.args.self.now.columns c.args.self.now.values.items c.args.self.now.one
