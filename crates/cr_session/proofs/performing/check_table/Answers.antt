use Rattle.cr_session.proofs.Making.{module_refused}
use Rattle.cr_session.proofs.performing.check_table.Goals as goal

pub returns-in_ok-copy-in-Module : goal.returns-in_ok-copy-in-Module
returns-in_ok-copy-in-Module c = module_refused c.args.relation.now _ _ c.in-Module.is c.in_ok-copy-in-Module.ensures
