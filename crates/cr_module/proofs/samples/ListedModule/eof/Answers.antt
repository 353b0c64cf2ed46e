use Rattle.std.proofs.Common.{◌∙◌, ap, rules, ℕ}
use Rattle.std.proofs.Math.Dec.{leb}
use Rattle.cr_module.proofs.Single.{end_is}
use Rattle.cr_module.proofs.samples.ListedModule.eof.Goals as goal

pub returns : goal.returns
returns c = ap (λ (n : ℕ). leb n c.args.cursor.now.at) (search rules) ∙ end_is c.args.self.now.values.items c.args.cursor.now.at
