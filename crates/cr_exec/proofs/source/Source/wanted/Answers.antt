use Rattle.cr_exec.proofs.LeftOut.{wanted_by}
use Rattle.cr_exec.proofs.source.Source.wanted.Goals as goal

pub returns : goal.returns
returns c = wanted_by c.args.params.now c.args.combination.now c.args.self.now c.in-Some.look_up c.in-Some.is c.if-combination-look_up.false c.wanted_value.result c.wanted_value.ensures
