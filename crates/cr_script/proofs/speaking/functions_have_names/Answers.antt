use Rattle.std.proofs.Common.{refl}
use Rattle.cr_script.proofs.speaking.functions_have_names.Goals as goal

pub returns : goal.returns
returns g c = (g.F.Functions.names_function c.args.functions.now, refl)
