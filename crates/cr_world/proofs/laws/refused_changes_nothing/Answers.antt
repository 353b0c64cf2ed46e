use Rattle.cr_world.proofs.Claims.{refused, refused_command}
use Rattle.cr_world.proofs.laws.refused_changes_nothing.Goals as goal

pub returns : goal.returns
returns g c = record { statements = λ l k. refused l k; commands = λ l k. refused_command l k }
