use Rattle.std.proofs.Common.{rules, ◌≡◌, Some}
use Rattle.cr_world.specs.declared.command.Command.TheVariants.{Define}
use Rattle.cr_shell.specs.TableLine.{table_of}
use Rattle.cr_shell.proofs.TableReady.{is_ready}
use Rattle.cr_shell.proofs.table_line.table_of.Goals as goal

pub returns-clause-ready : goal.returns-clause-ready
unfolding table_of
returns-clause-ready c =
    let told : Some (Define c.in_ok-declaration_of.field-0) ≡ table_of c.args.text.now = search rules in
    is_ready c.args.text.now c.in_ok-declaration_of.field-0 told
