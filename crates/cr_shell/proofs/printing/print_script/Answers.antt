use Rattle.std.proofs.Common.{Option, ◌++◌, subst, sym}
use Rattle.std.specs.List.{flat_map}
use Rattle.cr_world.specs.declared.refusal.Refusal.{Refusal}
use Rattle.cr_shell.specs.Refusing.{refusal_told}
use Rattle.cr_shell.specs.Printing.{Prints, reply_lines}
use Rattle.cr_shell.proofs.PrintLemmas.{prints_more}
use Rattle.cr_shell.proofs.printing.print_script.Goals as goal

pub returns-in-Some : goal.returns-in-Some
returns-in-Some g c =
    subst (λ (o : Option Refusal). Prints g.W.Write.contents c.args.writer.now c.print_refusal.new.writer (flat_map reply_lines c.args.script.now.replies ++ refusal_told o)) (sym c.in-Some.is)
    (prints_more g.W.Write.contents _ _ _ _ _ (rw c.as_slice.ensures at c.print_statements.ensures) c.print_refusal.ensures)
