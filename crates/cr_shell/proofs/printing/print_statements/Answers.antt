use Rattle.std.proofs.Common.{rules, ap, ◌≡◌, ◌∙◌, ◌++◌, ◌∷◌, [], take, get_or}
use Rattle.std.proofs.lemmas.List.{take_more}
use Rattle.std.specs.List.{flat_map}
use Rattle.cr_world.specs.declared.command.Reply.{Reply}
use Rattle.cr_shell.specs.Printing.{reply_lines}
use Rattle.cr_shell.proofs.PrintLemmas.{prints_next, each_more}
use Rattle.cr_shell.proofs.printing.print_statements.Goals as goal

pub loop-reply-preserved : goal.loop-reply-preserved
loop-reply-preserved g c =
    let item : get_or c.args.replies.now c.loop-reply.reply-index c.reply-item.result ≡ c.reply-item.result = search rules in
    prints_next g.W.Write.contents (flat_map reply_lines) _ _ _ c.loop-reply.reply-index c.args.replies.now _ _ (each_more reply_lines (take c.loop-reply.reply-index c.args.replies.now) c.reply-item.result) (take_more c.args.replies.now c.loop-reply.reply-index _ c.loop-reply-test.true ∙ ap (λ (x : Reply). take c.loop-reply.reply-index c.args.replies.now ++ x ∷ []) item) c.loop-reply.invariant c.print_statement.ensures
