use Rattle.std.proofs.Common.{◌∙◌, ap, map}
use Rattle.std.proofs.lemmas.List.{take_all}
use Rattle.cr_exec.specs.Comparisons.{held_order}
use Rattle.cr_exec.specs.Groups.{member_of}
use Rattle.cr_exec.proofs.Keys.{members_are}
use Rattle.cr_exec.proofs.group.members.Goals as goal

pub returns : goal.returns
returns g c =
    c.loop-one.invariant
    ∙ ap (map member_of) (take_all c.loop-one.one-index c.class_of-one-items.result.now c.loop-one-test.false ∙ c.class_of-one-items.ensures)
    ∙ members_are (map (held_order (g.F.Functions.order_at c.args.functions.now)) c.args.senses.now) c.args.keyed.now c.args.class.now
