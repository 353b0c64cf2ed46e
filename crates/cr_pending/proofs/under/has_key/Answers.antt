use Rattle.std.proofs.Common.{◌∙◌}
use Rattle.cr_value.specs.OrderLaws.{bytes_total}
use Rattle.cr_delta.proofs.Runs.{looked_up}
use Rattle.cr_pending.proofs.Keys.{either_way}
use Rattle.cr_pending.proofs.under.has_key.Goals as goal

pub returns : goal.returns
returns c =
    c.is_ok.ensures.value
    ∙ looked_up bytes_total c.args.keys.now c.args.pk.now c.binary_search.result c.requires c.binary_search.ensures.bound c.binary_search.ensures.position
    ∙ either_way c.args.keys.now c.args.pk.now
