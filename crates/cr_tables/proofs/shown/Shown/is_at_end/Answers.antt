use Rattle.std.proofs.Common.{◌∙◌, ap}
use Rattle.cr_module.specs.Lawful.{is_at_end}
use Rattle.cr_tables.proofs.Walks.{end_told}
use Rattle.cr_tables.proofs.shown.Shown.is_at_end.Goals as goal

pub returns : goal.returns
returns c =
    let self = c.self.inside in
    c.is_empty.ensures ∙ end_told self.def.now self.group.now self.later.now self.key.items c.self.invariant ∙ ap is_at_end c.self.view_is
