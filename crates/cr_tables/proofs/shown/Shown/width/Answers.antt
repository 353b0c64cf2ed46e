use Rattle.std.proofs.Common.{◌∙◌, List, ap, sym, length}
use Rattle.cr_value.specs.declared.value.Value.{Value}
use Rattle.cr_module.specs.Lawful.{first_row, is_at_end}
use Rattle.cr_tables.proofs.Walks.{width_is}
use Rattle.cr_tables.proofs.shown.Shown.width.Goals as goal

pub returns : goal.returns
returns c =
    let self = c.self.inside in
    let some = ap is_at_end c.self.view_is ∙ c.requires in
    ap (λ (cs : _). length cs) c.as_slice.ensures ∙ sym (width_is self.def.now self.group.now self.later.now self.key.items c.self.invariant some)
    ∙ ap (λ (rows : List (List Value)). length (first_row rows)) c.self.view_is
