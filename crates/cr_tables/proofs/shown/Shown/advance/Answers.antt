use Rattle.std.proofs.Common.{◌∙◌, List, ap, sym}
use Rattle.cr_value.specs.declared.value.Value.{Value}
use Rattle.cr_module.specs.Lawful.{is_at_end, rest_of}
use Rattle.cr_tables.proofs.Walks.{later_sorted, rest_is}
use Rattle.cr_tables.proofs.shown.Shown.advance.Goals as goal

pub read_shown-requires : goal.read_shown-requires
read_shown-requires c =
    let self = c.self.inside in
    later_sorted self.def.now self.group.now self.later.now self.key.items c.self.invariant

pub returns : goal.returns
returns c =
    let self = c.self.inside in
    let some = ap is_at_end c.self.view_is ∙ c.requires in
    record {
      goes_on = c.drop.view_is ∙ c.in_ok-self-inside.ensures ∙ sym (rest_is self.def.now self.group.now self.later.now self.key.items c.self.invariant some)
          ∙ ap (λ (rows : List (List Value)). rest_of rows) c.self.view_is;
      stands = tt;
    }
