use Rattle.std.proofs.Common.{◌≤◌, length, sym, ap, subst, ◌∙◌}
use Rattle.std.specs.Option.{option_map}
use Rattle.cr_delta.specs.Key.{key_places}
use Rattle.cr_sought.specs.Sought.{tells}
use Rattle.cr_sought.proofs.Keys.{few}
use Rattle.cr_sought.proofs.key.key_told.Goals as goal

pub joined_key-requires : goal.joined_key-requires
joined_key-requires c =
    subst (λ vs. length vs ≤ 8) (sym c.deref.ensures.value)
    (few (tells c.args.telling.now) c.args.base c.args.definition.now key_places c.in-Some.values.items
    (sym c.in_ok-values.ensures ∙ ap (option_map (λ v. v.items)) c.in-Some.is))
