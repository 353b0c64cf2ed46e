use Rattle.std.proofs.Common.{◌≡◌, ◌++◌, Some, sym, ap, ◌∙◌, subst}
use Rattle.std.specs.Prelude.{IfOk}
use Rattle.std.specs.Option.{option_map, option_or}
use Rattle.cr_sought.specs.Lists.{listed_keys, sought_keys}
use Rattle.cr_sought.specs.Sought.{key_or_none, keys_told}
use Rattle.cr_sought.proofs.listed.sought_keys.Goals as goal

pub returns-in_default : goal.returns-in_default
unfolding sought_keys
returns-in_default c =
    let listed = listed_keys 0 c.args.definition.now c.args.params.now c.args.terms.now in
    let told = c.in_ok-key.ensures ∙ ap (λ t. keys_told t 0 c.args.definition.now) c.alone-telling.ensures in
    subst (λ keys. IfOk c.listed_keys.result (λ o. option_map (λ v. v.items) o ≡ keys))
    (ap (λ o. option_or o listed) (ap (option_map key_or_none) (sym c.in_default.is) ∙ told))
    c.listed_keys.ensures

pub returns : goal.returns
unfolding sought_keys
returns c =
    let listed = listed_keys 0 c.args.definition.now c.args.params.now c.args.terms.now in
    let told = c.in_ok-key.ensures ∙ ap (λ t. keys_told t 0 c.args.definition.now) c.alone-telling.ensures in
    ap (λ keys. Some keys) (c.in_ok-push_key.ensures ∙ ap (λ keys. keys ++ key_or_none c.in-Some.key) c.new-keys.ensures.items)
    ∙ ap (λ o. option_or o listed) (ap (option_map key_or_none) (sym c.in-Some.is) ∙ told)
