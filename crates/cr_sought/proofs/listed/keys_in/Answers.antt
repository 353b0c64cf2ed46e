use Rattle.std.proofs.Common.{◌+◌, List, Option, Some, None, drop, sym, ap, ◌∙◌, ℕ, cond}
use Rattle.std.specs.Option.{option_map}
use Rattle.cr_value.specs.declared.value.Value.{Value}
use Rattle.cr_bags.specs.Bags.{gather, joins}
use Rattle.cr_exec.proofs.Loops.{rest_at}
use Rattle.cr_sought.specs.Sought.{alone, given, key_or_none, keys_told, pinned}
use Rattle.cr_sought.proofs.Joins.{joins_two}
use Rattle.cr_sought.proofs.Packs.{joins_first}
use Rattle.cr_sought.proofs.listed.keys_in.Goals as goal

pub loop-value-init : goal.loop-value-init
loop-value-init c =
    let f : Value → Option (List (List ℕ)) = λ v. keys_told (given c.args.listed.now.at v (pinned alone c.args.lookup.now.params.now c.args.lookup.now.terms.now)) c.args.lookup.now.base c.args.lookup.now.definition.now in
    let values = c.deref-value-items.result.now in
    ap (λ ks. joins (Some ks) (gather f values)) c.new-keys.ensures.items
    ∙ joins_first (gather f values)
    ∙ ap (gather f) c.deref-value-items.ensures.value
    ∙ sym (ap (λ b. cond b (gather f c.args.listed.now.values.items) None) (sym c.is_key_at.ensures ∙ c.if-not-is_key_at.false))

pub returns-in-None : goal.returns-in-None
returns-in-None c =
    let f : Value → Option (List (List ℕ)) = λ v. keys_told (given c.args.listed.now.at v (pinned alone c.args.lookup.now.params.now c.args.lookup.now.terms.now)) c.args.lookup.now.base c.args.lookup.now.definition.now in
    let values = c.deref-value-items.result.now in
    let i = c.loop-value.value-index in
    let told = ap (option_map key_or_none) (sym c.in-None.is) ∙ c.in_ok-key.ensures ∙ ap (λ t. keys_told t c.args.lookup.now.base c.args.lookup.now.definition.now) c.alone-telling.ensures in
    ap (λ o. joins (Some c.loop-value.keys.items) (joins o (gather f (drop (i + 1) values)))) told
    ∙ ap (λ vs. joins (Some c.loop-value.keys.items) (gather f vs)) (sym (rest_at values i c.value-item.result c.loop-value-test.true c.value-item.is))
    ∙ c.loop-value.invariant

pub loop-value-preserved : goal.loop-value-preserved
loop-value-preserved c =
    let f : Value → Option (List (List ℕ)) = λ v. keys_told (given c.args.listed.now.at v (pinned alone c.args.lookup.now.params.now c.args.lookup.now.terms.now)) c.args.lookup.now.base c.args.lookup.now.definition.now in
    let values = c.deref-value-items.result.now in
    let i = c.loop-value.value-index in
    let items = c.loop-value.keys.items in
    let rest = gather f (drop (i + 1) values) in
    let told = ap (option_map key_or_none) (sym c.in-Some.is) ∙ c.in_ok-key.ensures ∙ ap (λ t. keys_told t c.args.lookup.now.base c.args.lookup.now.definition.now) c.alone-telling.ensures in
    ap (λ ks. joins (Some ks) rest) c.in_ok-push_key-in-Some.ensures
    ∙ joins_two items (key_or_none c.in-Some.key) rest
    ∙ ap (λ o. joins (Some items) (joins o rest)) told
    ∙ ap (λ vs. joins (Some items) (gather f vs)) (sym (rest_at values i c.value-item.result c.loop-value-test.true c.value-item.is))
    ∙ c.loop-value.invariant
