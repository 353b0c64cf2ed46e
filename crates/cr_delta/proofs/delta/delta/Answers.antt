use Rattle.std.proofs.Common.{◌≡◌, ◌++◌, refl, sym, ap, subst, ◌∙◌}
use Rattle.std.specs.List.{flat_map}
use Rattle.std.specs.List.Sorted.{IsStrictlySortedBy}
use Rattle.std.proofs.lemmas.Result.{err_from_is_err_and}
use Rattle.cr_value.specs.Order.{bytes_cmp}
use Rattle.cr_value.specs.OrderLaws.{bytes_total, bytes_exact}
use Rattle.cr_lattice.specs.Rows.{keys_in_order}
use Rattle.cr_lattice.proofs.SortedSets.{IsStrictlySortedBy-set_of}
use Rattle.cr_delta.specs.declared.error.DeltaError.TheVariants.{VersionLimit}
use Rattle.cr_delta.specs.Key.{key_of}
use Rattle.cr_delta.specs.Delta.{row_delta, passes_limit}
use Rattle.cr_delta.specs.Steps.{removal}
use Rattle.cr_delta.proofs.Additions.{stopped}
use Rattle.cr_delta.proofs.Among.{or_left, or_right}
use Rattle.cr_delta.proofs.Wholes.{removals_is, delta_passes, delta_is}
use Rattle.cr_delta.proofs.delta.delta.Goals as goal

pub add_removals-requires : goal.add_removals-requires
add_removals-requires c = subst (IsStrictlySortedBy bytes_cmp) (sym (c.deref-2.ensures.value ∙ c.in_ok-keys-2.ensures)) (IsStrictlySortedBy-set_of bytes_total bytes_exact c.in_ok-keys.keys.items)

pub returns-in_err-add_rows-clause-limit : goal.returns-in_err-add_rows-clause-limit
returns-in_err-add_rows-clause-limit c = λ e. (
    let p = err_from_is_err_and c.from_residual-in_err-add_rows.result c.from_residual-in_err-add_rows.ensures.1 in
    let is : c.in_err-add_rows.field-0.0 ≡ VersionLimit = (let was = p.1 in let gives = p.2 in cc) in
    delta_passes c.args.def.now c.args.site.now c.args.kept.now c.args.wanted.now ∙ or_left _ _ (stopped c.in_err-add_rows.field-0.0 _ _ _ is c.in_err-add_rows.ensures))

pub returns-in_err-add_removals-clause-limit : goal.returns-in_err-add_removals-clause-limit
returns-in_err-add_removals-clause-limit c = λ e. (
    let p = err_from_is_err_and c.from_residual-in_err-add_removals.result c.from_residual-in_err-add_removals.ensures.1 in
    let is : c.in_err-add_removals.field-0.0 ≡ VersionLimit = (let was = p.1 in let gives = p.2 in cc) in
    let keys = c.deref-2.ensures.value ∙ c.in_ok-keys-2.ensures ∙ ap keys_in_order c.in_ok-keys.ensures in
    let gone = ap (λ ks. flat_map (removal c.args.def.now c.args.site.now ks) c.args.kept.now) keys ∙ removals_is c.args.def.now c.args.site.now c.args.kept.now c.args.wanted.now in
    delta_passes c.args.def.now c.args.site.now c.args.kept.now c.args.wanted.now
    ∙ or_right _ _ (ap passes_limit (sym gone) ∙ stopped c.in_err-add_removals.field-0.0 _ _ _ is c.in_err-add_removals.ensures))

pub returns-clause-value : goal.returns-clause-value
returns-clause-value c =
    let keys = c.deref-2.ensures.value ∙ c.in_ok-keys-2.ensures ∙ ap keys_in_order c.in_ok-keys.ensures in
    let gone = ap (λ ks. flat_map (removal c.args.def.now c.args.site.now ks) c.args.kept.now) keys ∙ removals_is c.args.def.now c.args.site.now c.args.kept.now c.args.wanted.now in
    let rows = c.in_ok-add_rows.ensures.0 ∙ ap (λ cs. cs ++ flat_map (λ row. row_delta c.args.def.now c.args.site.now c.args.kept.now (key_of c.args.def.now row) row) c.args.wanted.now) c.new-out.ensures.items in
    let made = c.in_ok-add_removals.ensures.0 ∙ ap (λ cs. cs ++ flat_map (removal c.args.def.now c.args.site.now c.deref-2.result.now) c.args.kept.now) rows
    ∙ ap (λ cs. flat_map (λ row. row_delta c.args.def.now c.args.site.now c.args.kept.now (key_of c.args.def.now row) row) c.args.wanted.now ++ cs) gone in
    delta_is c.args.def.now c.args.site.now c.args.kept.now c.args.wanted.now _ _ _ made c.in_ok-sort.ensures.permutation c.in_ok-sort.ensures.sorted c.dedup.ensures.filtered

pub returns-clause-within : goal.returns-clause-within
returns-clause-within c =
    let keys = c.deref-2.ensures.value ∙ c.in_ok-keys-2.ensures ∙ ap keys_in_order c.in_ok-keys.ensures in
    let gone = ap (λ ks. flat_map (removal c.args.def.now c.args.site.now ks) c.args.kept.now) keys ∙ removals_is c.args.def.now c.args.site.now c.args.kept.now c.args.wanted.now in
    let none = ap passes_limit (sym gone) ∙ c.in_ok-add_removals.ensures.1 in
    delta_passes c.args.def.now c.args.site.now c.args.kept.now c.args.wanted.now ∙ rw (c.in_ok-add_rows.ensures.1, none) refl
