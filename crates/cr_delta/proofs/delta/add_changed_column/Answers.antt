use Rattle.std.proofs.Common.{◌≡◌, ◌++◌, ◌∷◌, [], is_eq, sym, ap, ◌∙◌, rules, w64, ℤ, to_z, of_z, FitsSigned}
use Rattle.std.proofs.lemmas.Int.{to_z-of_z}
use Rattle.std.specs.Prelude.{◌+ℤ◌, pos}
use Rattle.std.proofs.lemmas.Result.{err_from_is_err_and}
use Rattle.cr_value.specs.Order.{value_cmp}
use Rattle.cr_lattice.specs.Rows.{column_value}
use Rattle.cr_delta.specs.Delta.{length_of, version_of, column_change, is_past_limit, passes_limit}
use Rattle.cr_delta.proofs.Additions.{adds_nothing, changed_key, changed_same, changed_other, one_within, one_passes, within_limit, stop_next}
use Rattle.cr_delta.proofs.delta.add_changed_column.Goals as goal

pub returns-then-is_some : goal.returns-then-is_some
returns-then-is_some c =
    adds_nothing _ _ (changed_key c.args.def.now c.args.site.now c.args.kept.now c.args.pk.now (c.args.cell.0.now, c.args.cell.1.now) (sym c.is_some.ensures ∙ c.if-is_some.true))

pub returns-then-is_eq : goal.returns-then-is_eq
returns-then-is_eq c =
    let kept = c.args.kept.now in
    let pk = c.args.pk.now in
    let column = c.args.cell.0.now in
    let value = c.args.cell.1.now in
    let before = c.in_ok-before.ensures ∙ ap (λ t. column_value kept t pk column) c.as_str-table.ensures.value in
    let same = sym (c.is_eq.ensures ∙ ap is_eq c.cmp_binary.ensures ∙ ap (λ v. is_eq (value_cmp value v)) before) ∙ c.if-is_eq.true in
    adds_nothing _ _ (changed_same c.args.def.now c.args.site.now kept pk (column, value) (sym c.is_some.ensures ∙ c.if-is_some.false) same)

pub returns-in_err-version : goal.returns-in_err-version
returns-in_err-version c =
    let kept = c.args.kept.now in
    let pk = c.args.pk.now in
    let column = c.args.cell.0.now in
    let value = c.args.cell.1.now in
    let before = c.in_ok-before.ensures ∙ ap (λ t. column_value kept t pk column) c.as_str-table.ensures.value in
    let other = sym (c.is_eq.ensures ∙ ap is_eq c.cmp_binary.ensures ∙ ap (λ v. is_eq (value_cmp value v)) before) ∙ c.if-is_eq.false in
    let one = changed_other c.args.def.now c.args.site.now kept pk (column, value) (sym c.is_some.ensures ∙ c.if-is_some.false) other in
    let version_fits : FitsSigned w64 c.version_of.result = search rules in
    let version : to_z w64 (of_z w64 c.version_of.result) ≡ version_of kept c.args.def.now.name pk column.name =
    to_z-of_z w64 c.version_of.result version_fits
    ∙ c.version_of.ensures ∙ ap (λ t. version_of kept t pk c.as_str.result.now) c.as_str-table.ensures.value ∙ ap (version_of kept c.args.def.now.name pk) c.as_str.ensures.value in
    let p = err_from_is_err_and c.from_residual-in_err-version.result c.from_residual-in_err-version.ensures.1 in
    rw (p.1, p.2)
    (stop_next c.in_err-version.field-0.0 (to_z w64 (of_z w64 c.version_of.result)) _ _ _ c.in_err-version.ensures
    (λ past. ap passes_limit one ∙ one_passes _ (ap (λ n. is_past_limit (n +ℤ pos 1)) (sym version) ∙ past)))

pub returns : goal.returns
returns c =
    let kept = c.args.kept.now in
    let pk = c.args.pk.now in
    let column = c.args.cell.0.now in
    let value = c.args.cell.1.now in
    let table = c.as_str-table.ensures.value in
    let before = c.in_ok-before.ensures ∙ ap (λ t. column_value kept t pk column) table in
    let other = sym (c.is_eq.ensures ∙ ap is_eq c.cmp_binary.ensures ∙ ap (λ v. is_eq (value_cmp value v)) before) ∙ c.if-is_eq.false in
    let one = changed_other c.args.def.now c.args.site.now kept pk (column, value) (sym c.is_some.ensures ∙ c.if-is_some.false) other in
    let version_fits : FitsSigned w64 c.version_of.result = search rules in
    let version : c.in_ok-version.version ≡ version_of kept c.args.def.now.name pk column.name +ℤ pos 1 =
    c.in_ok-version.ensures.0
    ∙ ap (λ n. n +ℤ pos 1) (to_z-of_z w64 c.version_of.result version_fits ∙ c.version_of.ensures ∙ ap (λ t. version_of kept t pk c.as_str.result.now) table ∙ ap (version_of kept c.args.def.now.name pk) c.as_str.ensures.value) in
    let cl_fits : FitsSigned w64 c.length_of-cl.result = search rules in
    let next_fits : FitsSigned w64 c.in_ok-version.version = search rules in
    let cl : c.length_of-cl.result ≡ length_of kept c.args.def.now.name pk = c.length_of-cl.ensures ∙ ap (λ t. length_of kept t pk) table in
    let change_at = λ (n m : ℤ). column_change c.args.def.now c.args.site.now pk n (column, value) m in
    let made : c.in_ok-column_change.field-0 ≡ change_at (length_of kept c.args.def.now.name pk) (version_of kept c.args.def.now.name pk column.name +ℤ pos 1) =
    c.in_ok-column_change.ensures
    ∙ ap (λ n. change_at n (to_z w64 (of_z w64 c.in_ok-version.version))) (to_z-of_z w64 c.length_of-cl.result cl_fits ∙ cl)
    ∙ ap (change_at (length_of kept c.args.def.now.name pk)) (to_z-of_z w64 c.in_ok-version.version next_fits ∙ version) in (
      c.in_ok-push.ensures.items ∙ ap (λ x. c.args.out.now.items ++ x ∷ []) made ∙ ap (λ zs. c.args.out.now.items ++ zs) (sym one),
      ap passes_limit one
          ∙ one_within _ (ap is_past_limit (sym cl) ∙ within_limit c.length_of-cl.result cl_fits) (ap is_past_limit (sym version) ∙ c.in_ok-version.ensures.1),
    )
