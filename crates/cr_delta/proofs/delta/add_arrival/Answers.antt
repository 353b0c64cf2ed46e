use Rattle.std.proofs.Common.{◌≡◌, ◌++◌, ◌∷◌, [], sym, ap, ◌∙◌, rules, append_assoc, w64, to_z, of_z, FitsSigned}
use Rattle.std.specs.Prelude.{◌+ℤ◌, pos}
use Rattle.std.specs.List.{flat_map}
use Rattle.std.proofs.lemmas.Int.{to_z-of_z}
use Rattle.std.proofs.lemmas.Result.{err_from_is_err_and}
use Rattle.cr_delta.specs.Key.{cells_of}
use Rattle.cr_delta.specs.Delta.{length_of, row_change, is_past_limit, passes_limit}
use Rattle.cr_delta.specs.Steps.{new_cell}
use Rattle.cr_delta.proofs.Additions.{stop_next, passes_first, arrival_within}
use Rattle.cr_delta.proofs.Wholes.{arrival_is}
use Rattle.cr_delta.proofs.delta.add_arrival.Goals as goal

pub returns-in_err-cl : goal.returns-in_err-cl
returns-in_err-cl c =
    let len = length_of c.args.kept.now c.args.def.now.name c.args.pk.now in
    let fits : FitsSigned w64 c.length_of.result = search rules in
    let length_is = to_z-of_z w64 c.length_of.result fits ∙ c.length_of.ensures ∙ ap (λ t. length_of c.args.kept.now t c.args.pk.now) c.as_str.ensures.value in
    let whole = arrival_is c.args.def.now c.args.site.now c.args.pk.now (len +ℤ pos 1) c.args.row.now in
    let p = err_from_is_err_and c.from_residual.result c.from_residual.ensures.1 in
    rw (p.1, p.2)
    (stop_next c.in_err-cl.field-0.0 (to_z w64 (of_z w64 c.length_of.result)) _ _ _ c.in_err-cl.ensures
    (λ past. ap passes_limit (sym whole) ∙ passes_first _ _ (ap (λ n. is_past_limit (n +ℤ pos 1)) (sym length_is) ∙ past)))

pub returns : goal.returns
returns c =
    let def = c.args.def.now in
    let site = c.args.site.now in
    let pk = c.args.pk.now in
    let out = c.args.out.now.items in
    let cells = cells_of def c.args.row.now in
    let len = length_of c.args.kept.now def.name pk in
    let fits : FitsSigned w64 c.length_of.result = search rules in
    let next_fits : FitsSigned w64 c.in_ok-cl.cl = search rules in
    let length_is = to_z-of_z w64 c.length_of.result fits ∙ c.length_of.ensures ∙ ap (λ t. length_of c.args.kept.now t pk) c.as_str.ensures.value in
    let next = c.in_ok-cl.ensures.0 ∙ ap (λ n. n +ℤ pos 1) length_is in
    let passed : to_z w64 (of_z w64 c.in_ok-cl.cl) ≡ len +ℤ pos 1 = to_z-of_z w64 c.in_ok-cl.cl next_fits ∙ next in
    let whole = arrival_is def site pk (len +ℤ pos 1) c.args.row.now in (
      c.in_ok-add_new_columns.ensures
          ∙ ap (λ n. c.push.new.self.items ++ flat_map (new_cell def site pk n) cells) passed
          ∙ ap (λ cs. cs ++ flat_map (new_cell def site pk (len +ℤ pos 1)) cells) (c.in_ok-push.ensures.items ∙ ap (λ x. out ++ x ∷ []) (c.in_ok-row_change.ensures ∙ ap (row_change def site pk) passed))
          ∙ append_assoc out (row_change def site pk (len +ℤ pos 1) ∷ []) (flat_map (new_cell def site pk (len +ℤ pos 1)) cells)
          ∙ ap (λ cs. out ++ cs) whole,
      ap passes_limit (sym whole) ∙ arrival_within def site pk (len +ℤ pos 1) cells (ap is_past_limit (sym next) ∙ c.in_ok-cl.ensures.1),
    )
