use Rattle.std.proofs.Common.{rules, arith, ◌≡◌, ◌∙◌, sym, ap, ◌∷◌, ◌+◌, ◌+ℤ◌, drop, Ok, FitsSigned, to_z}
use Rattle.std.specs.Int.{w128}
use Rattle.std.proofs.lemmas.Int.{ints, to_z-of_z}
use Rattle.std.proofs.lemmas.List.{drop_more}
use Rattle.cr_scalar.specs.Meaning.{and_then}
use Rattle.cr_scalar.specs.Aggregates.{values, number_in, total}
use Rattle.cr_scalar.proofs.Folds.{total_step}
use Rattle.cr_scalar.proofs.aggregate.total.Goals as goal

pub loop-row-preserved : goal.loop-row-preserved
loop-row-preserved c =
    let so_far = to_z w128 c.loop-row.total-bits in
    let f : FitsSigned w128 c.plus-total.result = search rules in
    let rest = drop (c.loop-row.row-index + 1) c.args.rows.now in
    let next : drop c.loop-row.row-index c.args.rows.now ≡ c.row-item.result ∷ rest = search (rules, drop_more) in
    let number : number_in c.row-item.result ≡ Ok c.in-Ok.number = sym c.number_in.ensures ∙ c.in-Ok.is in
    let sum : so_far +ℤ c.in-Ok.number ≡ c.plus-total.result = search rules in
    record {
      summed = simp to_z-of_z (c.loop-row.invariant.summed
          ∙ ap (λ rows. and_then (total (values rows)) (λ z. Ok (so_far +ℤ z))) next
          ∙ total_step so_far c.in-Ok.number c.row-item.result rest number
          ∙ ap (λ s. and_then (total (values rest)) (λ z. Ok (s +ℤ z))) sum);
      low = omega (arith, ints);
      high = omega (arith, ints);
    }
