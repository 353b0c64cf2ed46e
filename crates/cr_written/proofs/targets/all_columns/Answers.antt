use Rattle.std.proofs.Common.{ℕ, ◌≡◌, ◌∙◌, ap, arith, length, Ok, refl}
use Rattle.std.specs.List.{range_with_len}
use Rattle.std.proofs.lemmas.Iterator.{YieldsList-from_range, items_from_collect}
use Rattle.cr_written.proofs.targets.all_columns.Goals as goal

pub returns : goal.returns
returns c =
    let n = length c.as_slice.result.now in
    let items : c.in_ok-places.places.items ≡ range_with_len 0 n = items_from_collect {E = ℕ} (Ok c.in_ok-places.places) c.in_ok-places.ensures.ran (YieldsList-from_range 0 n n refl (omega arith)) in
    c.from_vec.ensures ∙ items ∙ ap (λ cs. range_with_len 0 (length cs)) c.as_slice.ensures
