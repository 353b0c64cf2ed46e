use Rattle.std.proofs.Common.{◌≡◌, ℕ, List, map, ap, subst, ◌∙◌}
use Rattle.std.specs.Prelude.{IfOk}
use Rattle.cr_value.specs.declared.value.Value.{Value}
use Rattle.cr_lattice.specs.Rows.{row, rows, alive_keys, SameByRow}
use Rattle.cr_lattice.proofs.KeyLemmas.{rows-same_by_row}
use Rattle.cr_lattice.proofs.rows.rows.Goals as goal

pub returns : goal.returns
returns c =
    let def = c.args.def.now in
    let kept = c.args.kept.now in
    let keys = c.deref-3.ensures.value ∙ c.in_ok-keys.ensures ∙ ap (alive_keys kept) c.as_str.ensures.value in
    let by_row : SameByRow def.name c.in_ok-by_key.by_key.items kept =
    subst (λ (table : List ℕ). SameByRow table c.in_ok-by_key.by_key.items kept) c.as_str-2.ensures.value c.in_ok-by_key.ensures.same in
    let made = ap (λ ks. map (row ks def) c.deref-3.result.now) c.deref-2.ensures.value ∙ ap (map (row c.in_ok-by_key.by_key.items def)) keys ∙ rows-same_by_row c.in_ok-by_key.by_key.items kept def by_row in
    subst (λ (x : List (List Value)). IfOk c.rows_at-2.result (λ rs. rs.items ≡ x)) made c.rows_at-2.ensures

pub returns-then-are_by_key : goal.returns-then-are_by_key
unfolding rows
returns-then-are_by_key c =
    let def = c.args.def.now in
    let kept = c.args.kept.now in
    let keys = c.deref.ensures.value ∙ c.in_ok-keys.ensures ∙ ap (alive_keys kept) c.as_str.ensures.value in
    subst (λ (ks : List (List ℕ)). IfOk c.rows_at.result (λ rs. rs.items ≡ map (row kept def) ks)) keys c.rows_at.ensures
