-- Literals at a place of a text.
use Rattle.std.proofs.Common.{◌≡◌, ℕ, ◌+◌, ◌-◌, ◌≤◌, List, ◌++◌, length, take, drop, Some, refl, sym, ap, subst, ◌∙◌, arith}
use Rattle.std.specs.Prelude.{slice_range}
use Rattle.std.proofs.lemmas.List.{length-drop, length-append, take_at, drop_at, take-append-drop, drop-drop}
use Rattle.cr_value.specs.declared.value.Value.{Value}
use Rattle.cr_value.specs.Literal.{IsLiteral, Begins}
use Rattle.cr_value.specs.Reading.{literal_at}
use Rattle.cr_value.proofs.Literals.{literal_takes, literal_again}

pub opened : (text : List ℕ) (at : ℕ) (v : Value) (t rest : List ℕ) (end : ℕ) → end ≡ at + length t → at ≤ length text → drop at text ≡ t ++ rest → IsLiteral v t rest → Begins text at v end
opened text at v t rest end e le split is =
    let len : length text - at ≡ length t + length rest = sym (length-drop at text) ∙ ap length split ∙ length-append t rest in
    let behind : end - at ≡ length t = omega arith in
    let front : slice_range text at end ≡ t = ap (λ (n : ℕ). take n (drop at text)) behind ∙ ap (take (length t)) split ∙ take_at t rest (length t) refl in
    let after : drop end text ≡ rest = ap (λ (n : ℕ). drop n text) e ∙ sym (drop-drop (length t) at text) ∙ ap (drop (length t)) split ∙ drop_at t rest (length t) refl in
    record { in_order = omega arith; in_text = omega arith; spelled = subst (λ (x : List ℕ). IsLiteral v x (drop end text)) (sym front) (subst (IsLiteral v t) (sym after) is) }

pub shorter : (text : List ℕ) (at : ℕ) (v : Value) (rest : List ℕ) → literal_at (drop at text) ≡ Some (v, rest) → length rest ≤ length text
shorter text at v rest e =
    let o = literal_takes (drop at text) (v, rest) e in
    let len : length text - at ≡ length o.0 + length rest = sym (length-drop at text) ∙ ap length o.1 ∙ length-append o.0 rest in
    omega arith

-- what is read from a place on begins there
pub begins : (text : List ℕ) (at : ℕ) (v : Value) (rest : List ℕ) → at ≤ length text → literal_at (drop at text) ≡ Some (v, rest) → Begins text at v (length text - length rest)
begins text at v rest le e =
    let o = literal_takes (drop at text) (v, rest) e in
    let len : length text - at ≡ length o.0 + length rest = sym (length-drop at text) ∙ ap length o.1 ∙ length-append o.0 rest in
    opened text at v o.0 rest (length text - length rest) (omega arith) le o.1 o.2

-- what begins at a place is read from there on
pub begins_read : (text : List ℕ) (at : ℕ) (v : Value) (end : ℕ) → Begins text at v end → literal_at (drop at text) ≡ Some (v, drop end text)
begins_read text at v end b =
    let n = end - at in
    let whole : at + n ≡ end = omega (arith, b.in_order) in
    let after : drop n (drop at text) ≡ drop end text = drop-drop n at text ∙ ap (λ (k : ℕ). drop k text) whole in
    let split : drop at text ≡ slice_range text at end ++ drop end text = sym (take-append-drop n (drop at text)) ∙ ap (λ (x : List ℕ). take n (drop at text) ++ x) after in
    ap literal_at split ∙ literal_again v (slice_range text at end) (drop end text) b.spelled
