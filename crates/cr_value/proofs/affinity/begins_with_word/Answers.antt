use Rattle.std.proofs.Common.{◌≡◌, ℕ, List, length, take, ap, ◌∙◌, subst}
use Rattle.std.specs.Bool.{one_answer, Decides}
use Rattle.std.specs.Str.{str_to_ascii_lowercase}
use Rattle.std.proofs.lemmas.Slice.Eq.{bytes_eq-Decides}
use Rattle.std.proofs.lemmas.List.{take_min}
use Rattle.cr_value.proofs.affinity.begins_with_word.Goals as goal

pub returns : goal.returns
returns c =
    let word = c.args.word.now in
    let front : take c.min-len.result c.args.text.now ≡ take (length word) c.args.text.now = ap (λ (n : ℕ). take n c.args.text.now) c.min-len.ensures ∙ take_min (length word) c.args.text.now in
    let told : Decides c.eq_ignore_ascii_case.result (str_to_ascii_lowercase (take (length word) c.args.text.now) ≡ str_to_ascii_lowercase word) = subst (λ (t : List ℕ). Decides c.eq_ignore_ascii_case.result (str_to_ascii_lowercase t ≡ str_to_ascii_lowercase word)) front c.eq_ignore_ascii_case.ensures.test in
    one_answer _ _ told (bytes_eq-Decides _ _)
