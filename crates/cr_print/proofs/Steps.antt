-- What was appended, step by step.
use Rattle.std.proofs.Common.{◌≡◌, ◌∙◌, ℕ, zero, suc, ◌+◌, ◌<◌, List, [], ◌++◌, length, map, drop, get_or, Result, Ok, Err, OnOk, is_ok, if◌then◌else◌, append_assoc, subst, codes, arith}
use Rattle.std.specs.Str.{IsUtf8, IsAscii}
use Rattle.std.proofs.lemmas.Str.{IsUtf8-from_ascii}
use Rattle.cr_print.specs.Pieces.{in_row}
use Rattle.cr_print.proofs.Loops.{rest_at}

-- a last text is appended, or memory runs out
pub last : {A E : Type 0} (r : Result A E) (new old more all : List ℕ) → new ≡ (if is_ok r then old ++ more else old) → old ++ more ≡ all → OnOk r (new ≡ all)
last (Ok x) new old more all e h = e ∙ h
last (Err x) new old more all e h = _

pub last_by : {A E : Type 0} (r : Result A E) (new mid all : List ℕ) → OnOk r (new ≡ mid) → mid ≡ all → OnOk r (new ≡ all)
last_by (Ok x) new mid all e h = e ∙ h
last_by (Err x) new mid all e h = _

-- one more part of a row
pub next_part : {A : Type 0} (f : A → List ℕ) (xs : List A) (i : ℕ) (x : A) (first other out new all : List ℕ) → i < length xs → x ≡ get_or xs i x
    → new ≡ out ++ (first ++ (f x ++ [])) → out ++ in_row first other (map f (drop i xs)) ≡ all → new ++ in_row other other (map f (drop (i + 1) xs)) ≡ all
next_part f xs i x first other out new all lt is e h =
    let rest = in_row other other (map f (drop (i + 1) xs)) in
    let next : out ++ ((first ++ f x) ++ rest) ≡ all = subst (λ t. out ++ in_row first other (map f t) ≡ all) (rest_at xs i x lt is) h in
    let step : new ++ rest ≡ out ++ ((first ++ f x) ++ rest) = rw e (simp append_assoc) in
    step ∙ next

comma_ascii : IsAscii (codes ", ")
comma_ascii zero = omega arith
comma_ascii (suc zero) = omega arith
comma_ascii (suc (suc i)) = omega arith

pub comma_utf8 : IsUtf8 (codes ", ")
comma_utf8 = IsUtf8-from_ascii (codes ", ") comma_ascii
