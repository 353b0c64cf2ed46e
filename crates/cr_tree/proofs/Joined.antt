-- Words with a space between each two, from left to right.
use Rattle.std.proofs.Common.{◌≡◌, ◌∙◌, ℕ, zero, suc, ◌+◌, ◌<◌, List, [], ◌∷◌, ◌++◌, length, drop, get_or, refl, ap, append_assoc, subst, codes, arith}
use Rattle.std.specs.List.{join_with_byte}
use Rattle.std.specs.Str.{IsUtf8, IsAscii}
use Rattle.std.proofs.lemmas.List.{append-nil}
use Rattle.std.proofs.lemmas.Str.{IsUtf8-from_ascii}
use Rattle.cr_tree.proofs.Loops.{rest_at}

-- the words that are left, the first of them behind this
abbrev pub left : List ℕ → List (List ℕ) → List ℕ
left between [] = []
left between (w ∷ ws) = between ++ w ++ left (codes " ") ws

pub joined : (ws : List (List ℕ)) → left [] ws ≡ join_with_byte 32 ws
joined [] = refl
joined (w ∷ []) = append-nil w
joined (w ∷ v ∷ ws) = ap (λ z. w ++ 32 ∷ z) (joined (v ∷ ws))

pub one_more : (ws : List (List ℕ)) (i : ℕ) (w between name new all : List ℕ) → i < length ws → w ≡ get_or ws i w
    → new ≡ (name ++ between) ++ w → name ++ left between (drop i ws) ≡ all → new ++ left (codes " ") (drop (i + 1) ws) ≡ all
one_more ws i w between name new all h e n k =
    let rest = left (codes " ") (drop (i + 1) ws) in
    let next : name ++ ((between ++ w) ++ rest) ≡ all = subst (λ t. name ++ left between t ≡ all) (rest_at ws i w h e) k in
    let step : new ++ rest ≡ name ++ ((between ++ w) ++ rest) = rw n (simp append_assoc) in
    step ∙ next

space_ascii : IsAscii (codes " ")
space_ascii zero = omega arith
space_ascii (suc i) = omega arith

pub space_utf8 : IsUtf8 (codes " ")
space_utf8 = IsUtf8-from_ascii (codes " ") space_ascii
