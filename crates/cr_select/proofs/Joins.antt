-- The tables of FROM with their ONs, one after another.
use Rattle.std.proofs.Common.{◌≡◌, ◌∙◌, ℕ, suc, ◌+◌, ◌<◌, Bool, ◌||◌, List, [], ◌∷◌, ◌++◌, length, map, drop, get_or, sym, ap, subst, append_assoc, add-one}
use Rattle.cr_tree.specs.declared.statement.Join.{Join}
use Rattle.cr_term.specs.declared.query.Joined.{Joined}
use Rattle.cr_resolve.specs.declared.refusal.Refusal.{Refusal}
use Rattle.cr_resolve.specs.declared.reading.Made.{Made}
use Rattle.cr_resolve.specs.Known.{Known}
use Rattle.cr_resolve.specs.Reading.{Read, with_both}
use Rattle.cr_resolve.specs.declared.scope.Source.{Source}
use Rattle.cr_resolve.specs.Queries.{is_left, of_join, joined_from}
use Rattle.cr_resolve.specs.Told.{told, Refuses}
use Rattle.cr_resolve.proofs.InSight.{rest_at}
use Rattle.cr_resolve.proofs.Refusals.{ahead}
use Rattle.cr_select.specs.Joins.{joined_by}
use Rattle.cr_select.proofs.Each.{after, or_assoc}

abbrev left_from : Known → List Source → ℕ → Bool → List Joined → List Join → List Source → Read (List Joined)
left_from known sources at b held js ss = after b held (joined_from known sources at (map of_join js) ss)

opened : (known : Known) (sources : List Source) (joins : List Join) (rest : List Source) (i : ℕ) (j : Join) (s : Source) (b : Bool) (held : List Joined)
    → i < length joins → j ≡ get_or joins i j → i < length rest → s ≡ get_or rest i s
    → left_from known sources (i + 1) b held (drop i joins) (drop i rest)
    ≡ after b held (with_both (λ x xs. x ∷ xs) (joined_by known sources (i + 1) (is_left j.kind) j.on s) (joined_from known sources (suc (i + 1)) (map of_join (drop (i + 1) joins)) (drop (i + 1) rest)))
opened known sources joins rest i j s b held h e k d =
    ap (λ (js : List Join). left_from known sources (i + 1) b held js (drop i rest)) (rest_at joins i j h e)
    ∙ ap (λ (ss : List Source). left_from known sources (i + 1) b held (j ∷ drop (i + 1) joins) ss) (rest_at rest i s k d)

succ : (n : ℕ) → suc n ≡ n + 1
succ n = sym (add-one n)

pub next : (known : Known) (sources : List Source) (joins : List Join) (rest : List Source) (i : ℕ) (j : Join) (s : Source) (b : Bool) (held : List Joined) (m : Made Joined) (whole : Read (List Joined))
    → i < length joins → j ≡ get_or joins i j → i < length rest → s ≡ get_or rest i s → joined_by known sources (i + 1) (is_left j.kind) j.on s ≡ told m
    → left_from known sources (i + 1) b held (drop i joins) (drop i rest) ≡ whole
    → left_from known sources ((i + 1) + 1) (b || m.is_misplaced) (held ++ m.made ∷ []) (drop (i + 1) joins) (drop (i + 1) rest) ≡ whole
next known sources joins rest i j s b held m whole h e k d t q =
    let more : Read (List Joined) = joined_from known sources (suc (i + 1)) (map of_join (drop (i + 1) joins)) (drop (i + 1) rest) in
    let step : after b held (with_both (λ x xs. x ∷ xs) (joined_by known sources (i + 1) (is_left j.kind) j.on s) more) ≡ after b held (with_both (λ x xs. x ∷ xs) (told m) more) =
    ap (λ (r : Read Joined). after b held (with_both (λ x xs. x ∷ xs) r more)) t in
    let flag : Bool → Read (List Joined) = λ c. record { bad = more.bad; misplaced = c; made = (held ++ m.made ∷ []) ++ more.made } in
    let list : List Joined → Read (List Joined) = λ ys. record { bad = more.bad; misplaced = b || (m.is_misplaced || more.misplaced); made = ys } in
    ap (λ (n : ℕ). left_from known sources n (b || m.is_misplaced) (held ++ m.made ∷ []) (drop (i + 1) joins) (drop (i + 1) rest)) (sym (succ (i + 1)))
    ∙ ap flag (or_assoc b m.is_misplaced more.misplaced) ∙ ap list (append_assoc held (m.made ∷ []) more.made)
    ∙ sym step ∙ sym (opened known sources joins rest i j s b held h e k d) ∙ q

pub fails : (known : Known) (sources : List Source) (joins : List Join) (rest : List Source) (i : ℕ) (j : Join) (s : Source) (b : Bool) (held : List Joined) (g : Refusal) (whole : Read (List Joined))
    → i < length joins → j ≡ get_or joins i j → i < length rest → s ≡ get_or rest i s → Refuses (joined_by known sources (i + 1) (is_left j.kind) j.on s).bad g
    → left_from known sources (i + 1) b held (drop i joins) (drop i rest) ≡ whole → Refuses whole.bad g
fails known sources joins rest i j s b held g whole h e k d r q =
    let more : Read (List Joined) = joined_from known sources (suc (i + 1)) (map of_join (drop (i + 1) joins)) (drop (i + 1) rest) in
    subst (λ (w : Read (List Joined)). Refuses w.bad g) (sym (opened known sources joins rest i j s b held h e k d) ∙ q)
    (ahead (joined_by known sources (i + 1) (is_left j.kind) j.on s).bad more.bad g r)
