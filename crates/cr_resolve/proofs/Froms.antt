-- The tables of FROM, one after another.
use Rattle.std.proofs.Common.{◌≡◌, ◌∙◌, ℕ, ◌+◌, ◌<◌, false, List, [], ◌∷◌, ◌++◌, length, map, drop, get_or, None, sym, ap, subst, append_assoc}
use Rattle.cr_tree.specs.declared.statement.Join.{Join}
use Rattle.cr_resolve.specs.declared.refusal.Refusal.{Refusal}
use Rattle.cr_resolve.specs.Known.{Known}
use Rattle.cr_resolve.specs.Reading.{Read, fine, with, with_both, each}
use Rattle.cr_resolve.specs.Scope.{Source}
use Rattle.cr_resolve.specs.Queries.{of_source, of_join, source}
use Rattle.cr_resolve.specs.Told.{Refuses}
use Rattle.cr_resolve.proofs.InSight.{rest_at}
use Rattle.cr_resolve.proofs.Refusals.{ahead}

-- what is left to find, behind what is found
abbrev pub behind : Known → List Source → List Join → Read (List Source)
behind known held js = with (λ ss. held ++ ss) (each (map (source known) (map of_join js)))

opened : (known : Known) (joins : List Join) (i : ℕ) (j : Join) (held : List Source) → i < length joins → j ≡ get_or joins i j
    → behind known held (drop i joins) ≡ behind known held (j ∷ drop (i + 1) joins)
opened known joins i j held h e = ap (behind known held) (rest_at joins i j h e)

pub next : (known : Known) (joins : List Join) (i : ℕ) (j : Join) (held : List Source) (s : Source) (whole : Read (List Source)) → i < length joins → j ≡ get_or joins i j
    → source known (of_source j.source false None) ≡ fine s → behind known held (drop i joins) ≡ whole → behind known (held ++ s ∷ []) (drop (i + 1) joins) ≡ whole
next known joins i j held s whole h e f k =
    let rest : Read (List Source) = each (map (source known) (map of_join (drop (i + 1) joins))) in
    let step : behind known held (j ∷ drop (i + 1) joins) ≡ with (λ ss. held ++ ss) (with_both (λ x xs. x ∷ xs) (fine s) rest) =
    ap (λ (r : Read Source). with (λ ss. held ++ ss) (with_both (λ x xs. x ∷ xs) r rest)) f in
    let moved : behind known (held ++ s ∷ []) (drop (i + 1) joins) ≡ with (λ ss. held ++ ss) (with_both (λ x xs. x ∷ xs) (fine s) rest) =
    ap (λ (ss : List Source). let r : Read (List Source) = record { bad = rest.bad; misplaced = rest.misplaced; made = ss } in r) (append_assoc held (s ∷ []) rest.made) in
    moved ∙ sym step ∙ sym (opened known joins i j held h e) ∙ k

pub fails : (known : Known) (joins : List Join) (i : ℕ) (j : Join) (held : List Source) (f : Refusal) (whole : Read (List Source)) → i < length joins → j ≡ get_or joins i j
    → Refuses (source known (of_source j.source false None)).bad f → behind known held (drop i joins) ≡ whole → Refuses whole.bad f
fails known joins i j held f whole h e r k =
    subst (λ (w : Read (List Source)). Refuses w.bad f) (sym (opened known joins i j held h e) ∙ k)
    (ahead (source known (of_source j.source false None)).bad (each (map (source known) (map of_join (drop (i + 1) joins)))).bad f r)
