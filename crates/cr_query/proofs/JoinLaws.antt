-- Joining combination by combination, with the rows of a table fetched for each.
use Rattle.std.proofs.Common.{◌≡◌, Bool, false, cond, List, [], ◌∷◌, ◌++◌, Option, Some, None, option_map, refl, sym, ap, ◌∙◌, subst}
use Rattle.std.specs.Option.{option_and_then}
use Rattle.cr_query.specs.Queries.{Joining}
use Rattle.cr_bags.specs.Bags.{Alike, joins, gather, those, single}
use Rattle.cr_query.specs.Query.{Row, Meaning, holds, or_padded, nulls, with_rows, joined_with, combined}
use Rattle.cr_query.specs.Plans.{Gives}
use Rattle.cr_bags.proofs.BagLaws.{gather_alike, bag-refl}
use Rattle.cr_query.proofs.PlanLaws.{gather_gather, gather-map, gather_gives}
use Rattle.cr_query.proofs.PlanLaws.{joins-nil_right}

gather_single : {X : Type 0} (xs : List X) → gather (λ x. Some (single x)) xs ≡ Some xs
gather_single [] = refl
gather_single (x ∷ xs) = ap (joins (Some (single x))) (gather_single xs)

module _ {E : Type 0} (m : Meaning E) where
  -- later tables are joined to each combination by itself
  pub combined-parts : (js : List (Joining E)) (tables : List (List Row)) (cs : List Row) → combined m js tables cs ≡ gather (λ c. combined m js tables (single c)) cs
  combined-parts [] tables cs = sym (gather_single cs)
  combined-parts (j ∷ js) [] cs = sym (gather_single cs)
  combined-parts (j ∷ js) (rows ∷ tables) cs =
      let ih = combined-parts js tables in
      next ih (gather (joined_with m j rows) cs)
      ∙ gather_gather (joined_with m j rows) (λ c. combined m js tables (single c)) cs
      ∙ (λ i. gather (λ c. back ih c i) cs) where
        next : ((cs : List Row) → combined m js tables cs ≡ gather (λ c. combined m js tables (single c)) cs) → (o : Option (List Row)) → option_and_then (combined m js tables) o ≡ option_and_then (gather (λ c. combined m js tables (single c))) o
        next ih None = refl
        next ih (Some ds) = ih ds

        back : ((cs : List Row) → combined m js tables cs ≡ gather (λ c. combined m js tables (single c)) cs) → (c : Row) → option_and_then (gather (λ c. combined m js tables (single c))) (joined_with m j rows c) ≡ combined m (j ∷ js) (rows ∷ tables) (single c)
        back ih c = sym (next ih (joined_with m j rows c)) ∙ ap (option_and_then (combined m js tables)) (sym (joins-nil_right (joined_with m j rows c)))

  -- what becomes of a combination
  abbrev pub tail : List E → List (Joining E) → List (List Row) → Row → Option (List Row)
  tail terms js tables c = option_and_then (those (holds m terms)) (combined m js tables (single c))

  pub combined-tail : (terms : List E) (js : List (Joining E)) (tables : List (List Row)) (cs : List Row) → option_and_then (those (holds m terms)) (combined m js tables cs) ≡ gather (tail terms js tables) cs
  combined-tail terms js tables cs = ap (option_and_then (those (holds m terms))) (combined-parts js tables cs) ∙ gather_gather _ _ cs

  tail-inner : (terms : List E) (j : Joining E) (js : List (Joining E)) (rows : List Row) (tables : List (List Row)) → j.left ≡ false → (c : Row) → tail terms (j ∷ js) (rows ∷ tables) c ≡ gather (tail terms js tables) (with_rows c rows)
  tail-inner terms j js rows tables inner c =
      ap (λ b. option_and_then (those (holds m terms)) (option_and_then (combined m js tables) (joins (cond b (option_map (or_padded (nulls j.width) c) (those (holds m j.on) (with_rows c rows))) (Some (with_rows c rows))) (Some [])))) inner
      ∙ ap (λ o. option_and_then (those (holds m terms)) (option_and_then (combined m js tables) o)) (joins-nil_right (Some (with_rows c rows)))
      ∙ combined-tail terms js tables (with_rows c rows)

  -- the law of push-down: the rows of an inner table may be fetched for each combination by a lawful source, where what it leaves out comes to nothing
  pub fetched : (terms : List E) (j : Joining E) (js : List (Joining E)) (rows : List Row) (tables : List (List Row)) (fetch : Row → List Row) (meets : Row → Row → Bool) → j.left ≡ false → ((c : Row) (r : Row) → meets c r ≡ false → tail terms js tables (c ++ r) ≡ Some []) → ((c : Row) → Gives (meets c) rows (fetch c)) → (cs : List Row) → Alike (gather (λ c. gather (tail terms js tables) (with_rows c (fetch c))) cs) (option_and_then (those (holds m terms)) (combined m (j ∷ js) (rows ∷ tables) cs))
  fetched terms j js rows tables fetch meets inner none gives cs =
      subst (λ o. Alike (gather (λ c. gather (tail terms js tables) (with_rows c (fetch c))) cs) o)
      (sym (combined-tail terms (j ∷ js) (rows ∷ tables) cs))
      (gather_alike _ _ each_one (bag-refl cs)) where
        each_one : (c : Row) → Alike (gather (tail terms js tables) (with_rows c (fetch c))) (tail terms (j ∷ js) (rows ∷ tables) c)
        each_one c =
            rw (tail-inner terms j js rows tables inner c, gather-map (λ r. c ++ r) (tail terms js tables) (fetch c), gather-map (λ r. c ++ r) (tail terms js tables) rows)
            (gather_gives (λ r. tail terms js tables (c ++ r)) (meets c) (none c) rows (fetch c) (gives c))
