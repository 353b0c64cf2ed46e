-- What the queries that read whole tables answer.
use Rattle.std.proofs.Common.{◌≡◌, ℕ, List, [], ◌∷◌, map, filter, IsTrue, refl, sym, ap, subst}
use Rattle.std.specs.List.Sorted.{IsPermutation}
use Rattle.sqlite.specs.Order.{Row}
use Rattle.sqlite.specs.Term.{Term, eval_all}
use Rattle.sqlite.specs.State.{State, Shown}
use Rattle.sqlite.specs.Listing.{understood}
use Rattle.sqlite.proofs.Callers.{IsPlain}
use Rattle.cr_rows.proofs.SelectLemmas.{passes_all, asks}
use Rattle.sqlite.specs.Schema.{Schema}
use Rattle.cr_store.proofs.OpenTexts.{AsksFor}
use Rattle.cr_store.proofs.StoreLemmas.{shown_open}

all_pass : (rows : List Row) → filter (passes_all [] []) rows ≡ rows
all_pass [] = refl
all_pass (r ∷ rows) = ap (λ all. r ∷ all) (all_pass rows)

module _ (schema : Schema) (sql : List ℕ) (tree : ℕ) (project : List Term) (names : List (List ℕ)) (it : AsksFor schema sql tree project names) (old new : State) where
  pub asked : (rows : List Row) → old.now.schema ≡ schema → Shown sql [] old new rows
      → IsTrue new.is_open × IsPermutation (map (λ r. eval_all project ([] ∷ r ∷ [])) (old.now.trees tree)) rows
  asked rows has h =
      let found = asks schema sql tree [] project [] names [] old new rows it.command it.plain it.unlisted (it.here old.now.trees) has h in
      (shown_open old new sql [] rows h, subst (λ all. IsPermutation (map (λ r. eval_all project ([] ∷ r ∷ [])) all) rows) (all_pass (old.now.trees tree)) found.same)

  pub is_plain : old.now.schema ≡ schema → IsPlain (understood old.now.schema sql)
  is_plain has = subst (λ s. IsPlain (understood s sql)) (sym has) it.plain
