-- One step of a fold of an expression, at the nodes that have lists of parts.
use Rattle.std.proofs.Common.{◌≡◌, ◌∙◌, ℕ, suc, ◌+◌, ◌<◌, List, [], ◌∷◌, length, map, drop, get_or, Option, Some, None, refl, ap, sym, drop-cons, add-one}
use Rattle.std.specs.Option.{option_map}
use Rattle.cr_term.specs.declared.expr.When.{When}
use Rattle.cr_term.specs.declared.expr.Expr.{Expr, out-Expr, map-Expr, out-roll-Expr}
use Rattle.cr_term.specs.declared.expr.Expr as e
use Rattle.cr_term.specs.declared.expr.Expr.TheVariants.{rolls-Case}
use Rattle.cr_term.specs.declared.expr.Expr.TheOpen.{Expr-F, When-F, Case}
use Rattle.cr_term.specs.declared.expr.Expr.TheFolds.{fold-Expr, fold-When, fold_out-Expr, fold_out-When}

-- what is left of a list
pub rest_at : {A : Type 0} (xs : List A) (i : ℕ) (x : A) → i < length xs → x ≡ get_or xs i x → drop i xs ≡ x ∷ drop (i + 1) xs
rest_at xs i x h is = rw (add-one, drop-cons xs i x h) (ap (λ (y : _). y ∷ drop (suc i) xs) (let s : get_or xs i x ≡ x = cc in s))

pub map_same : {A B : Type 0} (f g : A → B) → ((x : A) → f x ≡ g x) → (xs : List A) → map f xs ≡ map g xs
map_same f g same [] = refl
map_same f g same (x ∷ xs) = ap (λ y. y ∷ map f xs) (same x) ∙ ap (λ ys. g x ∷ ys) (map_same f g same xs)

module _ {A C : Type 0} (node : Expr-F A C → A) (arm : When-F A C → C) where
  -- what an arm comes to
  abbrev pub arm_over : When → C
  arm_over w = arm (record { meeting = w.meeting; when = fold-Expr A C node arm w.when; then = fold-Expr A C node arm w.then })

  pub arms_fold : (arms : List When) → map (fold-When A C node arm) arms ≡ map arm_over arms
  arms_fold arms = map_same (fold-When A C node arm) arm_over (λ w. fold_out-When A C node arm w) arms

  -- a node, with what its parts come to
  abbrev over : Expr-F Expr (When-F Expr (Unit {0})) → A
  over y = node (map-Expr Expr (When-F Expr (Unit {0})) A C (fold-Expr A C node arm) (fold-When A C node arm) y)

  abbrev with_arms : Option Expr → Option Expr → List C → A
  with_arms x y arms = node (Case (option_map (fold-Expr A C node arm) x) arms (option_map (fold-Expr A C node arm) y))

  pub case_fold : (x : Option Expr) (arms : List When) (y : Option Expr)
      → fold-Expr A C node arm (e.Case x arms y) ≡ node (Case (option_map (fold-Expr A C node arm) x) (map arm_over arms) (option_map (fold-Expr A C node arm) y))
  case_fold None arms None = fold_out-Expr A C node arm (e.Case None arms None) ∙ ap over (ap out-Expr (sym (rolls-Case None arms None)) ∙ out-roll-Expr (Case None arms None)) ∙ ap (with_arms None None) (arms_fold arms)
  case_fold None arms (Some y) = fold_out-Expr A C node arm (e.Case None arms (Some y)) ∙ ap over (ap out-Expr (sym (rolls-Case None arms (Some y))) ∙ out-roll-Expr (Case None arms (Some y))) ∙ ap (with_arms None (Some y)) (arms_fold arms)
  case_fold (Some x) arms None = fold_out-Expr A C node arm (e.Case (Some x) arms None) ∙ ap over (ap out-Expr (sym (rolls-Case (Some x) arms None)) ∙ out-roll-Expr (Case (Some x) arms None)) ∙ ap (with_arms (Some x) None) (arms_fold arms)
  case_fold (Some x) arms (Some y) = fold_out-Expr A C node arm (e.Case (Some x) arms (Some y)) ∙ ap over (ap out-Expr (sym (rolls-Case (Some x) arms (Some y))) ∙ out-roll-Expr (Case (Some x) arms (Some y))) ∙ ap (with_arms (Some x) (Some y)) (arms_fold arms)
