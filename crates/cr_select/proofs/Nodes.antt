-- An expression within a group that is no term of it, by its node and its parts.
use Rattle.std.proofs.Common.{◌≡◌, ◌∙◌, Bool, List, [], ◌∷◌, map, Option, Some, None, refl, ap, sym}
use Rattle.std.specs.Option.{option_map}
use Rattle.cr_term.specs.declared.operator.Meeting.{Meeting}
use Rattle.cr_term.specs.declared.expr.When.{When}
use Rattle.cr_term.specs.declared.expr.Expr.{Expr, out-Expr, out-roll-Expr}
use Rattle.cr_term.specs.declared.expr.Expr as e
use Rattle.cr_term.specs.Nodes as node
use Rattle.cr_term.specs.declared.expr.Expr.TheVariants.{rolls-In, rolls-Case}
use Rattle.cr_term.specs.declared.expr.Expr.TheOpen.{In, Case}
use Rattle.cr_term.specs.Build.{arm_with}
use Rattle.cr_build.specs.Parts.{arm_of, membership}
use Rattle.cr_select.specs.Placed.{made, arm_made, layer_placed, parts_placed}

module _ (ts : List Expr) where
  pub in_from : (x : Expr) (n : Bool) (m : Meeting) (y y' : Expr) (items items' : List Expr) (z : Expr) (zs : List Expr) → x ≡ e.In n m y items → y' ≡ y → items' ≡ items
      → z ≡ made ts y' → zs ≡ map (made ts) items' → membership n z zs ≡ parts_placed ts x
  in_from x n m y y' items items' z zs is a b h k =
      let there : parts_placed ts (e.In n m y items) ≡ membership n (made ts y) (map (made ts) items) = ap (layer_placed ts) (ap out-Expr (sym (rolls-In n m y items)) ∙ out-roll-Expr (In n m y items)) in
      ap (λ w. membership n w zs) (h ∙ ap (made ts) a) ∙ ap (membership n (made ts y)) (k ∙ ap (map (made ts)) b) ∙ sym (ap (parts_placed ts) is ∙ there)

  -- an arm of a CASE, with its operand
  abbrev arm_in : Option Expr → When → When
  arm_in x w = arm_of x (made ts w.when) (made ts w.then)

  arm_is : (x : Option Expr) (w : When) → arm_with x (arm_made ts w) ≡ arm_in x w
  arm_is None w = refl
  arm_is (Some x) w = refl

  arms_are : (x : Option Expr) (arms : List When) → map (arm_with x) (map (arm_made ts) arms) ≡ map (arm_in x) arms
  arms_are x [] = refl
  arms_are x (w ∷ ws) = ap (λ v. v ∷ map (arm_with x) (map (arm_made ts) ws)) (arm_is x w) ∙ ap (λ vs. arm_in x w ∷ vs) (arms_are x ws)

  case_is : (y : Option Expr) (arms : List When) (other : Option Expr)
      → parts_placed ts (e.Case y arms other) ≡ node.Case (option_map (made ts) y) (map (arm_in (option_map (made ts) y)) arms) (option_map (made ts) other)
  case_is None arms None = ap (layer_placed ts) (ap out-Expr (sym (rolls-Case None arms None)) ∙ out-roll-Expr (Case None arms None)) ∙ ap (λ ws. node.Case None ws None) (arms_are None arms)
  case_is None arms (Some z) = ap (layer_placed ts) (ap out-Expr (sym (rolls-Case None arms (Some z))) ∙ out-roll-Expr (Case None arms (Some z))) ∙ ap (λ ws. node.Case None ws (Some (made ts z))) (arms_are None arms)
  case_is (Some y) arms None = ap (layer_placed ts) (ap out-Expr (sym (rolls-Case (Some y) arms None)) ∙ out-roll-Expr (Case (Some y) arms None)) ∙ ap (λ ws. node.Case (Some (made ts y)) ws None) (arms_are (Some (made ts y)) arms)
  case_is (Some y) arms (Some z) = ap (layer_placed ts) (ap out-Expr (sym (rolls-Case (Some y) arms (Some z))) ∙ out-roll-Expr (Case (Some y) arms (Some z))) ∙ ap (λ ws. node.Case (Some (made ts y)) ws (Some (made ts z))) (arms_are (Some (made ts y)) arms)

  pub case_from : (x : Expr) (y : Option Expr) (arms arms' : List When) (other z : Option Expr) (ws : List When) (v : Option Expr) → x ≡ e.Case y arms other → arms' ≡ arms
      → z ≡ option_map (made ts) y → ws ≡ map (arm_in z) arms' → v ≡ option_map (made ts) other → node.Case z ws v ≡ parts_placed ts x
  case_from x y arms arms' other z ws v is a h k q =
      ap (λ us. node.Case z us v) (k ∙ ap (map (arm_in z)) a) ∙ ap (node.Case z (map (arm_in z) arms)) q
      ∙ ap (λ u. node.Case u (map (arm_in u) arms) (option_map (made ts) other)) h ∙ sym (ap (parts_placed ts) is ∙ case_is y arms other)
