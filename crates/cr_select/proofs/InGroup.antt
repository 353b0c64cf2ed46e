-- An expression within a group, by whether it is a term of it.
use Rattle.std.proofs.Common.{◌≡◌, ◌∙◌, ℕ, ◌+◌, Bool, not, List, [], ◌∷◌, map, Some, None, refl, sym, ap}
use Rattle.std.specs.Prelude.{cond}
use Rattle.std.specs.List.{position, position_or_len}
use Rattle.cr_term.specs.At.{at_is}
use Rattle.cr_term.specs.Nodes as node
use Rattle.cr_term.specs.declared.expr.When.{When}
use Rattle.cr_term.specs.declared.expr.Expr.{Expr, out-Expr, map-Expr}
use Rattle.cr_term.specs.declared.expr.Expr.TheOpen.{Expr-F, When-F, Literal, Param, Column, Shown, Unary, Arithmetic, Join, Like, Logic, Compare, Collate, Cast, In, Between, Case, BuiltIn, Host, Aggregate, SiteId, DbVersion}
use Rattle.cr_term.specs.declared.expr.Expr.TheFolds.{fold_out-Expr, fold_out-When}
use Rattle.cr_term.specs.declared.query.GroupTerm.{GroupTerm}
use Rattle.cr_term.specs.Build.{mapped, built}
use Rattle.cr_term.specs.Same.{same, test}
use Rattle.cr_resolve.specs.Queries.{Placed, PlacedArm, placed, placed_node, placed_arm, placed_inside, placed_or}
use Rattle.cr_select.specs.Placed.{exprs_of, made, arm_made, layer_placed, parts_placed}
use Rattle.cr_select.proofs.Collated.{position_mapped}
use Rattle.cr_select.proofs.Anew.{anew, anew_arm, arm_anew, of_arm, or_self, self_is, made_is, test_anew}

-- ---- which term it is

first_same : (p q : Expr → Bool) → ((t : Expr) → p t ≡ q t) → (ts : List Expr) → position_or_len p ts ≡ position_or_len q ts
first_same p q h [] = refl
first_same p q h (t ∷ ts) = ap (λ b. cond (not b) (1 + position_or_len p ts) 0) (h t) ∙ ap (λ n. cond (not (q t)) (1 + n) 0) (first_same p q h ts)

position_same : (p q : Expr → Bool) → ((t : Expr) → p t ≡ q t) → (ts : List Expr) → position p ts ≡ position q ts
position_same p q h ts = rw (first_same p q h ts) refl

same_anew : (x t : Expr) → same (anew x) t ≡ same x t
same_anew x t = at_is t (test (anew x)) ∙ test_anew x t ∙ sym (at_is t (test x))

module _ (ts : List Expr) where
  -- its node, with what its parts are within the group
  abbrev pub parts_in : Expr-F Expr (When-F Expr (Unit {0})) → Expr-F Placed PlacedArm
  parts_in y = map-Expr Expr (When-F Expr (Unit {0})) Placed PlacedArm (placed ts) (of_arm ts) y

  pub opened : (x : Expr) → placed ts x ≡ placed_or (anew x) (position (λ t. same x t) ts) (parts_in (out-Expr x))
  opened x =
      let n : Expr-F Placed PlacedArm = parts_in (out-Expr x) in
      let was : Expr = built (mapped (λ p. p.self) (λ w. w.self) n) in
      let folds : placed ts x ≡ placed_node ts n = fold_out-Expr Placed PlacedArm (placed_node ts) placed_arm x in
      let is : was ≡ anew x = sym (or_self was (position (λ t. same was t) ts) n) ∙ sym (ap (λ (p : Placed). p.self) folds) ∙ self_is ts x in
      folds ∙ ap (λ e. placed_or e (position (λ t. same e t) ts) n) is ∙ ap (λ at. placed_or (anew x) at n) (position_same (λ t. same (anew x) t) (λ t. same x t) (same_anew x) ts)

  all_made : (xs : List Expr) → map (λ p. p.made) (map (placed ts) xs) ≡ map (made ts) xs
  unfolding made
  all_made [] = refl
  all_made (x ∷ xs) = ap (λ es. (placed ts x).made ∷ es) (all_made xs)

  arm_is : (w : When) → (of_arm ts w).made ≡ arm_made ts w
  unfolding made
  arm_is w = ap (λ (p : PlacedArm). p.made) (fold_out-When Placed PlacedArm (placed_node ts) placed_arm w)

  arms_made : (ws : List When) → map (λ p. p.made) (map (of_arm ts) ws) ≡ map (arm_made ts) ws
  arms_made [] = refl
  arms_made (w ∷ ws) = ap (λ v. v ∷ map (λ p. p.made) (map (of_arm ts) ws)) (arm_is w) ∙ ap (λ vs. arm_made ts w ∷ vs) (arms_made ws)

  args_anew : (xs : List Expr) → map anew xs ≡ map (made []) xs
  unfolding made
  args_anew [] = refl
  args_anew (x ∷ xs) = ap (λ e. e ∷ map anew xs) (sym (made_is x)) ∙ ap (λ es. (placed [] x).made ∷ es) (args_anew xs)

  abbrev remade : Expr-F Expr (When-F Expr (Unit {0})) → Expr
  remade y = built (map-Expr Expr (When-F Expr (Unit {0})) Expr When anew anew_arm y)

  inside_made : (self : Expr) (y : Expr-F Expr (When-F Expr (Unit {0}))) → self ≡ remade y → (placed_inside self (parts_in y)).made ≡ layer_placed ts y
  unfolding made
  inside_made self (Literal v) is = refl
  inside_made self (Param n) is = refl
  inside_made self (Column c) is = is
  inside_made self (Shown n x) is = refl
  inside_made self (Unary op x) is = refl
  inside_made self (Arithmetic op x y) is = refl
  inside_made self (Join x y) is = refl
  inside_made self (Like n x y) is = refl
  inside_made self (Logic op x y) is = refl
  inside_made self (Compare op m x y) is = refl
  inside_made self (Collate x name) is = refl
  inside_made self (Cast to x) is = refl
  inside_made self (In n m x items) is = ap (λ es. built (In n m (made ts x) es)) (all_made items)
  inside_made self (Between n m l x low high) is = refl
  inside_made self (Case None arms None) is = ap (λ ws. built (Case None ws None)) (arms_made arms)
  inside_made self (Case None arms (Some z)) is = ap (λ ws. built (Case None ws (Some (made ts z)))) (arms_made arms)
  inside_made self (Case (Some x) arms None) is = ap (λ ws. built (Case (Some (made ts x)) ws None)) (arms_made arms)
  inside_made self (Case (Some x) arms (Some z)) is = ap (λ ws. built (Case (Some (made ts x)) ws (Some (made ts z)))) (arms_made arms)
  inside_made self (BuiltIn h args) is = ap (λ es. built (BuiltIn h es)) (all_made args)
  inside_made self (Host name args) is = ap (λ es. built (Host name es)) (all_made args)
  inside_made self (Aggregate kind args) is = is ∙ ap (λ es. built (Aggregate kind es)) (args_anew args)
  inside_made self (SiteId bytes) is = refl
  inside_made self (DbVersion n) is = refl

  is_other : (x : Expr) → position (λ t. same x t) ts ≡ None → parts_placed ts x ≡ made ts x
  unfolding made
  is_other x h =
      sym (ap (λ (p : Placed). p.made) (opened x ∙ ap (λ at. placed_or (anew x) at (parts_in (out-Expr x))) h) ∙ inside_made (anew x) (out-Expr x) (fold_out-Expr Expr When built arm_anew x))

shown_anew : (x : Expr) → parts_placed [] x ≡ anew x
unfolding made
shown_anew x = is_other [] x refl ∙ made_is x

is_term : (ts : List Expr) (x : Expr) (at : ℕ) → position (λ t. same x t) ts ≡ Some at → node.Shown at (parts_placed [] x) ≡ made ts x
unfolding made
is_term ts x at h =
    ap (node.Shown at) (shown_anew x) ∙ sym (ap (λ (p : Placed). p.made) (opened ts x ∙ ap (λ k. placed_or (anew x) k (parts_in ts (out-Expr x))) h))

-- ---- the terms of GROUP BY

pub place_is : (gs : List GroupTerm) (x : Expr) → position (λ t. same x t) (exprs_of gs) ≡ position (λ g. same x g.expr) gs
place_is gs x = position_mapped (λ (g : GroupTerm). g.expr) (λ t. same x t) gs

pub term_made : (gs : List GroupTerm) (x : Expr) (at : ℕ) → position (λ g. same x g.expr) gs ≡ Some at → node.Shown at (parts_placed [] x) ≡ made (exprs_of gs) x
term_made gs x at h = is_term (exprs_of gs) x at (place_is gs x ∙ h)

pub other_made : (gs : List GroupTerm) (x : Expr) → position (λ g. same x g.expr) gs ≡ None → parts_placed (exprs_of gs) x ≡ made (exprs_of gs) x
other_made gs x h = is_other (exprs_of gs) x (place_is gs x ∙ h)
