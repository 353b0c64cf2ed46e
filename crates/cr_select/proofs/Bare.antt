-- Whether a column stands bare in an expression, node by node.
use Rattle.std.proofs.Common.{◌≡◌, ◌∙◌, ℕ, Bool, true, false, ◌||◌, List, [], ◌∷◌, ◌++◌, ◌⊎◌, inl, inr, map, Option, Some, None, refl, sym, ap}
use Rattle.std.specs.Option.{option_map, option_to_list}
use Rattle.std.specs.List.{flat_map, list_any, position}
use Rattle.std.proofs.lemmas.List.{append-nil}
use Rattle.std.proofs.lemmas.List.Folds.{flat_map-map}
use Rattle.cr_term.specs.declared.operator.Meeting.{Meeting}
use Rattle.cr_term.specs.declared.operator.Arithmetic.{Arithmetic as Operator}
use Rattle.cr_term.specs.declared.operator.Logic.{Logic as Junction}
use Rattle.cr_term.specs.declared.operator.Comparison.{Comparison}
use Rattle.cr_term.specs.declared.operator.BuiltIn.{BuiltIn as Own}
use Rattle.cr_term.specs.declared.expr.When.{When}
use Rattle.cr_term.specs.declared.expr.Expr.{Expr, out-Expr, map-Expr, out-roll-Expr}
use Rattle.cr_term.specs.declared.expr.Expr as e
use Rattle.cr_term.specs.declared.expr.Expr.TheVariants.{rolls-In, rolls-Between, rolls-Case, rolls-BuiltIn, rolls-Host, rolls-Arithmetic, rolls-Join, rolls-Like, rolls-Logic, rolls-Compare}
use Rattle.cr_term.specs.declared.expr.Expr.TheOpen.{Expr-F, When-F, Literal, Param, Column, Shown, Unary, Arithmetic, Join, Like, Logic, Compare, Collate, Cast, In, Between, Case, BuiltIn, Host, Aggregate, SiteId, DbVersion}
use Rattle.cr_term.specs.declared.expr.Expr.TheFolds.{fold_out-When}
use Rattle.cr_term.specs.declared.query.GroupTerm.{GroupTerm}
use Rattle.cr_term.specs.Parts.{if_any}
use Rattle.cr_term.specs.Same.{same}
use Rattle.cr_questions.proofs.Collected.{two_acts, three_acts}
use Rattle.cr_resolve.specs.Queries.{Placed, PlacedArm, placed, placed_node, placed_arm, placed_inside, placed_or}
use Rattle.cr_select.specs.Placed.{exprs_of, bares, arm_bares, layer_bares, part_bares, or_bare}
use Rattle.cr_select.proofs.Each.{or_assoc}
use Rattle.cr_select.proofs.Anew.{anew, of_arm}
use Rattle.cr_select.proofs.InGroup.{opened, parts_in, place_is}

abbrev any : List Bool → Bool
any bs = list_any (λ b. b) bs

any_append : (xs ys : List Bool) → any (xs ++ ys) ≡ (any xs || any ys)
any_append [] ys = refl
any_append (x ∷ xs) ys = ap (λ b. x || b) (any_append xs ys) ∙ sym (or_assoc x (any xs) (any ys))

pub or_more : (found : Bool) (xs ys : List Bool) → or_bare (or_bare found xs) ys ≡ or_bare found (xs ++ ys)
unfolding or_bare
or_more found xs ys = or_assoc found (any xs) (any ys) ∙ ap (λ b. found || b) (sym (any_append xs ys))

-- ---- by whether it is a term

module _ (ts : List Expr) where
  abbrev flags : Placed → List Bool
  flags p = p.is_bare ∷ []

  abbrev arm_flags : PlacedArm → List Bool
  arm_flags w = w.is_bare ∷ []

  abbrev over : Expr-F Expr (When-F Expr (Unit {0})) → List Bool
  over y = layer_bares (map-Expr Expr (When-F Expr (Unit {0})) (List Bool) (List Bool) (bares ts) (arm_bares ts) y)

  all_flags : (xs : List Expr) → map flags (map (placed ts) xs) ≡ map (bares ts) xs
  unfolding bares
  all_flags [] = refl
  all_flags (x ∷ xs) = ap (λ bs. ((placed ts x).is_bare ∷ []) ∷ bs) (all_flags xs)

  abbrev in_arms : List When → List Bool
  in_arms ws = flat_map (λ bs. bs) (map (arm_bares ts) ws)

  arm_any : (w : When) → any ((of_arm ts w).is_bare ∷ []) ≡ any (arm_bares ts w)
  unfolding bares
  arm_any w = ap (λ (p : PlacedArm). any (p.is_bare ∷ [])) (fold_out-When Placed PlacedArm (placed_node ts) placed_arm w) ∙ or_assoc (placed ts w.when).is_bare (placed ts w.then).is_bare false

  arms_any : (ws : List When) → any (flat_map (λ bs. bs) (map arm_flags (map (of_arm ts) ws))) ≡ any (in_arms ws)
  arms_any [] = refl
  arms_any (w ∷ ws) =
      any_append ((of_arm ts w).is_bare ∷ []) (flat_map (λ bs. bs) (map arm_flags (map (of_arm ts) ws)))
      ∙ ap (λ b. b || any (flat_map (λ bs. bs) (map arm_flags (map (of_arm ts) ws)))) (arm_any w) ∙ ap (λ b. any (arm_bares ts w) || b) (arms_any ws)
      ∙ sym (any_append (arm_bares ts w) (in_arms ws))

  around : (xs cs bs ys : List Bool) → any cs ≡ any bs → any (xs ++ cs ++ ys) ≡ any (xs ++ bs ++ ys)
  around xs cs bs ys h =
      any_append (xs ++ cs) ys ∙ ap (λ b. b || any ys) (any_append xs cs ∙ ap (λ b. any xs || b) h ∙ sym (any_append xs bs)) ∙ sym (any_append (xs ++ bs) ys)

  abbrev or_nothing : Option Expr → List Bool
  or_nothing x = if_any (option_map (bares ts) x)

  inside_any : (self : Expr) (y : Expr-F Expr (When-F Expr (Unit {0}))) → (placed_inside self (parts_in ts y)).is_bare ≡ any (over y)
  unfolding bares
  inside_any self (Literal v) = refl
  inside_any self (Param n) = refl
  inside_any self (Column c) = refl
  inside_any self (Shown n x) = refl
  inside_any self (Unary op x) = refl
  inside_any self (Arithmetic op x y) = refl
  inside_any self (Join x y) = refl
  inside_any self (Like n x y) = refl
  inside_any self (Logic op x y) = refl
  inside_any self (Compare op m x y) = refl
  inside_any self (Collate x name) = refl
  inside_any self (Cast to x) = refl
  inside_any self (In n m x items) = ap (λ bs. any (bares ts x ++ flat_map (λ b. b) bs)) (all_flags items)
  inside_any self (Between n m l x low high) = refl
  inside_any self (Case None arms None) = around (or_nothing None) (flat_map (λ bs. bs) (map arm_flags (map (of_arm ts) arms))) (in_arms arms) (or_nothing None) (arms_any arms)
  inside_any self (Case None arms (Some z)) = around (or_nothing None) (flat_map (λ bs. bs) (map arm_flags (map (of_arm ts) arms))) (in_arms arms) (or_nothing (Some z)) (arms_any arms)
  inside_any self (Case (Some x) arms None) = around (or_nothing (Some x)) (flat_map (λ bs. bs) (map arm_flags (map (of_arm ts) arms))) (in_arms arms) (or_nothing None) (arms_any arms)
  inside_any self (Case (Some x) arms (Some z)) = around (or_nothing (Some x)) (flat_map (λ bs. bs) (map arm_flags (map (of_arm ts) arms))) (in_arms arms) (or_nothing (Some z)) (arms_any arms)
  inside_any self (BuiltIn h args) = ap (λ bs. any (flat_map (λ b. b) bs)) (all_flags args)
  inside_any self (Host name args) = ap (λ bs. any (flat_map (λ b. b) bs)) (all_flags args)
  inside_any self (Aggregate kind args) = refl
  inside_any self (SiteId bytes) = refl
  inside_any self (DbVersion n) = refl

  is_term : (x : Expr) (at : ℕ) → position (λ t. same x t) ts ≡ Some at → any (bares ts x) ≡ false
  unfolding bares
  is_term x at h = ap (λ (p : Placed). any (p.is_bare ∷ [])) (opened ts x ∙ ap (λ k. placed_or (anew x) k (parts_in ts (out-Expr x))) h)

  or_none : (b : Bool) → any (b ∷ []) ≡ b
  or_none true = refl
  or_none false = refl

  is_other : (x : Expr) → position (λ t. same x t) ts ≡ None → any (bares ts x) ≡ any (part_bares ts x)
  unfolding bares
  is_other x h =
      ap (λ (p : Placed). any (p.is_bare ∷ [])) (opened ts x ∙ ap (λ k. placed_or (anew x) k (parts_in ts (out-Expr x))) h)
      ∙ or_none (placed_inside (anew x) (parts_in ts (out-Expr x))).is_bare ∙ inside_any (anew x) (out-Expr x)

  -- ---- the parts of nodes

  all_parts : (xs : List Expr) → flat_map (λ bs. bs) (map (bares ts) xs) ≡ flat_map (bares ts) xs
  all_parts xs = flat_map-map (λ bs. bs) (bares ts) xs

  if_any_parts : (x : Option Expr) → or_nothing x ≡ flat_map (bares ts) (option_to_list x)
  if_any_parts None = refl
  if_any_parts (Some x) = sym (append-nil (bares ts x))

  in_parts : (n : Bool) (m : Meeting) (x : Expr) (items : List Expr) → part_bares ts (e.In n m x items) ≡ bares ts x ++ flat_map (bares ts) items
  in_parts n m x items = ap over (ap out-Expr (sym (rolls-In n m x items)) ∙ out-roll-Expr (In n m x items)) ∙ ap (λ bs. bares ts x ++ bs) (all_parts items)

  between_parts : (n : Bool) (m l : Meeting) (x low high : Expr) → part_bares ts (e.Between n m l x low high) ≡ (bares ts x ++ bares ts low) ++ bares ts high
  between_parts n m l x low high = ap over (ap out-Expr (sym (rolls-Between n m l x low high)) ∙ out-roll-Expr (Between n m l x low high))

  abbrev case_of : Option Expr → List When → Option Expr → List Bool
  case_of x arms y = (flat_map (bares ts) (option_to_list x) ++ flat_map (arm_bares ts) arms) ++ flat_map (bares ts) (option_to_list y)

  case_layer : (x : Option Expr) (arms : List When) (y : Option Expr) → or_nothing x ++ in_arms arms ++ or_nothing y ≡ case_of x arms y
  case_layer x arms y =
      ap (λ bs. bs ++ in_arms arms ++ or_nothing y) (if_any_parts x)
      ∙ ap (λ bs. flat_map (bares ts) (option_to_list x) ++ bs ++ or_nothing y) (flat_map-map (λ bs. bs) (arm_bares ts) arms)
      ∙ ap (λ bs. flat_map (bares ts) (option_to_list x) ++ flat_map (arm_bares ts) arms ++ bs) (if_any_parts y)

  case_parts : (x : Option Expr) (arms : List When) (y : Option Expr) → part_bares ts (e.Case x arms y) ≡ case_of x arms y
  case_parts None arms None = ap over (ap out-Expr (sym (rolls-Case None arms None)) ∙ out-roll-Expr (Case None arms None)) ∙ case_layer None arms None
  case_parts None arms (Some y) = ap over (ap out-Expr (sym (rolls-Case None arms (Some y))) ∙ out-roll-Expr (Case None arms (Some y))) ∙ case_layer None arms (Some y)
  case_parts (Some x) arms None = ap over (ap out-Expr (sym (rolls-Case (Some x) arms None)) ∙ out-roll-Expr (Case (Some x) arms None)) ∙ case_layer (Some x) arms None
  case_parts (Some x) arms (Some y) = ap over (ap out-Expr (sym (rolls-Case (Some x) arms (Some y))) ∙ out-roll-Expr (Case (Some x) arms (Some y))) ∙ case_layer (Some x) arms (Some y)

  built_in_parts : (f : Own) (args : List Expr) → part_bares ts (e.BuiltIn f args) ≡ flat_map (bares ts) args
  built_in_parts f args = ap over (ap out-Expr (sym (rolls-BuiltIn f args)) ∙ out-roll-Expr (BuiltIn f args)) ∙ all_parts args

  host_parts : (name : List ℕ) (args : List Expr) → part_bares ts (e.Host name args) ≡ flat_map (bares ts) args
  host_parts name args = ap over (ap out-Expr (sym (rolls-Host name args)) ∙ out-roll-Expr (Host name args)) ∙ all_parts args

  call_parts : (x : Expr) (args : List Expr) → ((f : Own) × (x ≡ e.BuiltIn f args)) ⊎ ((name : List ℕ) × (x ≡ e.Host name args)) → part_bares ts x ≡ flat_map (bares ts) args
  call_parts x args (inl (f, is)) = ap (part_bares ts) is ∙ built_in_parts f args
  call_parts x args (inr (name, is)) = ap (part_bares ts) is ∙ host_parts name args

  pair_layer : (x y z : Expr) (n : Expr-F Expr (When-F Expr (Unit {0}))) → out-Expr x ≡ n → over n ≡ bares ts y ++ bares ts z → part_bares ts x ≡ bares ts y ++ bares ts z
  pair_layer x y z n is h = ap over is ∙ h

  pair_parts : (x y z : Expr)
      → ((op : Operator) × (x ≡ e.Arithmetic op y z)) ⊎ ((x ≡ e.Join y z) ⊎ (((n : Bool) × (x ≡ e.Like n y z)) ⊎ (((op : Junction) × (x ≡ e.Logic op y z)) ⊎ ((op : Comparison) × (m : Meeting) × (x ≡ e.Compare op m y z)))))
      → part_bares ts x ≡ bares ts y ++ bares ts z
  pair_parts x y z (inl (op, is)) = pair_layer x y z (Arithmetic op y z) (ap out-Expr (is ∙ sym (rolls-Arithmetic op y z)) ∙ out-roll-Expr (Arithmetic op y z)) refl
  pair_parts x y z (inr (inl is)) = pair_layer x y z (Join y z) (ap out-Expr (is ∙ sym (rolls-Join y z)) ∙ out-roll-Expr (Join y z)) refl
  pair_parts x y z (inr (inr (inl (n, is)))) = pair_layer x y z (Like n y z) (ap out-Expr (is ∙ sym (rolls-Like n y z)) ∙ out-roll-Expr (Like n y z)) refl
  pair_parts x y z (inr (inr (inr (inl (op, is))))) = pair_layer x y z (Logic op y z) (ap out-Expr (is ∙ sym (rolls-Logic op y z)) ∙ out-roll-Expr (Logic op y z)) refl
  pair_parts x y z (inr (inr (inr (inr (op, m, is))))) = pair_layer x y z (Compare op m y z) (ap out-Expr (is ∙ sym (rolls-Compare op m y z)) ∙ out-roll-Expr (Compare op m y z)) refl

  -- ---- nodes in steps

  pub in_from : (x : Expr) (n : Bool) (m : Meeting) (y y' : Expr) (items items' : List Expr) (next result : Bool)
      → x ≡ e.In n m y items → y' ≡ y → items' ≡ items → next ≡ or_bare false (bares ts y') → result ≡ or_bare next (flat_map (bares ts) items') → result ≡ or_bare false (part_bares ts x)
  in_from x n m y y' items items' next result is a b h k =
      two_acts or_bare or_more (bares ts y') (flat_map (bares ts) items') (part_bares ts x) false next result (rw (is, a, b) (in_parts n m y items)) h k

  pub between_from : (x : Expr) (n : Bool) (m l : Meeting) (y low high y' low' high' : Expr) (next last result : Bool)
      → x ≡ e.Between n m l y low high → y' ≡ y → low' ≡ low → high' ≡ high → next ≡ or_bare false (bares ts y')
      → last ≡ or_bare next (bares ts low') → result ≡ or_bare last (bares ts high') → result ≡ or_bare false (part_bares ts x)
  between_from x n m l y low high y' low' high' next last result is a b d h k q =
      three_acts or_bare or_more (bares ts y') (bares ts low') (bares ts high') (part_bares ts x) false next last result (rw (is, a, b, d) (between_parts n m l y low high)) h k q

  pub case_from : (x : Expr) (y : Option Expr) (arms arms' : List When) (z : Option Expr) (next last result : Bool)
      → x ≡ e.Case y arms z → arms' ≡ arms → next ≡ or_bare false (flat_map (bares ts) (option_to_list y))
      → last ≡ or_bare next (flat_map (arm_bares ts) arms') → result ≡ or_bare last (flat_map (bares ts) (option_to_list z)) → result ≡ or_bare false (part_bares ts x)
  case_from x y arms arms' z next last result is a h k q =
      three_acts or_bare or_more (flat_map (bares ts) (option_to_list y)) (flat_map (arm_bares ts) arms') (flat_map (bares ts) (option_to_list z)) (part_bares ts x) false next last result
      (rw (is, a) (case_parts y arms z)) h k q

  pub pair_from : (x y z y' z' : Expr) (next result : Bool)
      → ((op : Operator) × (x ≡ e.Arithmetic op y z)) ⊎ ((x ≡ e.Join y z) ⊎ (((n : Bool) × (x ≡ e.Like n y z)) ⊎ (((op : Junction) × (x ≡ e.Logic op y z)) ⊎ ((op : Comparison) × (m : Meeting) × (x ≡ e.Compare op m y z)))))
      → y' ≡ y → z' ≡ z → next ≡ or_bare false (bares ts y') → result ≡ or_bare next (bares ts z') → result ≡ or_bare false (part_bares ts x)
  pair_from x y z y' z' next result is a b h k =
      two_acts or_bare or_more (bares ts y') (bares ts z') (part_bares ts x) false next result (rw (a, b) (pair_parts x y z is)) h k

  pub call_from : (x : Expr) (args args' : List Expr) (result : Bool) → ((f : Own) × (x ≡ e.BuiltIn f args)) ⊎ ((name : List ℕ) × (x ≡ e.Host name args))
      → args' ≡ args → result ≡ or_bare false (flat_map (bares ts) args') → result ≡ or_bare false (part_bares ts x)
  call_from x args args' result is a h = rw (call_parts x args is, sym a) h

-- ---- the terms of GROUP BY

pub term_bare : (gs : List GroupTerm) (x : Expr) (at : ℕ) → position (λ g. same x g.expr) gs ≡ Some at → any (bares (exprs_of gs) x) ≡ false
term_bare gs x at h = is_term (exprs_of gs) x at (place_is gs x ∙ h)

pub other_bare : (gs : List GroupTerm) (x : Expr) → position (λ g. same x g.expr) gs ≡ None → any (bares (exprs_of gs) x) ≡ any (part_bares (exprs_of gs) x)
other_bare gs x h = is_other (exprs_of gs) x (place_is gs x ∙ h)
