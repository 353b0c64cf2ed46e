-- What is done with what the parts of an expression have, from left to right.
use Rattle.std.proofs.Common.{◌≡◌, ◌∙◌, ℕ, ◌+◌, ◌<◌, Bool, List, ◌++◌, ◌⊎◌, inl, inr, length, map, drop, get_or, Option, Some, None, refl, ap, sym}
use Rattle.std.specs.Option.{option_map, option_to_list}
use Rattle.std.specs.List.{flat_map}
use Rattle.std.proofs.lemmas.List.{append-nil}
use Rattle.std.proofs.lemmas.List.Folds.{flat_map-map}
use Rattle.cr_term.specs.declared.operator.Meeting.{Meeting}
use Rattle.cr_term.specs.declared.operator.Arithmetic.{Arithmetic as Operator}
use Rattle.cr_term.specs.declared.operator.Logic.{Logic as Junction}
use Rattle.cr_term.specs.declared.operator.Comparison.{Comparison}
use Rattle.cr_term.specs.declared.operator.BuiltIn.{BuiltIn as Own}
use Rattle.cr_term.specs.declared.operator.Aggregate.{Aggregate as Kind}
use Rattle.cr_term.specs.declared.expr.When.{When}
use Rattle.cr_term.specs.declared.expr.Expr.{Expr, out-Expr, map-Expr, out-roll-Expr}
use Rattle.cr_term.specs.declared.expr.Expr as e
use Rattle.cr_term.specs.declared.expr.Expr.TheVariants.{rolls-In, rolls-Between, rolls-Case, rolls-BuiltIn, rolls-Host, rolls-Aggregate, rolls-Arithmetic, rolls-Join, rolls-Like, rolls-Logic, rolls-Compare}
use Rattle.cr_term.specs.declared.expr.Expr.TheOpen.{Expr-F, When-F, Arithmetic, Join, Like, Logic, Compare, In, Between, Case, BuiltIn, Host, Aggregate}
use Rattle.cr_term.specs.declared.expr.Expr.TheFolds.{fold-Expr, fold-When}
use Rattle.cr_term.specs.Parts.{parts, arm, if_any}
use Rattle.cr_questions.specs.Asked.{parts_of}
use Rattle.cr_questions.proofs.Folds.{arms_fold, rest_at}

-- ---- in steps

module _ {B S : Type 0} (act : S → List B → S) (more : (s : S) (xs ys : List B) → act (act s xs) ys ≡ act s (xs ++ ys)) where
  pub two_acts : (xs ys qs : List B) (found next result : S) → qs ≡ xs ++ ys → next ≡ act found xs → result ≡ act next ys → result ≡ act found qs
  two_acts xs ys qs found next result is h k = k ∙ ap (λ s. act s ys) h ∙ more found xs ys ∙ ap (act found) (sym is)

  pub three_acts : (xs ys zs qs : List B) (found next last result : S) → qs ≡ (xs ++ ys) ++ zs → next ≡ act found xs → last ≡ act next ys → result ≡ act last zs → result ≡ act found qs
  three_acts xs ys zs qs found next last result is h k q = two_acts (xs ++ ys) zs qs found last result is (two_acts xs ys (xs ++ ys) found next last refl h k) q

  -- one more item of a list
  pub next_act : {X : Type 0} (f : X → List B) (xs : List X) (i : ℕ) (x : X) (found next whole : S) → i < length xs → x ≡ get_or xs i x
      → next ≡ act found (f x) → act found (flat_map f (drop i xs)) ≡ whole → act next (flat_map f (drop (i + 1) xs)) ≡ whole
  next_act f xs i x found next whole below is h k =
      ap (λ o. act o (flat_map f (drop (i + 1) xs))) h ∙ more found (f x) (flat_map f (drop (i + 1) xs))
      ∙ ap (λ ys. act found (flat_map f ys)) (sym (rest_at xs i x below is)) ∙ k

-- ---- the parts of nodes

module _ {B : Type 0} (node : Expr-F (List B) (List B) → List B) where
  abbrev comes : Expr → List B
  comes = fold-Expr (List B) (List B) node arm

  abbrev arm_comes : When → List B
  arm_comes = fold-When (List B) (List B) node arm

  abbrev of_arm : When → List B
  of_arm w = comes w.when ++ comes w.then

  abbrev over : Expr-F Expr (When-F Expr (Unit {0})) → List B
  over y = parts (map-Expr Expr (When-F Expr (Unit {0})) (List B) (List B) comes arm_comes y)

  all_parts : (xs : List Expr) → flat_map (λ qs. qs) (map comes xs) ≡ flat_map comes xs
  all_parts xs = flat_map-map (λ qs. qs) comes xs

  if_any_parts : (x : Option Expr) → if_any (option_map comes x) ≡ flat_map comes (option_to_list x)
  if_any_parts None = refl
  if_any_parts (Some x) = sym (append-nil (comes x))

  arm_parts : (arms : List When) → flat_map (λ qs. qs) (map arm_comes arms) ≡ flat_map of_arm arms
  arm_parts arms = ap (flat_map (λ qs. qs)) (arms_fold node arm arms) ∙ flat_map-map (λ qs. qs) of_arm arms

  pub in_parts : (n : Bool) (m : Meeting) (x : Expr) (items : List Expr) → parts_of node (e.In n m x items) ≡ comes x ++ flat_map comes items
  in_parts n m x items = ap over (ap out-Expr (sym (rolls-In n m x items)) ∙ out-roll-Expr (In n m x items)) ∙ ap (λ qs. comes x ++ qs) (all_parts items)

  pub between_parts : (n : Bool) (m l : Meeting) (x low high : Expr) → parts_of node (e.Between n m l x low high) ≡ (comes x ++ comes low) ++ comes high
  between_parts n m l x low high = ap over (ap out-Expr (sym (rolls-Between n m l x low high)) ∙ out-roll-Expr (Between n m l x low high))

  case_layer : (x : Option Expr) (arms : List When) (y : Option Expr)
      → if_any (option_map comes x) ++ flat_map (λ qs. qs) (map arm_comes arms) ++ if_any (option_map comes y) ≡ (flat_map comes (option_to_list x) ++ flat_map of_arm arms) ++ flat_map comes (option_to_list y)
  case_layer x arms y = ap (λ qs. qs ++ flat_map (λ qs. qs) (map arm_comes arms) ++ if_any (option_map comes y)) (if_any_parts x)
      ∙ ap (λ qs. flat_map comes (option_to_list x) ++ qs ++ if_any (option_map comes y)) (arm_parts arms)
      ∙ ap (λ qs. flat_map comes (option_to_list x) ++ flat_map of_arm arms ++ qs) (if_any_parts y)

  pub case_parts : (x : Option Expr) (arms : List When) (y : Option Expr) → parts_of node (e.Case x arms y) ≡ (flat_map comes (option_to_list x) ++ flat_map of_arm arms) ++ flat_map comes (option_to_list y)
  case_parts None arms None = ap over (ap out-Expr (sym (rolls-Case None arms None)) ∙ out-roll-Expr (Case None arms None)) ∙ case_layer None arms None
  case_parts None arms (Some y) = ap over (ap out-Expr (sym (rolls-Case None arms (Some y))) ∙ out-roll-Expr (Case None arms (Some y))) ∙ case_layer None arms (Some y)
  case_parts (Some x) arms None = ap over (ap out-Expr (sym (rolls-Case (Some x) arms None)) ∙ out-roll-Expr (Case (Some x) arms None)) ∙ case_layer (Some x) arms None
  case_parts (Some x) arms (Some y) = ap over (ap out-Expr (sym (rolls-Case (Some x) arms (Some y))) ∙ out-roll-Expr (Case (Some x) arms (Some y))) ∙ case_layer (Some x) arms (Some y)

  built_in_parts : (f : Own) (args : List Expr) → parts_of node (e.BuiltIn f args) ≡ flat_map comes args
  built_in_parts f args = ap over (ap out-Expr (sym (rolls-BuiltIn f args)) ∙ out-roll-Expr (BuiltIn f args)) ∙ all_parts args

  host_parts : (name : List ℕ) (args : List Expr) → parts_of node (e.Host name args) ≡ flat_map comes args
  host_parts name args = ap over (ap out-Expr (sym (rolls-Host name args)) ∙ out-roll-Expr (Host name args)) ∙ all_parts args

  aggregate_parts : (kind : Kind) (args : List Expr) → parts_of node (e.Aggregate kind args) ≡ flat_map comes args
  aggregate_parts kind args = ap over (ap out-Expr (sym (rolls-Aggregate kind args)) ∙ out-roll-Expr (Aggregate kind args)) ∙ all_parts args

  pub call_parts : (expr : Expr) (args : List Expr) → ((f : Own) × (expr ≡ e.BuiltIn f args)) ⊎ (((name : List ℕ) × (expr ≡ e.Host name args)) ⊎ ((kind : Kind) × (expr ≡ e.Aggregate kind args)))
      → parts_of node expr ≡ flat_map comes args
  call_parts expr args (inl (f, is)) = ap (parts_of node) is ∙ built_in_parts f args
  call_parts expr args (inr (inl (name, is))) = ap (parts_of node) is ∙ host_parts name args
  call_parts expr args (inr (inr (kind, is))) = ap (parts_of node) is ∙ aggregate_parts kind args

  pair_layer : (expr x y : Expr) (z : Expr-F Expr (When-F Expr (Unit {0}))) → out-Expr expr ≡ z → over z ≡ comes x ++ comes y → parts_of node expr ≡ comes x ++ comes y
  pair_layer expr x y z is h = ap over is ∙ h

  pub pair_parts : (expr x y : Expr)
      → ((op : Operator) × (expr ≡ e.Arithmetic op x y)) ⊎ ((expr ≡ e.Join x y) ⊎ (((n : Bool) × (expr ≡ e.Like n x y)) ⊎ (((op : Junction) × (expr ≡ e.Logic op x y)) ⊎ ((op : Comparison) × (m : Meeting) × (expr ≡ e.Compare op m x y)))))
      → parts_of node expr ≡ comes x ++ comes y
  pair_parts expr x y (inl (op, is)) = pair_layer expr x y (Arithmetic op x y) (ap out-Expr (is ∙ sym (rolls-Arithmetic op x y)) ∙ out-roll-Expr (Arithmetic op x y)) refl
  pair_parts expr x y (inr (inl is)) = pair_layer expr x y (Join x y) (ap out-Expr (is ∙ sym (rolls-Join x y)) ∙ out-roll-Expr (Join x y)) refl
  pair_parts expr x y (inr (inr (inl (n, is)))) = pair_layer expr x y (Like n x y) (ap out-Expr (is ∙ sym (rolls-Like n x y)) ∙ out-roll-Expr (Like n x y)) refl
  pair_parts expr x y (inr (inr (inr (inl (op, is))))) = pair_layer expr x y (Logic op x y) (ap out-Expr (is ∙ sym (rolls-Logic op x y)) ∙ out-roll-Expr (Logic op x y)) refl
  pair_parts expr x y (inr (inr (inr (inr (op, m, is))))) = pair_layer expr x y (Compare op m x y) (ap out-Expr (is ∙ sym (rolls-Compare op m x y)) ∙ out-roll-Expr (Compare op m x y)) refl

-- ---- nodes in steps

module _ {B S : Type 0} (node : Expr-F (List B) (List B) → List B) (act : S → List B → S) (more : (s : S) (xs ys : List B) → act (act s xs) ys ≡ act s (xs ++ ys)) where
  pub in_from : (expr : Expr) (n : Bool) (m : Meeting) (x x' : Expr) (items items' : List Expr) (found next result : S)
      → expr ≡ e.In n m x items → x' ≡ x → items' ≡ items → next ≡ act found (comes node x') → result ≡ act next (flat_map (comes node) items') → result ≡ act found (parts_of node expr)
  in_from expr n m x x' items items' found next result is a b h k =
      two_acts act more (comes node x') (flat_map (comes node) items') (parts_of node expr) found next result (rw (is, a, b) (in_parts node n m x items)) h k

  pub between_from : (expr : Expr) (n : Bool) (m l : Meeting) (x low high x' low' high' : Expr) (found next last result : S)
      → expr ≡ e.Between n m l x low high → x' ≡ x → low' ≡ low → high' ≡ high → next ≡ act found (comes node x')
      → last ≡ act next (comes node low') → result ≡ act last (comes node high') → result ≡ act found (parts_of node expr)
  between_from expr n m l x low high x' low' high' found next last result is a b d h k q =
      three_acts act more (comes node x') (comes node low') (comes node high') (parts_of node expr) found next last result (rw (is, a, b, d) (between_parts node n m l x low high)) h k q

  pub case_from : (expr : Expr) (x : Option Expr) (arms arms' : List When) (y : Option Expr) (found next last result : S)
      → expr ≡ e.Case x arms y → arms' ≡ arms → next ≡ act found (flat_map (comes node) (option_to_list x))
      → last ≡ act next (flat_map (of_arm node) arms') → result ≡ act last (flat_map (comes node) (option_to_list y)) → result ≡ act found (parts_of node expr)
  case_from expr x arms arms' y found next last result is a h k q =
      three_acts act more (flat_map (comes node) (option_to_list x)) (flat_map (of_arm node) arms') (flat_map (comes node) (option_to_list y)) (parts_of node expr) found next last result
      (rw (is, a) (case_parts node x arms y)) h k q

  pub pair_from : (expr x y x' y' : Expr) (found next result : S)
      → ((op : Operator) × (expr ≡ e.Arithmetic op x y)) ⊎ ((expr ≡ e.Join x y) ⊎ (((n : Bool) × (expr ≡ e.Like n x y)) ⊎ (((op : Junction) × (expr ≡ e.Logic op x y)) ⊎ ((op : Comparison) × (m : Meeting) × (expr ≡ e.Compare op m x y)))))
      → x' ≡ x → y' ≡ y → next ≡ act found (comes node x') → result ≡ act next (comes node y') → result ≡ act found (parts_of node expr)
  pair_from expr x y x' y' found next result is a b h k =
      two_acts act more (comes node x') (comes node y') (parts_of node expr) found next result (rw (a, b) (pair_parts node expr x y is)) h k

  pub call_from : (expr : Expr) (args args' : List Expr) (found result : S)
      → ((f : Own) × (expr ≡ e.BuiltIn f args)) ⊎ (((name : List ℕ) × (expr ≡ e.Host name args)) ⊎ ((kind : Kind) × (expr ≡ e.Aggregate kind args)))
      → args' ≡ args → result ≡ act found (flat_map (comes node) args') → result ≡ act found (parts_of node expr)
  call_from expr args args' found result is a h = rw (call_parts node expr args is, sym a) h
