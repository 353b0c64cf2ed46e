-- What is left of an expression is what is left of its node and its parts.
use Rattle.std.proofs.Common.{◌≡◌, ◌∙◌, ℕ, Bool, true, false, List, [], ◌∷◌, map, Option, Some, None, refl, ap, sym, if◌then◌else◌}
use Rattle.std.specs.Option.{option_map}
use Rattle.cr_term.specs.declared.operator.Meeting.{Meeting}
use Rattle.cr_term.specs.declared.operator.BuiltIn.{BuiltIn as Own}
use Rattle.cr_term.specs.declared.operator.Aggregate.{Aggregate as Kind}
use Rattle.cr_term.specs.declared.expr.When.{When}
use Rattle.cr_term.specs.declared.expr.Expr.{Expr, out-Expr, map-Expr, out-roll-Expr}
use Rattle.cr_term.specs.declared.expr.Expr as e
use Rattle.cr_term.specs.Nodes as node
use Rattle.cr_term.specs.declared.expr.Expr.TheVariants.{rolls-In, rolls-Between, rolls-Case, rolls-BuiltIn, rolls-Host, rolls-Aggregate}
use Rattle.cr_term.specs.declared.expr.Expr.TheOpen.{Expr-F, When-F, In, Between, Case, BuiltIn, Host, Aggregate}
use Rattle.cr_term.specs.declared.expr.Expr.TheFolds.{fold-When, fold_out-Expr, fold_out-When}
use Rattle.cr_term.specs.declared.query.Relation.{Relation}
use Rattle.cr_term.specs.Build.{built, own_with, kind_with, arm_with}
use Rattle.cr_build.specs.Parts.{membership, range}
use Rattle.cr_value.specs.declared.value.Value.TheVariants.{Null}
use Rattle.cr_questions.specs.Questions.{Answers, is_gone, left, left_node, left_arm}
use Rattle.cr_questions.specs.Asked.{own_question}
use Rattle.cr_questions.proofs.Denials.{same_question}
use Rattle.cr_allowed.specs.Left.{arm_left, parts_left}

left_is : (answers : Answers) (tables : List Relation) (x : Expr)
    → left answers tables x ≡ (if is_gone answers (own_question tables x) then node.Literal Null else parts_left answers tables x)
left_is answers tables x = fold_out-Expr Expr When (left_node answers tables) left_arm x
    ∙ ap (λ q. if is_gone answers q then node.Literal Null else parts_left answers tables x)
    (same_question (left answers tables) (fold-When Expr When (left_node answers tables) left_arm) tables (out-Expr x))

pub gone : (answers : Answers) (tables : List Relation) (x : Expr) → is_gone answers (own_question tables x) ≡ true → left answers tables x ≡ node.Literal Null
gone answers tables x h = rw (left_is answers tables x, h) refl

pub stays : (answers : Answers) (tables : List Relation) (x : Expr) → is_gone answers (own_question tables x) ≡ false → left answers tables x ≡ parts_left answers tables x
stays answers tables x h = rw (left_is answers tables x, h) refl

-- ---- the nodes that have lists of parts, or whose operands meet

module _ (answers : Answers) (tables : List Relation) where
  abbrev rest : Expr → Expr
  rest = left answers tables

  abbrev over : Expr-F Expr (When-F Expr (Unit {0})) → Expr
  over y = built (map-Expr Expr (When-F Expr (Unit {0})) Expr When rest (fold-When Expr When (left_node answers tables) left_arm) y)

  pub in_from : (x : Expr) (n : Bool) (m : Meeting) (y y' : Expr) (items items' : List Expr) (z : Expr) (zs : List Expr) → x ≡ e.In n m y items → y' ≡ y → items' ≡ items → z ≡ rest y' → zs ≡ map rest items'
      → membership n z zs ≡ parts_left answers tables x
  in_from x n m y y' items items' z zs is a b h k =
      let made : parts_left answers tables (e.In n m y items) ≡ membership n (rest y) (map rest items) = ap over (ap out-Expr (sym (rolls-In n m y items)) ∙ out-roll-Expr (In n m y items)) in
      ap (λ w. membership n w zs) (h ∙ ap rest a) ∙ ap (membership n (rest y)) (k ∙ ap (map rest) b) ∙ sym (ap (parts_left answers tables) is ∙ made)

  pub between_from : (x : Expr) (n : Bool) (m l : Meeting) (y low high y' low' high' z z-low z-high : Expr) → x ≡ e.Between n m l y low high → y' ≡ y → low' ≡ low → high' ≡ high
      → z ≡ rest y' → z-low ≡ rest low' → z-high ≡ rest high' → range n z z-low z-high ≡ parts_left answers tables x
  between_from x n m l y low high y' low' high' z z-low z-high is a b d h k q =
      let made : parts_left answers tables (e.Between n m l y low high) ≡ range n (rest y) (rest low) (rest high) = ap over (ap out-Expr (sym (rolls-Between n m l y low high)) ∙ out-roll-Expr (Between n m l y low high)) in
      ap (λ w. range n w z-low z-high) (h ∙ ap rest a) ∙ ap (λ w. range n (rest y) w z-high) (k ∙ ap rest b) ∙ ap (range n (rest y) (rest low)) (q ∙ ap rest d) ∙ sym (ap (parts_left answers tables) is ∙ made)

  pub built_in_from : (x : Expr) (f g : Own) (args args' zs : List Expr) → x ≡ e.BuiltIn f args → args' ≡ args → zs ≡ map rest args' → g ≡ own_with f zs → node.BuiltIn g zs ≡ parts_left answers tables x
  built_in_from x f g args args' zs is a k q =
      let made : parts_left answers tables (e.BuiltIn f args) ≡ node.BuiltIn (own_with f (map rest args)) (map rest args) = ap over (ap out-Expr (sym (rolls-BuiltIn f args)) ∙ out-roll-Expr (BuiltIn f args)) in
      ap (λ h. node.BuiltIn h zs) q ∙ ap (λ ws. node.BuiltIn (own_with f ws) ws) (k ∙ ap (map rest) a) ∙ sym (ap (parts_left answers tables) is ∙ made)

  pub host_from : (x : Expr) (name name' : List ℕ) (args args' zs : List Expr) → x ≡ e.Host name args → args' ≡ args → zs ≡ map rest args' → name' ≡ name → node.Host name' zs ≡ parts_left answers tables x
  host_from x name name' args args' zs is a k q =
      let made : parts_left answers tables (e.Host name args) ≡ node.Host name (map rest args) = ap over (ap out-Expr (sym (rolls-Host name args)) ∙ out-roll-Expr (Host name args)) in
      ap (λ h. node.Host h zs) q ∙ ap (node.Host name) (k ∙ ap (map rest) a) ∙ sym (ap (parts_left answers tables) is ∙ made)

  pub aggregate_from : (x : Expr) (f g : Kind) (args args' zs : List Expr) → x ≡ e.Aggregate f args → args' ≡ args → zs ≡ map rest args' → g ≡ kind_with f zs → node.Aggregate g zs ≡ parts_left answers tables x
  aggregate_from x f g args args' zs is a k q =
      let made : parts_left answers tables (e.Aggregate f args) ≡ node.Aggregate (kind_with f (map rest args)) (map rest args) = ap over (ap out-Expr (sym (rolls-Aggregate f args)) ∙ out-roll-Expr (Aggregate f args)) in
      ap (λ h. node.Aggregate h zs) q ∙ ap (λ ws. node.Aggregate (kind_with f ws) ws) (k ∙ ap (map rest) a) ∙ sym (ap (parts_left answers tables) is ∙ made)

  -- an arm of a CASE
  arm_is : (x : Option Expr) (w : When) → arm_with x (fold-When Expr When (left_node answers tables) left_arm w) ≡ arm_left answers tables x w
  arm_is None w = ap (arm_with None) (fold_out-When Expr When (left_node answers tables) left_arm w)
  arm_is (Some x) w = ap (arm_with (Some x)) (fold_out-When Expr When (left_node answers tables) left_arm w)

  arms_are : (x : Option Expr) (arms : List When) → map (arm_with x) (map (fold-When Expr When (left_node answers tables) left_arm) arms) ≡ map (arm_left answers tables x) arms
  arms_are x [] = refl
  arms_are x (w ∷ ws) = ap (λ v. v ∷ map (arm_with x) (map (fold-When Expr When (left_node answers tables) left_arm) ws)) (arm_is x w) ∙ ap (λ vs. arm_left answers tables x w ∷ vs) (arms_are x ws)

  case_is : (y : Option Expr) (arms : List When) (other : Option Expr)
      → parts_left answers tables (e.Case y arms other) ≡ node.Case (option_map rest y) (map (arm_left answers tables (option_map rest y)) arms) (option_map rest other)
  case_is None arms None = ap over (ap out-Expr (sym (rolls-Case None arms None)) ∙ out-roll-Expr (Case None arms None)) ∙ ap (λ ws. node.Case None ws None) (arms_are None arms)
  case_is None arms (Some z) = ap over (ap out-Expr (sym (rolls-Case None arms (Some z))) ∙ out-roll-Expr (Case None arms (Some z))) ∙ ap (λ ws. node.Case None ws (Some (rest z))) (arms_are None arms)
  case_is (Some y) arms None = ap over (ap out-Expr (sym (rolls-Case (Some y) arms None)) ∙ out-roll-Expr (Case (Some y) arms None)) ∙ ap (λ ws. node.Case (Some (rest y)) ws None) (arms_are (Some (rest y)) arms)
  case_is (Some y) arms (Some z) = ap over (ap out-Expr (sym (rolls-Case (Some y) arms (Some z))) ∙ out-roll-Expr (Case (Some y) arms (Some z))) ∙ ap (λ ws. node.Case (Some (rest y)) ws (Some (rest z))) (arms_are (Some (rest y)) arms)

  pub case_from : (x : Expr) (y : Option Expr) (arms arms' : List When) (other z : Option Expr) (ws : List When) (v : Option Expr) → x ≡ e.Case y arms other → arms' ≡ arms
      → z ≡ option_map rest y → ws ≡ map (arm_left answers tables z) arms' → v ≡ option_map rest other → node.Case z ws v ≡ parts_left answers tables x
  case_from x y arms arms' other z ws v is a h k q =
      ap (λ us. node.Case z us v) (k ∙ ap (map (arm_left answers tables z)) a) ∙ ap (node.Case z (map (arm_left answers tables z) arms)) q
      ∙ ap (λ u. node.Case u (map (arm_left answers tables u) arms) (option_map rest other)) h ∙ sym (ap (parts_left answers tables) is ∙ case_is y arms other)
