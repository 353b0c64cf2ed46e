-- What an expression is read as at a place, one node a lemma, and what an answer says of it by what answers say of its parts.
use Rattle.std.proofs.Common.{◌≡◌, ◌∙◌, Bool, not, List, [], ◌∷◌, map, Option, Some, None, refl, ap, sym}
use Rattle.std.specs.Option.{option_map}
use Rattle.cr_value.specs.declared.value.Value.{Value}
use Rattle.cr_tree.specs.declared.expr.Unary.{Unary as Sign}
use Rattle.cr_tree.specs.declared.expr.Binary.{Binary as Operator}
use Rattle.cr_tree.specs.declared.expr.Expr.{Expr as Tree, roll-Expr, map-Expr}
use Rattle.cr_tree.specs.declared.expr.Expr as tree
use Rattle.cr_tree.specs.declared.expr.Expr.TheVariants.{rolls-Literal, rolls-Param, rolls-Column, rolls-Unary, rolls-Binary, rolls-Collate, rolls-In, rolls-Between, rolls-Call, rolls-CountAll, rolls-Cast, rolls-Case}
use Rattle.cr_tree.specs.declared.expr.Expr.TheOpen.{Expr-F, Literal, Param, Column, Unary, Binary, Collate, In, Between, Call, CountAll, Cast, Case}
use Rattle.cr_tree.specs.declared.expr.Expr.TheFolds.{fold-When, fold-roll-Expr, fold_out-When}
use Rattle.cr_tree.specs.declared.expr.When.{When as ArmTree}
use Rattle.cr_term.specs.declared.expr.Expr.{Expr}
use Rattle.cr_term.specs.declared.operator.Aggregate.TheVariants as k
use Rattle.cr_term.specs.Nodes as e
use Rattle.cr_term.specs.At.{at_is}
use Rattle.cr_questions.specs.Questions.{Name}
use Rattle.cr_resolve.specs.Known.{Known, collation}
use Rattle.cr_resolve.specs.Reading.{Read, fine, with, with_both, also, also_misplaced, each, if_any}
use Rattle.cr_resolve.specs.Scope.{Source, column}
use Rattle.cr_resolve.specs.Expressions.{Place, Reader, Arm, Pair, sign_of, binary, in_of, between_of, case_of, pair_of, cast_node, cast_target, call, node, arm, reader, expr}
use Rattle.cr_resolve.specs.Answered.{pair}

-- ---- the nodes

module _ (known : Known) (sources : List Source) (may : Bool) where
  abbrev p : Place
  p = record { sources = sources; aggregates = may }

  abbrev pub read : Tree → Read Expr
  read t = expr known sources may t

  abbrev arm_reader : ArmTree → Arm
  arm_reader = fold-When Reader Arm (node known) arm

  node_is : (y : Expr-F Tree ArmTree) → read (roll-Expr y) ≡ node known (map-Expr Tree ArmTree Reader Arm (reader known) arm_reader y) p
  node_is y = at_is p (reader known (roll-Expr y)) ∙ ap (λ (r : Reader). r p) (fold-roll-Expr Reader Arm (node known) arm y)

  placed : (t : Tree) → reader known t p ≡ read t
  placed t = sym (at_is p (reader known t))

  pub all_placed : (ts : List Tree) → map (λ r. r p) (map (reader known) ts) ≡ map read ts
  all_placed [] = refl
  all_placed (t ∷ ts) = ap (λ (r : Read Expr). r ∷ map (λ r. r p) (map (reader known) ts)) (placed t) ∙ ap (λ (rs : List (Read Expr)). read t ∷ rs) (all_placed ts)

  any_placed : (o : Option Tree) → option_map (λ r. r p) (option_map (reader known) o) ≡ option_map read o
  any_placed None = refl
  any_placed (Some t) = ap Some (placed t)

  pair_placed : (w : ArmTree) → pair_of p (arm_reader w) ≡ pair known sources may w
  pair_placed w = ap (λ (a : Arm). pair_of p a) (fold_out-When Reader Arm (node known) arm w)
      ∙ ap (λ (r : Read Expr). with_both (λ x y. let z : Pair = record { when = x; gives = y } in z) r (reader known w.then p)) (placed w.when)
      ∙ ap (λ (r : Read Expr). with_both (λ x y. let z : Pair = record { when = x; gives = y } in z) (read w.when) r) (placed w.then)

  pairs_placed : (ws : List ArmTree) → map (pair_of p) (map arm_reader ws) ≡ map (pair known sources may) ws
  pairs_placed [] = refl
  pairs_placed (w ∷ ws) = ap (λ (r : Read Pair). r ∷ map (pair_of p) (map arm_reader ws)) (pair_placed w) ∙ ap (λ (rs : List (Read Pair)). pair known sources may w ∷ rs) (pairs_placed ws)

  pub literal : (v : Value) → read (tree.Literal v) ≡ fine (e.Literal v)
  literal v = ap read (sym (rolls-Literal v)) ∙ node_is (Literal v)

  pub param : (n : _) → read (tree.Param n) ≡ fine (e.Param n)
  param n = ap read (sym (rolls-Param n)) ∙ node_is (Param n)

  pub named : (q : Option Name) (name : Name) → read (tree.Column q name) ≡ column sources q name
  named q name = ap read (sym (rolls-Column q name)) ∙ node_is (Column q name)

  pub count_all : read tree.CountAll ≡ also_misplaced (not may) (fine (e.Aggregate k.CountAll []))
  count_all = ap read (sym rolls-CountAll) ∙ node_is CountAll

  pub sign : (op : Sign) (x : Tree) → read (tree.Unary op x) ≡ with (e.Unary (sign_of op)) (read x)
  sign op x = ap read (sym (rolls-Unary op x)) ∙ node_is (Unary op x) ∙ ap (with (e.Unary (sign_of op))) (placed x)

  pub operator : (op : Operator) (x y : Tree) → read (tree.Binary op x y) ≡ binary known op (read x) (read y)
  operator op x y = ap read (sym (rolls-Binary op x y)) ∙ node_is (Binary op x y) ∙ ap (λ (r : Read Expr). binary known op r (reader known y p)) (placed x) ∙ ap (binary known op (read x)) (placed y)

  pub collate : (x : Tree) (name : Name) → read (tree.Collate x name) ≡ also (λ z. collation known name) (with (λ y. e.Collate y name) (read x))
  collate x name = ap read (sym (rolls-Collate x name)) ∙ node_is (Collate x name) ∙ ap (λ (r : Read Expr). also (λ z. collation known name) (with (λ y. e.Collate y name) r)) (placed x)

  pub cast : (x : Tree) (words : List Name) → read (tree.Cast x words) ≡ with (cast_node (cast_target words)) (read x)
  cast x words = ap read (sym (rolls-Cast x words)) ∙ node_is (Cast x words) ∙ ap (with (cast_node (cast_target words))) (placed x)

  pub among : (negated : Bool) (x : Tree) (items : List Tree) → read (tree.In negated x items) ≡ in_of known negated (read x) (each (map read items))
  among negated x items = ap read (sym (rolls-In negated x items)) ∙ node_is (In negated x items)
      ∙ ap (λ (r : Read Expr). in_of known negated r (each (map (λ r. r p) (map (reader known) items)))) (placed x)
      ∙ ap (λ (rs : List (Read Expr)). in_of known negated (read x) (each rs)) (all_placed items)

  pub between : (negated : Bool) (x low high : Tree) → read (tree.Between negated x low high) ≡ between_of known negated (read x) (read low) (read high)
  between negated x low high = ap read (sym (rolls-Between negated x low high)) ∙ node_is (Between negated x low high)
      ∙ ap (λ (r : Read Expr). between_of known negated r (reader known low p) (reader known high p)) (placed x)
      ∙ ap (λ (r : Read Expr). between_of known negated (read x) r (reader known high p)) (placed low)
      ∙ ap (between_of known negated (read x) (read low)) (placed high)

  pub called : (name : Name) (args : List Tree) → read (tree.Call name args) ≡ call known name p (map (reader known) args)
  called name args = ap read (sym (rolls-Call name args)) ∙ node_is (Call name args)

  case_placed : (x : Option Tree) (arms : List ArmTree) (other : Option Tree)
      → case_of known (if_any (option_map (λ r. r p) (option_map (reader known) x))) (each (map (pair_of p) (map arm_reader arms))) (if_any (option_map (λ r. r p) (option_map (reader known) other)))
      ≡ case_of known (if_any (option_map read x)) (each (map (pair known sources may) arms)) (if_any (option_map read other))
  case_placed x arms other =
      ap (λ (o : Option (Read Expr)). case_of known (if_any o) (each (map (pair_of p) (map arm_reader arms))) (if_any (option_map (λ r. r p) (option_map (reader known) other)))) (any_placed x)
      ∙ ap (λ (rs : List (Read Pair)). case_of known (if_any (option_map read x)) (each rs) (if_any (option_map (λ r. r p) (option_map (reader known) other)))) (pairs_placed arms)
      ∙ ap (λ (o : Option (Read Expr)). case_of known (if_any (option_map read x)) (each (map (pair known sources may) arms)) (if_any o)) (any_placed other)

  pub cases : (x : Option Tree) (arms : List ArmTree) (other : Option Tree)
      → read (tree.Case x arms other) ≡ case_of known (if_any (option_map read x)) (each (map (pair known sources may) arms)) (if_any (option_map read other))
  cases None arms None = ap read (sym (rolls-Case None arms None)) ∙ node_is (Case None arms None) ∙ case_placed None arms None
  cases None arms (Some y) = ap read (sym (rolls-Case None arms (Some y))) ∙ node_is (Case None arms (Some y)) ∙ case_placed None arms (Some y)
  cases (Some x) arms None = ap read (sym (rolls-Case (Some x) arms None)) ∙ node_is (Case (Some x) arms None) ∙ case_placed (Some x) arms None
  cases (Some x) arms (Some y) = ap read (sym (rolls-Case (Some x) arms (Some y))) ∙ node_is (Case (Some x) arms (Some y)) ∙ case_placed (Some x) arms (Some y)
