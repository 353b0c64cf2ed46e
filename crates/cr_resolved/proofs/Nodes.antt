-- What is done with what the parts of a node of a tree have, in steps.
use Rattle.std.proofs.Common.{◌≡◌, ◌∙◌, ℕ, ◌≤◌, Bool, List, [], ◌++◌, map, drop, length, Option, Some, None, Result, refl, sym, ap, subst}
use Rattle.std.specs.Prelude.{IfOk}
use Rattle.std.specs.Option.{option_map}
use Rattle.std.proofs.Math.ListN.{drop_of_length-le}
use Rattle.cr_value.specs.declared.value.Value.{Value}
use Rattle.cr_tree.specs.declared.expr.Binary.{Binary as Operator}
use Rattle.cr_tree.specs.declared.expr.When.{When}
use Rattle.cr_tree.specs.declared.expr.Expr.{Expr as Tree, out-Expr, map-Expr, out-roll-Expr}
use Rattle.cr_tree.specs.declared.expr.Expr as e
use Rattle.cr_tree.specs.declared.expr.Expr.TheVariants.{rolls-Literal, rolls-Param, rolls-Column, rolls-CountAll, rolls-Binary, rolls-In, rolls-Between, rolls-Cast, rolls-Case}
use Rattle.cr_tree.specs.declared.expr.Expr.TheOpen.{Expr-F, When-F, Literal, Param, Column, CountAll, Binary, In, Between, Cast, Case}
use Rattle.cr_tree.specs.declared.expr.Expr.TheFolds.{fold-Expr, fold-When, fold_out-Expr, fold_out-When}
use Rattle.cr_resolve.specs.Trees.{all, if_any, arm}
use Rattle.cr_questions.specs.Questions.{Name}

-- an answer of one value is one of the other
pub carried : {S E : Type 0} (r : Result S E) (x y : S) → x ≡ y → IfOk r (λ s. s ≡ x) → IfOk r (λ s. s ≡ y)
carried {S} {E} r x y is h = subst (λ (z : S). IfOk r (λ s. s ≡ z)) is h

-- nothing is left of a list
pub none_left : {X S : Type 0} (left : List X → S) (xs : List X) (i : ℕ) (found whole : S) → length xs ≤ i → left [] ≡ found → left (drop i xs) ≡ whole → found ≡ whole
none_left left xs i found whole above h k = sym h ∙ ap left (sym (drop_of_length-le xs above)) ∙ k

module _ {B S : Type 0} (act : S → List B → S) (more : (s : S) (xs ys : List B) → act (act s xs) ys ≡ act s (xs ++ ys)) where
  pub both : (xs ys qs : List B) (found next : S) → qs ≡ xs ++ ys → next ≡ act found xs → act next ys ≡ act found qs
  both xs ys qs found next is h = ap (λ s. act s ys) h ∙ more found xs ys ∙ ap (act found) (sym is)

  pub three : (xs ys zs qs : List B) (found next last : S) → qs ≡ (xs ++ ys) ++ zs → next ≡ act found xs → last ≡ act next ys → act last zs ≡ act found qs
  three xs ys zs qs found next last is h k = both (xs ++ ys) zs qs found last is (k ∙ both xs ys (xs ++ ys) found next refl h)

  module _ (node : Expr-F (List B) (List B) → List B) where
    abbrev comes : Tree → List B
    comes = fold-Expr (List B) (List B) node arm

    abbrev arm_comes : When → List B
    arm_comes = fold-When (List B) (List B) node arm

    abbrev over : Expr-F Tree (When-F Tree (Unit {0})) → List B
    over y = node (map-Expr Tree (When-F Tree (Unit {0})) (List B) (List B) comes arm_comes y)

    at_node : (t : Tree) (y : Expr-F Tree (When-F Tree (Unit {0}))) → out-Expr t ≡ y → comes t ≡ over y
    at_node t y is = fold_out-Expr (List B) (List B) node arm t ∙ ap over is

    pub literal_node : (v : Value) → comes (e.Literal v) ≡ node (Literal v)
    literal_node v = at_node (e.Literal v) (Literal v) (ap out-Expr (sym (rolls-Literal v)) ∙ out-roll-Expr (Literal v))

    pub param_node : (n : ℕ) → comes (e.Param n) ≡ node (Param n)
    param_node n = at_node (e.Param n) (Param n) (ap out-Expr (sym (rolls-Param n)) ∙ out-roll-Expr (Param n))

    pub column_node : (source : Option Name) (name : Name) → comes (e.Column source name) ≡ node (Column source name)
    column_node source name = at_node (e.Column source name) (Column source name) (ap out-Expr (sym (rolls-Column source name)) ∙ out-roll-Expr (Column source name))

    pub count_node : comes e.CountAll ≡ node CountAll
    count_node = at_node e.CountAll CountAll (ap out-Expr (sym rolls-CountAll) ∙ out-roll-Expr CountAll)

    -- an arm, whose two expressions come one after the other
    pub arm_from : (w : When) (found next : S) → next ≡ act found (comes w.when) → act next (comes w.then) ≡ act found (arm_comes w)
    arm_from w found next h = both (comes w.when) (comes w.then) (arm_comes w) found next (fold_out-When (List B) (List B) node arm w) h

    pub binary_from : ((op : Operator) (xs ys : List B) → node (Binary op xs ys) ≡ xs ++ ys) → (t : Tree) (op : Operator) (x y x' y' : Tree) (found next : S)
        → t ≡ e.Binary op x y → x' ≡ x → y' ≡ y → next ≡ act found (comes x') → act next (comes y') ≡ act found (comes t)
    binary_from layer t op x y x' y' found next is a b h =
        let parts : comes (e.Binary op x y) ≡ comes x ++ comes y =
        at_node (e.Binary op x y) (Binary op x y) (ap out-Expr (sym (rolls-Binary op x y)) ∙ out-roll-Expr (Binary op x y)) ∙ layer op (comes x) (comes y) in
        both (comes x') (comes y') (comes t) found next (rw (is, a, b) parts) h

    pub in_from : ((n : Bool) (xs : List B) (items : List (List B)) → node (In n xs items) ≡ xs ++ all items) → (t : Tree) (n : Bool) (x x' : Tree) (items items' : List Tree) (found next : S)
        → t ≡ e.In n x items → x' ≡ x → items' ≡ items → next ≡ act found (comes x') → act next (all (map comes items')) ≡ act found (comes t)
    in_from layer t n x x' items items' found next is a b h =
        let parts : comes (e.In n x items) ≡ comes x ++ all (map comes items) =
        at_node (e.In n x items) (In n x items) (ap out-Expr (sym (rolls-In n x items)) ∙ out-roll-Expr (In n x items)) ∙ layer n (comes x) (map comes items) in
        both (comes x') (all (map comes items')) (comes t) found next (rw (is, a, b) parts) h

    pub between_from : ((n : Bool) (xs ys zs : List B) → node (Between n xs ys zs) ≡ (xs ++ ys) ++ zs) → (t : Tree) (n : Bool) (x low high x' low' high' : Tree) (found next last : S)
        → t ≡ e.Between n x low high → x' ≡ x → low' ≡ low → high' ≡ high → next ≡ act found (comes x') → last ≡ act next (comes low') → act last (comes high') ≡ act found (comes t)
    between_from layer t n x low high x' low' high' found next last is a b c h k =
        let parts : comes (e.Between n x low high) ≡ (comes x ++ comes low) ++ comes high =
        at_node (e.Between n x low high) (Between n x low high) (ap out-Expr (sym (rolls-Between n x low high)) ∙ out-roll-Expr (Between n x low high)) ∙ layer n (comes x) (comes low) (comes high) in
        three (comes x') (comes low') (comes high') (comes t) found next last (rw (is, a, b, c) parts) h k

    pub cast_from : (types : List Name → List B) → ((xs : List B) (words : List Name) → node (Cast xs words) ≡ xs ++ types words) → (t : Tree) (x x' : Tree) (words words' : List Name) (found next : S)
        → t ≡ e.Cast x words → x' ≡ x → words' ≡ words → next ≡ act found (comes x') → act next (types words') ≡ act found (comes t)
    cast_from types layer t x x' words words' found next is a b h =
        let parts : comes (e.Cast x words) ≡ comes x ++ types words =
        at_node (e.Cast x words) (Cast x words) (ap out-Expr (sym (rolls-Cast x words)) ∙ out-roll-Expr (Cast x words)) ∙ layer (comes x) words in
        both (comes x') (types words') (comes t) found next (rw (is, a, b) parts) h

    case_parts : ((x : Option (List B)) (arms : List (List B)) (y : Option (List B)) → node (Case x arms y) ≡ (if_any x ++ all arms) ++ if_any y) → (x : Option Tree) (arms : List When) (y : Option Tree)
        → comes (e.Case x arms y) ≡ (if_any (option_map comes x) ++ all (map arm_comes arms)) ++ if_any (option_map comes y)
    case_parts layer None arms None = at_node (e.Case None arms None) (Case None arms None) (ap out-Expr (sym (rolls-Case None arms None)) ∙ out-roll-Expr (Case None arms None)) ∙ layer None (map arm_comes arms) None
    case_parts layer None arms (Some y) = at_node (e.Case None arms (Some y)) (Case None arms (Some y)) (ap out-Expr (sym (rolls-Case None arms (Some y))) ∙ out-roll-Expr (Case None arms (Some y))) ∙ layer None (map arm_comes arms) (Some (comes y))
    case_parts layer (Some x) arms None = at_node (e.Case (Some x) arms None) (Case (Some x) arms None) (ap out-Expr (sym (rolls-Case (Some x) arms None)) ∙ out-roll-Expr (Case (Some x) arms None)) ∙ layer (Some (comes x)) (map arm_comes arms) None
    case_parts layer (Some x) arms (Some y) = at_node (e.Case (Some x) arms (Some y)) (Case (Some x) arms (Some y)) (ap out-Expr (sym (rolls-Case (Some x) arms (Some y))) ∙ out-roll-Expr (Case (Some x) arms (Some y))) ∙ layer (Some (comes x)) (map arm_comes arms) (Some (comes y))

    pub case_from : ((x : Option (List B)) (arms : List (List B)) (y : Option (List B)) → node (Case x arms y) ≡ (if_any x ++ all arms) ++ if_any y) → (t : Tree) (x : Option Tree) (arms arms' : List When) (y : Option Tree) (found next last : S)
        → t ≡ e.Case x arms y → arms' ≡ arms → next ≡ act found (if_any (option_map comes x)) → last ≡ act next (all (map arm_comes arms')) → act last (if_any (option_map comes y)) ≡ act found (comes t)
    case_from layer t x arms arms' y found next last is a h k =
        three (if_any (option_map comes x)) (all (map arm_comes arms')) (if_any (option_map comes y)) (comes t) found next last (rw (is, a) (case_parts layer x arms y)) h k
