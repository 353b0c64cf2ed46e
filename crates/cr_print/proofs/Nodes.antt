-- How nodes are written, by one step of the fold.
use Rattle.std.proofs.Common.{◌≡◌, ◌∙◌, ◌++◌, ◌∷◌, [], ℕ, Bool, List, Option, Some, None, map, codes, refl, ap, sym}
use Rattle.std.specs.Option.{option_map}
use Rattle.cr_tree.specs.declared.expr.Binary.{Binary as Operator}
use Rattle.cr_tree.specs.declared.expr.Expr.{Expr}
use Rattle.cr_tree.specs.declared.expr.When.{When}
use Rattle.cr_tree.specs.declared.expr.Expr.TheOpen.{Binary, Collate, In, Between, Call, CountAll, Cast, Case}
use Rattle.cr_tree.specs.declared.expr.Expr.TheFolds.{fold-roll-Expr}
use Rattle.cr_tree.specs.declared.expr.Expr as e
use Rattle.cr_tree.specs.declared.expr.Expr.TheVariants.{rolls-Binary, rolls-Collate, rolls-In, rolls-Between, rolls-Call, rolls-CountAll, rolls-Cast, rolls-Case}
use Rattle.cr_print.specs.Pieces.{name, in_row, listed, spaced}
use Rattle.cr_print.specs.Expressions.{Printed, operator, in_word, between_word, if_any, node, arm_text, printed, expr, arm}

texts : (xs : List Expr) → map (λ (p : Printed). p.text) (map printed xs) ≡ map expr xs
texts [] = refl
texts (x ∷ xs) = ap (λ (ts : List (List ℕ)). expr x ∷ ts) (texts xs)

pub count_all_text : expr e.CountAll ≡ codes "\"count\"(*)"
count_all_text = ap expr (sym rolls-CountAll) ∙ ap (λ (p : Printed). p.text) (fold-roll-Expr Printed (List ℕ) node arm_text CountAll)

pub binary_text : (op : Operator) (x y : Expr) → expr (e.Binary op x y) ≡ codes "(" ++ expr x ++ operator op ++ expr y ++ codes ")"
binary_text op x y = ap expr (sym (rolls-Binary op x y)) ∙ ap (λ (p : Printed). p.text) (fold-roll-Expr Printed (List ℕ) node arm_text (Binary op x y))

pub collate_text : (x : Expr) (c : List ℕ) → expr (e.Collate x c) ≡ codes "(" ++ expr x ++ codes " COLLATE " ++ name c ++ codes ")"
collate_text x c = ap expr (sym (rolls-Collate x c)) ∙ ap (λ (p : Printed). p.text) (fold-roll-Expr Printed (List ℕ) node arm_text (Collate x c))

pub in_text : (n : Bool) (x : Expr) (items : List Expr) → expr (e.In n x items) ≡ codes "(" ++ expr x ++ in_word n ++ listed (map expr items) ++ codes "))"
in_text n x items = ap expr (sym (rolls-In n x items)) ∙ ap (λ (p : Printed). p.text) (fold-roll-Expr Printed (List ℕ) node arm_text (In n x items))
    ∙ ap (λ (ts : List (List ℕ)). codes "(" ++ expr x ++ in_word n ++ listed ts ++ codes "))") (texts items)

pub between_text : (n : Bool) (x a b : Expr) → expr (e.Between n x a b) ≡ codes "(" ++ expr x ++ between_word n ++ expr a ++ codes " AND " ++ expr b ++ codes ")"
between_text n x a b = ap expr (sym (rolls-Between n x a b)) ∙ ap (λ (p : Printed). p.text) (fold-roll-Expr Printed (List ℕ) node arm_text (Between n x a b))

pub call_text : (f : List ℕ) (args : List Expr) → expr (e.Call f args) ≡ name f ++ codes "(" ++ listed (map expr args) ++ codes ")"
call_text f args = ap expr (sym (rolls-Call f args)) ∙ ap (λ (p : Printed). p.text) (fold-roll-Expr Printed (List ℕ) node arm_text (Call f args))
    ∙ ap (λ (ts : List (List ℕ)). name f ++ codes "(" ++ listed ts ++ codes ")") (texts args)

pub cast_text : (x : Expr) (words : List (List ℕ)) → expr (e.Cast x words) ≡ codes "CAST(" ++ expr x ++ codes " AS " ++ spaced (map name words) ++ codes ")"
cast_text x words = ap expr (sym (rolls-Cast x words)) ∙ ap (λ (p : Printed). p.text) (fold-roll-Expr Printed (List ℕ) node arm_text (Cast x words))

pub case_text : (x : Option Expr) (arms : List When) (y : Option Expr)
    → expr (e.Case x arms y) ≡ codes "CASE" ++ if_any (codes " ") (option_map printed x) ++ in_row [] [] (map arm arms) ++ if_any (codes " ELSE ") (option_map printed y) ++ codes " END"
case_text None arms None = ap expr (sym (rolls-Case None arms None)) ∙ ap (λ (p : Printed). p.text) (fold-roll-Expr Printed (List ℕ) node arm_text (Case None arms None))
case_text None arms (Some y) = ap expr (sym (rolls-Case None arms (Some y))) ∙ ap (λ (p : Printed). p.text) (fold-roll-Expr Printed (List ℕ) node arm_text (Case None arms (Some y)))
case_text (Some x) arms None = ap expr (sym (rolls-Case (Some x) arms None)) ∙ ap (λ (p : Printed). p.text) (fold-roll-Expr Printed (List ℕ) node arm_text (Case (Some x) arms None))
case_text (Some x) arms (Some y) = ap expr (sym (rolls-Case (Some x) arms (Some y))) ∙ ap (λ (p : Printed). p.text) (fold-roll-Expr Printed (List ℕ) node arm_text (Case (Some x) arms (Some y)))
