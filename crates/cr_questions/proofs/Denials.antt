-- The first question that is denied, of questions one after another.
use Rattle.std.proofs.Common.{◌≡◌, ◌∙◌, List, [], ◌++◌, Option, refl, ap, sym}
use Rattle.std.specs.Option.{option_or, option_to_list}
use Rattle.std.proofs.lemmas.List.Folds.{find-append}
use Rattle.cr_term.specs.declared.expr.Expr.{Expr, out-Expr, map-Expr}
use Rattle.cr_term.specs.declared.expr.Expr.TheOpen.{Expr-F, Literal, Param, Column, Shown, Unary, Arithmetic, Join, Like, Logic, Compare, Collate, Cast, In, Between, Case, BuiltIn, Host, Aggregate, SiteId, DbVersion}
use Rattle.cr_term.specs.declared.expr.Expr.TheFolds.{fold-When, fold_out-Expr}
use Rattle.cr_term.specs.declared.query.Relation.{Relation}
use Rattle.cr_term.specs.Parts.{arm}
use Rattle.cr_questions.specs.declared.question.Question.{Question}
use Rattle.cr_questions.specs.Questions.{Answers, denied, first_denied, question_of, questions_node, asked}
use Rattle.cr_questions.specs.Asked.{own_question, part_questions, or_first_denied}
use Rattle.cr_questions.proofs.Firsts.{or_assoc, or_none}

pub denied_append : (answers : Answers) (xs ys : List Question) → first_denied answers (xs ++ ys) ≡ option_or (first_denied answers xs) (first_denied answers ys)
denied_append answers xs ys = find-append (denied answers) xs ys

pub denied_none : (answers : Answers) (found : Option Question) → or_first_denied answers found [] ≡ found
unfolding or_first_denied
denied_none answers found = or_none found

pub denied_more : (answers : Answers) (found : Option Question) (xs ys : List Question) → or_first_denied answers (or_first_denied answers found xs) ys ≡ or_first_denied answers found (xs ++ ys)
unfolding or_first_denied
denied_more answers found xs ys = or_assoc found (first_denied answers xs) (first_denied answers ys) ∙ ap (option_or found) (sym (denied_append answers xs ys))

-- the question about a node does not turn on what its parts come to
pub same_question : {A C B D : Type 0} (f : A → B) (g : C → D) (tables : List Relation) (y : Expr-F A C) → question_of tables (map-Expr A C B D f g y) ≡ question_of tables y
same_question f g tables (Literal v) = refl
same_question f g tables (Param n) = refl
same_question f g tables (Column c) = refl
same_question f g tables (Shown n x) = refl
same_question f g tables (Unary op x) = refl
same_question f g tables (Arithmetic op x y) = refl
same_question f g tables (Join x y) = refl
same_question f g tables (Like n x y) = refl
same_question f g tables (Logic op x y) = refl
same_question f g tables (Compare op m x y) = refl
same_question f g tables (Collate x name) = refl
same_question f g tables (Cast to x) = refl
same_question f g tables (In n m x items) = refl
same_question f g tables (Between n m l x low high) = refl
same_question f g tables (Case x arms other) = refl
same_question f g tables (BuiltIn h args) = refl
same_question f g tables (Host name args) = refl
same_question f g tables (Aggregate kind args) = refl
same_question f g tables (SiteId b) = refl
same_question f g tables (DbVersion n) = refl

asked_node : (tables : List Relation) (e : Expr) → asked tables e ≡ option_to_list (own_question tables e) ++ part_questions tables e
asked_node tables e = fold_out-Expr (List Question) (List Question) (questions_node tables) arm e
    ∙ ap (λ o. option_to_list o ++ part_questions tables e) (same_question (asked tables) (fold-When (List Question) (List Question) (questions_node tables) arm) tables (out-Expr e))

pub node_denied : (answers : Answers) (tables : List Relation) (e : Expr)
    → first_denied answers (asked tables e) ≡ option_or (first_denied answers (option_to_list (own_question tables e))) (first_denied answers (part_questions tables e))
node_denied answers tables e = ap (first_denied answers) (asked_node tables e) ∙ denied_append answers (option_to_list (own_question tables e)) (part_questions tables e)
