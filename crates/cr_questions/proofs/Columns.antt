-- The table of a column, and which tables the columns of an expression stand in.
use Rattle.std.proofs.Common.{◌≡◌, ℕ, Bool, true, false, ◌||◌, List, [], ◌∷◌, ◌++◌, get_or, slice_get, None, refl, sym, ap, ◌∙◌}
use Rattle.std.specs.Option.{unwrap_or}
use Rattle.std.specs.Str.{bytes_eq}
use Rattle.std.proofs.lemmas.Option.{unwrap_or-slice_get}
use Rattle.std.proofs.lemmas.List.Folds.{list_any-append}
use Rattle.cr_term.specs.declared.expr.Column.{Column as Field}
use Rattle.cr_term.specs.declared.expr.When.{When}
use Rattle.cr_term.specs.declared.expr.Expr.{Expr, out-Expr, map-Expr}
use Rattle.cr_term.specs.declared.expr.Expr.TheOpen.{Expr-F, When-F, Literal, Param, Column, Shown, Unary, Arithmetic, Join, Like, Logic, Compare, Collate, Cast, In, Between, Case, BuiltIn, Host, Aggregate, SiteId, DbVersion}
use Rattle.cr_term.specs.declared.expr.Expr.TheFolds.{fold-When, fold_out-Expr}
use Rattle.cr_term.specs.declared.query.Relation.{Relation}
use Rattle.cr_term.specs.Parts.{parts, arm, columns, columns_layer}
use Rattle.cr_host.specs.declared.meaning.Action.TheVariants.{Read}
use Rattle.cr_questions.specs.Questions.{ask, read_of, no_table, relation_at, is_read}
use Rattle.cr_questions.specs.Asked.{or_is_read, own_columns, parts_of}

beyond : {A : Type 0} (xs : List A) (i : ℕ) (d : A) → slice_get xs i ≡ None → get_or xs i d ≡ d
beyond xs i d h = sym (unwrap_or-slice_get xs i d) ∙ ap (λ o. unwrap_or o d) h

pub no_read : (tables : List Relation) (c : Field) → slice_get tables c.source ≡ None → ask Read [] [] ≡ read_of tables c
no_read tables c h = rw (beyond tables c.source no_table h) refl

pub no_relation : (tables : List Relation) (c : Field) → slice_get tables c.source ≡ None → relation_at tables c ≡ no_table
no_relation tables c h = beyond tables c.source no_table h

pub or_false : (b : Bool) → (b || false) ≡ b
or_false true = refl
or_false false = refl

or_assoc : (a b c : Bool) → ((a || b) || c) ≡ (a || (b || c))
or_assoc true b c = refl
or_assoc false b c = refl

read_append : (tables : List Relation) (name : List ℕ) (xs ys : List Field) → is_read tables (xs ++ ys) name ≡ (is_read tables xs name || is_read tables ys name)
read_append tables name xs ys = list_any-append (λ c. bytes_eq name (relation_at tables c).definition.name) xs ys

pub or_more : (tables : List Relation) (name : List ℕ) (found : Bool) (xs ys : List Field) → or_is_read tables name (or_is_read tables name found xs) ys ≡ or_is_read tables name found (xs ++ ys)
unfolding or_is_read
or_more tables name found xs ys = or_assoc found (is_read tables xs name) (is_read tables ys name) ∙ ap (λ b. found || b) (sym (read_append tables name xs ys))

module _ (f : Expr → List Field) (g : When → List Field) where
  abbrev over : Expr-F Expr (When-F Expr (Unit {0})) → Expr-F (List Field) (List Field)
  over y = map-Expr Expr (When-F Expr (Unit {0})) (List Field) (List Field) f g y

  layer_columns : (y : Expr-F Expr (When-F Expr (Unit {0}))) → columns_layer (over y) ≡ own_columns y ++ parts (over y)
  layer_columns (Literal v) = refl
  layer_columns (Param n) = refl
  layer_columns (Column c) = refl
  layer_columns (Shown n x) = refl
  layer_columns (Unary op x) = refl
  layer_columns (Arithmetic op x y) = refl
  layer_columns (Join x y) = refl
  layer_columns (Like n x y) = refl
  layer_columns (Logic op x y) = refl
  layer_columns (Compare op m x y) = refl
  layer_columns (Collate x name) = refl
  layer_columns (Cast to x) = refl
  layer_columns (In n m x items) = refl
  layer_columns (Between n m l x low high) = refl
  layer_columns (Case x arms other) = refl
  layer_columns (BuiltIn h args) = refl
  layer_columns (Host name args) = refl
  layer_columns (Aggregate kind args) = refl
  layer_columns (SiteId b) = refl
  layer_columns (DbVersion n) = refl

columns_node : (e : Expr) → columns e ≡ own_columns (out-Expr e) ++ parts_of columns_layer e
columns_node e = fold_out-Expr (List Field) (List Field) columns_layer arm e ∙ layer_columns columns (fold-When (List Field) (List Field) columns_layer arm) (out-Expr e)

pub node_reads : (tables : List Relation) (name : List ℕ) (e : Expr) → is_read tables (columns e) name ≡ (is_read tables (own_columns (out-Expr e)) name || is_read tables (parts_of columns_layer e) name)
node_reads tables name e = ap (λ fields. is_read tables fields name) (columns_node e) ∙ read_append tables name (own_columns (out-Expr e)) (parts_of columns_layer e)

pub one_read : (tables : List Relation) (name : List ℕ) (c : Field) → is_read tables (c ∷ []) name ≡ bytes_eq name (relation_at tables c).definition.name
one_read tables name c = or_false (bytes_eq name (relation_at tables c).definition.name)
