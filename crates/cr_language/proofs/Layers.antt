-- What the parts of one node of an expression have, whatever they are made into.
use Rattle.std.proofs.Common.{◌≡◌, ◌∙◌, List, [], ◌∷◌, ◌++◌, map, Option, Some, None, refl, ap, sym}
use Rattle.std.specs.Option.{option_map}
use Rattle.std.specs.List.{AllByRecursion}
use Rattle.cr_term.specs.declared.expr.Column.{Column as Field}
use Rattle.cr_term.specs.declared.expr.When.{When}
use Rattle.cr_term.specs.declared.expr.Expr.{Expr, roll-Expr, map-Expr}
use Rattle.cr_term.specs.declared.expr.Expr.TheOpen.{Expr-F, Literal, Param, Column, Shown, Unary, Arithmetic, Join, Like, Logic, Compare, Collate, Cast, In, Between, Case, BuiltIn, Host, Aggregate, SiteId, DbVersion}
use Rattle.cr_term.specs.declared.expr.Expr.TheFolds.{fold-When, fold-roll-Expr, fold_out-When}
use Rattle.cr_term.specs.Parts.{parts, arm, columns, columns_layer, all, if_any}
use Rattle.cr_term.specs.Build.{mapped, built, arm_with}
use Rattle.cr_questions.specs.Asked.{own_columns}
use Rattle.cr_language.proofs.Lists.{map_map, all_left, all_right}
use Rattle.cr_language.proofs.Members.{all_append}

-- ---- parts that are made into others

list_map_map : {X Y Z : Type 0} (f : X → Y) (g : Y → Z) (xs : List X) → map g (map f xs) ≡ map (λ x. g (f x)) xs
list_map_map f g xs = map_map f g (λ x. g (f x)) (λ x. refl) xs

module _ {X Y Z U V W : Type 0} (f : X → Y) (g : U → V) (h : Y → Z) (k : V → W) where
  abbrev once : Expr-F X U → Expr-F Z W
  once n = map-Expr X U Z W (λ x. h (f x)) (λ w. k (g w)) n

  pub fused : (n : Expr-F X U) → map-Expr Y V Z W h k (map-Expr X U Y V f g n) ≡ once n
  fused (In n m x items) = ap (In n m (h (f x))) (list_map_map f h items)
  fused (Case None arms None) = ap (λ ws. Case None ws None) (list_map_map g k arms)
  fused (Case None arms (Some y)) = ap (λ ws. Case None ws (Some (h (f y)))) (list_map_map g k arms)
  fused (Case (Some x) arms None) = ap (λ ws. Case (Some (h (f x))) ws None) (list_map_map g k arms)
  fused (Case (Some x) arms (Some y)) = ap (λ ws. Case (Some (h (f x))) ws (Some (h (f y)))) (list_map_map g k arms)
  fused (BuiltIn o args) = ap (BuiltIn o) (list_map_map f h args)
  fused (Host name args) = ap (Host name) (list_map_map f h args)
  fused (Aggregate o args) = ap (Aggregate o) (list_map_map f h args)
  fused _ = refl

pub mapped_is : {X Y U V : Type 0} (f : X → Y) (g : U → V) (n : Expr-F X U) → mapped f g n ≡ map-Expr X U Y V f g n
mapped_is f g (Case None arms None) = refl
mapped_is f g (Case None arms (Some y)) = refl
mapped_is f g (Case (Some x) arms None) = refl
mapped_is f g (Case (Some x) arms (Some y)) = refl
mapped_is f g _ = refl

-- ---- what holds of all that parts have

module _ {A B X W : Type 0} (P : A → Type 0) (R : B → Type 0) (f : X → List A) (g : W → List A) (f' : X → List B) (g' : W → List B)
    (each : (x : X) → AllByRecursion P (f x) → AllByRecursion R (f' x)) (each_arm : (w : W) → AllByRecursion P (g w) → AllByRecursion R (g' w)) where
  list_all : {Y : Type 0} (p : Y → List A) (r : Y → List B) → ((y : Y) → AllByRecursion P (p y) → AllByRecursion R (r y)) → (ys : List Y)
      → AllByRecursion P (all (map p ys)) → AllByRecursion R (all (map r ys))
  list_all p r h [] k = tt
  list_all p r h (y ∷ ys) k =
      all_append R (r y) (all (map r ys)) (h y (all_left P (p y) (all (map p ys)) k)) (list_all p r h ys (all_right P (p y) (all (map p ys)) k))

  option_all : (o : Option X) → AllByRecursion P (if_any (option_map f o)) → AllByRecursion R (if_any (option_map f' o))
  option_all None h = tt
  option_all (Some x) h = each x h

  two_all : (x y : X) → AllByRecursion P (f x ++ f y) → AllByRecursion R (f' x ++ f' y)
  two_all x y h = all_append R (f' x) (f' y) (each x (all_left P (f x) (f y) h)) (each y (all_right P (f x) (f y) h))

  case_all : (x : Option X) (arms : List W) (y : Option X)
      → AllByRecursion P (if_any (option_map f x) ++ all (map g arms) ++ if_any (option_map f y))
      → AllByRecursion R (if_any (option_map f' x) ++ all (map g' arms) ++ if_any (option_map f' y))
  case_all x arms y h =
      let front = all_left P (if_any (option_map f x) ++ all (map g arms)) (if_any (option_map f y)) h in
      all_append R (if_any (option_map f' x) ++ all (map g' arms)) (if_any (option_map f' y))
      (all_append R (if_any (option_map f' x)) (all (map g' arms)) (option_all x (all_left P (if_any (option_map f x)) (all (map g arms)) front))
      (list_all g g' each_arm arms (all_right P (if_any (option_map f x)) (all (map g arms)) front)))
      (option_all y (all_right P (if_any (option_map f x) ++ all (map g arms)) (if_any (option_map f y)) h))

  pub parts_all : (n : Expr-F X W) → AllByRecursion P (parts (map-Expr X W (List A) (List A) f g n)) → AllByRecursion R (parts (map-Expr X W (List B) (List B) f' g' n))
  parts_all (Shown n x) h = each x h
  parts_all (Unary op x) h = each x h
  parts_all (Arithmetic op x y) h = two_all x y h
  parts_all (Join x y) h = two_all x y h
  parts_all (Like n x y) h = two_all x y h
  parts_all (Logic op x y) h = two_all x y h
  parts_all (Compare op m x y) h = two_all x y h
  parts_all (Collate x name) h = each x h
  parts_all (Cast to x) h = each x h
  parts_all (In n m x items) h =
      all_append R (f' x) (all (map f' items)) (each x (all_left P (f x) (all (map f items)) h)) (list_all f f' each items (all_right P (f x) (all (map f items)) h))
  parts_all (Between n m l x low high) h =
      all_append R (f' x ++ f' low) (f' high) (two_all x low (all_left P (f x ++ f low) (f high) h)) (each high (all_right P (f x ++ f low) (f high) h))
  parts_all (Case None arms None) h = case_all None arms None h
  parts_all (Case None arms (Some y)) h = case_all None arms (Some y) h
  parts_all (Case (Some x) arms None) h = case_all (Some x) arms None h
  parts_all (Case (Some x) arms (Some y)) h = case_all (Some x) arms (Some y) h
  parts_all (BuiltIn o args) h = list_all f f' each args h
  parts_all (Host name args) h = list_all f f' each args h
  parts_all (Aggregate o args) h = list_all f f' each args h
  parts_all _ h = tt

-- ---- the columns of a node

pub layer_is : {X W : Type 0} (f : X → List Field) (g : W → List Field) (n : Expr-F X W)
    → columns_layer (map-Expr X W (List Field) (List Field) f g n) ≡ own_columns n ++ parts (map-Expr X W (List Field) (List Field) f g n)
layer_is f g (Case None arms None) = refl
layer_is f g (Case None arms (Some y)) = refl
layer_is f g (Case (Some x) arms None) = refl
layer_is f g (Case (Some x) arms (Some y)) = refl
layer_is f g _ = refl

abbrev pub arm_columns : When → List Field
arm_columns = fold-When (List Field) (List Field) columns_layer arm

pub arm_columns_are : (w : When) → arm_columns w ≡ columns w.when ++ columns w.then
arm_columns_are w = fold_out-When (List Field) (List Field) columns_layer arm w

abbrev pub layer_columns : Expr-F Expr When → List Field
layer_columns n = columns_layer (map-Expr Expr When (List Field) (List Field) columns arm_columns n)

pub rolled : (n : Expr-F Expr When) → columns (roll-Expr n) ≡ layer_columns n
rolled n = fold-roll-Expr (List Field) (List Field) columns_layer arm n

arm_same : (x : Option Expr) (w : When) → arm_columns (arm_with x w) ≡ arm_columns w
arm_same None w = arm_columns_are (arm_with None w) ∙ sym (arm_columns_are w)
arm_same (Some x) w = arm_columns_are (arm_with (Some x) w) ∙ sym (arm_columns_are w)

arms_same : (x : Option Expr) (ws : List When) → map arm_columns (map (arm_with x) ws) ≡ map arm_columns ws
arms_same x ws = map_map (arm_with x) arm_columns arm_columns (arm_same x) ws

abbrev with_arms : Option Expr → Option Expr → List (List Field) → List Field
with_arms x y ws = if_any (option_map columns x) ++ all ws ++ if_any (option_map columns y)

-- an expression that is built of its parts has their columns
pub built_columns : (n : Expr-F Expr When) → columns (built n) ≡ layer_columns n
built_columns (Literal v) = rolled (Literal v)
built_columns (Param n) = rolled (Param n)
built_columns (Column c) = rolled (Column c)
built_columns (Shown n x) = rolled (Shown n x)
built_columns (Unary op x) = rolled (Unary op x)
built_columns (Arithmetic op x y) = rolled (Arithmetic op x y)
built_columns (Join x y) = rolled (Join x y)
built_columns (Like n x y) = rolled (Like n x y)
built_columns (Logic op x y) = rolled (Logic op x y)
built_columns (Compare op m x y) = rolled _
built_columns (Collate x name) = rolled (Collate x name)
built_columns (Cast to x) = rolled (Cast to x)
built_columns (In n m x items) = rolled _
built_columns (Between n m l x low high) = rolled _
built_columns (Case None arms None) = rolled (Case None (map (arm_with None) arms) None) ∙ ap (with_arms None None) (arms_same None arms)
built_columns (Case None arms (Some y)) = rolled (Case None (map (arm_with None) arms) (Some y)) ∙ ap (with_arms None (Some y)) (arms_same None arms)
built_columns (Case (Some x) arms None) = rolled (Case (Some x) (map (arm_with (Some x)) arms) None) ∙ ap (with_arms (Some x) None) (arms_same (Some x) arms)
built_columns (Case (Some x) arms (Some y)) = rolled (Case (Some x) (map (arm_with (Some x)) arms) (Some y)) ∙ ap (with_arms (Some x) (Some y)) (arms_same (Some x) arms)
built_columns (BuiltIn o args) = rolled _
built_columns (Host name args) = rolled (Host name args)
built_columns (Aggregate o args) = rolled _
built_columns (SiteId b) = rolled (SiteId b)
built_columns (DbVersion n) = rolled (DbVersion n)
