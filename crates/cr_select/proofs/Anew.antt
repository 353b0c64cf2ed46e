-- Expressions made anew of their parts: what a walk over a group takes an expression for, and that it is the same as before.
use Rattle.std.proofs.Common.{◌≡◌, ◌∙◌, ℕ, Bool, ◌&&◌, List, [], ◌∷◌, map, Option, Some, None, refl, sym, ap, subst}
use Rattle.std.specs.Option.{option_map}
use Rattle.cr_term.specs.declared.operator.Meeting.{Meeting}
use Rattle.cr_term.specs.declared.operator.Comparison.{Comparison}
use Rattle.cr_term.specs.declared.operator.BuiltIn.{BuiltIn as Own}
use Rattle.cr_term.specs.declared.operator.BuiltIn.TheVariants as b
use Rattle.cr_term.specs.declared.operator.Aggregate.{Aggregate as Kind}
use Rattle.cr_term.specs.declared.operator.Aggregate.TheVariants as k
use Rattle.cr_term.specs.declared.expr.When.{When, roll-When, map-When}
use Rattle.cr_term.specs.declared.expr.Expr.{Expr, out-Expr, roll-Expr, map-Expr}
use Rattle.cr_term.specs.declared.expr.Expr.TheOpen.{Expr-F, When-F, Literal, Param, Column, Shown, Unary, Arithmetic, Join, Like, Logic, Compare, Collate, Cast, In, Between, Case, BuiltIn, Host, Aggregate, SiteId, DbVersion}
use Rattle.cr_term.specs.declared.expr.Expr.TheFolds.{fold-Expr, fold-When, fold-roll-Expr, fold-roll-When, fold_out-When, ind-Expr}
use Rattle.cr_term.specs.Operands.{meeting, meeting_item}
use Rattle.cr_term.specs.Build.{mapped, built, own_with, kind_with, arm_with}
use Rattle.cr_term.specs.Same.{Test, ArmTest, Layer, ArmLayer, same_all, same_arms, same_if_any, same_kind, own_number, same_layer, same_node, arm_test, test}
use Rattle.cr_resolve.specs.Queries.{Placed, PlacedArm, placed, placed_node, placed_arm, placed_inside, placed_or}

both : {A B C : Type 0} (f : A → B → C) (x x' : A) (y y' : B) → x ≡ x' → y ≡ y' → f x y ≡ f x' y'
both f x x' y y' p q = ap (λ z. f z y) p ∙ ap (f x') q

three : {A B C D : Type 0} (f : A → B → C → D) (x x' : A) (y y' : B) (z z' : C) → x ≡ x' → y ≡ y' → z ≡ z' → f x y z ≡ f x' y' z'
three f x x' y y' z z' p q r = ap (λ v. f v y z) p ∙ ap (λ v. f x' v z) q ∙ ap (f x' y') r

abbrev arm_with_parts : Meeting → Expr → Expr → When
arm_with_parts m x y = record { meeting = m; when = x; then = y }

abbrev pub arm_anew : When-F Expr When → When
arm_anew w = record { meeting = w.meeting; when = w.when; then = w.then }

-- made of its parts anew
abbrev pub anew : Expr → Expr
anew = fold-Expr Expr When built arm_anew

abbrev pub anew_arm : When → When
anew_arm = fold-When Expr When built arm_anew

abbrev pub of_arm : List Expr → When → PlacedArm
of_arm terms = fold-When Placed PlacedArm (placed_node terms) placed_arm

-- ---- two of the three parts of what a fold makes are the expression made anew

module _ (terms : List Expr) (pick : Placed → Expr) (pick_arm : PlacedArm → When) where
  abbrev Picks : Expr → Type 0
  Picks e = pick (placed terms e) ≡ anew e

  abbrev ArmPicks : When → Type 0
  ArmPicks w = pick_arm (of_arm terms w) ≡ anew_arm w

  abbrev Part : Type 0
  Part = (e : Expr) × Picks e

  abbrev ArmPart : Type 0
  ArmPart = (w : When) × ArmPicks w

  abbrev picked : Expr-F Expr When → Expr-F Expr When
  picked x = mapped pick pick_arm (map-Expr Expr When Placed PlacedArm (placed terms) (of_arm terms) x)

  abbrev again : Expr-F Expr When → Expr-F Expr When
  again x = map-Expr Expr When Expr When anew anew_arm x

  all_picked : (ps : List Part) → map pick (map (placed terms) (map (λ p. p.0) ps)) ≡ map anew (map (λ p. p.0) ps)
  all_picked [] = refl
  all_picked (p ∷ ps) = both (λ z zs. z ∷ zs) _ _ _ _ p.1 (all_picked ps)

  arms_picked : (ps : List ArmPart) → map pick_arm (map (of_arm terms) (map (λ p. p.0) ps)) ≡ map anew_arm (map (λ p. p.0) ps)
  arms_picked [] = refl
  arms_picked (p ∷ ps) = both (λ z zs. z ∷ zs) _ _ _ _ p.1 (arms_picked ps)

  if_picked : (x : Option Part) → option_map pick (option_map (placed terms) (option_map (λ p. p.0) x)) ≡ option_map anew (option_map (λ p. p.0) x)
  if_picked None = refl
  if_picked (Some p) = ap Some p.1

  case_picked : (x : Option Part) (arms : List ArmPart) (y : Option Part)
      → picked (Case (option_map (λ p. p.0) x) (map (λ p. p.0) arms) (option_map (λ p. p.0) y)) ≡ again (Case (option_map (λ p. p.0) x) (map (λ p. p.0) arms) (option_map (λ p. p.0) y))
  case_picked None arms None = ap (λ ws. Case None ws None) (arms_picked arms)
  case_picked None arms (Some q) = both (λ ws z. Case None ws (Some z)) _ _ _ _ (arms_picked arms) q.1
  case_picked (Some p) arms None = both (λ z ws. Case (Some z) ws None) _ _ _ _ p.1 (arms_picked arms)
  case_picked (Some p) arms (Some q) = three (λ z ws u. Case (Some z) ws (Some u)) _ _ _ _ _ _ p.1 (arms_picked arms) q.1

  layer_picked : (y : Expr-F Part ArmPart) → picked (map-Expr Part ArmPart Expr When (λ p. p.0) (λ p. p.0) y) ≡ again (map-Expr Part ArmPart Expr When (λ p. p.0) (λ p. p.0) y)
  layer_picked (Literal v) = refl
  layer_picked (Param n) = refl
  layer_picked (Column c) = refl
  layer_picked (Shown n x) = ap (Shown n) x.1
  layer_picked (Unary op x) = ap (Unary op) x.1
  layer_picked (Arithmetic op x y) = both (Arithmetic op) _ _ _ _ x.1 y.1
  layer_picked (Join x y) = both Join _ _ _ _ x.1 y.1
  layer_picked (Like n x y) = both (Like n) _ _ _ _ x.1 y.1
  layer_picked (Logic op x y) = both (Logic op) _ _ _ _ x.1 y.1
  layer_picked (Compare op m x y) = both (Compare op m) _ _ _ _ x.1 y.1
  layer_picked (Collate x name) = ap (λ z. Collate z name) x.1
  layer_picked (Cast to x) = ap (Cast to) x.1
  layer_picked (In n m x items) = both (In n m) _ _ _ _ x.1 (all_picked items)
  layer_picked (Between n m l x low high) = three (Between n m l) _ _ _ _ _ _ x.1 low.1 high.1
  layer_picked (Case None arms None) = case_picked None arms None
  layer_picked (Case None arms (Some q)) = case_picked None arms (Some q)
  layer_picked (Case (Some p) arms None) = case_picked (Some p) arms None
  layer_picked (Case (Some p) arms (Some q)) = case_picked (Some p) arms (Some q)
  layer_picked (BuiltIn f args) = ap (BuiltIn f) (all_picked args)
  layer_picked (Host name args) = ap (Host name) (all_picked args)
  layer_picked (Aggregate kind args) = ap (Aggregate kind) (all_picked args)
  layer_picked (SiteId bytes) = refl
  layer_picked (DbVersion n) = refl

-- what it was, as the fold has it

pub or_self : (self : Expr) (at : Option ℕ) (n : Expr-F Placed PlacedArm) → (placed_or self at n).self ≡ self
or_self self (Some at) n = refl
or_self self None (Literal v) = refl
or_self self None (Param n) = refl
or_self self None (Column c) = refl
or_self self None (Shown n x) = refl
or_self self None (Unary op x) = refl
or_self self None (Arithmetic op x y) = refl
or_self self None (Join x y) = refl
or_self self None (Like n x y) = refl
or_self self None (Logic op x y) = refl
or_self self None (Compare op m x y) = refl
or_self self None (Collate x name) = refl
or_self self None (Cast to x) = refl
or_self self None (In n m x items) = refl
or_self self None (Between n m l x low high) = refl
or_self self None (Case x arms other) = refl
or_self self None (BuiltIn f args) = refl
or_self self None (Host name args) = refl
or_self self None (Aggregate kind args) = refl
or_self self None (SiteId bytes) = refl
or_self self None (DbVersion n) = refl

module _ (terms : List Expr) where
  abbrev pub self_arm : PlacedArm → When
  self_arm w = w.self

  abbrev pub self : Placed → Expr
  self p = p.self

  node_self : (x : Expr-F Expr When) → picked terms self self_arm x ≡ again terms self self_arm x → Picks terms self self_arm (roll-Expr x)
  node_self x h =
      let n = map-Expr Expr When Placed PlacedArm (placed terms) (of_arm terms) x in
      ap (λ (p : Placed). p.self) (fold-roll-Expr Placed PlacedArm (placed_node terms) placed_arm x) ∙ or_self _ _ n ∙ ap built h ∙ sym (fold-roll-Expr Expr When built arm_anew x)

  arm_self : (w : When-F Expr When) (v : When-F (Part terms self self_arm) (ArmPart terms self self_arm)) → map-When (Part terms self self_arm) (ArmPart terms self self_arm) Expr When (λ p. p.0) (λ p. p.0) v ≡ w → ArmPicks terms self self_arm (roll-When w)
  arm_self w v is =
      ap (λ (p : PlacedArm). p.self) (fold-roll-When Placed PlacedArm (placed_node terms) placed_arm w)
      ∙ subst (λ (u : When-F Expr When). arm_with_parts u.meeting (placed terms u.when).self (placed terms u.then).self ≡ arm_with_parts u.meeting (anew u.when) (anew u.then)) is
      (both (arm_with_parts v.meeting) _ _ _ _ v.when.1 v.then.1)
      ∙ sym (fold-roll-When Expr When built arm_anew w)

  pub self_is : (e : Expr) → (placed terms e).self ≡ anew e
  self_is = ind-Expr (Picks terms self self_arm) (ArmPicks terms self self_arm)
      (λ x y is. node_self x (subst (λ (u : Expr-F Expr When). picked terms self self_arm u ≡ again terms self self_arm u) is (layer_picked terms self self_arm y))) (λ w v is. arm_self w v is)

-- ---- with no terms, what it becomes

or_made : (self e : Expr) (n : Expr-F Placed PlacedArm) → self ≡ e → built (mapped (λ p. p.made) (λ w. w.made) n) ≡ e → (placed_inside self n).made ≡ e
or_made self e (Literal v) is h = h
or_made self e (Param n) is h = h
or_made self e (Column c) is h = is
or_made self e (Shown n x) is h = h
or_made self e (Unary op x) is h = h
or_made self e (Arithmetic op x y) is h = h
or_made self e (Join x y) is h = h
or_made self e (Like n x y) is h = h
or_made self e (Logic op x y) is h = h
or_made self e (Compare op m x y) is h = h
or_made self e (Collate x name) is h = h
or_made self e (Cast to x) is h = h
or_made self e (In n m x items) is h = h
or_made self e (Between n m l x low high) is h = h
or_made self e (Case x arms other) is h = h
or_made self e (BuiltIn f args) is h = h
or_made self e (Host name args) is h = h
or_made self e (Aggregate kind args) is h = is
or_made self e (SiteId bytes) is h = h
or_made self e (DbVersion n) is h = h

abbrev made_arm : PlacedArm → When
made_arm w = w.made

abbrev made : Placed → Expr
made p = p.made

node_made : (x : Expr-F Expr When) → picked [] made made_arm x ≡ again [] made made_arm x → Picks [] made made_arm (roll-Expr x)
node_made x h =
    let n : Expr-F Placed PlacedArm = map-Expr Expr When Placed PlacedArm (placed []) (of_arm []) x in
    let folds : placed [] (roll-Expr x) ≡ placed_node [] n = fold-roll-Expr Placed PlacedArm (placed_node []) placed_arm x in
    let was : Expr = built (mapped (λ p. p.self) (λ w. w.self) n) in
    ap (λ (p : Placed). p.made) folds
    ∙ or_made was (anew (roll-Expr x)) n (sym (or_self was None n) ∙ sym (ap (λ (p : Placed). p.self) folds) ∙ self_is [] (roll-Expr x)) (ap built h ∙ sym (fold-roll-Expr Expr When built arm_anew x))

arm_made : (w : When-F Expr When) (v : When-F (Part [] made made_arm) (ArmPart [] made made_arm)) → map-When (Part [] made made_arm) (ArmPart [] made made_arm) Expr When (λ p. p.0) (λ p. p.0) v ≡ w → ArmPicks [] made made_arm (roll-When w)
arm_made w v is =
    ap (λ (p : PlacedArm). p.made) (fold-roll-When Placed PlacedArm (placed_node []) placed_arm w)
    ∙ subst (λ (u : When-F Expr When). arm_with_parts u.meeting (placed [] u.when).made (placed [] u.then).made ≡ arm_with_parts u.meeting (anew u.when) (anew u.then)) is
    (both (arm_with_parts v.meeting) _ _ _ _ v.when.1 v.then.1)
    ∙ sym (fold-roll-When Expr When built arm_anew w)

pub made_is : (e : Expr) → (placed [] e).made ≡ anew e
made_is = ind-Expr (Picks [] made made_arm) (ArmPicks [] made made_arm)
    (λ x y is. node_made x (subst (λ (u : Expr-F Expr When). picked [] made made_arm u ≡ again [] made made_arm u) is (layer_picked [] made made_arm y))) (λ w v is. arm_made w v is)

-- ---- it is the same as what the expression is the same as

abbrev test_arm : When → ArmTest
test_arm = fold-When Test ArmTest same_node arm_test

abbrev tests : Expr-F Expr When → Expr-F Test ArmTest
tests x = map-Expr Expr When Test ArmTest test test_arm x

rolled : (n : Expr-F Expr When) (y : Expr) → test (roll-Expr n) y ≡ same_layer (tests n) (out-Expr y)
rolled n y = ap (λ (t : Test). t y) (fold-roll-Expr Test ArmTest same_node arm_test n)

compare_blind : (op : Comparison) (m l : Meeting) (s t : Test) (z : Layer) → same_layer (Compare op m s t) z ≡ same_layer (Compare op l s t) z
compare_blind op m l s t (Compare op' m' x y) = refl
compare_blind op m l s t _ = refl

in_blind : (n : Bool) (m l : Meeting) (t : Test) (ts : List Test) (z : Layer) → same_layer (In n m t ts) z ≡ same_layer (In n l t ts) z
in_blind n m l t ts (In n' m' x xs) = refl
in_blind n m l t ts _ = refl

between_blind : (n : Bool) (m l m' l' : Meeting) (t low high : Test) (z : Layer) → same_layer (Between n m l t low high) z ≡ same_layer (Between n m' l' t low high) z
between_blind n m l m' l' t low high (Between n'' m'' l'' x y w) = refl
between_blind n m l m' l' t low high _ = refl

own_same : (f : Own) (args : List Expr) → own_number (own_with f args) ≡ own_number f
own_same (b.Max n) args = refl
own_same (b.Min n) args = refl
own_same (b.NullIf n) args = refl
own_same _ args = refl

own_blind : (f : Own) (args : List Expr) (ts : List Test) (z : Layer) → same_layer (BuiltIn (own_with f args) ts) z ≡ same_layer (BuiltIn f ts) z
own_blind f args ts (BuiltIn g xs) = rw (own_same f args) refl
own_blind f args ts _ = refl

kind_same : (f : Kind) (args : List Expr) (g : Kind) → same_kind (kind_with f args) g ≡ same_kind f g
kind_same (k.Max n) args (k.Max m) = refl
kind_same (k.Max n) args _ = refl
kind_same (k.Min n) args (k.Min m) = refl
kind_same (k.Min n) args _ = refl
kind_same _ args g = refl

kind_blind : (f : Kind) (args : List Expr) (ts : List Test) (z : Layer) → same_layer (Aggregate (kind_with f args) ts) z ≡ same_layer (Aggregate f ts) z
kind_blind f args ts (Aggregate g xs) = ap (λ c. c && same_all ts xs) (kind_same f args g)
kind_blind f args ts _ = refl

arm_blind : (x : Option Expr) (w : When) → test_arm (arm_with x w) ≡ test_arm w
arm_blind None w = fold_out-When Test ArmTest same_node arm_test (arm_with None w) ∙ sym (fold_out-When Test ArmTest same_node arm_test w)
arm_blind (Some x) w = fold_out-When Test ArmTest same_node arm_test (arm_with (Some x) w) ∙ sym (fold_out-When Test ArmTest same_node arm_test w)

arms_blind : (x : Option Expr) (ws : List When) → map test_arm (map (arm_with x) ws) ≡ map test_arm ws
arms_blind x [] = refl
arms_blind x (w ∷ ws) = both (λ t ts. t ∷ ts) _ _ _ _ (arm_blind x w) (arms_blind x ws)

built_test : (n : Expr-F Expr When) (y : Expr) → test (built n) y ≡ same_layer (tests n) (out-Expr y)
built_test (Literal v) y' = rolled _ y'
built_test (Param n) y' = rolled _ y'
built_test (Column c) y' = rolled _ y'
built_test (Shown n x) y' = rolled _ y'
built_test (Unary op x) y' = rolled _ y'
built_test (Arithmetic op x y) y' = rolled _ y'
built_test (Join x y) y' = rolled _ y'
built_test (Like n x y) y' = rolled _ y'
built_test (Logic op x y) y' = rolled _ y'
built_test (Compare op m x y) y' = rolled _ y' ∙ compare_blind op (meeting x y) m (test x) (test y) (out-Expr y')
built_test (Collate x name) y' = rolled _ y'
built_test (Cast to x) y' = rolled _ y'
built_test (In n m x items) y' = rolled _ y' ∙ in_blind n (meeting_item x) m (test x) (map test items) (out-Expr y')
built_test (Between n m l x low high) y' = rolled _ y' ∙ between_blind n (meeting x low) (meeting x high) m l (test x) (test low) (test high) (out-Expr y')
built_test (Case None arms None) y' = rolled _ y' ∙ ap (λ ts. same_layer (Case None ts None) (out-Expr y')) (arms_blind None arms)
built_test (Case None arms (Some z)) y' = rolled _ y' ∙ ap (λ ts. same_layer (Case None ts (Some (test z))) (out-Expr y')) (arms_blind None arms)
built_test (Case (Some x) arms None) y' = rolled _ y' ∙ ap (λ ts. same_layer (Case (Some (test x)) ts None) (out-Expr y')) (arms_blind (Some x) arms)
built_test (Case (Some x) arms (Some z)) y' = rolled _ y' ∙ ap (λ ts. same_layer (Case (Some (test x)) ts (Some (test z))) (out-Expr y')) (arms_blind (Some x) arms)
built_test (BuiltIn f args) y' = rolled _ y' ∙ own_blind f args (map test args) (out-Expr y')
built_test (Host name args) y' = rolled _ y'
built_test (Aggregate kind args) y' = rolled _ y' ∙ kind_blind kind args (map test args) (out-Expr y')
built_test (SiteId bytes) y' = rolled _ y'
built_test (DbVersion n) y' = rolled _ y'

abbrev Alike : Expr → Type 0
Alike e = (y : Expr) → test (anew e) y ≡ test e y

abbrev ArmAlike : When → Type 0
ArmAlike w = ((y : Expr) → (test_arm (anew_arm w)).when y ≡ (test_arm w).when y) × ((y : Expr) → (test_arm (anew_arm w)).gives y ≡ (test_arm w).gives y)

abbrev Twin : Type 0
Twin = (e : Expr) × Alike e

abbrev ArmTwin : Type 0
ArmTwin = (w : When) × ArmAlike w

abbrev trees : List Twin → List Expr
trees ps = map (λ p. p.0) ps

all_alike : (ps : List Twin) (xs : List Expr) → same_all (map test (map anew (trees ps))) xs ≡ same_all (map test (trees ps)) xs
all_alike [] [] = refl
all_alike [] (x ∷ xs) = refl
all_alike (p ∷ ps) [] = refl
all_alike (p ∷ ps) (x ∷ xs) = both (λ c d. c && d) _ _ _ _ (p.1 x) (all_alike ps xs)

arms_alike : (ps : List ArmTwin) (xs : List ArmLayer) → same_arms (map test_arm (map anew_arm (map (λ p. p.0) ps))) xs ≡ same_arms (map test_arm (map (λ p. p.0) ps)) xs
arms_alike [] [] = refl
arms_alike [] (x ∷ xs) = refl
arms_alike (p ∷ ps) [] = refl
arms_alike (p ∷ ps) (x ∷ xs) = both (λ c d. c && d) _ _ _ _ (both (λ c d. c && d) _ _ _ _ (p.1.0 x.when) (p.1.1 x.then)) (arms_alike ps xs)

if_alike : (p : Option Twin) (x : Option Expr) → same_if_any (option_map test (option_map anew (option_map (λ p. p.0) p))) x ≡ same_if_any (option_map test (option_map (λ p. p.0) p)) x
if_alike None None = refl
if_alike None (Some x) = refl
if_alike (Some p) None = refl
if_alike (Some p) (Some x) = p.1 x

abbrev anew_parts : Expr-F Expr When → Expr-F Expr When
anew_parts x = map-Expr Expr When Expr When anew anew_arm x

abbrev LayerAlike : Expr-F Expr When → Type 0
LayerAlike x = (z : Layer) → same_layer (tests (anew_parts x)) z ≡ same_layer (tests x) z

case_alike : (x : Option Twin) (arms : List ArmTwin) (y : Option Twin) → LayerAlike (Case (option_map (λ p. p.0) x) (map (λ p. p.0) arms) (option_map (λ p. p.0) y))
case_alike None arms None (Case x' arms' y') = both (λ c d. c && d) _ _ _ _ (both (λ c d. c && d) _ _ _ _ (if_alike None x') (arms_alike arms arms')) (if_alike None y')
case_alike None arms None _ = refl
case_alike None arms (Some q) (Case x' arms' y') = both (λ c d. c && d) _ _ _ _ (both (λ c d. c && d) _ _ _ _ (if_alike None x') (arms_alike arms arms')) (if_alike (Some q) y')
case_alike None arms (Some q) _ = refl
case_alike (Some p) arms None (Case x' arms' y') = both (λ c d. c && d) _ _ _ _ (both (λ c d. c && d) _ _ _ _ (if_alike (Some p) x') (arms_alike arms arms')) (if_alike None y')
case_alike (Some p) arms None _ = refl
case_alike (Some p) arms (Some q) (Case x' arms' y') = both (λ c d. c && d) _ _ _ _ (both (λ c d. c && d) _ _ _ _ (if_alike (Some p) x') (arms_alike arms arms')) (if_alike (Some q) y')
case_alike (Some p) arms (Some q) _ = refl

layer_alike : (v : Expr-F Twin ArmTwin) → LayerAlike (map-Expr Twin ArmTwin Expr When (λ p. p.0) (λ p. p.0) v)
layer_alike (Literal v) z = refl
layer_alike (Param n) z = refl
layer_alike (Column c) z = refl
layer_alike (Shown n x) (Shown n' x') = x.1 x'
layer_alike (Shown n x) _ = refl
layer_alike (Unary op x) (Unary op' x') = both (λ c d. c && d) _ _ _ _ refl (x.1 x')
layer_alike (Unary op x) _ = refl
layer_alike (Arithmetic op x y) (Arithmetic op' x' y') = both (λ c d. c && d) _ _ _ _ (both (λ c d. c && d) _ _ _ _ refl (x.1 x')) (y.1 y')
layer_alike (Arithmetic op x y) _ = refl
layer_alike (Join x y) (Join x' y') = both (λ c d. c && d) _ _ _ _ (x.1 x') (y.1 y')
layer_alike (Join x y) _ = refl
layer_alike (Like n x y) (Like n' x' y') = both (λ c d. c && d) _ _ _ _ (both (λ c d. c && d) _ _ _ _ refl (x.1 x')) (y.1 y')
layer_alike (Like n x y) _ = refl
layer_alike (Logic op x y) (Logic op' x' y') = both (λ c d. c && d) _ _ _ _ (both (λ c d. c && d) _ _ _ _ refl (x.1 x')) (y.1 y')
layer_alike (Logic op x y) _ = refl
layer_alike (Compare op m x y) (Compare op' m' x' y') = both (λ c d. c && d) _ _ _ _ (both (λ c d. c && d) _ _ _ _ refl (x.1 x')) (y.1 y')
layer_alike (Compare op m x y) _ = refl
layer_alike (Collate x name) (Collate x' name') = both (λ c d. c && d) _ _ _ _ (x.1 x') refl
layer_alike (Collate x name) _ = refl
layer_alike (Cast to x) (Cast to' x') = both (λ c d. c && d) _ _ _ _ refl (x.1 x')
layer_alike (Cast to x) _ = refl
layer_alike (In n m x items) (In n' m' x' items') = both (λ c d. c && d) _ _ _ _ (both (λ c d. c && d) _ _ _ _ refl (x.1 x')) (all_alike items items')
layer_alike (In n m x items) _ = refl
layer_alike (Between n m l x low high) (Between n' m' l' x' low' high') = both (λ c d. c && d) _ _ _ _ (both (λ c d. c && d) _ _ _ _ (both (λ c d. c && d) _ _ _ _ refl (x.1 x')) (low.1 low')) (high.1 high')
layer_alike (Between n m l x low high) _ = refl
layer_alike (Case None arms None) z = case_alike None arms None z
layer_alike (Case None arms (Some q)) z = case_alike None arms (Some q) z
layer_alike (Case (Some p) arms None) z = case_alike (Some p) arms None z
layer_alike (Case (Some p) arms (Some q)) z = case_alike (Some p) arms (Some q) z
layer_alike (BuiltIn f args) (BuiltIn f' args') = both (λ c d. c && d) _ _ _ _ refl (all_alike args args')
layer_alike (BuiltIn f args) _ = refl
layer_alike (Host name args) (Host name' args') = both (λ c d. c && d) _ _ _ _ refl (all_alike args args')
layer_alike (Host name args) _ = refl
layer_alike (Aggregate kind args) (Aggregate kind' args') = both (λ c d. c && d) _ _ _ _ refl (all_alike args args')
layer_alike (Aggregate kind args) _ = refl
layer_alike (SiteId bytes) z = refl
layer_alike (DbVersion n) z = refl

node_alike : (x : Expr-F Expr When) → LayerAlike x → Alike (roll-Expr x)
node_alike x h y =
    ap (λ (e : Expr). test e y) (fold-roll-Expr Expr When built arm_anew x) ∙ built_test (anew_parts x) y ∙ h (out-Expr y) ∙ sym (rolled x y)

abbrev PartsAlike : When-F Expr When → Type 0
PartsAlike w = Alike w.when × Alike w.then

arm_opened : (w : When-F Expr When) → test_arm (roll-When w) ≡ record { when = test w.when; gives = test w.then }
arm_opened w = fold-roll-When Test ArmTest same_node arm_test w

arm_alike : (w : When-F Expr When) → PartsAlike w → ArmAlike (roll-When w)
arm_alike w h =
    let new : test_arm (anew_arm (roll-When w)) ≡ record { when = test (anew w.when); gives = test (anew w.then) } =
    ap test_arm (fold-roll-When Expr When built arm_anew w) ∙ fold_out-When Test ArmTest same_node arm_test (arm_anew (record { meeting = w.meeting; when = anew w.when; then = anew w.then })) in
    let old = arm_opened w in
    ((λ y. ap (λ (a : ArmTest). a.when y) new ∙ h.0 y ∙ sym (ap (λ (a : ArmTest). a.when y) old)), (λ y. ap (λ (a : ArmTest). a.gives y) new ∙ h.1 y ∙ sym (ap (λ (a : ArmTest). a.gives y) old)))

parts_alike : (v : When-F Twin ArmTwin) → PartsAlike (map-When Twin ArmTwin Expr When (λ p. p.0) (λ p. p.0) v)
parts_alike v = (v.when.1, v.then.1)

pub test_anew : (e : Expr) → Alike e
test_anew = ind-Expr Alike ArmAlike (λ x y is. node_alike x (subst LayerAlike is (layer_alike y))) (λ w v is. arm_alike w (subst PartsAlike is (parts_alike v)))
