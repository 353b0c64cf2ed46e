-- The AND-terms of an expression, what is left without COLLATEs around it, and what it is within a group have no columns but
-- its own.
use Rattle.std.proofs.Common.{◌≡◌, ◌∙◌, ℕ, List, Option, Some, None, refl, ap, sym, subst}
use Rattle.std.specs.Prelude.{position}
use Rattle.std.specs.Option.{option_to_list}
use Rattle.std.specs.List.{AllByRecursion}
use Rattle.cr_term.specs.declared.expr.Column.{Column as Field}
use Rattle.cr_term.specs.declared.expr.When.{When, roll-When, map-When}
use Rattle.cr_term.specs.declared.expr.Expr.{Expr, roll-Expr, map-Expr, out-roll-Expr}
use Rattle.cr_term.specs.declared.expr.Expr.TheOpen.{Expr-F, When-F, Shown, Column, Aggregate, Logic, Collate}
use Rattle.cr_term.specs.declared.expr.Expr.TheFolds.{fold-Expr, fold-When, fold-roll-Expr, fold-roll-When, ind-Expr}
use Rattle.cr_term.specs.declared.operator.Logic.TheVariants.{And, Or}
use Rattle.cr_term.specs.At.{at_is}
use Rattle.cr_term.specs.Parts.{parts, arm, columns, columns_layer}
use Rattle.cr_term.specs.Build.{mapped, built}
use Rattle.cr_term.specs.Same.{same}
use Rattle.cr_term.specs.Terms.{Cut, cut, cut_and, cut_node, cut_arm, terms_of, Strip, strip_in, strip_node, strip_arm, without_collate}
use Rattle.cr_questions.specs.Asked.{own_columns}
use Rattle.cr_resolve.specs.Queries.{Placed, PlacedArm, placed_inside, placed_or, placed_node, placed_arm, placed}
use Rattle.cr_language.proofs.Lists.{all_left, all_right}
use Rattle.cr_language.proofs.Members.{all_append}
use Rattle.cr_language.proofs.Layers.{fused, mapped_is, parts_all, arm_columns, arm_columns_are, layer_columns, rolled, built_columns}
use Rattle.cr_language.proofs.Leaving.{columns_of_made}

module _ (P : Field → Type 0) where
  abbrev Has : Expr → Type 0
  Has x = AllByRecursion P (columns x)

  abbrev Any : When → Type 0
  Any w = Unit {0}

  unrolled : (n : Expr-F Expr When) → Has (roll-Expr n) → AllByRecursion P (layer_columns n)
  unrolled n h = subst (AllByRecursion P) (rolled n) h

  -- ---- AND-terms

  abbrev Cuts : Expr → Type 0
  Cuts x = Has x → AllByRecursion Has (cut x x)

  abbrev CutPart : Type 0
  CutPart = (x : Expr) × Cuts x

  abbrev of_cuts : Expr-F CutPart ((w : When) × Any w) → Expr-F Expr When
  of_cuts y = map-Expr CutPart ((w : When) × Any w) Expr When (λ x. x.0) (λ w. w.0) y

  abbrev cut_at : Expr-F Expr When → Cut
  cut_at n = cut_node (map-Expr Expr When Cut (Unit {0}) cut (fold-When Cut (Unit {0}) cut_node cut_arm) n)

  layer_cuts : (y : Expr-F CutPart ((w : When) × Any w)) → Has (roll-Expr (of_cuts y)) → AllByRecursion Has (cut_at (of_cuts y) (roll-Expr (of_cuts y)))
  layer_cuts (Logic And x y) h =
      let had = unrolled (Logic And x.0 y.0) h in
      subst (λ n. AllByRecursion Has (cut_and (cut x.0) (cut y.0) (roll-Expr (Logic And x.0 y.0)) n)) (sym (out-roll-Expr (Logic And x.0 y.0)))
      (all_append Has (cut x.0 x.0) (cut y.0 y.0) (x.1 (all_left P (columns x.0) (columns y.0) had)) (y.1 (all_right P (columns x.0) (columns y.0) had)))
  layer_cuts (Logic Or x y) h = (h, tt)
  layer_cuts _ h = (h, tt)

  node_cuts : (y : Expr-F CutPart ((w : When) × Any w)) → Cuts (roll-Expr (of_cuts y))
  node_cuts y h =
      subst (λ (c : Cut). AllByRecursion Has (c (roll-Expr (of_cuts y)))) (sym (fold-roll-Expr Cut (Unit {0}) cut_node cut_arm (of_cuts y))) (layer_cuts y h)

  cuts : (x : Expr) → Cuts x
  cuts = ind-Expr Cuts Any (λ x y is. subst (λ n. Cuts (roll-Expr n)) is (node_cuts y)) (λ w v is. tt)

  pub terms_have : (o : Option Expr) → AllByRecursion Has (option_to_list o) → AllByRecursion Has (terms_of o)
  terms_have None h = tt
  terms_have (Some x) h = subst (AllByRecursion Has) (sym (at_is x (cut x))) (cuts x h.0)

  -- ---- COLLATE

  abbrev strip : Expr → Strip
  strip = fold-Expr Strip (Unit {0}) strip_node strip_arm

  abbrev Strips : Expr → Type 0
  Strips x = Has x → Has (strip x x)

  abbrev StripPart : Type 0
  StripPart = (x : Expr) × Strips x

  abbrev of_strips : Expr-F StripPart ((w : When) × Any w) → Expr-F Expr When
  of_strips y = map-Expr StripPart ((w : When) × Any w) Expr When (λ x. x.0) (λ w. w.0) y

  abbrev strip_at : Expr-F Expr When → Strip
  strip_at n = strip_node (map-Expr Expr When Strip (Unit {0}) strip (fold-When Strip (Unit {0}) strip_node strip_arm) n)

  layer_strips : (y : Expr-F StripPart ((w : When) × Any w)) → Has (roll-Expr (of_strips y)) → Has (strip_at (of_strips y) (roll-Expr (of_strips y)))
  layer_strips (Collate x name) h =
      subst (λ n. Has (strip_in (strip x.0) n (roll-Expr (Collate x.0 name)))) (sym (out-roll-Expr (Collate x.0 name))) (x.1 (unrolled (Collate x.0 name) h))
  layer_strips _ h = h

  node_strips : (y : Expr-F StripPart ((w : When) × Any w)) → Strips (roll-Expr (of_strips y))
  node_strips y h =
      subst (λ (c : Strip). Has (c (roll-Expr (of_strips y)))) (sym (fold-roll-Expr Strip (Unit {0}) strip_node strip_arm (of_strips y))) (layer_strips y h)

  strips : (x : Expr) → Strips x
  strips = ind-Expr Strips Any (λ x y is. subst (λ n. Strips (roll-Expr n)) is (node_strips y)) (λ w v is. tt)

  pub collate_has : (x : Expr) → Has x → Has (without_collate x)
  collate_has x h = subst Has (sym (at_is x (strip x))) (strips x h)

  -- ---- groups

  module _ (terms : List Expr) where
    abbrev arm_placed : When → PlacedArm
    arm_placed = fold-When Placed PlacedArm (placed_node terms) placed_arm

    -- an expression of parts that are made into others
    made_has : {X W : Type 0} (f f' : X → Expr) (g g' : W → When) → ((x : X) → Has (f x) → Has (f' x)) → ((w : W) → AllByRecursion P (arm_columns (g w)) → AllByRecursion P (arm_columns (g' w)))
        → (n : Expr-F X W) → Has (roll-Expr (map-Expr X W Expr When f g n)) → Has (built (map-Expr X W Expr When f' g' n))
    made_has {X} {W} f f' g g' each each_arm n h =
        let parts_had = parts (map-Expr X W (List Field) (List Field) (λ x. columns (f x)) (λ w. arm_columns (g w)) n) in
        let had = subst (AllByRecursion P) (rolled (map-Expr X W Expr When f g n) ∙ columns_of_made f g n) h in
        subst (AllByRecursion P) (sym (built_columns (map-Expr X W Expr When f' g' n) ∙ columns_of_made f' g' n))
        (all_append P (own_columns n) _ (all_left P (own_columns n) parts_had had)
        (parts_all P P (λ x. columns (f x)) (λ w. arm_columns (g w)) (λ x. columns (f' x)) (λ w. arm_columns (g' w)) each each_arm n (all_right P (own_columns n) parts_had had)))

    -- what it was

    abbrev Kept : Expr → Type 0
    Kept x = Has x → Has (placed terms x).self

    abbrev ArmKept : When → Type 0
    ArmKept w = AllByRecursion P (arm_columns w) → AllByRecursion P (arm_columns (arm_placed w).self)

    abbrev KeptPart : Type 0
    KeptPart = (x : Expr) × Kept x

    abbrev KeptArm : Type 0
    KeptArm = (w : When) × ArmKept w

    inside_self : (self : Expr) (n : Expr-F Placed PlacedArm) → (placed_inside self n).self ≡ self
    inside_self self (Column c) = refl
    inside_self self (Aggregate kind args) = refl
    inside_self self _ = refl

    or_self : (self : Expr) (o : Option ℕ) (n : Expr-F Placed PlacedArm) → (placed_or self o n).self ≡ self
    or_self self (Some at) n = refl
    or_self self None n = inside_self self n

    abbrev selves : Expr-F Placed PlacedArm → Expr
    selves n = built (mapped (λ x. x.self) (λ w. w.self) n)

    abbrev placing : Expr-F Expr When → Expr-F Placed PlacedArm
    placing n = map-Expr Expr When Placed PlacedArm (placed terms) arm_placed n

    self_is : (n : Expr-F Expr When) → (placed terms (roll-Expr n)).self ≡ selves (placing n)
    self_is n =
        ap (λ (p : Placed). p.self) (fold-roll-Expr Placed PlacedArm (placed_node terms) placed_arm n)
        ∙ or_self (selves (placing n)) (position (λ t. same (selves (placing n)) t) terms) (placing n)

    abbrev of_kept : Expr-F KeptPart KeptArm → Expr-F Expr When
    of_kept y = map-Expr KeptPart KeptArm Expr When (λ x. x.0) (λ w. w.0) y

    selves_are : (y : Expr-F KeptPart KeptArm) → selves (placing (of_kept y)) ≡ built (map-Expr KeptPart KeptArm Expr When (λ x. (placed terms x.0).self) (λ w. (arm_placed w.0).self) y)
    selves_are y =
        ap built (mapped_is (λ x. x.self) (λ w. w.self) (placing (of_kept y)) ∙ fused (placed terms) arm_placed (λ x. x.self) (λ w. w.self) (of_kept y)
        ∙ fused (λ x. x.0) (λ w. w.0) (λ x. (placed terms x).self) (λ w. (arm_placed w).self) y)

    node_kept : (y : Expr-F KeptPart KeptArm) → Kept (roll-Expr (of_kept y))
    node_kept y h =
        subst Has (sym (self_is (of_kept y) ∙ selves_are y))
        (made_has (λ x. x.0) (λ x. (placed terms x.0).self) (λ w. w.0) (λ w. (arm_placed w.0).self) (λ x. x.1) (λ w. w.1) y h)

    arm_kept : (v : When-F KeptPart KeptArm) → ArmKept (roll-When (map-When KeptPart KeptArm Expr When (λ x. x.0) (λ w. w.0) v))
    arm_kept v h =
        let made = map-When KeptPart KeptArm Expr When (λ x. x.0) (λ w. w.0) v in
        let had = subst (AllByRecursion P) (fold-roll-When (List Field) (List Field) columns_layer arm made) h in
        subst (λ (w : PlacedArm). AllByRecursion P (arm_columns w.self)) (sym (fold-roll-When Placed PlacedArm (placed_node terms) placed_arm made))
        (subst (AllByRecursion P) (sym (arm_columns_are _))
        (all_append P (columns (placed terms v.when.0).self) (columns (placed terms v.then.0).self) (v.when.1 (all_left P (columns v.when.0) (columns v.then.0) had)) (v.then.1 (all_right P (columns v.when.0) (columns v.then.0) had))))

    kept : (x : Expr) → Kept x
    kept = ind-Expr Kept ArmKept (λ x y is. subst (λ n. Kept (roll-Expr n)) is (node_kept y)) (λ w v is. subst (λ n. ArmKept (roll-When n)) is (arm_kept v))

    -- what it is made into

    abbrev Made : Expr → Type 0
    Made x = Has x → Has (placed terms x).made

    abbrev ArmMade : When → Type 0
    ArmMade w = AllByRecursion P (arm_columns w) → AllByRecursion P (arm_columns (arm_placed w).made)

    abbrev MadePart : Type 0
    MadePart = (x : Expr) × Made x

    abbrev MadeArm : Type 0
    MadeArm = (w : When) × ArmMade w

    inside_has : (self : Expr) (n : Expr-F Placed PlacedArm) → Has self → Has (built (mapped (λ x. x.made) (λ w. w.made) n)) → Has (placed_inside self n).made
    inside_has self (Column c) h k = h
    inside_has self (Aggregate kind args) h k = h
    inside_has self _ h k = k

    or_has : (self : Expr) (o : Option ℕ) (n : Expr-F Placed PlacedArm) → Has self → Has (built (mapped (λ x. x.made) (λ w. w.made) n)) → Has (placed_or self o n).made
    or_has self (Some at) n h k = subst (AllByRecursion P) (sym (rolled (Shown at self))) h
    or_has self None n h k = inside_has self n h k

    abbrev of_made : Expr-F MadePart MadeArm → Expr-F Expr When
    of_made y = map-Expr MadePart MadeArm Expr When (λ x. x.0) (λ w. w.0) y

    mades_are : (y : Expr-F MadePart MadeArm)
        → mapped (λ x. x.made) (λ w. w.made) (placing (of_made y)) ≡ map-Expr MadePart MadeArm Expr When (λ x. (placed terms x.0).made) (λ w. (arm_placed w.0).made) y
    mades_are y =
        mapped_is (λ x. x.made) (λ w. w.made) (placing (of_made y)) ∙ fused (placed terms) arm_placed (λ x. x.made) (λ w. w.made) (of_made y)
        ∙ fused (λ x. x.0) (λ w. w.0) (λ x. (placed terms x).made) (λ w. (arm_placed w).made) y

    node_made : (y : Expr-F MadePart MadeArm) → Made (roll-Expr (of_made y))
    node_made y h =
        subst (λ (p : Placed). Has p.made) (sym (fold-roll-Expr Placed PlacedArm (placed_node terms) placed_arm (of_made y)))
        (or_has (selves (placing (of_made y))) (position (λ t. same (selves (placing (of_made y))) t) terms) (placing (of_made y))
        (subst Has (self_is (of_made y)) (kept (roll-Expr (of_made y)) h))
        (subst (λ n. Has (built n)) (sym (mades_are y))
        (made_has (λ x. x.0) (λ x. (placed terms x.0).made) (λ w. w.0) (λ w. (arm_placed w.0).made) (λ x. x.1) (λ w. w.1) y h)))

    arm_made : (v : When-F MadePart MadeArm) → ArmMade (roll-When (map-When MadePart MadeArm Expr When (λ x. x.0) (λ w. w.0) v))
    arm_made v h =
        let made = map-When MadePart MadeArm Expr When (λ x. x.0) (λ w. w.0) v in
        let had = subst (AllByRecursion P) (fold-roll-When (List Field) (List Field) columns_layer arm made) h in
        subst (λ (w : PlacedArm). AllByRecursion P (arm_columns w.made)) (sym (fold-roll-When Placed PlacedArm (placed_node terms) placed_arm made))
        (subst (AllByRecursion P) (sym (arm_columns_are _))
        (all_append P (columns (placed terms v.when.0).made) (columns (placed terms v.then.0).made) (v.when.1 (all_left P (columns v.when.0) (columns v.then.0) had)) (v.then.1 (all_right P (columns v.when.0) (columns v.then.0) had))))

    pub placed_has : (x : Expr) → Made x
    placed_has = ind-Expr Made ArmMade (λ x y is. subst (λ n. Made (roll-Expr n)) is (node_made y)) (λ w v is. subst (λ n. ArmMade (roll-When n)) is (arm_made v))
