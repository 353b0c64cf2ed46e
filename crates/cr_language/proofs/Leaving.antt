-- What IGNORE leaves of an expression has no column whose READ is ignored, and of none is it denied.
use Rattle.std.proofs.Common.{◌≡◌, ◌∙◌, Bool, true, false, List, [], ◌∷◌, ◌++◌, Some, None, refl, ap, sym, subst}
use Rattle.std.specs.Prelude.{find, if◌then◌else◌}
use Rattle.std.specs.Option.{option_to_list}
use Rattle.std.specs.List.{AllByRecursion}
use Rattle.cr_value.specs.declared.value.Value.TheVariants.{Null}
use Rattle.cr_term.specs.declared.expr.Column.{Column as Field}
use Rattle.cr_term.specs.declared.expr.When.{When, roll-When, map-When}
use Rattle.cr_term.specs.declared.expr.Expr.{Expr, roll-Expr, map-Expr}
use Rattle.cr_term.specs.declared.expr.Expr.TheOpen.{Expr-F, When-F, Column}
use Rattle.cr_term.specs.declared.expr.Expr.TheOpen as node
use Rattle.cr_term.specs.declared.expr.Expr.TheFolds.{fold-When, fold-roll-Expr, fold-roll-When, ind-Expr}
use Rattle.cr_term.specs.Nodes as e
use Rattle.cr_term.specs.declared.query.Relation.{Relation}
use Rattle.cr_term.specs.Parts.{parts, arm, columns, columns_layer}
use Rattle.cr_term.specs.Build.{built}
use Rattle.cr_questions.specs.declared.question.Question.{Question}
use Rattle.cr_questions.specs.Questions.{Answers, asked, denied, ignored, is_gone, left, left_arm, left_node, question_of, questions_node, read_of}
use Rattle.cr_questions.specs.Asked.{own_columns}
use Rattle.cr_questions.proofs.Denials.{same_question}
use Rattle.cr_language.proofs.Lists.{all_left, all_right}
use Rattle.cr_language.proofs.Members.{all_append}
use Rattle.cr_language.proofs.Layers.{fused, parts_all, layer_is, arm_columns, arm_columns_are, layer_columns, rolled, built_columns}

-- the columns of a node whose parts are made into others
pub columns_of_made : {X W : Type 0} (f : X → Expr) (g : W → When) (n : Expr-F X W)
    → layer_columns (map-Expr X W Expr When f g n) ≡ own_columns n ++ parts (map-Expr X W (List Field) (List Field) (λ x. columns (f x)) (λ w. arm_columns (g w)) n)
columns_of_made f g n = ap columns_layer (fused f g columns arm_columns n) ∙ layer_is (λ x. columns (f x)) (λ w. arm_columns (g w)) n

-- ---- IGNORE

module _ (answers : Answers) (tables : List Relation) (P : Field → Type 0) where
  abbrev pub Stays : Field → Type 0
  Stays c = P c × (ignored answers (read_of tables c) ≡ false)

  abbrev rest : Expr → Expr
  rest = left answers tables

  abbrev arm_rest : When → When
  arm_rest = fold-When Expr When (left_node answers tables) left_arm

  abbrev Leaves : Expr → Type 0
  Leaves x = AllByRecursion P (columns x) → AllByRecursion Stays (columns (rest x))

  abbrev ArmLeaves : When → Type 0
  ArmLeaves w = AllByRecursion P (arm_columns w) → AllByRecursion Stays (arm_columns (arm_rest w))

  abbrev Part : Type 0
  Part = (x : Expr) × Leaves x

  abbrev ArmPart : Type 0
  ArmPart = (w : When) × ArmLeaves w

  own_stays : {A C : Type 0} (n : Expr-F A C) → is_gone answers (question_of tables n) ≡ false → AllByRecursion P (own_columns n) → AllByRecursion Stays (own_columns n)
  own_stays (Column c) e h = ((h.0, e), tt)
  own_stays _ e h = tt

  abbrev of_parts : Expr-F Part ArmPart → Expr-F Expr When
  of_parts y = map-Expr Part ArmPart Expr When (λ x. x.0) (λ w. w.0) y

  abbrev left_of_parts : Expr-F Part ArmPart → Expr-F Expr When
  left_of_parts y = map-Expr Part ArmPart Expr When (λ x. rest x.0) (λ w. arm_rest w.0) y

  left_is : (y : Expr-F Part ArmPart) → rest (roll-Expr (of_parts y)) ≡ (if is_gone answers (question_of tables y) then e.Literal Null else built (left_of_parts y))
  left_is y =
      fold-roll-Expr Expr When (left_node answers tables) left_arm (of_parts y)
      ∙ ap (left_node answers tables) (fused (λ x. x.0) (λ w. w.0) rest arm_rest y)
      ∙ ap (λ q. if is_gone answers q then e.Literal Null else built (left_of_parts y)) (same_question (λ x. rest x.0) (λ w. arm_rest w.0) tables y)

  layer_leaves : (y : Expr-F Part ArmPart) → AllByRecursion P (layer_columns (of_parts y)) → (b : Bool) → is_gone answers (question_of tables y) ≡ b
      → AllByRecursion Stays (columns (if b then e.Literal Null else built (left_of_parts y)))
  layer_leaves y h true is = subst (AllByRecursion Stays) (sym (rolled (node.Literal Null))) tt
  layer_leaves y h false is =
      let parts_had = parts (map-Expr Part ArmPart (List Field) (List Field) (λ x. columns x.0) (λ w. arm_columns w.0) y) in
      let had = subst (AllByRecursion P) (columns_of_made (λ x. x.0) (λ w. w.0) y) h in
      subst (AllByRecursion Stays) (sym (built_columns (left_of_parts y) ∙ columns_of_made (λ x. rest x.0) (λ w. arm_rest w.0) y))
      (all_append Stays (own_columns y) _ (own_stays y is (all_left P (own_columns y) parts_had had))
      (parts_all P Stays (λ x. columns x.0) (λ w. arm_columns w.0) (λ x. columns (rest x.0)) (λ w. arm_columns (arm_rest w.0)) (λ x. x.1) (λ w. w.1) y (all_right P (own_columns y) parts_had had)))

  node_leaves : (y : Expr-F Part ArmPart) → Leaves (roll-Expr (of_parts y))
  node_leaves y h = subst (λ x. AllByRecursion Stays (columns x)) (sym (left_is y)) (layer_leaves y (subst (AllByRecursion P) (rolled (of_parts y)) h) (is_gone answers (question_of tables y)) refl)

  arm_leaves : (v : When-F Part ArmPart) → ArmLeaves (roll-When (map-When Part ArmPart Expr When (λ x. x.0) (λ w. w.0) v))
  arm_leaves v h =
      let had = subst (AllByRecursion P) (fold-roll-When (List Field) (List Field) columns_layer arm (map-When Part ArmPart Expr When (λ x. x.0) (λ w. w.0) v)) h in
      subst (λ w. AllByRecursion Stays (arm_columns w)) (sym (fold-roll-When Expr When (left_node answers tables) left_arm (map-When Part ArmPart Expr When (λ x. x.0) (λ w. w.0) v)))
      (subst (AllByRecursion Stays) (sym (arm_columns_are _))
      (all_append Stays (columns (rest v.when.0)) (columns (rest v.then.0)) (v.when.1 (all_left P (columns v.when.0) (columns v.then.0) had)) (v.then.1 (all_right P (columns v.when.0) (columns v.then.0) had))))

  pub leaves : (x : Expr) → Leaves x
  leaves = ind-Expr Leaves ArmLeaves (λ x y is. subst (λ n. Leaves (roll-Expr n)) is (node_leaves y)) (λ w v is. subst (λ n. ArmLeaves (roll-When n)) is (arm_leaves v))

-- ---- DENY

module _ (tables : List Relation) (N : Question → Type 0) where
  abbrev Read : Field → Type 0
  Read c = N (read_of tables c)

  abbrev arm_asked : When → List Question
  arm_asked = fold-When (List Question) (List Question) (questions_node tables) arm

  abbrev Asks : Expr → Type 0
  Asks x = AllByRecursion N (asked tables x) → AllByRecursion Read (columns x)

  abbrev ArmAsks : When → Type 0
  ArmAsks w = AllByRecursion N (arm_asked w) → AllByRecursion Read (arm_columns w)

  abbrev AskPart : Type 0
  AskPart = (x : Expr) × Asks x

  abbrev AskArm : Type 0
  AskArm = (w : When) × ArmAsks w

  own_asks : {A C : Type 0} (n : Expr-F A C) → AllByRecursion N (option_to_list (question_of tables n)) → AllByRecursion Read (own_columns n)
  own_asks (Column c) h = h
  own_asks _ h = tt

  abbrev of_asks : Expr-F AskPart AskArm → Expr-F Expr When
  of_asks y = map-Expr AskPart AskArm Expr When (λ x. x.0) (λ w. w.0) y

  abbrev parts_asked : Expr-F AskPart AskArm → List Question
  parts_asked y = parts (map-Expr AskPart AskArm (List Question) (List Question) (λ x. asked tables x.0) (λ w. arm_asked w.0) y)

  asked_is : (y : Expr-F AskPart AskArm) → asked tables (roll-Expr (of_asks y)) ≡ option_to_list (question_of tables y) ++ parts_asked y
  asked_is y =
      fold-roll-Expr (List Question) (List Question) (questions_node tables) arm (of_asks y)
      ∙ ap (questions_node tables) (fused (λ x. x.0) (λ w. w.0) (asked tables) arm_asked y)
      ∙ ap (λ q. option_to_list q ++ parts_asked y) (same_question (λ x. asked tables x.0) (λ w. arm_asked w.0) tables y)

  node_asks : (y : Expr-F AskPart AskArm) → Asks (roll-Expr (of_asks y))
  node_asks y h =
      let own = option_to_list (question_of tables y) in
      let had = subst (AllByRecursion N) (asked_is y) h in
      subst (AllByRecursion Read) (sym (rolled (of_asks y) ∙ columns_of_made (λ x. x.0) (λ w. w.0) y))
      (all_append Read (own_columns y) _ (own_asks y (all_left N own (parts_asked y) had))
      (parts_all N Read (λ x. asked tables x.0) (λ w. arm_asked w.0) (λ x. columns x.0) (λ w. arm_columns w.0) (λ x. x.1) (λ w. w.1) y (all_right N own (parts_asked y) had)))

  arm_asks : (v : When-F AskPart AskArm) → ArmAsks (roll-When (map-When AskPart AskArm Expr When (λ x. x.0) (λ w. w.0) v))
  arm_asks v h =
      let made = map-When AskPart AskArm Expr When (λ x. x.0) (λ w. w.0) v in
      let had = subst (AllByRecursion N) (fold-roll-When (List Question) (List Question) (questions_node tables) arm made) h in
      subst (AllByRecursion Read) (sym (fold-roll-When (List Field) (List Field) columns_layer arm made))
      (all_append Read (columns v.when.0) (columns v.then.0) (v.when.1 (all_left N (asked tables v.when.0) (asked tables v.then.0) had)) (v.then.1 (all_right N (asked tables v.when.0) (asked tables v.then.0) had)))

  pub asks : (x : Expr) → Asks x
  asks = ind-Expr Asks ArmAsks (λ x y is. subst (λ n. Asks (roll-Expr n)) is (node_asks y)) (λ w v is. subst (λ n. ArmAsks (roll-When n)) is (arm_asks v))

-- nothing is found where each is not denied
pub none_denied : (answers : Answers) (qs : List Question) → find (denied answers) qs ≡ None → AllByRecursion (λ q. denied answers q ≡ false) qs
none_denied answers [] e = tt
none_denied answers (q ∷ qs) e = by (denied answers q) refl e (none_denied answers qs) where
  by : (b : Bool) → denied answers q ≡ b → (if b then Some q else find (denied answers) qs) ≡ None
      → (find (denied answers) qs ≡ None → AllByRecursion (λ q. denied answers q ≡ false) qs) → AllByRecursion (λ q. denied answers q ≡ false) (q ∷ qs)
  by true is h more = absurd (let z : ⊥ = cc in z)
  by false is h more = (is, more h)
