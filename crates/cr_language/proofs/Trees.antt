-- An expression that calls neither `crsql_site_id` nor `crsql_db_version` is read alike whatever the catalog, by the columns
-- in sight.
use Rattle.std.proofs.Common.{◌≡◌, ◌∙◌, ℕ, Bool, true, false, List, [], ◌∷◌, ◌++◌, map, filter, length, Option, Some, None, refl, ap, sym, subst}
use Rattle.std.specs.Str.{bytes_eq}
use Rattle.std.specs.Prelude.{◌&&◌, ◌==◌, ◌||◌, not, if◌then◌else◌}
use Rattle.std.specs.Option.{option_map}
use Rattle.std.specs.List.{AllByRecursion}
use Rattle.cr_value.specs.declared.value.Value.TheVariants.{Null}
use Rattle.cr_lattice.specs.declared.catalog.Catalog.{Catalog}
use Rattle.cr_host.specs.declared.function.Definition.{Definition}
use Rattle.cr_host.specs.declared.function.Definition.TheVariants as defined
use Rattle.cr_host.specs.BuiltIn.{is_built_in_scalar, is_built_in_aggregate}
use Rattle.cr_tree.specs.declared.expr.Expr.{Expr as Tree, roll-Expr, map-Expr}
use Rattle.cr_tree.specs.declared.expr.When.{When as ArmTree, roll-When, map-When}
use Rattle.cr_tree.specs.declared.expr.Binary.{Binary as Operator}
use Rattle.cr_tree.specs.declared.expr.Binary.TheVariants as op
use Rattle.cr_tree.specs.declared.expr.Expr.TheOpen.{Expr-F, When-F, Literal, Param, Column, Unary, Binary, Collate, In, Between, Call, CountAll, Cast, Case}
use Rattle.cr_tree.specs.declared.expr.Expr.TheFolds.{fold-When, fold-roll-Expr, fold-roll-When, ind-Expr}
use Rattle.cr_term.specs.declared.expr.Expr.{Expr}
use Rattle.cr_term.specs.declared.operator.Aggregate.{Aggregate as Kind}
use Rattle.cr_term.specs.declared.operator.Aggregate.TheVariants as k
use Rattle.cr_term.specs.Nodes as e
use Rattle.cr_term.specs.At.{at_is}
use Rattle.cr_term.specs.Operands.{collation_of}
use Rattle.cr_questions.specs.Questions.{Name}
use Rattle.cr_resolve.specs.declared.refusal.Refusal.TheVariants.{NoSuchFunction, WrongArity}
use Rattle.cr_resolve.specs.Reading.{Read, fine, refused, with, with_both, also, also_misplaced, each, if_any}
use Rattle.cr_resolve.specs.Known.{Known, is_function, is_site_id, is_db_version, collation, collations}
use Rattle.cr_resolve.specs.declared.scope.Source.{Source}
use Rattle.cr_resolve.specs.Scope.{in_sight, only, told_name, is_of}
use Rattle.cr_resolve.specs.Trees.{calls, calls_node}
use Rattle.cr_resolve.specs.Trees as parts
use Rattle.cr_resolve.specs.declared.case.Pair.{Pair}
use Rattle.cr_resolve.specs.Expressions.{Place, Reader, Arm, sign_of, binary, in_of, between_of, case_of, case_node, arm_collations, pair_of, cast_node, cast_target, built_in, built_in_kind, built_in_node, own_collations, own_call, aggregate_call, engine_call, call_by, call, node, arm, reader, expr}
use Rattle.cr_language.specs.Laws.{asks}
use Rattle.cr_language.proofs.Lists.{both, three, all_left, all_right, length_map}

-- ---- two places from which the same columns are in sight

pub record Alike (p q : Place) : Type 0 where
  pub sight : in_sight p.sources ≡ in_sight q.sources
  pub aggregates : p.aggregates ≡ q.aggregates

abbrev pub Silent : List Name → Type 0
Silent names = AllByRecursion (λ n. asks n ≡ false) names

or_left : (a b : Bool) → (a || b) ≡ false → a ≡ false
or_left true b e = e
or_left false b e = refl

or_right : (a b : Bool) → (a || b) ≡ false → b ≡ false
or_right true b e = absurd (let q : ⊥ = cc in q)
or_right false b e = e

skipped : {A : Type 0} (b c : Bool) (x y : A) → b ≡ false → (if b && c then x else y) ≡ y
skipped true c x y e = absurd (let q : ⊥ = cc in q)
skipped false c x y e = refl

-- the same functions and collations, over two catalogs
module _ (known : Known) (c d : Catalog) where
  abbrev pub a : Known
  a = record known { catalog = c }

  abbrev pub b : Known
  b = record known { catalog = d }

  pub collations_same : (names : List Name) → collations a names ≡ collations b names
  collations_same [] = refl
  collations_same (n ∷ ns) = ap (λ rs. collation a n ++ rs) (collations_same ns)

  -- ---- operators

  binary_same : (op : Operator) (x y : Read Expr) → binary a op x y ≡ binary b op x y
  binary_same op.Or x y = refl
  binary_same op.And x y = refl
  binary_same op.Equal x y = refl
  binary_same op.Unequal x y = refl
  binary_same op.Is x y = refl
  binary_same op.IsNot x y = refl
  binary_same op.Like x y = refl
  binary_same op.NotLike x y = refl
  binary_same op.Less x y = refl
  binary_same op.AtMost x y = refl
  binary_same op.Greater x y = refl
  binary_same op.AtLeast x y = refl
  binary_same op.Add x y = refl
  binary_same op.Subtract x y = refl
  binary_same op.Multiply x y = refl
  binary_same op.Divide x y = refl
  binary_same op.Remainder x y = refl
  binary_same op.Join x y = refl

  case_same : (x : Read (Option Expr)) (arms : Read (List Pair)) (other : Read (Option Expr)) → case_of a x arms other ≡ case_of b x arms other
  case_same x arms other = λ i. also (λ z. collations_same (arm_collations x.made arms.made) i) (with_both (λ f y. f y) (with_both case_node x arms) other)

  -- ---- parts

  abbrev Reads : Tree → Type 0
  Reads t = (p q : Place) → Alike p q → Silent (calls t) → reader a t p ≡ reader b t q

  abbrev arm_reader : Known → ArmTree → Arm
  arm_reader k = fold-When Reader Arm (node k) arm

  abbrev arm_calls : ArmTree → List Name
  arm_calls = fold-When (List Name) (List Name) calls_node parts.arm

  abbrev ArmReads : ArmTree → Type 0
  ArmReads w = (p q : Place) → Alike p q → Silent (arm_calls w) → ((arm_reader a w).when p ≡ (arm_reader b w).when q) × ((arm_reader a w).gives p ≡ (arm_reader b w).gives q)

  abbrev Part : Type 0
  Part = (t : Tree) × Reads t

  abbrev ArmPart : Type 0
  ArmPart = (w : ArmTree) × ArmReads w

  abbrev trees : List Part → List Tree
  trees ps = map (λ p. p.0) ps

  abbrev arms_of : List ArmPart → List ArmTree
  arms_of ps = map (λ p. p.0) ps

  abbrev tree_of : Option Part → Option Tree
  tree_of x = option_map (λ p. p.0) x

  each_same : (ps : List Part) (p q : Place) → Alike p q → Silent (parts.all (map calls (trees ps)))
      → each (map (λ r. r p) (map (reader a) (trees ps))) ≡ each (map (λ r. r q) (map (reader b) (trees ps)))
  each_same [] p q h f = refl
  each_same (x ∷ ps) p q h f =
      both (with_both (λ y ys. y ∷ ys)) _ _ _ _ (x.1 p q h (all_left _ (calls x.0) (parts.all (map calls (trees ps))) f))
      (each_same ps p q h (all_right _ (calls x.0) (parts.all (map calls (trees ps))) f))

  any_same : (x : Option Part) (p q : Place) → Alike p q → Silent (parts.if_any (option_map calls (tree_of x)))
      → if_any (option_map (λ r. r p) (option_map (reader a) (tree_of x))) ≡ if_any (option_map (λ r. r q) (option_map (reader b) (tree_of x)))
  any_same None p q h f = refl
  any_same (Some x) p q h f = ap (with Some) (x.1 p q h f)

  arms_same : (ps : List ArmPart) (p q : Place) → Alike p q → Silent (parts.all (map arm_calls (arms_of ps)))
      → each (map (pair_of p) (map (arm_reader a) (arms_of ps))) ≡ each (map (pair_of q) (map (arm_reader b) (arms_of ps)))
  arms_same [] p q h f = refl
  arms_same (x ∷ ps) p q h f =
      let here = x.1 p q h (all_left _ (arm_calls x.0) (parts.all (map arm_calls (arms_of ps))) f) in
      both (with_both (λ y ys. y ∷ ys)) _ _ _ _ (both (with_both (λ y z. record { when = y; gives = z })) _ _ _ _ here.0 here.1)
      (arms_same ps p q h (all_right _ (arm_calls x.0) (parts.all (map arm_calls (arms_of ps))) f))

  -- ---- calls

  aggregate_same : (kind : List Expr → Kind) (ps : List Part) (p q : Place) → Alike p q → Silent (parts.all (map calls (trees ps)))
      → aggregate_call a kind p (map (reader a) (trees ps)) ≡ aggregate_call b kind q (map (reader b) (trees ps))
  aggregate_same kind ps p q h f =
      both (λ (m : Bool) (inside : Read (List Expr)). also_misplaced (not m) (also (λ z. collation a (collation_of inside.made)) (with (λ es. e.Aggregate (kind es) es) inside)))
      _ _ _ _ h.aggregates
      (each_same ps (record p { aggregates = false }) (record q { aggregates = false }) (record { sight = h.sight; aggregates = refl }) f)

  own_same : (name : Name) (args more : Read (List Expr)) → args ≡ more → own_call a name args ≡ own_call b name more
  own_same name args more h =
      (λ i. also (λ z. collations_same (own_collations (built_in name args.made)) i) (with (built_in_node name) args)) ∙ ap (own_call b name) h

  -- what is called where no function of the engine's has the name and count
  abbrev unknown : Known → Name → Read Expr
  unknown k name = if is_function k name then refused (WrongArity name) (e.Literal Null) else refused (NoSuchFunction name) (e.Literal Null)

  abbrev engine : Known → Bool → Bool → Name → ℕ → Place → List Reader → Read Expr → Read Expr
  engine k s g name count p args rest =
      if s then own_call k name (each (map (λ r. r p) args)) else if g then aggregate_call k (built_in_kind name) p args else rest

  engine_is : (k : Known) (name : Name) (count : ℕ) (p : Place) (args : List Reader) → asks name ≡ false
      → engine_call k name count p args ≡ engine k (is_built_in_scalar name count) (is_built_in_aggregate name count) name count p args (unknown k name)
  engine_is k name count p args silent =
      ap (engine k (is_built_in_scalar name count) (is_built_in_aggregate name count) name count p args)
      (skipped (is_site_id name) (count == 0) (fine (e.SiteId k.catalog.site)) _ (or_left (is_site_id name) (is_db_version name) silent)
      ∙ skipped (is_db_version name) (count == 0) (fine (e.DbVersion k.catalog.db_version)) _ (or_right (is_site_id name) (is_db_version name) silent))

  engine_same : (s g : Bool) (name : Name) (count : ℕ) (ps : List Part) (p q : Place) → Alike p q → Silent (parts.all (map calls (trees ps)))
      → engine a s g name count p (map (reader a) (trees ps)) (unknown a name) ≡ engine b s g name count q (map (reader b) (trees ps)) (unknown b name)
  engine_same true g name count ps p q h f = own_same name _ _ (each_same ps p q h f)
  engine_same false true name count ps p q h f = aggregate_same (built_in_kind name) ps p q h f
  engine_same false false name count ps p q h f = refl

  defined_same : (o : Option Definition) (name : Name) (count : ℕ) (ps : List Part) (p q : Place) → Alike p q → Silent (name ∷ parts.all (map calls (trees ps)))
      → call_by a o name count p (map (reader a) (trees ps)) ≡ call_by b o name count q (map (reader b) (trees ps))
  defined_same (Some (defined.Scalar n)) name count ps p q h f = ap (with (e.Host name)) (each_same ps p q h f.1)
  defined_same (Some (defined.Aggregate n)) name count ps p q h f = aggregate_same (λ es. k.Host name) ps p q h f.1
  defined_same None name count ps p q h f =
      engine_is a name count p (map (reader a) (trees ps)) f.0
      ∙ engine_same (is_built_in_scalar name count) (is_built_in_aggregate name count) name count ps p q h f.1
      ∙ sym (engine_is b name count q (map (reader b) (trees ps)) f.0)

  call_same : (name : Name) (ps : List Part) (p q : Place) → Alike p q → Silent (name ∷ parts.all (map calls (trees ps)))
      → call a name p (map (reader a) (trees ps)) ≡ call b name q (map (reader b) (trees ps))
  call_same name ps p q h f =
      ap (λ (n : ℕ). call_by a (known.function_of name n) name n p (map (reader a) (trees ps))) (length_map (reader a) (trees ps) ∙ sym (length_map (reader b) (trees ps)))
      ∙ defined_same (known.function_of name (length (map (reader b) (trees ps)))) name (length (map (reader b) (trees ps))) ps p q h f

  -- ---- nodes

  abbrev LayerReads : Expr-F Tree ArmTree → Type 0
  LayerReads x = (p q : Place) → Alike p q → Silent (calls_node (map-Expr Tree ArmTree (List Name) (List Name) calls arm_calls x))
      → node a (map-Expr Tree ArmTree Reader Arm (reader a) (arm_reader a) x) p ≡ node b (map-Expr Tree ArmTree Reader Arm (reader b) (arm_reader b) x) q

  abbrev case_calls : Option Part → List ArmPart → Option Part → List Name
  case_calls x arms other = parts.if_any (option_map calls (tree_of x)) ++ parts.all (map arm_calls (arms_of arms)) ++ parts.if_any (option_map calls (tree_of other))

  abbrev case_by : Known → Place → Option Part → List ArmPart → Option Part → Read Expr
  case_by k p x arms other =
      case_of k (if_any (option_map (λ r. r p) (option_map (reader k) (tree_of x)))) (each (map (pair_of p) (map (arm_reader k) (arms_of arms))))
      (if_any (option_map (λ r. r p) (option_map (reader k) (tree_of other))))

  cases_same : (x : Option Part) (arms : List ArmPart) (other : Option Part) (p q : Place) → Alike p q → Silent (case_calls x arms other) → case_by a p x arms other ≡ case_by b q x arms other
  cases_same x arms other p q h f =
      let xs = parts.if_any (option_map calls (tree_of x)) in
      let ys = parts.all (map arm_calls (arms_of arms)) in
      let zs = parts.if_any (option_map calls (tree_of other)) in
      let g = all_left _ (xs ++ ys) zs f in
      three (case_of a) _ _ _ _ _ _ (any_same x p q h (all_left _ xs ys g)) (arms_same arms p q h (all_right _ xs ys g)) (any_same other p q h (all_right _ (xs ++ ys) zs f))
      ∙ case_same (if_any (option_map (λ r. r q) (option_map (reader b) (tree_of x)))) (each (map (pair_of q) (map (arm_reader b) (arms_of arms))))
      (if_any (option_map (λ r. r q) (option_map (reader b) (tree_of other))))

  layer_reads : (y : Expr-F Part ArmPart) → LayerReads (map-Expr Part ArmPart Tree ArmTree (λ t. t.0) (λ w. w.0) y)
  layer_reads (Literal v) p q h f = refl
  layer_reads (Param n) p q h f = refl
  layer_reads (Column s name) p q h f = ap (λ cs. only (told_name s name) (map (λ c. c.column) (filter (λ c. is_of s c.source_name && bytes_eq name c.name) cs))) h.sight
  layer_reads (Unary op x) p q h f = ap (with (e.Unary (sign_of op))) (x.1 p q h f)
  layer_reads (Binary op x y) p q h f = both (binary a op) _ _ _ _ (x.1 p q h (all_left _ (calls x.0) (calls y.0) f)) (y.1 p q h (all_right _ (calls x.0) (calls y.0) f)) ∙ binary_same op _ _
  layer_reads (Collate x name) p q h f = ap (λ (r : Read Expr). also (λ z. collation a name) (with (λ y. e.Collate y name) r)) (x.1 p q h f)
  layer_reads (In n x items) p q h f =
      both (in_of a n) _ _ _ _ (x.1 p q h (all_left _ (calls x.0) (parts.all (map calls (trees items))) f)) (each_same items p q h (all_right _ (calls x.0) (parts.all (map calls (trees items))) f))
  layer_reads (Between n x low high) p q h f =
      let g = all_left _ (calls x.0 ++ calls low.0) (calls high.0) f in
      three (between_of a n) _ _ _ _ _ _ (x.1 p q h (all_left _ (calls x.0) (calls low.0) g)) (low.1 p q h (all_right _ (calls x.0) (calls low.0) g)) (high.1 p q h (all_right _ (calls x.0 ++ calls low.0) (calls high.0) f))
  layer_reads (Call name args) p q h f = call_same name args p q h f
  layer_reads CountAll p q h f = ap (λ (m : Bool). also_misplaced (not m) (fine (e.Aggregate k.CountAll []))) h.aggregates
  layer_reads (Cast x words) p q h f = ap (with (cast_node (cast_target words))) (x.1 p q h f)
  layer_reads (Case None arms None) p q h f = cases_same None arms None p q h f
  layer_reads (Case None arms (Some y)) p q h f = cases_same None arms (Some y) p q h f
  layer_reads (Case (Some x) arms None) p q h f = cases_same (Some x) arms None p q h f
  layer_reads (Case (Some x) arms (Some y)) p q h f = cases_same (Some x) arms (Some y) p q h f

  node_reads : (x : Expr-F Tree ArmTree) → LayerReads x → Reads (roll-Expr x)
  node_reads x f p q h g =
      ap (λ (r : Reader). r p) (fold-roll-Expr Reader Arm (node a) arm x)
      ∙ f p q h (subst Silent (fold-roll-Expr (List Name) (List Name) calls_node parts.arm x) g)
      ∙ sym (ap (λ (r : Reader). r q) (fold-roll-Expr Reader Arm (node b) arm x))

  -- an arm of its parts
  abbrev PartsRead : When-F Tree ArmTree → Type 0
  PartsRead w = (p q : Place) → Alike p q → Silent (calls w.when ++ calls w.then) → (reader a w.when p ≡ reader b w.when q) × (reader a w.then p ≡ reader b w.then q)

  arm_reads : (w : When-F Tree ArmTree) → PartsRead w → ArmReads (roll-When w)
  arm_reads w f p q h g =
      subst (λ (z : Arm). (z.when p ≡ (arm_reader b (roll-When w)).when q) × (z.gives p ≡ (arm_reader b (roll-When w)).gives q)) (sym (fold-roll-When Reader Arm (node a) arm w))
      (subst (λ (z : Arm). (reader a w.when p ≡ z.when q) × (reader a w.then p ≡ z.gives q)) (sym (fold-roll-When Reader Arm (node b) arm w))
      (f p q h (subst Silent (fold-roll-When (List Name) (List Name) calls_node parts.arm w) g)))

  parts_read : (v : When-F Part ArmPart) → PartsRead (map-When Part ArmPart Tree ArmTree (λ t. t.0) (λ w. w.0) v)
  parts_read v p q h f = (v.when.1 p q h (all_left _ (calls v.when.0) (calls v.then.0) f), v.then.1 p q h (all_right _ (calls v.when.0) (calls v.then.0) f))

  pub reads : (t : Tree) → Reads t
  reads = ind-Expr Reads ArmReads (λ x y is. node_reads x (subst LayerReads is (layer_reads y))) (λ w v is. arm_reads w (subst PartsRead is (parts_read v)))

  -- an expression as it stands in a statement
  pub expr_same : (t : Tree) (ss us : List Source) (may : Bool) → in_sight ss ≡ in_sight us → Silent (calls t) → expr a ss may t ≡ expr b us may t
  expr_same t ss us may sight silent =
      at_is (record { sources = ss; aggregates = may }) (reader a t)
      ∙ reads t (record { sources = ss; aggregates = may }) (record { sources = us; aggregates = may }) (record { sight = sight; aggregates = refl }) silent
      ∙ sym (at_is (record { sources = us; aggregates = may }) (reader b t))
