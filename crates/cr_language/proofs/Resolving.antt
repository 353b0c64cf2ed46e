-- The columns of an expression whose names are resolved are columns in sight.
use Rattle.std.proofs.Common.{ℕ, Bool, true, false, List, [], ◌∷◌, ◌++◌, map, filter, length, Option, Some, None, sym, subst}
use Rattle.std.specs.Str.{bytes_eq}
use Rattle.std.specs.Prelude.{◌&&◌, ◌==◌, if◌then◌else◌}
use Rattle.std.specs.Option.{option_map}
use Rattle.std.specs.List.{AllByRecursion}
use Rattle.cr_value.specs.declared.value.Value.TheVariants.{Null}
use Rattle.cr_host.specs.declared.function.Definition.{Definition}
use Rattle.cr_host.specs.declared.function.Definition.TheVariants as defined
use Rattle.cr_host.specs.BuiltIn.{is_built_in_scalar, is_built_in_aggregate}
use Rattle.cr_value.specs.declared.cast.CastTo.{CastTo}
use Rattle.cr_tree.specs.declared.expr.Expr.{Expr as Tree, roll-Expr, map-Expr}
use Rattle.cr_tree.specs.declared.expr.When.{When as ArmTree, roll-When, map-When}
use Rattle.cr_tree.specs.declared.expr.Binary.{Binary as Operator}
use Rattle.cr_tree.specs.declared.expr.Binary.TheVariants as op
use Rattle.cr_tree.specs.declared.expr.Expr.TheOpen.{Expr-F, When-F, Literal, Param, Column, Unary, Binary, Collate, In, Between, Call, CountAll, Cast, Case}
use Rattle.cr_tree.specs.declared.expr.Expr.TheFolds.{fold-When, fold-roll-Expr, fold-roll-When, ind-Expr}
use Rattle.cr_term.specs.declared.expr.Column.{Column as Field}
use Rattle.cr_term.specs.declared.expr.Expr.{Expr}
use Rattle.cr_term.specs.declared.expr.When.{When}
use Rattle.cr_term.specs.declared.expr.Expr as term
use Rattle.cr_term.specs.declared.expr.Expr.TheOpen as layer
use Rattle.cr_term.specs.declared.operator.Aggregate.{Aggregate as Kind}
use Rattle.cr_term.specs.declared.operator.Aggregate.TheVariants as k
use Rattle.cr_term.specs.Nodes as e
use Rattle.cr_term.specs.At.{at_is}
use Rattle.cr_term.specs.Parts.{columns, all, if_any as any}
use Rattle.cr_questions.specs.Questions.{Name}
use Rattle.cr_resolve.specs.declared.refusal.Refusal.TheVariants.{NoSuchFunction, WrongArity}
use Rattle.cr_resolve.specs.Reading.{Read, refused, each, if_any}
use Rattle.cr_resolve.specs.Known.{Known, is_function, is_site_id, is_db_version}
use Rattle.cr_resolve.specs.declared.scope.Source.{Source}
use Rattle.cr_resolve.specs.Scope.{InSight, in_sight, only, told_name, is_of, fitting}
use Rattle.cr_resolve.specs.declared.case.Pair.{Pair}
use Rattle.cr_resolve.specs.Expressions.{Place, Reader, Arm, sign_of, binary, case_node, arm_node, pair_of, cast_node, cast_target, built_in_kind, aggregate_call, engine_call, call_by, node, arm, reader, expr}
use Rattle.cr_language.proofs.Members.{all_append, all_map, all_filter}
use Rattle.cr_language.proofs.Layers.{arm_columns, arm_columns_are, layer_columns, rolled}

module _ (known : Known) (P : Field → Type 0) where
  -- each column of an expression is such a column
  abbrev pub Has : Expr → Type 0
  Has x = AllByRecursion P (columns x)

  -- each column in sight is
  abbrev pub Sees : List Source → Type 0
  Sees sources = AllByRecursion (λ i. P i.column) (in_sight sources)

  has : (n : layer.Expr-F Expr When) → AllByRecursion P (layer_columns n) → Has (term.roll-Expr n)
  has n h = subst (AllByRecursion P) (sym (rolled n)) h

  abbrev HasAny : Option Expr → Type 0
  HasAny o = AllByRecursion P (any (option_map columns o))

  two : (x y : Expr) → Has x → Has y → AllByRecursion P (columns x ++ columns y)
  two x y h k = all_append P (columns x) (columns y) h k

  -- ---- names

  only_has : (told : Name) (cs : List Field) → AllByRecursion P cs → Has (only told cs).made
  only_has told [] h = has (layer.Literal Null) tt
  only_has told (c ∷ []) h = has (layer.Column c) h
  only_has told (c ∷ d ∷ more) h = has (layer.Literal Null) tt

  fitting_have : (sources : List Source) (q : Option Name) (name : Name) → Sees sources → AllByRecursion P (fitting sources q name)
  fitting_have sources q name h =
      all_map P (λ i. i.column) (filter (λ i. is_of q i.source_name && bytes_eq name i.name) (in_sight sources))
      (all_filter (λ (i : InSight). P i.column) (λ i. is_of q i.source_name && bytes_eq name i.name) (in_sight sources) h)

  -- ---- operators

  binary_has : (o : Operator) (x y : Read Expr) → Has x.made → Has y.made → Has (binary known o x y).made
  binary_has op.Or x y h k = has _ (two x.made y.made h k)
  binary_has op.And x y h k = has _ (two x.made y.made h k)
  binary_has op.Equal x y h k = has _ (two x.made y.made h k)
  binary_has op.Unequal x y h k = has _ (two x.made y.made h k)
  binary_has op.Is x y h k = has _ (two x.made y.made h k)
  binary_has op.IsNot x y h k = has _ (two x.made y.made h k)
  binary_has op.Like x y h k = has _ (two x.made y.made h k)
  binary_has op.NotLike x y h k = has _ (two x.made y.made h k)
  binary_has op.Less x y h k = has _ (two x.made y.made h k)
  binary_has op.AtMost x y h k = has _ (two x.made y.made h k)
  binary_has op.Greater x y h k = has _ (two x.made y.made h k)
  binary_has op.AtLeast x y h k = has _ (two x.made y.made h k)
  binary_has op.Add x y h k = has _ (two x.made y.made h k)
  binary_has op.Subtract x y h k = has _ (two x.made y.made h k)
  binary_has op.Multiply x y h k = has _ (two x.made y.made h k)
  binary_has op.Divide x y h k = has _ (two x.made y.made h k)
  binary_has op.Remainder x y h k = has _ (two x.made y.made h k)
  binary_has op.Join x y h k = has _ (two x.made y.made h k)

  cast_has : (to : Option CastTo) (x : Expr) → Has x → Has (cast_node to x)
  cast_has None x h = h
  cast_has (Some to) x h = has (layer.Cast to x) h

  -- ---- CASE

  abbrev HasPair : Pair → Type 0
  HasPair p = Has p.when × Has p.gives

  arm_has : (x : Option Expr) (p : Pair) → HasPair p → AllByRecursion P (arm_columns (arm_node x p))
  arm_has None p h = subst (AllByRecursion P) (sym (arm_columns_are (arm_node None p))) (two p.when p.gives h.0 h.1)
  arm_has (Some x) p h = subst (AllByRecursion P) (sym (arm_columns_are (arm_node (Some x) p))) (two p.when p.gives h.0 h.1)

  arms_have : (x : Option Expr) (ps : List Pair) → AllByRecursion HasPair ps → AllByRecursion P (all (map arm_columns (map (arm_node x) ps)))
  arms_have x [] h = tt
  arms_have x (p ∷ ps) h = all_append P (arm_columns (arm_node x p)) (all (map arm_columns (map (arm_node x) ps))) (arm_has x p h.0) (arms_have x ps h.1)

  case_has : (x : Option Expr) (ps : List Pair) (y : Option Expr) → HasAny x → AllByRecursion HasPair ps → HasAny y → Has (case_node x ps y)
  case_has x ps y h k r = by x y h r (arms_have x ps k) where
    parts_have : (x' y' : Option Expr) → HasAny x' → HasAny y' → AllByRecursion P (all (map arm_columns (map (arm_node x) ps)))
        → AllByRecursion P (any (option_map columns x') ++ all (map arm_columns (map (arm_node x) ps)) ++ any (option_map columns y'))
    parts_have x' y' h r k =
        all_append P (any (option_map columns x') ++ all (map arm_columns (map (arm_node x) ps))) (any (option_map columns y'))
        (all_append P (any (option_map columns x')) (all (map arm_columns (map (arm_node x) ps))) h k) r

    by : (x' y' : Option Expr) → HasAny x' → HasAny y' → AllByRecursion P (all (map arm_columns (map (arm_node x) ps))) → Has (e.Case x' (map (arm_node x) ps) y')
    by None None h r k = has (layer.Case None (map (arm_node x) ps) None) (parts_have None None h r k)
    by None (Some y) h r k = has (layer.Case None (map (arm_node x) ps) (Some y)) (parts_have None (Some y) h r k)
    by (Some x') None h r k = has (layer.Case (Some x') (map (arm_node x) ps) None) (parts_have (Some x') None h r k)
    by (Some x') (Some y) h r k = has (layer.Case (Some x') (map (arm_node x) ps) (Some y)) (parts_have (Some x') (Some y) h r k)

  -- ---- parts

  abbrev Reads : Tree → Type 0
  Reads t = (p : Place) → Sees p.sources → Has (reader known t p).made

  abbrev arm_reader : ArmTree → Arm
  arm_reader = fold-When Reader Arm (node known) arm

  abbrev ArmReads : ArmTree → Type 0
  ArmReads w = (p : Place) → Sees p.sources → Has ((arm_reader w).when p).made × Has ((arm_reader w).gives p).made

  abbrev Part : Type 0
  Part = (t : Tree) × Reads t

  abbrev ArmPart : Type 0
  ArmPart = (w : ArmTree) × ArmReads w

  abbrev trees : List Part → List Tree
  trees ps = map (λ p. p.0) ps

  abbrev arms_of : List ArmPart → List ArmTree
  arms_of ps = map (λ p. p.0) ps

  abbrev tree_of : Option Part → Option Tree
  tree_of x = option_map (λ p. p.0) x

  abbrev read_at : Place → List Part → Read (List Expr)
  read_at p ps = each (map (λ r. r p) (map (reader known) (trees ps)))

  each_has : (ps : List Part) (p : Place) → Sees p.sources → AllByRecursion P (all (map columns (read_at p ps).made))
  each_has [] p h = tt
  each_has (x ∷ ps) p h = all_append P (columns (reader known x.0 p).made) (all (map columns (read_at p ps).made)) (x.1 p h) (each_has ps p h)

  any_has : (x : Option Part) (p : Place) → Sees p.sources → HasAny (if_any (option_map (λ r. r p) (option_map (reader known) (tree_of x)))).made
  any_has None p h = tt
  any_has (Some x) p h = x.1 p h

  pairs_have : (ps : List ArmPart) (p : Place) → Sees p.sources → AllByRecursion HasPair (each (map (pair_of p) (map arm_reader (arms_of ps)))).made
  pairs_have [] p h = tt
  pairs_have (x ∷ ps) p h = (x.1 p h, pairs_have ps p h)

  -- ---- calls

  if_has : (b : Bool) (x y : Read Expr) → Has x.made → Has y.made → Has (if b then x else y).made
  if_has true x y h k = h
  if_has false x y h k = k

  aggregate_has : (kind : List Expr → Kind) (ps : List Part) (p : Place) → Sees p.sources → Has (aggregate_call known kind p (map (reader known) (trees ps))).made
  aggregate_has kind ps p h = has (layer.Aggregate (kind (read_at (record p { aggregates = false }) ps).made) (read_at (record p { aggregates = false }) ps).made) (each_has ps (record p { aggregates = false }) h)

  engine_has : (name : Name) (count : ℕ) (ps : List Part) (p : Place) → Sees p.sources → Has (engine_call known name count p (map (reader known) (trees ps))).made
  engine_has name count ps p h =
      if_has (is_built_in_scalar name count) _ _ (has _ (each_has ps p h))
      (if_has (is_built_in_aggregate name count) _ _ (aggregate_has (built_in_kind name) ps p h)
      (if_has (is_site_id name && (count == 0)) _ _ (has (layer.SiteId known.catalog.site) tt)
      (if_has (is_db_version name && (count == 0)) _ _ (has (layer.DbVersion known.catalog.db_version) tt)
      (if_has (is_function known name) (refused (WrongArity name) (e.Literal Null)) (refused (NoSuchFunction name) (e.Literal Null)) (has (layer.Literal Null) tt) (has (layer.Literal Null) tt)))))

  call_has : (o : Option Definition) (name : Name) (count : ℕ) (ps : List Part) (p : Place) → Sees p.sources → Has (call_by known o name count p (map (reader known) (trees ps))).made
  call_has (Some (defined.Scalar n)) name count ps p h = has (layer.Host name (read_at p ps).made) (each_has ps p h)
  call_has (Some (defined.Aggregate n)) name count ps p h = aggregate_has (λ es. k.Host name) ps p h
  call_has None name count ps p h = engine_has name count ps p h

  -- ---- nodes

  abbrev LayerReads : Expr-F Tree ArmTree → Type 0
  LayerReads x = (p : Place) → Sees p.sources → Has (node known (map-Expr Tree ArmTree Reader Arm (reader known) arm_reader x) p).made

  cases_have : (x : Option Part) (arms : List ArmPart) (y : Option Part) (p : Place) → Sees p.sources
      → Has (case_node (if_any (option_map (λ r. r p) (option_map (reader known) (tree_of x)))).made (each (map (pair_of p) (map arm_reader (arms_of arms)))).made
      (if_any (option_map (λ r. r p) (option_map (reader known) (tree_of y)))).made)
  cases_have x arms y p h = case_has _ _ _ (any_has x p h) (pairs_have arms p h) (any_has y p h)

  layer_reads : (y : Expr-F Part ArmPart) → LayerReads (map-Expr Part ArmPart Tree ArmTree (λ t. t.0) (λ w. w.0) y)
  layer_reads (Literal v) p h = has (layer.Literal v) tt
  layer_reads (Param n) p h = has (layer.Param n) tt
  layer_reads (Column q name) p h = only_has (told_name q name) (fitting p.sources q name) (fitting_have p.sources q name h)
  layer_reads (Unary o x) p h = has (layer.Unary (sign_of o) (reader known x.0 p).made) (x.1 p h)
  layer_reads (Binary o x y) p h = binary_has o (reader known x.0 p) (reader known y.0 p) (x.1 p h) (y.1 p h)
  layer_reads (Collate x name) p h = has (layer.Collate (reader known x.0 p).made name) (x.1 p h)
  layer_reads (In n x items) p h = has _ (all_append P (columns (reader known x.0 p).made) (all (map columns (read_at p items).made)) (x.1 p h) (each_has items p h))
  layer_reads (Between n x low high) p h =
      has _ (all_append P (columns (reader known x.0 p).made ++ columns (reader known low.0 p).made) (columns (reader known high.0 p).made) (two (reader known x.0 p).made (reader known low.0 p).made (x.1 p h) (low.1 p h)) (high.1 p h))
  layer_reads (Call name args) p h = call_has (known.function_of name (length (map (reader known) (trees args)))) name (length (map (reader known) (trees args))) args p h
  layer_reads CountAll p h = has (layer.Aggregate k.CountAll []) tt
  layer_reads (Cast x words) p h = cast_has (cast_target words) (reader known x.0 p).made (x.1 p h)
  layer_reads (Case None arms None) p h = cases_have None arms None p h
  layer_reads (Case None arms (Some y)) p h = cases_have None arms (Some y) p h
  layer_reads (Case (Some x) arms None) p h = cases_have (Some x) arms None p h
  layer_reads (Case (Some x) arms (Some y)) p h = cases_have (Some x) arms (Some y) p h

  node_reads : (x : Expr-F Tree ArmTree) → LayerReads x → Reads (roll-Expr x)
  node_reads x f p h = subst (λ (r : Reader). Has (r p).made) (sym (fold-roll-Expr Reader Arm (node known) arm x)) (f p h)

  abbrev PartsRead : When-F Tree ArmTree → Type 0
  PartsRead w = (p : Place) → Sees p.sources → Has (reader known w.when p).made × Has (reader known w.then p).made

  arm_reads : (w : When-F Tree ArmTree) → PartsRead w → ArmReads (roll-When w)
  arm_reads w f p h = subst (λ (a : Arm). Has (a.when p).made × Has (a.gives p).made) (sym (fold-roll-When Reader Arm (node known) arm w)) (f p h)

  parts_read : (v : When-F Part ArmPart) → PartsRead (map-When Part ArmPart Tree ArmTree (λ t. t.0) (λ w. w.0) v)
  parts_read v p h = (v.when.1 p h, v.then.1 p h)

  reads : (t : Tree) → Reads t
  reads = ind-Expr Reads ArmReads (λ x y is. node_reads x (subst LayerReads is (layer_reads y))) (λ w v is. arm_reads w (subst PartsRead is (parts_read v)))

  pub expr_has : (sources : List Source) (may : Bool) (t : Tree) → Sees sources → Has (expr known sources may t).made
  expr_has sources may t h =
      subst (λ (r : Read Expr). Has r.made) (sym (at_is (record { sources = sources; aggregates = may }) (reader known t))) (reads t (record { sources = sources; aggregates = may }) h)
