-- An expression reads the columns that stand in it, and the group only where an aggregate does.
use Rattle.std.proofs.Common.{◌≡◌, ◌⊎◌, inl, inr, ◌∙◌, ℕ, List, [], ◌∷◌, ◌++◌, map, length, Option, Some, None, Ok, Err, false, if◌then◌else◌, refl, ap, sym, subst}
use Rattle.std.specs.List.{AllZip}
use Rattle.std.specs.Option.{option_map}
use Rattle.cr_value.specs.declared.value.Value.{Value}
use Rattle.cr_term.specs.declared.expr.When.{When, roll-When, map-When}
use Rattle.cr_term.specs.declared.expr.Column.{Column as Field}
use Rattle.cr_term.specs.declared.operator.Aggregate.{Aggregate as Kind}
use Rattle.cr_term.specs.declared.operator.Meeting.{Meeting}
use Rattle.cr_term.specs.declared.expr.Expr.{Expr, roll-Expr, map-Expr}
use Rattle.cr_term.specs.declared.expr.Expr.TheOpen.{Expr-F, When-F, Literal, Param, Column, Shown, Unary, Arithmetic, Join, Like, Logic, Compare, Collate, Cast, In, Between, Case, BuiltIn, Host, Aggregate, SiteId, DbVersion}
use Rattle.cr_term.specs.declared.expr.Expr.TheFolds.{fold-When, fold-roll-Expr, fold-roll-When, ind-Expr}
use Rattle.cr_term.specs.Parts.{columns, columns_layer, aggregates, aggregates_layer}
use Rattle.cr_term.specs.Parts as parts
use Rattle.cr_scalar.specs.Meaning.{Outcome, Meant, and_then, bounded, of_host}
use Rattle.cr_scalar.specs.Numbers.{truth, truth_value, unary_of, arithmetic_of}
use Rattle.cr_scalar.specs.Compare.{Orders, compared}
use Rattle.cr_scalar.specs.Texts.{join_of, like_of, cast_of}
use Rattle.cr_scalar.specs.Functions.{all_of, call_of}
use Rattle.cr_scalar.specs.Aggregates.{aggregate_of}
use Rattle.cr_scalar.specs.Host.{Host as Functions}
use Rattle.cr_expr.specs.Setting.{Setting, over}
use Rattle.cr_expr.specs.Eval.{Meaning, Arm, node, arm, layer, meaning, arm_of, eval_of, each, if_any, or_null, is_taken, taken, value_or, told, turned, logic_of, between_of, equals, in_of}
use Rattle.cr_expr.specs.Laws.{AgreeOn, Agrees, ReadsItsColumns}

-- over another row, and another group
abbrev moved : Setting → List Value → List (List Value) → Setting
moved s r g = record s { row = r; group = g }

abbrev AreNone : List Kind → Type 0
AreNone [] = Unit {0}
AreNone (k ∷ ks) = ⊥

-- the row agrees, and the group where there are aggregates
abbrev Fits : List Field → List Kind → Setting → List Value → List (List Value) → Type 0
Fits cs ks s r g = AgreeOn cs s.row r × (AreNone ks ⊎ AllZip (AgreeOn cs) s.group g)

split_row : (xs ys : List Field) (a b : List Value) → AgreeOn (xs ++ ys) a b → AgreeOn xs a b × AgreeOn ys a b
split_row [] ys a b h = (tt, h)
split_row (x ∷ xs) ys a b h = let k = split_row xs ys a b h.1 in ((h.0, k.0), k.1)

split_none : (ks ls : List Kind) → AreNone (ks ++ ls) → AreNone ks × AreNone ls
split_none [] ls h = (tt, h)
split_none (k ∷ ks) ls h = absurd h

left_rows : (xs ys : List Field) (us bs : List (List Value)) → AllZip (AgreeOn (xs ++ ys)) us bs → AllZip (AgreeOn xs) us bs
left_rows xs ys [] [] h = h
left_rows xs ys [] (b ∷ bs) h = h
left_rows xs ys (a ∷ us) [] h = h
left_rows xs ys (a ∷ us) (b ∷ bs) h = ((split_row xs ys a b h.0).0, left_rows xs ys us bs h.1)

right_rows : (xs ys : List Field) (us bs : List (List Value)) → AllZip (AgreeOn (xs ++ ys)) us bs → AllZip (AgreeOn ys) us bs
right_rows xs ys [] [] h = h
right_rows xs ys [] (b ∷ bs) h = h
right_rows xs ys (a ∷ us) [] h = h
right_rows xs ys (a ∷ us) (b ∷ bs) h = ((split_row xs ys a b h.0).1, right_rows xs ys us bs h.1)

left : (xs ys : List Field) (ks ls : List Kind) (s : Setting) (r : List Value) (g : List (List Value)) → Fits (xs ++ ys) (ks ++ ls) s r g → Fits xs ks s r g
left xs ys ks ls s r g (row, inl none) = ((split_row xs ys s.row r row).0, inl (split_none ks ls none).0)
left xs ys ks ls s r g (row, inr group) = ((split_row xs ys s.row r row).0, inr (left_rows xs ys s.group g group))

right : (xs ys : List Field) (ks ls : List Kind) (s : Setting) (r : List Value) (g : List (List Value)) → Fits (xs ++ ys) (ks ++ ls) s r g → Fits ys ls s r g
right xs ys ks ls s r g (row, inl none) = ((split_row xs ys s.row r row).1, inl (split_none ks ls none).1)
right xs ys ks ls s r g (row, inr group) = ((split_row xs ys s.row r row).1, inr (right_rows xs ys s.group g group))

both : {A B C : Type 0} (f : A → B → C) (a a' : A) (b b' : B) → a ≡ a' → b ≡ b' → f a b ≡ f a' b'
both f a a' b b' p q = ap (λ x. f x b) p ∙ ap (f a') q

-- ---- parts

abbrev arm_columns : When → List Field
arm_columns = fold-When (List Field) (List Field) columns_layer parts.arm

abbrev arm_aggregates : When → List Kind
arm_aggregates = fold-When (List Kind) (List Kind) aggregates_layer parts.arm

abbrev Reads : Expr → Type 0
Reads e = (s : Setting) (r : List Value) (g : List (List Value)) → Fits (columns e) (aggregates e) s r g → eval_of s e ≡ eval_of (moved s r g) e

abbrev ArmReads : When → Type 0
ArmReads w = (s : Setting) (r : List Value) (g : List (List Value)) → Fits (arm_columns w) (arm_aggregates w) s r g
    → ((arm_of w).when s ≡ (arm_of w).when (moved s r g)) × ((arm_of w).gives s ≡ (arm_of w).gives (moved s r g))

abbrev Part : Type 0
Part = (e : Expr) × Reads e

abbrev ArmPart : Type 0
ArmPart = (w : When) × ArmReads w

abbrev trees : List Part → List Expr
trees ps = map (λ p. p.0) ps

abbrev arms_of : List ArmPart → List When
arms_of ps = map (λ p. p.0) ps

abbrev tree_of : Option Part → Option Expr
tree_of x = option_map (λ p. p.0) x

each_reads : (ps : List Part) (s : Setting) (r : List Value) (g : List (List Value)) → Fits (parts.all (map columns (trees ps))) (parts.all (map aggregates (trees ps))) s r g → each (map meaning (trees ps)) s ≡ each (map meaning (trees ps)) (moved s r g)
each_reads [] s r g h = refl
each_reads (p ∷ ps) s r g h =
    both (λ m ms. m ∷ ms) _ _ _ _ (p.1 s r g (left (columns p.0) (parts.all (map columns (trees ps))) (aggregates p.0) (parts.all (map aggregates (trees ps))) s r g h)) (each_reads ps s r g (right (columns p.0) (parts.all (map columns (trees ps))) (aggregates p.0) (parts.all (map aggregates (trees ps))) s r g h))

rows_read : (ps : List Part) (s : Setting) (r : List Value) (g us bs : List (List Value)) → AllZip (AgreeOn (parts.all (map columns (trees ps)))) s.group g → AllZip (AgreeOn (parts.all (map columns (trees ps)))) us bs
    → map (λ row. all_of (each (map meaning (trees ps)) (over s row))) us ≡ map (λ row. all_of (each (map meaning (trees ps)) (over (moved s r g) row))) bs
rows_read ps s r g [] [] k h = refl
rows_read ps s r g [] (b ∷ bs) k h = absurd h
rows_read ps s r g (a ∷ us) [] k h = absurd h
rows_read ps s r g (a ∷ us) (b ∷ bs) k h = both (λ m ms. m ∷ ms) _ _ _ _ (ap all_of (each_reads ps (over s a) b g (h.0, inr k))) (rows_read ps s r g us bs k h.1)

arms_read : (ps : List ArmPart) (s : Setting) (r : List Value) (g : List (List Value)) (x : Option Value) → Fits (parts.all (map arm_columns (arms_of ps))) (parts.all (map arm_aggregates (arms_of ps))) s r g
    → taken s x (map arm_of (arms_of ps)) ≡ taken (moved s r g) x (map arm_of (arms_of ps))
arms_read [] s r g x h = refl
arms_read (p ∷ ps) s r g x h =
    let here = p.1 s r g (left (arm_columns p.0) (parts.all (map arm_columns (arms_of ps))) (arm_aggregates p.0) (parts.all (map arm_aggregates (arms_of ps))) s r g h) in
    let more = arms_read ps s r g x (right (arm_columns p.0) (parts.all (map arm_columns (arms_of ps))) (arm_aggregates p.0) (parts.all (map arm_aggregates (arms_of ps))) s r g h) in
    one_arm s.host.order x (arm_of p.0).meeting _ _ _ _ _ _ here.0 here.1 more
  where
    one_arm : (order : Orders) (x : Option Value) (meeting : Meeting) (m m' n n' : Meant) (more less : Outcome (Option Value)) → m ≡ m' → n ≡ n' → more ≡ less
        → and_then m (λ w. and_then (is_taken order x meeting w) (λ t. if t then and_then n (λ v. Ok (Some v)) else more))
        ≡ and_then m' (λ w. and_then (is_taken order x meeting w) (λ t. if t then and_then n' (λ v. Ok (Some v)) else less))
    one_arm order x meeting m m' n n' more less p q k = rw (p, q, k) refl

any_reads : (x : Option Part) (s : Setting) (r : List Value) (g : List (List Value)) → Fits (parts.if_any (option_map columns (tree_of x))) (parts.if_any (option_map aggregates (tree_of x))) s r g → if_any s (option_map meaning (tree_of x)) ≡ if_any (moved s r g) (option_map meaning (tree_of x))
any_reads None s r g h = refl
any_reads (Some p) s r g h = ap (λ m. and_then m (λ v. Ok (Some v))) (p.1 s r g h)

null_reads : (x : Option Part) (s : Setting) (r : List Value) (g : List (List Value)) → Fits (parts.if_any (option_map columns (tree_of x))) (parts.if_any (option_map aggregates (tree_of x))) s r g → or_null s (option_map meaning (tree_of x)) ≡ or_null (moved s r g) (option_map meaning (tree_of x))
null_reads None s r g h = refl
null_reads (Some p) s r g h = p.1 s r g h

abbrev case_of : Option Part → List ArmPart → Option Part → Meaning
case_of x arms other s = and_then (if_any s (option_map meaning (tree_of x))) (λ v. and_then (taken s v (map arm_of (arms_of arms))) (value_or (or_null s (option_map meaning (tree_of other)))))

abbrev case_columns : Option Part → List ArmPart → Option Part → List Field
case_columns x arms other = parts.if_any (option_map columns (tree_of x)) ++ parts.all (map arm_columns (arms_of arms)) ++ parts.if_any (option_map columns (tree_of other))

abbrev case_aggregates : Option Part → List ArmPart → Option Part → List Kind
case_aggregates x arms other = parts.if_any (option_map aggregates (tree_of x)) ++ parts.all (map arm_aggregates (arms_of arms)) ++ parts.if_any (option_map aggregates (tree_of other))

case_reads : (x : Option Part) (arms : List ArmPart) (other : Option Part) (s : Setting) (r : List Value) (g : List (List Value)) → Fits (case_columns x arms other) (case_aggregates x arms other) s r g → case_of x arms other s ≡ case_of x arms other (moved s r g)
case_reads x arms other s r g h =
    let xs = parts.if_any (option_map columns (tree_of x)) in
    let ys = parts.all (map arm_columns (arms_of arms)) in
    let zs = parts.if_any (option_map columns (tree_of other)) in
    let ks = parts.if_any (option_map aggregates (tree_of x)) in
    let ls = parts.all (map arm_aggregates (arms_of arms)) in
    let ms = parts.if_any (option_map aggregates (tree_of other)) in
    let k = left (xs ++ ys) zs (ks ++ ls) ms s r g h in
    let e : (v : Option Value) → taken s v (map arm_of (arms_of arms)) ≡ taken (moved s r g) v (map arm_of (arms_of arms)) = λ v. arms_read arms s r g v (right xs ys ks ls s r g k) in
    both_steps _ _ _ _ _ _ (any_reads x s r g (left xs ys ks ls s r g k)) e (null_reads other s r g (right (xs ++ ys) zs (ks ++ ls) ms s r g h))
  where
    both_steps : (m m' : Outcome (Option Value)) (f f' : Option Value → Outcome (Option Value)) (n n' : Meant) → m ≡ m' → ((v : Option Value) → f v ≡ f' v) → n ≡ n'
        → and_then m (λ v. and_then (f v) (value_or n)) ≡ and_then m' (λ v. and_then (f' v) (value_or n'))
    both_steps (Ok v) m' f f' n n' p q k = ap (λ o. and_then o (λ v. and_then (f v) (value_or n))) p ∙ sym (ap (λ o. and_then o (λ v. and_then (f v) (value_or n))) p) ∙ ap (λ o. and_then o (value_or n)) (q v) ∙ ap (λ o. and_then (f' v) (value_or o)) k ∙ ap (λ o. and_then o (λ v. and_then (f' v) (value_or n'))) p
    both_steps (Err e) m' f f' n n' p q k = ap (λ o. and_then o (λ v. and_then (f' v) (value_or n'))) p

-- ---- nodes

abbrev LayerReads : Expr-F Expr When → Type 0
LayerReads x = (s : Setting) (r : List Value) (g : List (List Value)) → Fits (columns_layer (map-Expr Expr When (List Field) (List Field) columns arm_columns x)) (aggregates_layer (map-Expr Expr When (List Kind) (List Kind) aggregates arm_aggregates x)) s r g
    → layer (map-Expr Expr When Meaning Arm meaning arm_of x) s ≡ layer (map-Expr Expr When Meaning Arm meaning arm_of x) (moved s r g)

layer_reads : (y : Expr-F Part ArmPart) → LayerReads (map-Expr Part ArmPart Expr When (λ e. e.0) (λ w. w.0) y)
layer_reads (Literal v) s r g h = refl
layer_reads (Param n) s r g h = refl
layer_reads (Column field) s r g h = ap Ok h.0.0
layer_reads (Shown n x) s r g h = refl
layer_reads (Unary op x) s r g h = ap (λ m. and_then m (unary_of op)) (x.1 s r g h)
layer_reads (Arithmetic op x y) s r g h = both (λ m n. and_then m (λ v. and_then n (arithmetic_of op v))) _ _ _ _ (x.1 s r g (left (columns x.0) (columns y.0) (aggregates x.0) (aggregates y.0) s r g h)) (y.1 s r g (right (columns x.0) (columns y.0) (aggregates x.0) (aggregates y.0) s r g h))
layer_reads (Join x y) s r g h = both (λ m n. and_then m (λ v. and_then n (join_of v))) _ _ _ _ (x.1 s r g (left (columns x.0) (columns y.0) (aggregates x.0) (aggregates y.0) s r g h)) (y.1 s r g (right (columns x.0) (columns y.0) (aggregates x.0) (aggregates y.0) s r g h))
layer_reads (Like n x y) s r g h = both (λ m o. and_then m (λ v. and_then o (like_of n v))) _ _ _ _ (x.1 s r g (left (columns x.0) (columns y.0) (aggregates x.0) (aggregates y.0) s r g h)) (y.1 s r g (right (columns x.0) (columns y.0) (aggregates x.0) (aggregates y.0) s r g h))
layer_reads (Logic op x y) s r g h = both (λ m n. told (logic_of op (and_then m truth) (and_then n truth))) _ _ _ _ (x.1 s r g (left (columns x.0) (columns y.0) (aggregates x.0) (aggregates y.0) s r g h)) (y.1 s r g (right (columns x.0) (columns y.0) (aggregates x.0) (aggregates y.0) s r g h))
layer_reads (Compare op k x y) s r g h = both (λ m n. and_then m (λ v. and_then n (λ w. Ok (truth_value (compared s.host.order op k v w))))) _ _ _ _ (x.1 s r g (left (columns x.0) (columns y.0) (aggregates x.0) (aggregates y.0) s r g h)) (y.1 s r g (right (columns x.0) (columns y.0) (aggregates x.0) (aggregates y.0) s r g h))
layer_reads (Collate x name) s r g h = x.1 s r g h
layer_reads (Cast to x) s r g h = ap (λ m. and_then m (cast_of to)) (x.1 s r g h)
layer_reads (In n k x items) s r g h = both (λ m ms. and_then m (λ v. and_then (in_of (equals s.host.order v k) (Some false) ms) (λ t. Ok (truth_value (turned n t))))) _ _ _ _ (x.1 s r g (left (columns x.0) (parts.all (map columns (trees items))) (aggregates x.0) (parts.all (map aggregates (trees items))) s r g h)) (each_reads items s r g (right (columns x.0) (parts.all (map columns (trees items))) (aggregates x.0) (parts.all (map aggregates (trees items))) s r g h))
layer_reads (Between n k l x low high) s r g h =
    let first_two = left (columns x.0 ++ columns low.0) (columns high.0) (aggregates x.0 ++ aggregates low.0) (aggregates high.0) s r g h in
    ap (λ m. and_then m (λ v. and_then (between_of s.host.order k l v (meaning low.0 s) (meaning high.0 s)) (λ t. Ok (truth_value (turned n t))))) (x.1 s r g (left (columns x.0) (columns low.0) (aggregates x.0) (aggregates low.0) s r g first_two))
    ∙ both (λ m o. and_then (meaning x.0 (moved s r g)) (λ v. and_then (between_of s.host.order k l v m o) (λ t. Ok (truth_value (turned n t))))) _ _ _ _ (low.1 s r g (right (columns x.0) (columns low.0) (aggregates x.0) (aggregates low.0) s r g first_two)) (high.1 s r g (right (columns x.0 ++ columns low.0) (columns high.0) (aggregates x.0 ++ aggregates low.0) (aggregates high.0) s r g h))
layer_reads (Case None arms None) s r g h = case_reads None arms None s r g h
layer_reads (Case None arms (Some y)) s r g h = case_reads None arms (Some y) s r g h
layer_reads (Case (Some x) arms None) s r g h = case_reads (Some x) arms None s r g h
layer_reads (Case (Some x) arms (Some y)) s r g h = case_reads (Some x) arms (Some y) s r g h
layer_reads (BuiltIn f args) s r g h = ap (call_of s.host.order f) (each_reads args s r g h)
layer_reads (Host name args) s r g h = ap (λ ms. and_then (all_of ms) (λ vs. of_host (s.host.scalar name vs))) (each_reads args s r g h)
layer_reads (Aggregate kind args) s r g (row, inl none) = absurd none
layer_reads (Aggregate kind args) s r g (row, inr group) = ap (λ ms. and_then (all_of ms) (aggregate_of s.host.order (λ name. s.host.aggregate name (length (map meaning (trees args)))) kind)) (rows_read args s r g s.group g group group)
layer_reads (SiteId b) s r g h = refl
layer_reads (DbVersion n) s r g h = refl

node_reads : (x : Expr-F Expr When) → LayerReads x → Reads (roll-Expr x)
node_reads x f s r g h =
    let is : (t : Setting) → eval_of t (roll-Expr x) ≡ node (map-Expr Expr When Meaning Arm meaning arm_of x) t = λ t. ap (λ (m : Meaning). m t) (fold-roll-Expr Meaning Arm node arm x) in
    let there = subst (λ (cs : List Field). Fits cs (aggregates (roll-Expr x)) s r g) (fold-roll-Expr (List Field) (List Field) columns_layer parts.arm x) h in
    let k = f s r g (subst (λ (ks : List Kind). Fits (columns_layer (map-Expr Expr When (List Field) (List Field) columns arm_columns x)) ks s r g) (fold-roll-Expr (List Kind) (List Kind) aggregates_layer parts.arm x) there) in
    is s ∙ ap (λ m. and_then m (bounded s.most)) k ∙ sym (is (moved s r g))

-- an arm of its parts
abbrev PartsRead : When-F Expr When → Type 0
PartsRead w = (s : Setting) (r : List Value) (g : List (List Value)) → Fits (columns w.when ++ columns w.then) (aggregates w.when ++ aggregates w.then) s r g
    → (meaning w.when s ≡ meaning w.when (moved s r g)) × (meaning w.then s ≡ meaning w.then (moved s r g))

arm_reads : (w : When-F Expr When) → PartsRead w → ArmReads (roll-When w)
arm_reads w f s r g h =
    subst (λ (a : Arm). (a.when s ≡ a.when (moved s r g)) × (a.gives s ≡ a.gives (moved s r g))) (sym (fold-roll-When Meaning Arm node arm w))
    (f s r g (subst (λ (ks : List Kind). Fits (columns w.when ++ columns w.then) ks s r g) (fold-roll-When (List Kind) (List Kind) aggregates_layer parts.arm w)
    (subst (λ (cs : List Field). Fits cs (arm_aggregates (roll-When w)) s r g) (fold-roll-When (List Field) (List Field) columns_layer parts.arm w) h)))

parts_read : (v : When-F Part ArmPart) → PartsRead (map-When Part ArmPart Expr When (λ e. e.0) (λ w. w.0) v)
parts_read v s r g h = (v.when.1 s r g (left (columns v.when.0) (columns v.then.0) (aggregates v.when.0) (aggregates v.then.0) s r g h), v.then.1 s r g (right (columns v.when.0) (columns v.then.0) (aggregates v.when.0) (aggregates v.then.0) s r g h))

reads : (e : Expr) → Reads e
reads = ind-Expr Reads ArmReads (λ x y is. node_reads x (subst LayerReads is (layer_reads y))) (λ w v is. arm_reads w (subst PartsRead is (parts_read v)))

abbrev with_parts : List Value → List (List Value) → Option ℕ → List Value → List Value → Functions → Setting
with_parts row group most params shown host = record { most = most; row = row; params = params; group = group; shown = shown; host = host }

fits : (e : Expr) (s t : Setting) → Agrees e s t → Fits (columns e) (aggregates e) s t.row t.group
fits e s t a =
    elim a.group [
      | inl none ↦ (a.row, inl (subst AreNone (sym none) tt))
      | inr group ↦ (a.row, inr group)
    ]

pub reads_law : ReadsItsColumns
reads_law e s t a =
    reads e s t.row t.group (fits e s t a)
    ∙ ap (λ (z : Setting). eval_of z e) (ap (λ z. with_parts t.row t.group z s.params s.shown s.host) a.most ∙ ap (λ z. with_parts t.row t.group t.most z s.shown s.host) a.params
    ∙ ap (λ z. with_parts t.row t.group t.most t.params z s.host) a.shown ∙ ap (λ z. with_parts t.row t.group t.most t.params t.shown z) a.host)
