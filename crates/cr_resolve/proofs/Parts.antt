-- What an answer says of an expression, by what answers say of its parts.
use Rattle.std.proofs.Common.{◌≡◌, ◌∙◌, ℕ, Bool, not, List, [], ◌++◌, map, Option, Result, Ok, Err, refl, ap, sym, subst}
use Rattle.std.specs.Prelude.{IsErrAnd}
use Rattle.std.specs.Option.{option_map}
use Rattle.cr_value.specs.declared.value.Value.{Value}
use Rattle.cr_tree.specs.declared.expr.Unary.{Unary as Sign}
use Rattle.cr_tree.specs.declared.expr.Binary.{Binary as Operator}
use Rattle.cr_tree.specs.declared.expr.Expr.{Expr as Tree}
use Rattle.cr_tree.specs.declared.expr.Expr as tree
use Rattle.cr_tree.specs.declared.expr.When.{When as ArmTree}
use Rattle.cr_term.specs.declared.expr.Expr.{Expr}
use Rattle.cr_term.specs.declared.operator.Aggregate.TheVariants as k
use Rattle.cr_term.specs.Nodes as e
use Rattle.cr_questions.specs.Questions.{Name}
use Rattle.cr_resolve.specs.declared.refusal.Refusal.{Refusal}
use Rattle.cr_resolve.specs.declared.refusal.Refusal.TheVariants.{Memory}
use Rattle.cr_resolve.specs.declared.reading.Made.{Made}
use Rattle.cr_resolve.specs.declared.operator.Operation.{Operation}
use Rattle.cr_resolve.specs.declared.operator.Operation.TheVariants.{Comparison, Combination}
use Rattle.cr_resolve.specs.Known.{Known, collation}
use Rattle.cr_resolve.specs.Reading.{Read, fine, with, also, also_misplaced, each, if_any}
use Rattle.cr_resolve.specs.Scope.{Source, column}
use Rattle.cr_resolve.specs.Expressions.{Pair, sign_of, binary, in_of, between_of, case_of, cast_node, cast_target, expr}
use Rattle.cr_resolve.specs.Told.{told, Refuses, Reads}
use Rattle.cr_resolve.specs.Operators.{operation_of, Operates}
use Rattle.cr_resolve.specs.Compares.{IsAmong, IsBetween}
use Rattle.cr_resolve.specs.declared.case.Arms.{Arms}
use Rattle.cr_resolve.specs.Cases.{arms_read, IsCase}
use Rattle.cr_resolve.specs.Answered.{IsRead, AreRead, IsReadIfAny, AreArmsRead, IsRightRead, AreItemsRead, IsHighRead, IsElseRead, pair}
use Rattle.cr_resolve.proofs.Refusals.{ahead}
use Rattle.cr_resolve.proofs.Operated.{by_operation, same}
use Rattle.cr_resolve.proofs.Placed as placed

-- ---- two parts, one after the other

-- what stands against the second, where nothing does against the first
behind : {A : Type 0} (x : Read A) (m : Made A) (bad : List Refusal) (f : Refusal) → x ≡ told m → Refuses bad f → Refuses (x.bad ++ bad) f
behind {A} x m bad f h g = subst (λ (r : Read A). Refuses (r.bad ++ bad) f) (sym h) g

module _ (known : Known) (ss : List Source) (may : Bool) where
  abbrev read : Tree → Read Expr
  read t = expr known ss may t

  pub memory : (t : Tree) → IsRead known ss may t (Err Memory)
  unfolding IsRead
  memory t = tt

  pub in_a_box : (t : Tree) (m n : Made Expr) → IsRead known ss may t (Ok m) → told n ≡ told m → IsRead known ss may t (Ok n)
  unfolding IsRead
  in_a_box t m n h k = h ∙ sym k

  -- a refusal that is handed on
  pub handed_on : (t : Tree) (r : Result (Made Expr) Refusal) (f : Refusal) → IsErrAnd r (λ e. e ≡ f) → IsRead known ss may t (Err f) → IsRead known ss may t r
  handed_on t (Ok m) f h k = absurd h
  handed_on t (Err d) f h k = subst (λ (g : Refusal). IsRead known ss may t (Err g)) (sym h) k

  -- ---- leaves

  pub literal : (t : Tree) (v : Value) (r : Result (Made Expr) Refusal) → t ≡ tree.Literal v → Reads (fine (e.Literal v)) r → IsRead known ss may t r
  unfolding IsRead
  literal t v r is h = subst (λ (whole : Read Expr). Reads whole r) (sym (ap read is ∙ placed.literal known ss may v)) h

  pub param : (t : Tree) (n : ℕ) (m : Made Expr) → t ≡ tree.Param n → told m ≡ fine (e.Param n) → IsRead known ss may t (Ok m)
  unfolding IsRead
  param t n m is h = ap read is ∙ placed.param known ss may n ∙ sym h

  pub named : (t : Tree) (q : Option Name) (name : Name) (r : Result (Made Expr) Refusal) → t ≡ tree.Column q name → Reads (column ss q name) r → IsRead known ss may t r
  unfolding IsRead
  named t q name r is h = subst (λ (whole : Read Expr). Reads whole r) (sym (ap read is ∙ placed.named known ss may q name)) h

  pub count_all : (t : Tree) (m : Made Expr) → t ≡ tree.CountAll → told m ≡ also_misplaced (not may) (fine (e.Aggregate k.CountAll [])) → IsRead known ss may t (Ok m)
  unfolding IsRead
  count_all t m is h = ap read is ∙ placed.count_all known ss may ∙ sym h

  -- ---- one operand

  pub sign_refused : (t : Tree) (op : Sign) (x y : Tree) (f : Refusal) → t ≡ tree.Unary op x → y ≡ x → IsRead known ss may y (Err f) → IsRead known ss may t (Err f)
  unfolding IsRead
  sign_refused t op x y f is k h =
      subst (λ (r : Read Expr). Refuses r.bad f) (sym (ap read is ∙ ap (λ z. read (tree.Unary op z)) (sym k) ∙ placed.sign known ss may op y)) h

  pub sign : (t : Tree) (op : Sign) (x y : Tree) (m : Made Expr) (r : Result (Made Expr) Refusal) → t ≡ tree.Unary op x → y ≡ x → IsRead known ss may y (Ok m) → Reads (with (e.Unary (sign_of op)) (told m)) r → IsRead known ss may t r
  unfolding IsRead
  sign t op x y m r is k h g =
      subst (λ (whole : Read Expr). Reads whole r) (sym (ap read is ∙ ap (λ z. read (tree.Unary op z)) (sym k) ∙ placed.sign known ss may op y ∙ ap (with (e.Unary (sign_of op))) h)) g

  pub cast_refused : (t : Tree) (x y : Tree) (words : List Name) (f : Refusal) → t ≡ tree.Cast x words → y ≡ x → IsRead known ss may y (Err f) → IsRead known ss may t (Err f)
  unfolding IsRead
  cast_refused t x y words f is k h =
      subst (λ (r : Read Expr). Refuses r.bad f) (sym (ap read is ∙ ap (λ z. read (tree.Cast z words)) (sym k) ∙ placed.cast known ss may y words)) h

  pub cast : (t : Tree) (x y : Tree) (words more : List Name) (m : Made Expr) (r : Result (Made Expr) Refusal) → t ≡ tree.Cast x words → y ≡ x → more ≡ words → IsRead known ss may y (Ok m)
      → Reads (with (cast_node (cast_target more)) (told m)) r → IsRead known ss may t r
  unfolding IsRead
  cast t x y words more m r is k w h g =
      subst (λ (whole : Read Expr). Reads whole r)
      (sym (ap read is ∙ ap (λ z. read (tree.Cast z words)) (sym k) ∙ ap (λ ws. read (tree.Cast y ws)) (sym w) ∙ placed.cast known ss may y more ∙ ap (with (cast_node (cast_target more))) h)) g

  pub collate_refused : (t : Tree) (x y : Tree) (name : Name) (f : Refusal) → t ≡ tree.Collate x name → y ≡ x → IsRead known ss may y (Err f) → IsRead known ss may t (Err f)
  unfolding IsRead
  collate_refused t x y name f is k h =
      subst (λ (r : Read Expr). Refuses r.bad f) (sym (ap read is ∙ ap (λ z. read (tree.Collate z name)) (sym k) ∙ placed.collate known ss may y name)) (ahead (read y).bad (collation known name) f h)

  pub collate : (t : Tree) (x y : Tree) (name : Name) (m : Made Expr) (r : Result (Made Expr) Refusal) → t ≡ tree.Collate x name → y ≡ x → IsRead known ss may y (Ok m)
      → Reads (also (λ z. collation known name) (with (λ y. e.Collate y name) (told m))) r → IsRead known ss may t r
  unfolding IsRead
  collate t x y name m r is k h g =
      subst (λ (whole : Read Expr). Reads whole r)
      (sym (ap read is ∙ ap (λ z. read (tree.Collate z name)) (sym k) ∙ placed.collate known ss may y name ∙ ap (λ (x : Read Expr). also (λ z. collation known name) (with (λ y. e.Collate y name) x)) h)) g

  -- ---- two operands

  -- what stands against the operands stands against what an operator makes of them
  first_of_two : (op : Operator) (x y : Read Expr) (f : Refusal) → Refuses (x.bad ++ y.bad) f → Refuses (binary known op x y).bad f
  first_of_two op x y f h = subst (λ (r : Read Expr). Refuses r.bad f) (same known op x y) (by (operation_of op))
    where
      by : (o : Operation) → Refuses (by_operation known o x y).bad f
      by (Comparison c) = ahead (x.bad ++ y.bad) _ f h
      by (Combination c) = h

  operator_of : (t : Tree) (op : Operator) (x x' y y' : Tree) → t ≡ tree.Binary op x' y' → x ≡ x' → y ≡ y' → read t ≡ binary known op (read x) (read y)
  operator_of t op x x' y y' is k l = ap read is ∙ ap (λ z. read (tree.Binary op z y')) (sym k) ∙ ap (λ z. read (tree.Binary op x z)) (sym l) ∙ placed.operator known ss may op x y

  pub left_refused : (t : Tree) (op : Operator) (x x' y' : Tree) (f : Refusal) → t ≡ tree.Binary op x' y' → x ≡ x' → IsRead known ss may x (Err f) → IsRead known ss may t (Err f)
  unfolding IsRead
  left_refused t op x x' y' f is k h =
      subst (λ (r : Read Expr). Refuses r.bad f) (sym (operator_of t op x x' y' y' is k refl)) (first_of_two op (read x) (read y') f (ahead (read x).bad (read y').bad f h))

  pub operator : (t : Tree) (op : Operator) (x x' y y' : Tree) (m : Made Expr) (r : Result (Made Expr) Refusal) → t ≡ tree.Binary op x' y' → x ≡ x' → y ≡ y' → IsRead known ss may x (Ok m) → IsRightRead known ss may op m y r → IsRead known ss may t r
  unfolding IsRead IsRightRead
  operator t op x x' y y' m r is k l h o =
      subst (λ (whole : Read Expr). Reads whole r) (sym (operator_of t op x x' y y' is k l ∙ ap (λ (a : Read Expr). binary known op a (read y)) h)) o

  pub right_memory : (op : Operator) (m : Made Expr) (y : Tree) → IsRightRead known ss may op m y (Err Memory)
  unfolding IsRightRead
  right_memory op m y = tt

  pub right_refused : (op : Operator) (m : Made Expr) (y : Tree) (f : Refusal) → IsRead known ss may y (Err f) → IsRightRead known ss may op m y (Err f)
  unfolding IsRead IsRightRead
  right_refused op m y f h = first_of_two op (told m) (read y) f h

  pub right : (op : Operator) (m n : Made Expr) (y : Tree) (r : Result (Made Expr) Refusal) → IsRead known ss may y (Ok n) → Operates known op m n r → IsRightRead known ss may op m y r
  unfolding IsRead Operates IsRightRead
  right op m n y r h o = subst (λ (a : Read Expr). Reads (binary known op (told m) a) r) (sym h) o

  -- ---- IN

  in_is : (t : Tree) (n : Bool) (x x' : Tree) (items items' : List Tree) → t ≡ tree.In n x' items' → x ≡ x' → items ≡ items' → read t ≡ in_of known n (read x) (each (map read items))
  in_is t n x x' items items' is k l = ap read is ∙ ap (λ z. read (tree.In n z items')) (sym k) ∙ ap (λ z. read (tree.In n x z)) (sym l) ∙ placed.among known ss may n x items

  pub in_refused : (t : Tree) (n : Bool) (x x' : Tree) (items' : List Tree) (f : Refusal) → t ≡ tree.In n x' items' → x ≡ x' → IsRead known ss may x (Err f) → IsRead known ss may t (Err f)
  unfolding IsRead
  in_refused t n x x' items' f is k h =
      let them : Read (List Expr) = each (map read items') in
      subst (λ (r : Read Expr). Refuses r.bad f) (sym (in_is t n x x' items' items' is k refl)) (ahead ((read x).bad ++ them.bad) _ f (ahead (read x).bad them.bad f h))

  pub among : (t : Tree) (n : Bool) (x x' : Tree) (items items' : List Tree) (m : Made Expr) (r : Result (Made Expr) Refusal) → t ≡ tree.In n x' items' → x ≡ x' → items ≡ items' → IsRead known ss may x (Ok m) → AreItemsRead known ss may n m items r → IsRead known ss may t r
  unfolding IsRead AreItemsRead
  among t n x x' items items' m r is k l h o =
      subst (λ (whole : Read Expr). Reads whole r) (sym (in_is t n x x' items items' is k l ∙ ap (λ (a : Read Expr). in_of known n a (each (map read items))) h)) o

  pub items_refused : (n : Bool) (m : Made Expr) (items : List Tree) (f : Refusal) → AreRead known ss may items (Err f) → AreItemsRead known ss may n m items (Err f)
  unfolding AreRead AreItemsRead
  items_refused n m items f h = let them : Read (List Expr) = each (map read items) in ahead them.bad _ f h

  pub items : (n : Bool) (m : Made Expr) (ms : Made (List Expr)) (ts : List Tree) (r : Result (Made Expr) Refusal) → AreRead known ss may ts (Ok ms) → IsAmong known n m ms r → AreItemsRead known ss may n m ts r
  unfolding AreRead IsAmong AreItemsRead
  items n m ms ts r h o = subst (λ (a : Read (List Expr)). Reads (in_of known n (told m) a) r) (sym h) o

  -- ---- BETWEEN

  between_is : (t : Tree) (n : Bool) (x x' y y' z z' : Tree) → t ≡ tree.Between n x' y' z' → x ≡ x' → y ≡ y' → z ≡ z' → read t ≡ between_of known n (read x) (read y) (read z)
  between_is t n x x' y y' z z' is k l q =
      ap read is ∙ ap (λ w. read (tree.Between n w y' z')) (sym k) ∙ ap (λ w. read (tree.Between n x w z')) (sym l) ∙ ap (λ w. read (tree.Between n x y w)) (sym q) ∙ placed.between known ss may n x y z

  pub between_refused : (t : Tree) (n : Bool) (x x' y' z' : Tree) (f : Refusal) → t ≡ tree.Between n x' y' z' → x ≡ x' → IsRead known ss may x (Err f) → IsRead known ss may t (Err f)
  unfolding IsRead
  between_refused t n x x' y' z' f is k h =
      subst (λ (r : Read Expr). Refuses r.bad f) (sym (between_is t n x x' y' y' z' z' is k refl refl))
      (ahead (((read x).bad ++ (read y').bad) ++ (read z').bad) _ f (ahead ((read x).bad ++ (read y').bad) (read z').bad f (ahead (read x).bad (read y').bad f h)))

  pub low_refused : (t : Tree) (n : Bool) (x x' y y' z' : Tree) (m : Made Expr) (f : Refusal) → t ≡ tree.Between n x' y' z' → x ≡ x' → y ≡ y' → IsRead known ss may x (Ok m) → IsRead known ss may y (Err f) → IsRead known ss may t (Err f)
  unfolding IsRead
  low_refused t n x x' y y' z' m f is k l h g =
      subst (λ (r : Read Expr). Refuses r.bad f) (sym (between_is t n x x' y y' z' z' is k l refl))
      (ahead (((read x).bad ++ (read y).bad) ++ (read z').bad) _ f (ahead ((read x).bad ++ (read y).bad) (read z').bad f (behind (read x) m (read y).bad f h g)))

  pub between : (t : Tree) (n : Bool) (x x' y y' z z' : Tree) (m o : Made Expr) (r : Result (Made Expr) Refusal) → t ≡ tree.Between n x' y' z' → x ≡ x' → y ≡ y' → z ≡ z' → IsRead known ss may x (Ok m) → IsRead known ss may y (Ok o)
      → IsHighRead known ss may n m o z r → IsRead known ss may t r
  unfolding IsRead IsHighRead
  between t n x x' y y' z z' m o r is k l q h g b =
      subst (λ (whole : Read Expr). Reads whole r)
      (sym (between_is t n x x' y y' z z' is k l q ∙ ap (λ (a : Read Expr). between_of known n a (read y) (read z)) h ∙ ap (λ (a : Read Expr). between_of known n (told m) a (read z)) g)) b

  pub high_refused : (n : Bool) (m o : Made Expr) (z : Tree) (f : Refusal) → IsRead known ss may z (Err f) → IsHighRead known ss may n m o z (Err f)
  unfolding IsRead IsHighRead
  high_refused n m o z f h = ahead (read z).bad _ f h

  pub high : (n : Bool) (m o p : Made Expr) (z : Tree) (r : Result (Made Expr) Refusal) → IsRead known ss may z (Ok p) → IsBetween known n m o p r → IsHighRead known ss may n m o z r
  unfolding IsRead IsBetween IsHighRead
  high n m o p z r h b = subst (λ (a : Read Expr). Reads (between_of known n (told m) (told o) a) r) (sym h) b

  -- ---- CASE

  case_is : (t : Tree) (x : Option Tree) (ws ws' : List ArmTree) (y : Option Tree) → t ≡ tree.Case x ws' y → ws ≡ ws'
      → read t ≡ case_of known (if_any (option_map read x)) (each (map (pair known ss may) ws)) (if_any (option_map read y))
  case_is t x ws ws' y is k = ap read is ∙ ap (λ us. read (tree.Case x us y)) (sym k) ∙ placed.cases known ss may x ws y

  pub case_refused : (t : Tree) (x : Option Tree) (ws' : List ArmTree) (y : Option Tree) (f : Refusal) → t ≡ tree.Case x ws' y → IsReadIfAny known ss may x (Err f) → IsRead known ss may t (Err f)
  unfolding IsRead IsReadIfAny
  case_refused t x ws' y f is h =
      let a : Read (Option Expr) = if_any (option_map read x) in
      let b : Read (List Pair) = each (map (pair known ss may) ws') in
      let d : Read (Option Expr) = if_any (option_map read y) in
      subst (λ (r : Read Expr). Refuses r.bad f) (sym (case_is t x ws' ws' y is refl)) (ahead ((a.bad ++ b.bad) ++ d.bad) _ f (ahead (a.bad ++ b.bad) d.bad f (ahead a.bad b.bad f h)))

  pub arms_refused : (t : Tree) (x : Option Tree) (ws ws' : List ArmTree) (y : Option Tree) (m : Made (Option Expr)) (f : Refusal) → t ≡ tree.Case x ws' y → ws ≡ ws' → IsReadIfAny known ss may x (Ok m) → AreArmsRead known ss may ws (Err f) → IsRead known ss may t (Err f)
  unfolding IsRead IsReadIfAny AreArmsRead
  arms_refused t x ws ws' y m f is k h g =
      let a : Read (Option Expr) = if_any (option_map read x) in
      let b : Read (List Pair) = each (map (pair known ss may) ws) in
      let d : Read (Option Expr) = if_any (option_map read y) in
      subst (λ (r : Read Expr). Refuses r.bad f) (sym (case_is t x ws ws' y is k)) (ahead ((a.bad ++ b.bad) ++ d.bad) _ f (ahead (a.bad ++ b.bad) d.bad f (behind a m b.bad f h g)))

  pub cases : (t : Tree) (x : Option Tree) (ws ws' : List ArmTree) (y : Option Tree) (m : Made (Option Expr)) (o : Arms) (r : Result (Made Expr) Refusal) → t ≡ tree.Case x ws' y → ws ≡ ws' → IsReadIfAny known ss may x (Ok m)
      → AreArmsRead known ss may ws (Ok o) → IsElseRead known ss may m o y r → IsRead known ss may t r
  unfolding IsRead IsReadIfAny AreArmsRead IsElseRead
  cases t x ws ws' y m o r is k h g b =
      subst (λ (whole : Read Expr). Reads whole r)
      (sym (case_is t x ws ws' y is k
      ∙ ap (λ (a : Read (Option Expr)). case_of known a (each (map (pair known ss may) ws)) (if_any (option_map read y))) h
      ∙ ap (λ (a : Read (List Pair)). case_of known (told m) a (if_any (option_map read y))) g)) b

  pub else_refused : (m : Made (Option Expr)) (o : Arms) (y : Option Tree) (f : Refusal) → IsReadIfAny known ss may y (Err f) → IsElseRead known ss may m o y (Err f)
  unfolding IsReadIfAny IsElseRead
  else_refused m o y f h = let d : Read (Option Expr) = if_any (option_map read y) in ahead d.bad _ f h

  pub otherwise : (m : Made (Option Expr)) (o : Arms) (p : Made (Option Expr)) (y : Option Tree) (r : Result (Made Expr) Refusal) → IsReadIfAny known ss may y (Ok p) → IsCase known m (arms_read o) p r → IsElseRead known ss may m o y r
  unfolding IsReadIfAny IsCase IsElseRead
  otherwise m o p y r h b = subst (λ (a : Read (Option Expr)). Reads (case_of known (told m) (told (arms_read o)) a) r) (sym h) b
