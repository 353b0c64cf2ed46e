-- Combinations kept one after another.
use Rattle.std.proofs.Common.{◌≡◌, ◌∙◌, ℕ, zero, suc, ◌+◌, add-one, append_assoc, map-id, Bool, true, false, cond, List, [], ◌∷◌, ◌++◌, length, map, Option, Some, None, option_map, Result, Ok, Err, ◌<◌, get_or, drop, refl, sym, ap, append-nil}
use Rattle.std.specs.Option.{option_and_then}
use Rattle.cr_value.specs.declared.value.Value.{Value}
use Rattle.cr_value.specs.declared.value.Value.TheVariants.{Null}
use Rattle.cr_scalar.specs.Host.{Host}
use Rattle.std.specs.Borrow.{Bor}
use Rattle.cr_term.specs.declared.expr.Expr.{Expr}
use Rattle.cr_term.specs.declared.query.Query.{Query as Resolved}
use Rattle.cr_term.specs.declared.query.Joined.{Joined}
use Rattle.cr_bags.specs.Bags.{joins, gather, those, single}
use Rattle.cr_scalar.specs.declared.fault.EvalFault.{EvalFault}
use Rattle.cr_query.specs.Query.{Row, Meaning, all_true, holds, nulls, or_padded, with_rows, joined_with, combined, joined}
use Rattle.cr_query.proofs.PlanLaws.{joins-nil_right, gather_gather, gather-map}
use Rattle.cr_query.proofs.JoinLaws.{combined-parts}
use Rattle.cr_meaning.specs.View.{Ordered, plain, joining, query, terms as terms_of}
use Rattle.cr_exec.specs.Scopes.{there}
use Rattle.cr_exec.specs.Tails.{with_quiet_first}
use Rattle.cr_meaning.specs.Meaning.{Regard, regarded}
use Rattle.cr_exec.specs.Combinations.{tail, left_with}
use Rattle.cr_exec.specs.Answers.{Stage, Faults, IsMeant, Adds, behind}
use Rattle.cr_exec.specs.Groups.{row_there}
use Rattle.cr_exec.proofs.Stages.{Gives, gives_all, faults_on, meant_on, faults_after, meant_after}
use Rattle.cr_exec.proofs.Loops.{behind_nil, behind_none, gather_fails}

-- ---- one combination

pub kept : (m : Meaning Ordered) (terms : List Ordered) (c : Row) (old : List Row) → all_true m terms c ≡ Some true → behind old (those (all_true m terms) (single c)) ≡ Some (old ++ c ∷ [])
kept m terms c old h = ap (λ o. behind old (joins (option_map (λ b. cond b (single c) []) o) (Some []))) h

pub dropped : (m : Meaning Ordered) (terms : List Ordered) (c : Row) (old : List Row) → all_true m terms c ≡ Some false → behind old (those (all_true m terms) (single c)) ≡ Some old
dropped m terms c old h = ap (λ o. behind old (joins (option_map (λ b. cond b (single c) []) o) (Some []))) h ∙ ap (λ (l : List Row). Some l) (append-nil old)

pub unkept : (m : Meaning Ordered) (terms : List Ordered) (c : Row) → all_true m terms c ≡ None → those (all_true m terms) (single c) ≡ None
unkept m terms c h = ap (λ o. joins (option_map (λ b. cond b (single c) []) o) (Some [])) h

-- ---- the rows of one table

those_singly : (p : Row → Option Bool) (c : Row) (rows : List Row) → gather (λ r. those p (single (c ++ r))) rows ≡ those p (with_rows c rows)
those_singly p c [] = refl
those_singly p c (r ∷ rows) = (λ i. joins (joins-nil_right (option_map (λ b. cond b (single (c ++ r)) []) (p (c ++ r))) i) (those_singly p c rows i))

-- the same of rows that are referred to
pub those_there : (p : Row → Option Bool) (c : Row) (rows : List (Bor Row)) → gather (λ r. those p (single (c ++ row_there r))) rows ≡ those p (with_rows c (map row_there rows))
those_there p c rows = sym (gather-map row_there (λ r. those p (single (c ++ r))) rows) ∙ those_singly p c (map row_there rows)

-- ---- padding

pub nulls_more : (n : ℕ) → nulls n ++ Null ∷ [] ≡ nulls (n + 1)
nulls_more n = by n ∙ ap nulls (sym (add-one n)) where
  by : (n : ℕ) → nulls n ++ Null ∷ [] ≡ nulls (suc n)
  by zero = refl
  by (suc n) = ap (λ (l : Row). Null ∷ l) (by n)

pub null_pushed : (old now new : Row) (n : ℕ) → now ≡ old ++ nulls n → new ≡ now ++ Null ∷ [] → new ≡ old ++ nulls (n + 1)
null_pushed old now new n h k = k ∙ ap (λ (l : Row). l ++ Null ∷ []) h ∙ append_assoc old (nulls n) (Null ∷ []) ∙ ap (λ (l : Row). old ++ l) (nulls_more n)

-- ---- one table after another

module _ (regard : Regard) (host : Host) (params : List Value) (terms : List Ordered) where
  abbrev m : Meaning Ordered
  m = regarded regard host params

  -- tables that come later are joined to each combination by itself
  pub tail_of : (j : Joined) (joined : List Joined) (rows : List Row) (tables : List (List Row)) (c : Row) (cs : List Row) → joined_with m (joining j) rows c ≡ Some cs
      → tail m terms (j ∷ joined) (rows ∷ tables) c ≡ gather (tail m terms joined tables) cs
  tail_of j joined rows tables c cs h =
      ap (λ (o : Option (List Row)). option_and_then (those (all_true m terms)) (option_and_then (combined m (map joining joined) tables) o)) (joins-nil_right (joined_with m (joining j) rows c) ∙ h)
      ∙ ap (option_and_then (those (all_true m terms))) (combined-parts m (map joining joined) tables cs)
      ∙ gather_gather (λ d. combined m (map joining joined) tables (single d)) _ cs

  pub tail_none : (j : Joined) (joined : List Joined) (rows : List Row) (tables : List (List Row)) (c : Row) → joined_with m (joining j) rows c ≡ None
      → tail m terms (j ∷ joined) (rows ∷ tables) c ≡ None
  tail_none j joined rows tables c h =
      ap (λ (o : Option (List Row)). option_and_then (those (all_true m terms)) (option_and_then (combined m (map joining joined) tables) o)) (joins-nil_right (joined_with m (joining j) rows c) ∙ h)

  left_is : (j : Joined) (rows : List Row) (c : Row) → j.is_left ≡ true → joined_with m (joining j) rows c ≡ left_with m j rows c
  left_is j rows c l = ap (λ b. cond b (option_map (or_padded (nulls (length j.relation.definition.columns)) c) (those (holds m (cond b (map plain j.on) [])) (with_rows c rows))) (Some (with_rows c rows))) l

  inner_is : (j : Joined) (rows : List Row) (c : Row) → j.is_left ≡ false → joined_with m (joining j) rows c ≡ Some (with_rows c rows)
  inner_is j rows c l = ap (λ b. cond b (option_map (or_padded (nulls (length j.relation.definition.columns)) c) (those (holds m (cond b (map plain j.on) [])) (with_rows c rows))) (Some (with_rows c rows))) l

  pub tail_inner : (j : Joined) (joined : List Joined) (rows : List Row) (tables : List (List Row)) (c : Row) → j.is_left ≡ false
      → tail m terms (j ∷ joined) (rows ∷ tables) c ≡ gather (tail m terms joined tables) (with_rows c rows)
  tail_inner j joined rows tables c l = tail_of j joined rows tables c (with_rows c rows) (inner_is j rows c l)

  pub tail_left : (j : Joined) (joined : List Joined) (rows : List Row) (tables : List (List Row)) (c : Row) (cs : List Row) → j.is_left ≡ true → left_with m j rows c ≡ Some cs
      → tail m terms (j ∷ joined) (rows ∷ tables) c ≡ gather (tail m terms joined tables) (with_rows [] cs)
  tail_left j joined rows tables c cs l h = tail_of j joined rows tables c cs (left_is j rows c l ∙ h) ∙ ap (gather (tail m terms joined tables)) (sym (map-id cs))

  pub tail_fault : (j : Joined) (joined : List Joined) (rows : List Row) (tables : List (List Row)) (c : Row) → j.is_left ≡ true → left_with m j rows c ≡ None
      → tail m terms (j ∷ joined) (rows ∷ tables) c ≡ None
  tail_fault j joined rows tables c l h = tail_none j joined rows tables c (left_is j rows c l ∙ h)

-- ---- what is put behind

module _ (host : Host) (params : List Value) where
  adds_after : {X Y : Type 0} (p : Stage Y) (y : Y) (f g : Stage (List X)) → ((regard : Regard) → p (regarded regard host params) ≡ Some y → f (regarded regard host params) ≡ g (regarded regard host params))
      → IsMeant host params p y → (old new : List X) (r : Result (Unit {0}) EvalFault) → Adds host params f old new r → Adds host params g old new r
  adds_after p y f g k b old new (Ok u) h = meant_after host params p y (λ m. behind old (f m)) new (λ m. behind old (g m)) new (λ regard hp hf. ap (behind old) (sym (k regard hp)) ∙ hf) b h
  adds_after p y f g k b old new (Err e) h = faults_after host params p y f g e (λ regard hp hf. sym (k regard hp) ∙ hf) b h

  pub adds_on : {X : Type 0} (f g : Stage (List X)) → ((regard : Regard) → f (regarded regard host params) ≡ g (regarded regard host params)) → (old new : List X) (r : Result (Unit {0}) EvalFault) → Adds host params f old new r → Adds host params g old new r
  adds_on f g k old new (Ok u) h = meant_on host params (λ m. behind old (f m)) (λ m. behind old (g m)) new new (λ regard hf. ap (behind old) (sym (k regard)) ∙ hf) h
  adds_on f g k old new (Err e) h = faults_on host params f g e (λ regard hf. sym (k regard) ∙ hf) h

  -- ---- a LEFT JOIN

  module _ (j : Joined) (rows : List Row) (c : Row) (ts : List (Bor Expr)) (same : map there ts ≡ with_quiet_first (map plain j.on)) where
    abbrev pad : List Row → List Row
    pad = or_padded (nulls (length j.relation.definition.columns)) c

    pub left_fault : (e : EvalFault) → Faults host params (λ m. those (all_true m (map there ts)) (with_rows c rows)) e → Faults host params (λ m. left_with m j rows c) e
    left_fault e h =
        faults_on host params (λ m. those (all_true m (map there ts)) (with_rows c rows)) (λ m. left_with m j rows c) e
        (λ regard k. ap (λ (es : List Ordered). option_map pad (those (all_true (regarded regard host params) es) (with_rows c rows))) (sym same) ∙ ap (option_map pad) k) h

    pub left_both : (cs ds : List Row) → ds ≡ or_padded (nulls (length j.relation.definition.columns)) c cs → IsMeant host params (λ m. those (all_true m (map there ts)) (with_rows c rows)) cs → IsMeant host params (λ m. left_with m j rows c) ds
    left_both cs ds is h =
        meant_on host params (λ m. those (all_true m (map there ts)) (with_rows c rows)) (λ m. left_with m j rows c) cs ds
        (λ regard k. ap (λ (es : List Ordered). option_map pad (those (all_true (regarded regard host params) es) (with_rows c rows))) (sym same) ∙ ap (option_map pad) k ∙ ap (λ (l : List Row). Some l) (sym is)) h

  -- ---- what is left of FROM

  module _ (terms : List Ordered) (js js' : List Joined) (j : Joined) (tables tables' : List (List Row)) (rows : List Row) (c : Row) (first : js ≡ j ∷ js') (table : tables ≡ rows ∷ tables') where
    abbrev whole : Stage (List Row)
    whole m = tail m terms js tables c

    abbrev split : Stage (List Row)
    split m = tail m terms (j ∷ js') (rows ∷ tables') c

    apart : (regard : Regard) → split (regarded regard host params) ≡ whole (regarded regard host params)
    apart regard i = tail (regarded regard host params) terms (sym first i) (sym table i) c

    pub rest_inner : j.is_left ≡ false → (old new : List Row) (r : Result (Unit {0}) EvalFault) → Adds host params (λ m. gather (tail m terms js' tables') (with_rows c rows)) old new r → Adds host params (λ m. tail m terms js tables c) old new r
    rest_inner l old new r h = adds_on (λ m. gather (tail m terms js' tables') (with_rows c rows)) whole (λ regard. sym (tail_inner regard host params terms j js' rows tables' c l) ∙ apart regard) old new r h

    pub rest_left : j.is_left ≡ true → (cs : List Row) → IsMeant host params (λ m. left_with m j rows c) cs → (old new : List Row) (r : Result (Unit {0}) EvalFault) → Adds host params (λ m. gather (tail m terms js' tables') (with_rows [] cs)) old new r → Adds host params (λ m. tail m terms js tables c) old new r
    rest_left l cs b old new r h = adds_after (λ m. left_with m j rows c) cs (λ m. gather (tail m terms js' tables') (with_rows [] cs)) whole (λ regard k. sym (tail_left regard host params terms j js' rows tables' c cs l k) ∙ apart regard) b old new r h

    pub rest_fault : j.is_left ≡ true → (e : EvalFault) → Faults host params (λ m. left_with m j rows c) e → Faults host params (λ m. tail m terms js tables c) e
    rest_fault l e h = faults_on host params (λ m. left_with m j rows c) whole e (λ regard k. sym (apart regard) ∙ tail_fault regard host params terms j js' rows tables' c l k) h

  -- ---- one row after another

  module _ (terms : List Ordered) (js : List Joined) (tables : List (List Row)) (c : Row) (rows : List (Bor Row)) (first : List Row) where
    abbrev each_row : Meaning Ordered → Bor Row → Option (List Row)
    each_row m r = tail m terms js tables (c ++ r.now)

    abbrev all_rows : Stage (List Row)
    all_rows m = behind first (gather (tail m terms js tables) (with_rows c (map row_there rows)))

    pub each_starts : Gives host params (λ m. behind first (gather (each_row m) rows)) all_rows
    each_starts =
        gives_all host params (λ m. behind first (gather (each_row m) rows)) all_rows
        (λ regard. (let f = tail (regarded regard host params) terms js tables in ap (behind first) (sym (gather-map (λ r. c ++ r) f (map row_there rows) ∙ gather-map row_there (λ r. f (c ++ r)) rows))))

    pub each_fails : (i : ℕ) (x : Bor Row) (old : List Row) (e : EvalFault) → i < length rows → x ≡ get_or rows i x → Faults host params (λ m. each_row m x) e
        → Gives host params (λ m. behind old (gather (each_row m) (drop i rows))) all_rows → Faults host params (λ m. gather (tail m terms js tables) (with_rows c (map row_there rows))) e
    each_fails i x old e h is f g =
        faults_on host params all_rows (λ m. gather (tail m terms js tables) (with_rows c (map row_there rows))) e (λ regard k. behind_none first _ k)
        (gather_fails host params each_row all_rows rows i x old e h is f g)

  -- ---- a query's FROM and WHERE

  module _ (q : Resolved) (tables : List (List Row)) (ts : List (Bor Expr)) (js : List Joined) (same : map there ts ≡ with_quiet_first (terms_of q)) (all : js ≡ q.joined) where
    from_is : (regard : Regard) → tail (regarded regard host params) (map there ts) js tables [] ≡ joined (regarded regard host params) (query q) tables
    from_is regard i = tail (regarded regard host params) (same i) (all i) tables []

    pub joined_fault : (e : EvalFault) → Faults host params (λ m. tail m (map there ts) js tables []) e → Faults host params (λ m. joined m (query q) tables) e
    joined_fault e h = faults_on host params (λ m. tail m (map there ts) js tables []) (λ m. joined m (query q) tables) e (λ regard k. sym (from_is regard) ∙ k) h

    pub joined_both : (old new : List Row) → old ≡ [] → IsMeant host params (λ m. behind old (tail m (map there ts) js tables [])) new → IsMeant host params (λ m. joined m (query q) tables) new
    joined_both old new none h =
        meant_on host params (λ m. behind old (tail m (map there ts) js tables [])) (λ m. joined m (query q) tables) new new
        (λ regard k. sym (from_is regard) ∙ sym (behind_nil (tail (regarded regard host params) (map there ts) js tables [])) ∙ ap (λ l. behind l (tail (regarded regard host params) (map there ts) js tables [])) (sym none) ∙ k) h
