-- Rows of a source that are read one after another.
use Rattle.std.proofs.Common.{◌≡◌, ◌∙◌, ℕ, suc, ◌-◌, arith, true, false, List, [], ◌∷◌, length, map, Option, Err}
use Rattle.std.proofs.Common.{refl, sym, ap, subst, map-id}
use Rattle.std.specs.List.{zip}
use Rattle.std.specs.Borrow.{Bor}
use Rattle.std.specs.Option.{option_and_then}
use Rattle.cr_value.specs.declared.value.Value.{Value}
use Rattle.cr_scalar.specs.Host.{Host}
use Rattle.cr_scalar.specs.declared.fault.EvalFault.{EvalFault}
use Rattle.cr_term.specs.declared.expr.Expr.{Expr}
use Rattle.cr_term.specs.declared.query.Joined.{Joined}
use Rattle.cr_term.specs.declared.query.Query.{Query as Resolved}
use Rattle.cr_bags.specs.Bags.{gather, those, single}
use Rattle.cr_query.specs.Query.{Row, Meaning, all_true, joined}
use Rattle.cr_meaning.specs.Meaning.{Regard, regarded}
use Rattle.cr_meaning.specs.View.{Ordered, query, terms as terms_of}
use Rattle.cr_module.specs.Lawful.{first_row, is_at_end, rest_of}
use Rattle.cr_module.specs.Reading.{tables_between}
use Rattle.cr_exec.specs.declared.source.Source.{Source}
use Rattle.cr_exec.specs.declared.streamed.SourceFault.{SourceFault}
use Rattle.cr_exec.specs.declared.streamed.SourceFault.TheVariants.{Eval, Store}
use Rattle.cr_exec.specs.Answers.{Stage, Faults, IsMeant, behind}
use Rattle.cr_exec.specs.Combinations.{tail}
use Rattle.cr_exec.specs.LookUps.{join_of, joined_rows, rows_of}
use Rattle.cr_exec.specs.Scopes.{there}
use Rattle.cr_exec.specs.Streamed.{AddsRead}
use Rattle.cr_exec.specs.Tails.{with_quiet_first}
use Rattle.cr_exec.proofs.LeftOut.{combined_zip}
use Rattle.cr_exec.proofs.Loops.{behind_none, gather_next, gather_fails, gather_ends}
use Rattle.cr_exec.proofs.Stages.{Gives, gives_all, faults_on, meant_on}
use Rattle.cr_exec.proofs.Tails.{tail_inner, joined_fault, joined_both}

-- ---- one row after another

module _ {Y : Type 0} (host : Host) (params : List Value)
    (f : Meaning Ordered → Row → Option (List Y)) (all : Stage (List Y)) (first : List Y) where
  -- what is left to gather, behind what was gathered
  abbrev left_behind : List Row → List Y → Stage (List Y)
  left_behind left old m = behind old (gather (f m) left)

  -- all of it, behind what there was
  abbrev whole : Stage (List Y)
  whole m = behind first (all m)

  -- before the first row
  pub read_starts : (left rows : List Row) → left ≡ rows → ((m : Meaning Ordered) → gather (f m) rows ≡ all m)
      → Gives host params (left_behind left first) whole
  read_starts left rows is k =
      gives_all host params (left_behind left first) whole
      (λ regard. (let m = regarded regard host params in ap (λ (rs : List Row). left_behind rs first m) is ∙ ap (behind first) (k m)))

  -- behind one more
  pub read_next : (left after : List Row) (row : Row) (old new : List Y) → is_at_end left ≡ false
      → row ≡ first_row left → after ≡ rest_of left → IsMeant host params (λ m. behind old (f m row)) new
      → Gives host params (left_behind left old) whole → Gives host params (left_behind after new) whole
  read_next [] after row old new some is next b g = absurd (let z : ⊥ = cc in z)
  read_next (r ∷ rs) after row old new some is next b g =
      subst (λ (rows : List Row). Gives host params (left_behind rows new) whole) (sym next)
      (gather_next host params f whole (r ∷ rs) 0 row old new (omega arith) is b g)

  -- where one comes to a fault
  pub read_fails : (left : List Row) (row : Row) (old : List Y) (e : EvalFault) → is_at_end left ≡ false
      → row ≡ first_row left → Faults host params (λ m. f m row) e
      → Gives host params (left_behind left old) whole → Faults host params all e
  read_fails [] row old e some is b g = absurd (let z : ⊥ = cc in z)
  read_fails (r ∷ rs) row old e some is b g =
      faults_on host params whole all e (λ regard k. behind_none first _ k)
      (gather_fails host params f whole (r ∷ rs) 0 row old e (omega arith) is b g)

  -- behind the last
  pub read_ends : (left : List Row) (old : List Y) → is_at_end left ≡ true
      → Gives host params (left_behind left old) whole → IsMeant host params whole old
  read_ends [] old none g = gather_ends host params f whole [] 0 old (omega arith) g
  read_ends (r ∷ rs) old none g = absurd (let z : ⊥ = cc in z)

-- ---- a query's FROM, of which the first table is read row by row

module _ (host : Host) (params : List Value)
    (q : Resolved) (j : Joined) (js : List Joined) (parts : q.joined ≡ j ∷ js) (inner : j.is_left ≡ false)
    (ts : List (Bor Expr)) (same : map there ts ≡ with_quiet_first (terms_of q)) (rows now : ℕ → List Row) (stay : now ≡ rows)
    (tables : List (List Row)) (read : tables ≡ tables_between rows 1 (length q.joined - 1))
    (sources : List Source) (zipped : map joined_rows sources ≡ zip js tables) where
  abbrev terms : List Ordered
  terms = map there ts

  -- what is read
  abbrev read_rows : Stage (List Row)
  read_rows m = gather (tail m terms (map join_of sources) (map rows_of sources)) (now 0)

  abbrev all_tables : List (List Row)
  all_tables = tables_between rows 0 (length q.joined)

  -- what is asked
  abbrev wanted : Stage (List Row)
  wanted m = joined m (query q) all_tables

  count : length q.joined ≡ suc (length js)
  count = ap (λ (l : List Joined). length l) parts

  all_are : rows 0 ∷ tables ≡ all_tables
  all_are =
      let later : length q.joined - 1 ≡ length js = omega (arith, count) in
      ap (λ (l : List (List Row)). rows 0 ∷ l) (read ∙ ap (λ (k : ℕ). tables_between rows 1 k) later)
      ∙ ap (λ (k : ℕ). tables_between rows 0 k) (sym count)

  -- a row with those of the later tables
  one_is : (m : Meaning Ordered) (c : Row)
      → tail m terms (map join_of sources) (map rows_of sources) c ≡ tail m terms js tables c
  one_is m c = ap (option_and_then (those (all_true m terms))) (combined_zip m js tables sources (single c) zipped)

  -- all tables as lists
  abbrev in_order : Stage (List Row)
  in_order m = tail m terms q.joined all_tables []

  read_is : (regard : Regard) → read_rows (regarded regard host params) ≡ in_order (regarded regard host params)
  read_is regard =
      let m = regarded regard host params in
      (λ i. gather (λ c. one_is m c i) (stay i 0))
      ∙ ap (gather (tail m terms js tables)) (sym (map-id (rows 0)))
      ∙ sym (tail_inner regard host params terms j js (rows 0) tables [] inner)
      ∙ (λ i. tail m terms (sym parts i) (all_are i) [])

  pub read_fault : (old new : List Row) (f : SourceFault)
      → AddsRead host params read_rows old new (Err f) → AddsRead host params wanted old new (Err f)
  read_fault old new (Eval e) h =
      joined_fault host params q all_tables ts q.joined same refl e
      (faults_on host params read_rows in_order e (λ regard k. sym (read_is regard) ∙ k) h)
  read_fault old new Store h = tt

  pub read_both : (old new : List Row) → old ≡ []
      → IsMeant host params (λ m. behind old (read_rows m)) new → IsMeant host params wanted new
  read_both old new none h =
      joined_both host params q all_tables ts q.joined same refl old new none
      (meant_on host params (λ m. behind old (read_rows m)) (λ m. behind old (in_order m)) new new
      (λ regard k. ap (behind old) (sym (read_is regard)) ∙ k) h)
