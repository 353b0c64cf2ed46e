-- From keyed combinations to the groups of a query, and what they show.
use Rattle.std.proofs.Common.{◌≡◌, ◌∙◌, List, [], ◌∷◌, map, Option, Some, option_map, Result, Ok, Err, refl, sym, ap}
use Rattle.std.specs.Prelude.{filter}
use Rattle.std.specs.Option.{option_and_then}
use Rattle.std.specs.Borrow.{Bor}
use Rattle.std.specs.Ordering.{is_eq}
use Rattle.cr_value.specs.declared.value.Value.{Value}
use Rattle.cr_scalar.specs.Host.{Host}
use Rattle.cr_term.specs.declared.expr.Expr.{Expr}
use Rattle.cr_term.specs.declared.query.GroupTerm.{GroupTerm}
use Rattle.cr_bags.specs.Bags.{gather, each, single, sort, firsts}
use Rattle.cr_bags.proofs.SortLaws.{sort_same}
use Rattle.cr_scalar.specs.declared.fault.EvalFault.{EvalFault}
use Rattle.cr_query.specs.Queries.{Shown}
use Rattle.cr_query.specs.Query.{Row, Group, Meaning, row_cmp, by_exprs, group_at, groups_of, keyed}
use Rattle.cr_query.proofs.PlanLaws.{gather-map}
use Rattle.cr_meaning.specs.View.{Ordered, group_term}
use Rattle.cr_meaning.specs.Meaning.{Regard, regarded}
use Rattle.cr_exec.specs.Answers.{Stage, Faults, IsMeant, Answers}
use Rattle.cr_exec.specs.declared.group.Keyed.{Keyed}
use Rattle.cr_exec.specs.Comparisons.{ValueOrder, by_orders, group_order}
use Rattle.cr_exec.specs.Groups.{group_expr, judged_by, keyed_by, key_of, pair_of, group_of, IsByClass}
use Rattle.cr_exec.specs.Scopes.{there}
use Rattle.cr_exec.specs.Shows.{ties_by}
use Rattle.cr_exec.proofs.Stages.{faults_on, meant_on, faults_after, meant_after}
use Rattle.cr_exec.proofs.Orders.{groups_compare, row_total, row_exact}

module _ (host : Host) (params : List Value) where
  pub keyed_both : (exprs : List (Bor Expr)) (d c : Row) (k : Row) → d ≡ c → IsMeant host params (λ m. each (λ e. m.value e d) (map there exprs)) k → IsMeant host params (λ m. keyed_by m exprs c) (k, c)
  keyed_both exprs d c k is b =
      meant_on host params (λ m. each (λ e. m.value e d) (map there exprs)) (λ m. keyed_by m exprs c) k (k, c)
      (λ regard h. ap (λ (r : Row). keyed_by (regarded regard host params) exprs r) (sym is) ∙ ap (option_map (λ k. (k, d))) h ∙ ap (λ (r : Row). Some (k, r)) is) b

  pub keyed_fault : (exprs : List (Bor Expr)) (d c : Row) (e : EvalFault) → d ≡ c → Faults host params (λ m. each (λ e. m.value e d) (map there exprs)) e → Faults host params (λ m. keyed_by m exprs c) e
  keyed_fault exprs d c e is h =
      faults_on host params (λ m. each (λ e. m.value e d) (map there exprs)) (λ m. keyed_by m exprs c) e
      (λ regard h. ap (λ (r : Row). keyed_by (regarded regard host params) exprs r) (sym is) ∙ ap (option_map (λ k. (k, d))) h) h

  pub answers_on : {X Y : Type 0} (f g : Stage Y) (view : X → Y) → ((regard : Regard) → f (regarded regard host params) ≡ g (regarded regard host params)) → (r : Result X EvalFault) → Answers host params r view f → Answers host params r view g
  answers_on f g view k (Ok x) h = meant_on host params f g (view x) (view x) (λ regard e. sym (k regard) ∙ e) h
  answers_on f g view k (Err e) h = faults_on host params f g e (λ regard n. sym (k regard) ∙ n) h

  pub answers_after : {X Y Z : Type 0} (p : Stage Z) (z : Z) (f g : Stage Y) (view : X → Y) → ((regard : Regard) → p (regarded regard host params) ≡ Some z → f (regarded regard host params) ≡ g (regarded regard host params))
      → IsMeant host params p z → (r : Result X EvalFault) → Answers host params r view f → Answers host params r view g
  answers_after p z f g view k b (Ok x) h = meant_after host params p z f (view x) g (view x) (λ regard e q. sym (k regard e) ∙ q) b h
  answers_after p z f g view k b (Err e) h = faults_after host params p z f g e (λ regard q n. sym (k regard q) ∙ n) b h

  -- ---- groups under terms

  abbrev pub judges : Meaning Ordered → Option Expr → List (Bor Expr) → List (Bor Expr) → Group → Option (List Shown)
  judges m having results keys g = judged_by m (λ e. m.over e g) having results keys

  abbrev pub grouped_by : List GroupTerm → Option Expr → List (Bor Expr) → List (Bor Expr) → List Row → Stage (List Shown)
  grouped_by gs having results keys cs m = option_and_then (gather (judges m having results keys)) (option_map (groups_of m (map group_term gs)) (each (keyed m (map group_term gs)) cs))

  keys_through : (ks : List Keyed) → map (λ p. p.0) (map pair_of ks) ≡ map key_of ks
  keys_through [] = refl
  keys_through (k ∷ ks) = ap (λ (l : List Row). k.key ∷ l) (keys_through ks)

  module _ (gs : List GroupTerm) (exprs : List (Bor Expr)) (same : map there exprs ≡ map group_expr gs) (cs : List Row) where
    values_same : (regard : Regard) (c : Row) → each (λ e. (regarded regard host params).value e c) (map group_term gs) ≡ each (λ e. (regarded regard host params).value e c) (map there exprs)
    values_same regard c =
        gather-map group_term (λ e. option_map single ((regarded regard host params).value e c)) gs
        ∙ sym (gather-map group_expr (λ e. option_map single ((regarded regard host params).value e c)) gs)
        ∙ ap (each (λ e. (regarded regard host params).value e c)) (sym same)

    keyed_same : (regard : Regard) → each (keyed (regarded regard host params) (map group_term gs)) cs ≡ each (keyed_by (regarded regard host params) exprs) cs
    keyed_same regard i = each (λ c. option_map (λ k. (k, c)) (values_same regard c i)) cs

    module _ (having : Option Expr) (results keys : List (Bor Expr)) where
      pub under_fault : (e : EvalFault) → Faults host params (λ m. each (keyed_by m exprs) cs) e → Faults host params (grouped_by gs having results keys cs) e
      under_fault e h =
          faults_on host params (λ m. each (keyed_by m exprs) cs) (grouped_by gs having results keys cs) e
          (λ regard n. ap (λ o. option_and_then (gather (judges (regarded regard host params) having results keys)) (option_map (groups_of (regarded regard host params) (map group_term gs)) o)) (keyed_same regard ∙ n)) h

      module _ (Rs : List ValueOrder) (orders : Rs ≡ map (group_order host.order) gs) (keyed grouped : List Keyed) (by : IsByClass Rs keyed grouped) (classes : List Row) (classed : classes ≡ firsts (ties_by Rs) (sort row_cmp (map key_of grouped))) where
        order_is : (regard : Regard) → by_exprs (regarded regard host params) (map group_term gs) ≡ by_orders Rs
        order_is regard = groups_compare regard host params gs ∙ ap by_orders (sym orders)

        classes_are : firsts (ties_by Rs) (sort row_cmp (map key_of keyed)) ≡ classes
        classes_are = ap (firsts (ties_by Rs)) (sym (sort_same row_cmp row_total row_exact by.keys)) ∙ sym classed

        under_is : (regard : Regard) → each (keyed_by (regarded regard host params) exprs) cs ≡ Some (map pair_of keyed) → gather (λ k. judges (regarded regard host params) having results keys (group_of Rs (map pair_of grouped) k)) classes ≡ grouped_by gs having results keys cs (regarded regard host params)
        under_is regard h =
            let m = regarded regard host params in
            let pairs = map pair_of keyed in
            sym (
            ap (λ o. option_and_then (gather (judges m having results keys)) (option_map (groups_of m (map group_term gs)) o)) (keyed_same regard ∙ h)
            ∙ gather-map (group_at m (map group_term gs) pairs) (judges m having results keys) (firsts (λ a b. is_eq (by_exprs m (map group_term gs) a b)) (sort row_cmp (map (λ p. p.0) pairs)))
            ∙ (λ i. gather (λ k. judges m having results keys (record { shown = k; members = map (λ p. p.1) (filter (λ p. is_eq (order_is regard i k p.0)) pairs) })) (firsts (λ a b. is_eq (order_is regard i a b)) (sort row_cmp (keys_through keyed i))))
            ∙ (λ i. gather (λ k. judges m having results keys (record { shown = k; members = sym (by.members k) i })) (classes_are i)))

        pub under_answers : {X : Type 0} (view : X → List Shown) → IsMeant host params (λ m. each (keyed_by m exprs) cs) (map pair_of keyed) → (r : Result X EvalFault)
            → Answers host params r view (λ m. gather (λ k. judges m having results keys (group_of Rs (map pair_of grouped) k)) classes) → Answers host params r view (grouped_by gs having results keys cs)
        under_answers view b r h =
            answers_after (λ m. each (keyed_by m exprs) cs) (map pair_of keyed) (λ m. gather (λ k. judges m having results keys (group_of Rs (map pair_of grouped) k)) classes) (grouped_by gs having results keys cs) view under_is b r h
