-- What groups show: the one without terms, and those under terms.
use Rattle.std.proofs.Common.{◌≡◌, ◌==◌, ◌∙◌, arith, eqb-true, true, false, cond, List, [], ◌∷◌, ◌++◌, length, map, Option, Some, None, append-nil, refl, sym, ap}
use Rattle.std.specs.Option.{option_map, option_and_then}
use Rattle.std.specs.Borrow.{Bor}
use Rattle.cr_value.specs.declared.value.Value.{Value}
use Rattle.cr_term.specs.declared.expr.Expr.{Expr}
use Rattle.cr_term.specs.declared.query.GroupTerm.{GroupTerm}
use Rattle.cr_scalar.specs.Host.{Host}
use Rattle.cr_bags.specs.Bags.{joins, gather, each, single}
use Rattle.cr_query.specs.Queries.{Shown}
use Rattle.cr_query.specs.Query.{Row, Group, Meaning, has, groups, groups_of, keyed}
use Rattle.cr_meaning.specs.View.{Ordered, plain, group_term}
use Rattle.cr_meaning.specs.Meaning.{Regard, regarded}
use Rattle.cr_exec.specs.Answers.{Stage, IsMeant, behind}
use Rattle.cr_exec.specs.Groups.{judged_by, shows_by}
use Rattle.cr_exec.specs.Scopes.{in_scope}
use Rattle.cr_exec.specs.declared.value.Scope.{Scope}
use Rattle.cr_exec.proofs.Loops.{behind_nil}
use Rattle.cr_exec.proofs.Stages.{meant_after, meant_on}

joins_nil : {X : Type 0} (o : Option (List X)) → joins o (Some []) ≡ o
joins_nil None = refl
joins_nil (Some xs) = ap Some (append-nil xs)

module _ (host : Host) (params : List Value) where
  -- what stands behind nothing stands alone
  pub from_nothing : {X Y : Type 0} (f : Stage (List Y)) (none : List X) (shown : X → Y) (new : List Y) → none ≡ [] → IsMeant host params (λ m. behind (map shown none) (f m)) new → IsMeant host params f new
  from_nothing f none shown new is b =
      meant_on host params (λ m. behind (map shown none) (f m)) f new new
      (λ regard k. sym (behind_nil (f (regarded regard host params))) ∙ sym (ap (λ l. behind (map shown l) (f (regarded regard host params))) is) ∙ k) b

  -- a group that has what HAVING asks shows its results behind what there was
  pub judged_shown : (scope : Scope) (having : Option Expr) (results keys : List (Bor Expr)) (old : List Shown) (s : Shown) (new : List Shown) → new ≡ old ++ s ∷ []
      → IsMeant host params (λ m. has m (option_map plain having) (in_scope m scope)) true → IsMeant host params (λ m. shows_by (in_scope m scope) results keys) s
      → IsMeant host params (λ m. behind old (judged_by m (in_scope m scope) having results keys)) new
  judged_shown scope having results keys old s new is so shows =
      meant_after host params (λ m. has m (option_map plain having) (in_scope m scope)) true (λ m. shows_by (in_scope m scope) results keys) s
      (λ m. behind old (judged_by m (in_scope m scope) having results keys)) new
      (λ regard wanted shown. (λ i. behind old (option_and_then (λ b. cond b (option_map single (shown i)) (Some [])) (wanted i))) ∙ ap (λ l. Some l) (sym is)) so shows

  module _ (terms : List GroupTerm) (cs : List Row) (having : Option Expr) (results keys : List (Bor Expr)) where
    abbrev judges : Meaning Ordered → Group → Option (List Shown)
    judges m g = judged_by m (λ e. m.over e g) having results keys

    abbrev alone : Group
    alone = record { shown = []; members = cs }

    -- without terms there is one group
    pub one_group : (length terms == 0) ≡ true → (regard : Regard) → judges (regarded regard host params) alone ≡ option_and_then (gather (judges (regarded regard host params))) (groups (regarded regard host params) (map group_term terms) cs)
    one_group empty regard = by terms empty where
      by : (ts : List GroupTerm) → (length ts == 0) ≡ true → judges (regarded regard host params) alone ≡ option_and_then (gather (judges (regarded regard host params))) (groups (regarded regard host params) (map group_term ts) cs)
      by [] e = sym (joins_nil (judges (regarded regard host params) alone))
      by (t ∷ ts) e = (let none : length (t ∷ ts) ≡ 0 = eqb-true (length (t ∷ ts)) 0 e in absurd (omega (arith, none)))

    pub under_terms : (length terms == 0) ≡ false → (regard : Regard)
        → option_and_then (gather (judges (regarded regard host params))) (option_map (groups_of (regarded regard host params) (map group_term terms)) (each (keyed (regarded regard host params) (map group_term terms)) cs))
        ≡ option_and_then (gather (judges (regarded regard host params))) (groups (regarded regard host params) (map group_term terms) cs)
    under_terms some regard = by terms some where
      by : (ts : List GroupTerm) → (length ts == 0) ≡ false
          → option_and_then (gather (judges (regarded regard host params))) (option_map (groups_of (regarded regard host params) (map group_term ts)) (each (keyed (regarded regard host params) (map group_term ts)) cs))
          ≡ option_and_then (gather (judges (regarded regard host params))) (groups (regarded regard host params) (map group_term ts) cs)
      by [] e = absurd cc
      by (t ∷ ts) e = refl
