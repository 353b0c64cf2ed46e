-- Loops that gather.
use Rattle.std.proofs.Common.{◌≡◌, ◌∙◌, ℕ, ◌+◌, ◌<◌, ◌≤◌, suc, List, [], ◌∷◌, ◌++◌, length, drop, get_or, Option, Some, None, option_map, refl, sym, ap, drop-cons, add-one, append_assoc, append-nil}
use Rattle.std.proofs.lemmas.List.{drop_all}
use Rattle.cr_value.specs.declared.value.Value.{Value}
use Rattle.cr_scalar.specs.Host.{Host}
use Rattle.cr_scalar.specs.declared.fault.EvalFault.{EvalFault}
use Rattle.cr_query.specs.Query.{Meaning}
use Rattle.cr_bags.specs.Bags.{joins, gather, single}
use Rattle.cr_meaning.specs.View.{Ordered}
use Rattle.cr_meaning.specs.Meaning.{Regard, regarded}
use Rattle.cr_exec.specs.Answers.{Stage, Faults, IsMeant, behind}
use Rattle.cr_exec.proofs.Stages.{Gives, gives_all, gives_next, gives_faults, gives_meant, faults_on, meant_on, meant_always}

pub rest_at : {A : Type 0} (xs : List A) (i : ℕ) (x : A) → i < length xs → x ≡ get_or xs i x → drop i xs ≡ x ∷ drop (i + 1) xs
rest_at xs i x h e = rw (add-one, drop-cons xs i x h) (ap (λ (y : _). y ∷ drop (suc i) xs) (let s : get_or xs i x ≡ x = cc in s))

pub behind_nil : {X : Type 0} (o : Option (List X)) → behind [] o ≡ o
behind_nil None = refl
behind_nil (Some xs) = refl

pub behind_none : {X : Type 0} (old : List X) (o : Option (List X)) → behind old o ≡ None → o ≡ None
behind_none old None h = refl
behind_none old (Some xs) h = absurd cc

-- one part more stands behind
step : {X : Type 0} (old new : List X) (o p : Option (List X)) → behind old o ≡ Some new → behind new p ≡ behind old (joins o p)
step old new None p h = absurd cc
step old new (Some xs) None h = refl
step old new (Some xs) (Some ys) h = let e : old ++ xs ≡ new = cc in ap (λ l. Some l) (ap (λ l. l ++ ys) (sym e) ∙ append_assoc old xs ys)

module _ {X Y : Type 0} (host : Host) (params : List Value) (f : Meaning Ordered → X → Option (List Y)) (whole : Stage (List Y)) (xs : List X) (i : ℕ) where
  -- what is left to gather, behind what was gathered
  abbrev pub left_behind : List Y → Stage (List Y)
  left_behind old m = behind old (gather (f m) (drop i xs))

  abbrev pub left_after : List Y → Stage (List Y)
  left_after old m = behind old (gather (f m) (drop (i + 1) xs))

  cut : (old : List Y) (m : Meaning Ordered) (x : X) → i < length xs → x ≡ get_or xs i x → left_behind old m ≡ behind old (joins (f m x) (gather (f m) (drop (i + 1) xs)))
  cut old m x h e = ap (λ (ys : List X). behind old (gather (f m) ys)) (rest_at xs i x h e)

  pub gather_next : (x : X) (old new : List Y) → i < length xs → x ≡ get_or xs i x → IsMeant host params (λ m. behind old (f m x)) new
      → Gives host params (left_behind old) whole → Gives host params (left_after new) whole
  gather_next x old new h e b g =
      gives_next host params (λ m. behind old (f m x)) new (left_behind old) (left_after new) whole
      (λ regard k. step old new (f (regarded regard host params) x) (gather (f (regarded regard host params)) (drop (i + 1) xs)) k ∙ sym (cut old (regarded regard host params) x h e)) b g

  pub gather_fails : (x : X) (old : List Y) (e : EvalFault) → i < length xs → x ≡ get_or xs i x → Faults host params (λ m. f m x) e
      → Gives host params (left_behind old) whole → Faults host params whole e
  gather_fails x old e h is b g =
      gives_faults host params (left_behind old) whole e g
      (faults_on host params (λ m. f m x) (left_behind old) e
      (λ regard k. cut old (regarded regard host params) x h is ∙ ap (λ (o : Option (List Y)). behind old (joins o (gather (f (regarded regard host params)) (drop (i + 1) xs)))) k) b)

  pub gather_ends : (old : List Y) → length xs ≤ i → Gives host params (left_behind old) whole → IsMeant host params whole old
  gather_ends old h g =
      gives_meant host params (left_behind old) whole old g
      (meant_always host params (left_behind old) old
      (λ regard. ap (λ (ys : List X). behind old (gather (f (regarded regard host params)) ys)) (drop_all i xs h) ∙ ap (λ (l : List Y). Some l) (append-nil old)))

-- ---- values of which one is made for each item

-- one that is made stands behind
pub one_behind : {Y : Type 0} (host : Host) (params : List Value) (f : Stage Y) (y : Y) (old new : List Y) → new ≡ old ++ y ∷ [] → IsMeant host params f y → IsMeant host params (λ m. behind old (option_map single (f m))) new
one_behind host params f y old new is b = meant_on host params f (λ m. behind old (option_map single (f m))) y new (λ regard k. ap (λ o. behind old (option_map single o)) k ∙ ap (λ l. Some l) (sym is)) b

pub none_single : {Y : Type 0} (host : Host) (params : List Value) (f : Stage Y) (e : EvalFault) → Faults host params f e → Faults host params (λ m. option_map single (f m)) e
none_single host params f e h = faults_on host params f (λ m. option_map single (f m)) e (λ regard k. ap (option_map single) k) h

-- before the first
pub starts : {X Y : Type 0} (host : Host) (params : List Value) (f : Meaning Ordered → X → Option (List Y)) (whole : Stage (List Y)) (xs : List X) (old : List Y) → old ≡ [] → ((regard : Regard) → gather (f (regarded regard host params)) xs ≡ whole (regarded regard host params)) → Gives host params (left_behind host params f whole xs 0 old) whole
starts host params f whole xs old none k =
    gives_all host params (left_behind host params f whole xs 0 old) whole
    (λ regard. ap (λ l. behind l (gather (f (regarded regard host params)) xs)) none ∙ behind_nil (gather (f (regarded regard host params)) xs) ∙ k regard)
