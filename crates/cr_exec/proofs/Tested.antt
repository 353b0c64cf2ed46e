-- Terms pushed behind one another, and tested from left to right.
use Rattle.std.proofs.Common.{◌≡◌, ◌∙◌, ℕ, ◌+◌, ◌<◌, ◌≤◌, Bool, true, false, cond, List, [], ◌∷◌, ◌++◌, length, drop, map, get_or, Option, Some, None, sym, ap, append_assoc, append-nil}
use Rattle.std.specs.Prelude.{filter}
use Rattle.std.specs.List.{flat_map}
use Rattle.std.proofs.lemmas.List.{drop_all}
use Rattle.std.proofs.lemmas.List.Elements.{filter-append}
use Rattle.std.proofs.lemmas.List.Concat.{flat_map-cons}
use Rattle.std.specs.Borrow.{Bor}
use Rattle.cr_value.specs.declared.value.Value.{Value}
use Rattle.cr_scalar.specs.Host.{Host}
use Rattle.cr_term.specs.declared.expr.Expr.{Expr}
use Rattle.cr_term.specs.declared.query.Joined.{Joined}
use Rattle.cr_scalar.specs.declared.fault.EvalFault.{EvalFault}
use Rattle.cr_query.specs.Query.{Row, Meaning, is_true, and_so, all_true}
use Rattle.cr_meaning.specs.View.{Ordered, plain, inner_terms}
use Rattle.cr_meaning.specs.Meaning.{regarded}
use Rattle.cr_exec.specs.Answers.{Stage, Faults, IsMeant}
use Rattle.cr_exec.specs.Scopes.{there}
use Rattle.cr_exec.specs.Tails.{of_kind, with_quiet_first}
use Rattle.cr_exec.proofs.Stages.{Gives, gives_next, gives_faults, gives_meant, faults_on, meant_on, meant_always}
use Rattle.cr_exec.proofs.Loops.{rest_at}

-- ---- pushed

chosen : (p : Ordered → Bool) (e : Ordered) (es : List Ordered) (b : Bool) → p e ≡ b → filter p (e ∷ es) ≡ cond b (e ∷ filter p es) (filter p es)
chosen p e es b h = ap (λ c. cond c (e ∷ filter p es) (filter p es)) h

-- one that is of the kind, and one that isn't
pub is_pushed : (p : Ordered → Bool) (e : Ordered) (old new : List Ordered) → p e ≡ true → new ≡ old ++ e ∷ [] → new ≡ old ++ filter p (e ∷ [])
is_pushed p e old new k n = n ∙ ap (λ (l : List Ordered). old ++ l) (sym (chosen p e [] true k))

pub is_passed : (p : Ordered → Bool) (e : Ordered) (old : List Ordered) → p e ≡ false → old ≡ old ++ filter p (e ∷ [])
is_passed p e old k = sym (ap (λ (l : List Ordered). old ++ l) (chosen p e [] false k) ∙ append-nil old)

pub term_pushed : (p : Ordered → Bool) (terms : List Expr) (i : ℕ) (x : Expr) (old new whole : List Ordered) → i < length terms → x ≡ get_or terms i x → new ≡ old ++ filter p (plain x ∷ [])
    → old ++ filter p (map plain (drop i terms)) ≡ whole → new ++ filter p (map plain (drop (i + 1) terms)) ≡ whole
term_pushed p terms i x old new whole h is k w =
    let more = map plain (drop (i + 1) terms) in
    ap (λ (l : List Ordered). l ++ filter p more) k
    ∙ append_assoc old (filter p (plain x ∷ [])) (filter p more)
    ∙ ap (λ (l : List Ordered). old ++ l) (sym (filter-append p (plain x ∷ []) more))
    ∙ ap (λ (l : List Expr). old ++ filter p (map plain l)) (sym (rest_at terms i x h is)) ∙ w

pub inner_pushed : (p : Ordered → Bool) (joined : List Joined) (i : ℕ) (x : Joined) (old new whole : List Ordered) → i < length joined → x ≡ get_or joined i x → new ≡ old ++ filter p (inner_terms x)
    → old ++ filter p (flat_map inner_terms (drop i joined)) ≡ whole → new ++ filter p (flat_map inner_terms (drop (i + 1) joined)) ≡ whole
inner_pushed p joined i x old new whole h is k w =
    let more = flat_map inner_terms (drop (i + 1) joined) in
    ap (λ (l : List Ordered). l ++ filter p more) k
    ∙ append_assoc old (filter p (inner_terms x)) (filter p more)
    ∙ ap (λ (l : List Ordered). old ++ l) (sym (filter-append p (inner_terms x) more))
    ∙ ap (λ (l : List Ordered). old ++ filter p l) (sym (flat_map-cons inner_terms x (drop (i + 1) joined)))
    ∙ ap (λ (l : List Joined). old ++ filter p (flat_map inner_terms l)) (sym (rest_at joined i x h is)) ∙ w

-- the quiet ones of two lists and then the others
pub both_kinds : (xs ys a b c d : List Ordered) → a ≡ filter (of_kind true) xs → b ≡ a ++ filter (of_kind true) ys → c ≡ b ++ filter (of_kind false) xs → d ≡ c ++ filter (of_kind false) ys → d ≡ with_quiet_first (xs ++ ys)
both_kinds xs ys a b c d ea eb ec ed =
    let t : b ≡ filter (of_kind true) (xs ++ ys) = eb ∙ ap (λ (l : List Ordered). l ++ filter (of_kind true) ys) ea ∙ sym (filter-append (of_kind true) xs ys) in
    ed ∙ ap (λ (l : List Ordered). l ++ filter (of_kind false) ys) ec
    ∙ append_assoc b (filter (of_kind false) xs) (filter (of_kind false) ys)
    ∙ (λ i. t i ++ sym (filter-append (of_kind false) xs ys) i)

-- ---- tested

module _ (host : Host) (params : List Value) (terms : List (Bor Expr)) (i : ℕ) (c : Row) where
  abbrev pub rest_true : Stage Bool
  rest_true m = all_true m (map there (drop i terms)) c

  abbrev pub after_true : Stage Bool
  after_true m = all_true m (map there (drop (i + 1) terms)) c

  abbrev pub whole_true : Stage Bool
  whole_true m = all_true m (map there terms) c

  first : (m : Meaning Ordered) (x : Bor Expr) → i < length terms → x ≡ get_or terms i x → rest_true m ≡ and_so (is_true m (there x) c) (after_true m)
  first m x h is = ap (λ (l : List (Bor Expr)). all_true m (map there l) c) (rest_at terms i x h is)

  decided : (m : Meaning Ordered) (x : Bor Expr) (o : Option Bool) → i < length terms → x ≡ get_or terms i x → is_true m (there x) c ≡ o → rest_true m ≡ and_so o (after_true m)
  decided m x o h is k = first m x h is ∙ ap (λ (b : Option Bool). and_so b (after_true m)) k

  pub true_next : (x : Bor Expr) → i < length terms → x ≡ get_or terms i x → IsMeant host params (λ m. is_true m (there x) c) true
      → Gives host params rest_true whole_true → Gives host params after_true whole_true
  true_next x h is b g =
      gives_next host params (λ m. is_true m (there x) c) true rest_true after_true whole_true
      (λ regard k. sym (decided (regarded regard host params) x (Some true) h is k)) b g

  pub true_stops : (x : Bor Expr) → i < length terms → x ≡ get_or terms i x → IsMeant host params (λ m. is_true m (there x) c) false
      → Gives host params rest_true whole_true → IsMeant host params whole_true false
  true_stops x h is b g =
      gives_meant host params rest_true whole_true false g
      (meant_on host params (λ m. is_true m (there x) c) rest_true false false (λ regard k. decided (regarded regard host params) x (Some false) h is k) b)

  pub true_fails : (x : Bor Expr) (e : EvalFault) → i < length terms → x ≡ get_or terms i x → Faults host params (λ m. is_true m (there x) c) e
      → Gives host params rest_true whole_true → Faults host params whole_true e
  true_fails x e h is b g =
      gives_faults host params rest_true whole_true e g
      (faults_on host params (λ m. is_true m (there x) c) rest_true e (λ regard k. decided (regarded regard host params) x None h is k) b)

  pub true_ends : length terms ≤ i → Gives host params rest_true whole_true → IsMeant host params whole_true true
  true_ends h g =
      gives_meant host params rest_true whole_true true g
      (meant_always host params rest_true true (λ regard. ap (λ (l : List (Bor Expr)). all_true (regarded regard host params) (map there l) c) (drop_all i terms h)))
