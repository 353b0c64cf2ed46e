-- Rows of a joined table that come to nothing, whatever stands on either side of them, may be left out of it.
use Rattle.std.proofs.Common.{◌≡◌, ◌⊎◌, inl, inr, ◌∙◌, ℕ, zero, suc, ◌+◌, arith, Bool, true, false, not, ◌||◌, cond, List, [], ◌∷◌, ◌++◌, length, length-append, append_assoc, append-nil, map, Option, Some, None, option_map, refl, sym, ap, subst}
use Rattle.std.specs.Prelude.{filter}
use Rattle.std.specs.List.{list_any, list_all, AllByRecursion}
use Rattle.std.specs.Option.{option_and_then}
use Rattle.std.proofs.lemmas.List.{map-append}
use Rattle.cr_value.specs.declared.value.Value.{Value}
use Rattle.cr_lattice.proofs.Tested.{and_true}
use Rattle.cr_delta.proofs.Among.{Among}
use Rattle.cr_term.specs.declared.expr.Expr.{Expr}
use Rattle.cr_term.specs.declared.query.Joined.{Joined}
use Rattle.cr_term.specs.declared.query.Query.{Query}
use Rattle.cr_term.specs.Terms.{quiet}
use Rattle.cr_scalar.specs.Host.{Host}
use Rattle.cr_bags.specs.Bags.{joins, gather, those, single}
use Rattle.cr_query.specs.Queries.{Joining}
use Rattle.cr_query.specs.Query.{Row, Meaning, is_true, and_so, all_true, quiet_first, holds, nulls, with_rows, or_padded, joined_with, combined, shown, finished, answer}
use Rattle.cr_query.specs.Plans.{QuietIsSafe}
use Rattle.cr_query.proofs.PlanLaws.{gather-map, joins-nil_right}
use Rattle.cr_query.proofs.JoinLaws.{tail, combined-tail}
use Rattle.cr_meaning.specs.View.{Ordered}
use Rattle.cr_meaning.specs.View as view
use Rattle.cr_meaning.specs.Meaning.{Regard, regarded}
use Rattle.cr_meaning.proofs.Limits.{safe}
use Rattle.cr_sought.specs.Joins.{AreWide, is_safe, width, widths}
use Rattle.cr_sought.proofs.Gathered.{all_append, gathered}
use Rattle.cr_sought.proofs.Pins.{is_missed, missed_rejects}

-- ---- members

pub each_member : {A : Type 0} (P : A → Type 0) (xs : List A) → ((x : A) → Among xs x → P x) → AllByRecursion P xs
each_member P [] f = tt
each_member P (x ∷ xs) f = (f x (inl refl), each_member P xs (λ y m. f y (inr m)))

pub member_holds : {A : Type 0} (P : A → Type 0) (xs : List A) → AllByRecursion P xs → (x : A) → Among xs x → P x
member_holds P [] all x m = absurd m
member_holds P (y ∷ ys) all x m = elim m [
  | inl is ↦ subst P (sym is) all.0
  | inr rest ↦ member_holds P ys all.1 x rest
]

member_all : {A : Type 0} (P Q : A → Type 0) → ((x : A) → P x → Q x) → (xs : List A) → AllByRecursion P xs → AllByRecursion Q xs
member_all P Q f [] all = tt
member_all P Q f (x ∷ xs) all = (f x all.0, member_all P Q f xs all.1)

-- what f and g give alike of each member, they gather alike
gather_alike : {A B : Type 0} (f g : A → Option (List B)) (xs : List A) → AllByRecursion (λ x. f x ≡ g x) xs → gather f xs ≡ gather g xs
gather_alike f g [] all = refl
gather_alike f g (x ∷ xs) all = λ i. joins (all.0 i) (gather_alike f g xs all.1 i)

nothing_first : {B : Type 0} (o : Option (List B)) → joins (Some []) o ≡ o
nothing_first None = refl
nothing_first (Some us) = refl

-- members that give nothing may be left out
pub gather_left : {A B : Type 0} (f : A → Option (List B)) (p : A → Bool) (xs : List A) → AllByRecursion (λ x. p x ≡ false → f x ≡ Some []) xs
    → gather f xs ≡ gather f (filter p xs)
gather_left f p [] all = refl
gather_left f p (x ∷ xs) all =
    elim (p x) as (λ b. p x ≡ b → gather f (x ∷ xs) ≡ gather f (cond b (x ∷ filter p xs) (filter p xs))) [
      | true ↦ λ so. ap (joins (f x)) (gather_left f p xs all.1)
      | false ↦ λ not_so. ap (λ o. joins o (gather f xs)) (all.0 not_so) ∙ nothing_first (gather f xs) ∙ gather_left f p xs all.1
    ] refl

gather_empty : {A B : Type 0} (f : A → Option (List B)) (xs : List A) → AllByRecursion (λ x. f x ≡ Some []) xs → gather f xs ≡ Some []
gather_empty f [] all = refl
gather_empty f (x ∷ xs) all = λ i. joins (all.0 i) (gather_empty f xs all.1 i)

-- ---- the rows that a join puts behind a combination

-- a row of the table, or the NULLs in the place of one
abbrev pub IsRowOf : Joined → List Row → Row → Type 0
IsRowOf j t r = Among t r ⊎ ((j.is_left ≡ true) × (r ≡ nulls (width j)))

-- a combination with such a row
abbrev IsWith : Joined → List Row → Row → Row → Type 0
IsWith j t c d = (r : Row) × IsRowOf j t r × (d ≡ c ++ r)

-- a combination that rows of these tables make behind another
abbrev pub Made : List Joined → List (List Row) → Row → Row → Type 0
Made [] ts c f = f ≡ c
Made (j ∷ js) [] c f = ⊥
Made (j ∷ js) (t ∷ ts) c f = (r : Row) × IsRowOf j t r × Made js ts (c ++ r) f

with_each : (j : Joined) (t : List Row) (c : Row) (rs : List Row) → ((r : Row) → Among rs r → Among t r) → AllByRecursion (IsWith j t c) (with_rows c rs)
with_each j t c [] of = tt
with_each j t c (r ∷ rs) of = ((r, inl (of r (inl refl)), refl), with_each j t c rs (λ s m. of s (inr m)))

-- those are among all
one_of : {A : Type 0} (P : A → Type 0) (x : A) (vs : List A) → P x → (o : Option Bool) → option_map (λ b. cond b (single x) []) o ≡ Some vs → AllByRecursion P vs
one_of P x vs h None k = absurd cc
one_of P x vs h (Some true) k = let is : single x ≡ vs = cc in subst (AllByRecursion P) is (h, tt)
one_of P x vs h (Some false) k = let is : [] ≡ vs = cc in subst (AllByRecursion P) is tt

those_of : {A : Type 0} (P : A → Type 0) (p : A → Option Bool) (xs us : List A) → AllByRecursion P xs → those p xs ≡ Some us → AllByRecursion P us
those_of P p xs us all e = gathered P P (λ x. option_map (λ b. cond b (single x) []) (p x)) (λ x vs h k. one_of P x vs h (p x) k) xs us all e

-- ---- how long a combination is

length-nulls : (n : ℕ) → length (nulls n) ≡ n
length-nulls zero = refl
length-nulls (suc n) = ap suc (length-nulls n)

pub row_wide : (j : Joined) (t : List Row) → AllByRecursion (λ r. length r ≡ width j) t → (r : Row) → IsRowOf j t r → length r ≡ width j
row_wide j t wide r (inl m) = member_holds (λ r. length r ≡ width j) t wide r m
row_wide j t wide r (inr n) = ap length n.1 ∙ length-nulls (width j)

made_longer : (before : List Joined) (front : List (List Row)) (c f : Row) → AreWide before front → Made before front c f
    → length f ≡ length c + widths before
made_longer [] [] c f wide made = let same = ap length made in omega (arith, same)
made_longer [] (t ∷ front) c f wide made = absurd wide
made_longer (j ∷ before) [] c f wide made = absurd wide
made_longer (j ∷ before) (t ∷ front) c f wide made =
    let near = row_wide j t wide.0 made.0 made.1 in
    let rest = made_longer before front (c ++ made.0) f wide.1 made.2 in
    omega (arith, length-append c made.0, near, rest)

pub made_long : (before : List Joined) (front : List (List Row)) (f : Row) → AreWide before front → Made before front [] f → length f ≡ widths before
made_long before front f wide made = let k = made_longer before front [] f wide made in omega (arith, k)

-- ---- what is joined

module _ (m : Meaning Ordered) where
  joined_rows : (j : Joined) (t : List Row) (c : Row) (ds : List Row) → joined_with m (view.joining j) t c ≡ Some ds → AllByRecursion (IsWith j t c) ds
  joined_rows j t c ds e = by j.is_left refl e where
    all : AllByRecursion (IsWith j t c) (with_rows c t)
    all = with_each j t c t (λ r m. m)

    padded : j.is_left ≡ true → (us : List Row) → AllByRecursion (IsWith j t c) us → AllByRecursion (IsWith j t c) (or_padded (nulls (width j)) c us)
    padded left [] h = ((nulls (width j), inr (left, refl), refl), tt)
    padded left (u ∷ us) h = h

    from : j.is_left ≡ true → (o : Option (List Row)) → those (holds m (view.joining j).on) (with_rows c t) ≡ o
        → option_map (or_padded (nulls (width j)) c) o ≡ Some ds → AllByRecursion (IsWith j t c) ds
    from left None is k = absurd cc
    from left (Some us) is k =
        let same : or_padded (nulls (width j)) c us ≡ ds = cc in
        subst (AllByRecursion (IsWith j t c)) same (padded left us (those_of (IsWith j t c) (holds m (view.joining j).on) (with_rows c t) us all is))

    by : (b : Bool) → j.is_left ≡ b
        → cond b (option_map (or_padded (nulls (width j)) c) (those (holds m (view.joining j).on) (with_rows c t))) (Some (with_rows c t)) ≡ Some ds
        → AllByRecursion (IsWith j t c) ds
    by true left k = from left (those (holds m (view.joining j).on) (with_rows c t)) refl k
    by false inner k = let same : with_rows c t ≡ ds = cc in subst (AllByRecursion (IsWith j t c)) same all

  module _ (terms : List Ordered) where
    -- one table more
    tail_step : (j : Joining Ordered) (js : List (Joining Ordered)) (t : List Row) (ts : List (List Row)) (c : Row)
        → tail m terms (j ∷ js) (t ∷ ts) c ≡ option_and_then (gather (tail m terms js ts)) (joined_with m j t c)
    tail_step j js t ts c =
        ap (λ o. option_and_then (those (holds m terms)) (option_and_then (combined m js ts) o)) (joins-nil_right (joined_with m j t c))
        ∙ by (joined_with m j t c) where
          by : (o : Option (List Row)) → option_and_then (those (holds m terms)) (option_and_then (combined m js ts) o) ≡ option_and_then (gather (tail m terms js ts)) o
          by None = refl
          by (Some ds) = combined-tail m terms js ts ds

    -- tables further left leave alike what comes alike behind them
    behind : (before : List Joined) (front : List (List Row)) (js : List (Joining Ordered)) (ts us : List (List Row)) → AreWide before front
        → (c : Row) → ((f : Row) → Made before front c f → tail m terms js ts f ≡ tail m terms js us f)
        → tail m terms (map view.joining before ++ js) (front ++ ts) c ≡ tail m terms (map view.joining before ++ js) (front ++ us) c
    behind [] [] js ts us wide c same = same c refl
    behind [] (t ∷ front) js ts us wide c same = absurd wide
    behind (j ∷ before) [] js ts us wide c same = absurd wide
    behind (j ∷ before) (t ∷ front) js ts us wide c same =
        tail_step (view.joining j) (map view.joining before ++ js) t (front ++ ts) c
        ∙ by (λ r is. behind before front js ts us wide.1 (c ++ r) (λ f made. same f (r, is, made))) (joined_with m (view.joining j) t c) refl
        ∙ sym (tail_step (view.joining j) (map view.joining before ++ js) t (front ++ us) c) where
          over : List (List Row) → Row → Option (List Row)
          over more d = tail m terms (map view.joining before ++ js) (front ++ more) d

          all_of : ((r : Row) → IsRowOf j t r → over ts (c ++ r) ≡ over us (c ++ r)) → (ds : List Row) → AllByRecursion (IsWith j t c) ds → AllByRecursion (λ d. over ts d ≡ over us d) ds
          all_of each ds h = member_all (IsWith j t c) (λ d. over ts d ≡ over us d) (λ d w. subst (λ x. over ts x ≡ over us x) (sym w.2) (each w.0 w.1)) ds h

          by : ((r : Row) → IsRowOf j t r → over ts (c ++ r) ≡ over us (c ++ r)) → (o : Option (List Row)) → joined_with m (view.joining j) t c ≡ o
              → option_and_then (gather (over ts)) o ≡ option_and_then (gather (over us)) o
          by each None is = refl
          by each (Some ds) is = gather_alike (over ts) (over us) ds (all_of each ds (joined_rows j t c ds is))

    -- ---- what is rejected

    module _ (quiet_safe : QuietIsSafe m) where
      all_quiet : List Ordered → Type 0
      all_quiet es = AllByRecursion (λ e. m.quiet e ≡ true) es

      never : (es : List Ordered) (c : Row) → AllByRecursion (λ e. m.quiet e ≡ true) es → all_true m es c ≡ None → ⊥
      never [] c q e = absurd cc
      never (e ∷ es) c q h = by (never es c q.1) (is_true m e c) refl h where
        by : (all_true m es c ≡ None → ⊥) → (o : Option Bool) → is_true m e c ≡ o → and_so o (all_true m es c) ≡ None → ⊥
        by rest None is k = quiet_safe e c q.0 is
        by rest (Some true) is k = rest k
        by rest (Some false) is k = absurd cc

      filtered : (p : Ordered → Bool) (es : List Ordered) → AllByRecursion (λ e. m.quiet e ≡ true) es → AllByRecursion (λ e. m.quiet e ≡ true) (filter p es)
      filtered p [] q = tt
      filtered p (e ∷ es) q =
          elim (p e) as (λ b. AllByRecursion (λ e. m.quiet e ≡ true) (cond b (e ∷ filter p es) (filter p es))) [
            | true ↦ (q.0, filtered p es q.1)
            | false ↦ filtered p es q.1
          ]

      never_holds : (es : List Ordered) (c : Row) → AllByRecursion (λ e. m.quiet e ≡ true) es → holds m es c ≡ None → ⊥
      never_holds es c q =
          never (quiet_first m es) c
          (all_append (λ e. m.quiet e ≡ true) (filter m.quiet es) (filter (λ e. not (m.quiet e)) es) (filtered m.quiet es q) (filtered (λ e. not (m.quiet e)) es q))

      those_there : (p : Row → Option Bool) → ((c : Row) → p c ≡ None → ⊥) → (xs : List Row) → (us : List Row) × (those p xs ≡ Some us)
      those_there p there [] = ([], refl)
      those_there p there (x ∷ xs) = by (those_there p there xs) (p x) refl where
        by : ((us : List Row) × (those p xs ≡ Some us)) → (o : Option Bool) → p x ≡ o → (us : List Row) × (joins (option_map (λ b. cond b (single x) []) (p x)) (those p xs) ≡ Some us)
        by rest None is = absurd (there x is)
        by rest (Some b) is = (cond b (single x) [] ++ rest.0, (λ i. joins (option_map (λ b. cond b (single x) []) (is i)) (rest.1 i)))

      quiet_terms : (es : List Expr) → ((e : Expr) → quiet e ≡ true → m.quiet (view.plain e) ≡ true) → list_all quiet es ≡ true
          → AllByRecursion (λ e. m.quiet e ≡ true) (map view.plain es)
      quiet_terms [] q h = tt
      quiet_terms (e ∷ es) q h = let k = and_true (quiet e) (list_all quiet es) h in (q e k.0, quiet_terms es q k.1)

      module _ (as_quiet : (e : Expr) → quiet e ≡ true → m.quiet (view.plain e) ≡ true) where
        -- a join whose ON never faults
        joined_there : (j : Joined) (t : List Row) (c : Row) → is_safe j ≡ true → (ds : List Row) × (joined_with m (view.joining j) t c ≡ Some ds)
        joined_there j t c h = by j.is_left refl h where
          left_on : j.is_left ≡ true → list_all quiet j.on ≡ true → AllByRecursion (λ e. m.quiet e ≡ true) (view.joining j).on
          left_on left h = subst (λ b. AllByRecursion (λ e. m.quiet e ≡ true) (cond b (map view.plain j.on) [])) (sym left) (quiet_terms j.on as_quiet h)

          by : (b : Bool) → j.is_left ≡ b → (not b || list_all quiet j.on) ≡ true
              → (ds : List Row) × (cond b (option_map (or_padded (nulls (width j)) c) (those (holds m (view.joining j).on) (with_rows c t))) (Some (with_rows c t)) ≡ Some ds)
          by true left h =
              let u = those_there (holds m (view.joining j).on) (λ d. never_holds (view.joining j).on d (left_on left h)) (with_rows c t) in
              (or_padded (nulls (width j)) c u.0, ap (option_map (or_padded (nulls (width j)) c)) u.1)
          by false inner h = (with_rows c t, refl)

        abbrev Rejected : Row → Type 0
        Rejected c = (more : Row) → holds m terms (c ++ more) ≡ Some false

        nil_after : (c : Row) → Rejected c → those (holds m terms) (single c) ≡ Some []
        nil_after c out = λ i. joins (option_map (λ b. cond b (single c) []) ((ap (holds m terms) (sym (append-nil c)) ∙ out []) i)) (Some [])

        -- nothing comes of what is rejected
        comes_to_nothing : (js : List Joined) (ts : List (List Row)) (c : Row) → list_all is_safe js ≡ true → Rejected c
            → tail m terms (map view.joining js) ts c ≡ Some []
        comes_to_nothing [] ts c safe out = nil_after c out
        comes_to_nothing (j ∷ js) [] c safe out = nil_after c out
        comes_to_nothing (j ∷ js) (t ∷ ts) c safe out =
            let k = and_true (is_safe j) (list_all is_safe js) safe in
            let d = joined_there j t c k.0 in
            let of = tail m terms (map view.joining js) ts in
            let one : (x : Row) → IsWith j t c x → of x ≡ Some [] =
            λ x w. subst (λ x. of x ≡ Some []) (sym w.2)
            (comes_to_nothing js ts (c ++ w.0) k.1 (λ more. ap (holds m terms) (append_assoc c w.0 more) ∙ out (w.0 ++ more))) in
            tail_step (view.joining j) (map view.joining js) t ts c
            ∙ ap (option_and_then (gather of)) d.1
            ∙ gather_empty of d.0 (member_all (IsWith j t c) (λ x. of x ≡ Some []) one d.0 (joined_rows j t c d.0 d.1))

-- ---- what may be left out

as_quiet : (regard : Regard) (host : Host) (params : List Value) (e : Expr) → quiet e ≡ true → (regarded regard host params).quiet (view.plain e) ≡ true
as_quiet regard host params e h = h

module _ (host : Host) (params : List Value) (regard : Regard) (q : Query) (before : List Joined) (j : Joined)
    (after : List Joined) (front : List (List Row)) (there : List Row) (p : Row → Bool) (back : List (List Row))
    (is : q.joined ≡ before ++ (j ∷ after)) (wide : AreWide before front) where
  abbrev m : Meaning Ordered
  m = regarded regard host params

  abbrev all_terms : List Ordered
  all_terms = view.terms q

  abbrev left : List Row
  left = filter p there

  -- On each combination with a row of the table that does not pass some of these terms is quiet and not true, whatever stands
  -- behind it.
  abbrev pub Misses : List Ordered → Type 0
  Misses terms =
      (f : Row) → Made before front [] f → (r : Row) → Among there r → p r ≡ false → (more : Row)
      → list_any (is_missed host params ((f ++ r) ++ more) regard) terms ≡ true

  -- on each such combination these terms are not all true, and do not fault
  abbrev pub Rejects : List Ordered → Type 0
  Rejects terms =
      (f : Row) → Made before front [] f → (r : Row) → Among there r → p r ≡ false → (more : Row)
      → holds m terms ((f ++ r) ++ more) ≡ Some false

  missing_rejects : (terms : List Ordered) → Misses terms → Rejects terms
  missing_rejects terms misses f made r among out more = missed_rejects host params ((f ++ r) ++ more) regard terms (misses f made r among out more)

  -- a query answers the same without the rows that do not pass
  abbrev pub LeavesOut : Type 0
  LeavesOut = answer m (view.query q) (front ++ (there ∷ back)) ≡ answer m (view.query q) (front ++ (left ∷ back))

  -- what a step makes of the rows, where it makes nothing of those that do not pass
  over_rows : {B : Type 0} (g : Row → Option (List B)) (f : Row)
      → ((r : Row) → Among there r → p r ≡ false → g (f ++ r) ≡ Some []) → gather g (with_rows f there) ≡ gather g (with_rows f left)
  over_rows g f none =
      gather-map (λ r. f ++ r) g there
      ∙ gather_left (λ r. g (f ++ r)) p there (each_member (λ r. p r ≡ false → g (f ++ r) ≡ Some []) there none)
      ∙ sym (gather-map (λ r. f ++ r) g left)

  abbrev behind_it : List (Joining Ordered)
  behind_it = map view.joining after

  abbrev Steps : Type 0
  Steps =
      (f : Row) → Made before front [] f
      → tail m all_terms (view.joining j ∷ behind_it) (there ∷ back) f ≡ tail m all_terms (view.joining j ∷ behind_it) (left ∷ back) f

  -- a table of an inner join
  inner_step : j.is_left ≡ false → list_all is_safe after ≡ true → Rejects all_terms → Steps
  inner_step inner safe_after rejected f made =
      tail_step m all_terms (view.joining j) behind_it there back f
      ∙ ap (option_and_then (gather (tail m all_terms behind_it back))) (with_all there)
      ∙ over_rows (tail m all_terms behind_it back) f nothing
      ∙ ap (option_and_then (gather (tail m all_terms behind_it back))) (sym (with_all left))
      ∙ sym (tail_step m all_terms (view.joining j) behind_it left back f) where
        with_all : (t : List Row) → joined_with m (view.joining j) t f ≡ Some (with_rows f t)
        with_all t = ap (λ b. cond b (option_map (or_padded (nulls (width j)) f) (those (holds m (view.joining j).on) (with_rows f t))) (Some (with_rows f t))) inner

        nothing : (r : Row) → Among there r → p r ≡ false → tail m all_terms behind_it back (f ++ r) ≡ Some []
        nothing r among out =
            comes_to_nothing m all_terms (safe regard host params) (as_quiet regard host params) after back (f ++ r) safe_after
            (λ more. rejected f made r among out more)

  -- a table that a LEFT JOIN brings
  abbrev ons : List Ordered
  ons = map view.plain j.on

  matched : j.is_left ≡ true → (t : List Row) (f : Row) → joined_with m (view.joining j) t f ≡ option_map (or_padded (nulls (width j)) f) (those (holds m ons) (with_rows f t))
  matched brought t f = ap (λ b. cond b (option_map (or_padded (nulls (width j)) f) (those (holds m (cond b ons [])) (with_rows f t))) (Some (with_rows f t))) brought

  rejects_on : Misses ons → (f : Row) → Made before front [] f → (r : Row) → Among there r → p r ≡ false → holds m ons (f ++ r) ≡ Some false
  rejects_on misses f made r among out =
      ap (holds m ons) (sym (append-nil (f ++ r)))
      ∙ missed_rejects host params ((f ++ r) ++ []) regard ons (misses f made r among out [])

  left_step : j.is_left ≡ true → Misses ons → Steps
  left_step brought misses f made =
      let same : those (holds m ons) (with_rows f there) ≡ those (holds m ons) (with_rows f left) =
      over_rows (λ c. option_map (λ b. cond b (single c) []) (holds m ons c)) f
      (λ r among out. ap (option_map (λ b. cond b (single (f ++ r)) [])) (rejects_on misses f made r among out)) in
      tail_step m all_terms (view.joining j) behind_it there back f
      ∙ ap (option_and_then (gather (tail m all_terms behind_it back)))
      (matched brought there f ∙ ap (option_map (or_padded (nulls (width j)) f)) same ∙ sym (matched brought left f))
      ∙ sym (tail_step m all_terms (view.joining j) behind_it left back f)

  sources_are : map view.joining q.joined ≡ map view.joining before ++ (view.joining j ∷ behind_it)
  sources_are = ap (map view.joining) is ∙ map-append view.joining before (j ∷ after)

  over : (t : List Row) → option_and_then (those (holds m all_terms)) (combined m (map view.joining q.joined) (front ++ (t ∷ back)) (single []))
      ≡ tail m all_terms (map view.joining before ++ (view.joining j ∷ behind_it)) (front ++ (t ∷ back)) []
  over t = ap (λ js. option_and_then (those (holds m all_terms)) (combined m js (front ++ (t ∷ back)) (single []))) sources_are

  by_steps : Steps → LeavesOut
  by_steps steps =
      ap (λ o. option_map (finished m (view.query q)) (option_and_then (shown m (view.query q)) o))
      (over there
      ∙ behind m all_terms before front (view.joining j ∷ behind_it) (there ∷ back) (left ∷ back) wide [] steps
      ∙ sym (over left))

  -- a table of an inner join, where no ON of a LEFT JOIN behind it can fault
  pub rejects_out : j.is_left ≡ false → list_all is_safe after ≡ true → Rejects all_terms → LeavesOut
  rejects_out inner safe_after rejected = by_steps (inner_step inner safe_after rejected)

  pub inner_leaves_out : j.is_left ≡ false → list_all is_safe after ≡ true → Misses all_terms → LeavesOut
  inner_leaves_out inner safe_after misses = rejects_out inner safe_after (missing_rejects all_terms misses)

  -- a table that a LEFT JOIN brings, by its ON
  pub left_leaves_out : j.is_left ≡ true → Misses (map view.plain j.on) → LeavesOut
  left_leaves_out brought misses = by_steps (left_step brought misses)
