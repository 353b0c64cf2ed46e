-- What is answered with a limit on values is answered without.
use Rattle.std.proofs.Common.{◌≡◌, Bool, true, false, cond, List, [], ◌∷◌, Option, Some, None, option_map, refl, ap, ◌∙◌, subst, Ordering}
use Rattle.std.specs.Option.{option_and_then}
use Rattle.cr_value.specs.declared.value.Value.{Value}
use Rattle.cr_query.specs.Queries.{Query, Joining}
use Rattle.cr_bags.specs.Bags.{joins, gather, each, those, single}
use Rattle.cr_query.specs.Query.{Row, Group, Meaning, Refines, and_so, all_true, quiet_first, holds, nulls, or_padded, with_rows, joined_with, combined, joined, keyed, groups_of, groups, has, pair, shows, judged, shown, finished, answer}

-- what the first has the second has
abbrev pub Gains : {A : Type 0} → Option A → Option A → Type 0
Gains {A} o p = (a : A) → o ≡ Some a → p ≡ Some a

pub none_is : {A : Type 0} {B : Type 0} (a : A) → None ≡ Some a → B
none_is a e = absurd (let q : ⊥ = cc in q)

pub same : {A : Type 0} (o : Option A) → Gains o o
same o a e = e

pub by_map : {A B : Type 0} (f : A → B) (o p : Option A) → Gains o p → Gains (option_map f o) (option_map f p)
by_map f None p h b e = none_is b e
by_map f (Some a) p h b e = ap (option_map f) (h a refl) ∙ e

pub by_then : {A B : Type 0} (f g : A → Option B) → ((a : A) → Gains (f a) (g a)) → (o p : Option A) → Gains o p → Gains (option_and_then f o) (option_and_then g p)
by_then f g k None p h b e = none_is b e
by_then f g k (Some a) p h b e = ap (option_and_then g) (h a refl) ∙ k a b e

by_joins : {X : Type 0} (a b c d : Option (List X)) → Gains a b → Gains c d → Gains (joins a c) (joins b d)
by_joins None b c d h k x e = none_is x e
by_joins (Some xs) b None d h k x e = none_is x e
by_joins (Some xs) b (Some ys) d h k x e = (λ i. joins (h xs refl i) (k ys refl i)) ∙ e

pub by_gather : {X Y : Type 0} (f g : X → Option (List Y)) → ((x : X) → Gains (f x) (g x)) → (xs : List X) → Gains (gather f xs) (gather g xs)
by_gather f g h [] = same (Some [])
by_gather f g h (x ∷ xs) = by_joins (f x) (g x) (gather f xs) (gather g xs) (h x) (by_gather f g h xs)

pub by_each : {X Y : Type 0} (f g : X → Option Y) → ((x : X) → Gains (f x) (g x)) → (xs : List X) → Gains (each f xs) (each g xs)
by_each f g h xs = by_gather _ _ (λ x. by_map single (f x) (g x) (h x)) xs

by_those : {X : Type 0} (f g : X → Option Bool) → ((x : X) → Gains (f x) (g x)) → (xs : List X) → Gains (those f xs) (those g xs)
by_those f g h xs = by_gather _ _ (λ x. by_map (λ b. cond b (single x) []) (f x) (g x) (h x)) xs

pub by_and : (a b c d : Option Bool) → Gains a b → Gains c d → Gains (and_so a c) (and_so b d)
by_and None b c d h k x e = none_is x e
by_and (Some true) b c d h k x e = ap (λ (o : Option Bool). and_so o d) (h true refl) ∙ k x e
by_and (Some false) b c d h k x e = ap (λ (o : Option Bool). and_so o d) (h false refl) ∙ e

by_pair : (a b c d : Option Row) → Gains a b → Gains c d → Gains (pair a c) (pair b d)
by_pair None b c d h k x e = none_is x e
by_pair (Some r) b None d h k x e = none_is x e
by_pair (Some r) b (Some s) d h k x e = (λ i. pair (h r refl i) (k s refl i)) ∙ e

pub by_cond : {A : Type 0} (b : Bool) (o p q r : Option A) → Gains o p → Gains q r → Gains (cond b o q) (cond b p r)
by_cond true o p q r h k = h
by_cond false o p q r h k = k

module _ {E : Type 0} (truth so : Value → Option Bool) (quiet : E → Bool) (order : E → Value → Value → Ordering)
    (v w : E → Row → Option Value) (o p : E → Group → Option Value) (more_so : (x : Value) → Gains (truth x) (so x))
    (more : (e : E) (c : Row) → Gains (v e c) (w e c)) (more_over : (e : E) (g : Group) → Gains (o e g) (p e g)) where
  abbrev m : Meaning E
  m = record { value = v; over = o; truth = truth; quiet = quiet; order = order }

  abbrev n : Meaning E
  n = record { value = w; over = p; truth = so; quiet = quiet; order = order }

  all_gains : (es : List E) (c : Row) → Gains (all_true m es c) (all_true n es c)
  all_gains [] c = same (Some true)
  all_gains (e ∷ es) c = by_and _ _ _ _ (by_then truth so more_so (v e c) (w e c) (more e c)) (all_gains es c)

  holds_gains : (es : List E) (c : Row) → Gains (holds m es c) (holds n es c)
  holds_gains es c = all_gains (quiet_first m es) c

  with_gains : (j : Joining E) (rows : List Row) (c : Row) → Gains (joined_with m j rows c) (joined_with n j rows c)
  with_gains j rows c =
      by_cond j.left _ _ _ _ (by_map (or_padded (nulls j.width) c) (those (holds m j.on) (with_rows c rows)) (those (holds n j.on) (with_rows c rows)) (by_those (holds m j.on) (holds n j.on) (holds_gains j.on) (with_rows c rows)))
      (same (Some (with_rows c rows)))

  combined_gains : (js : List (Joining E)) (tables : List (List Row)) (cs : List Row) → Gains (combined m js tables cs) (combined n js tables cs)
  combined_gains [] tables cs = same (Some cs)
  combined_gains (j ∷ js) [] cs = same (Some cs)
  combined_gains (j ∷ js) (rows ∷ tables) cs =
      by_then (combined m js tables) (combined n js tables) (λ ds. combined_gains js tables ds) (gather (joined_with m j rows) cs) (gather (joined_with n j rows) cs)
      (by_gather (joined_with m j rows) (joined_with n j rows) (with_gains j rows) cs)

  pub joined_gains : (q : Query E) (tables : List (List Row)) → Gains (joined m q tables) (joined n q tables)
  joined_gains q tables =
      by_then (those (holds m q.terms)) (those (holds n q.terms)) (λ cs. by_those (holds m q.terms) (holds n q.terms) (holds_gains q.terms) cs) (combined m q.sources tables (single [])) (combined n q.sources tables (single []))
      (combined_gains q.sources tables (single []))

  shows_gains : (q : Query E) (f g : E → Option Value) → ((e : E) → Gains (f e) (g e)) → Gains (shows m q f) (shows n q g)
  shows_gains q f g h = by_pair _ _ _ _ (by_each f g h q.results) (by_each (λ t. f t.expr) (λ t. g t.expr) (λ t. h t.expr) q.order)

  has_gains : (x : Option E) (f g : E → Option Value) → ((e : E) → Gains (f e) (g e)) → Gains (has m x f) (has n x g)
  has_gains None f g h = same (Some true)
  has_gains (Some e) f g h = by_then truth so more_so (f e) (g e) (h e)

  judged_gains : (q : Query E) (f g : E → Option Value) → ((e : E) → Gains (f e) (g e)) → Gains (judged m q f) (judged n q g)
  judged_gains q f g h =
      by_then (λ b. cond b (option_map single (shows m q f)) (Some [])) (λ b. cond b (option_map single (shows n q g)) (Some []))
      (λ b. by_cond b _ _ _ _ (by_map single (shows m q f) (shows n q g) (shows_gains q f g h)) (same (Some []))) (has m q.having f) (has n q.having g) (has_gains q.having f g h)

  groups_gains : (es : List E) (cs : List Row) → Gains (groups m es cs) (groups n es cs)
  groups_gains [] cs = same _
  groups_gains (e ∷ es) cs =
      by_map (groups_of m (e ∷ es)) (each (keyed m (e ∷ es)) cs) (each (keyed n (e ∷ es)) cs)
      (by_each (keyed m (e ∷ es)) (keyed n (e ∷ es)) (λ c. by_map {B = Row × Row} (λ k. (k, c)) (each (λ e. v e c) (e ∷ es)) (each (λ e. w e c) (e ∷ es)) (by_each (λ e. v e c) (λ e. w e c) (λ e. more e c) (e ∷ es))) cs)

  shown_gains : (q : Query E) (cs : List Row) → Gains (shown m q cs) (shown n q cs)
  shown_gains q cs =
      by_cond q.is_grouped _ _ _ _
      (by_then (gather (λ g. judged m q (λ e. o e g))) (gather (λ g. judged n q (λ e. p e g)))
      (λ gs. by_gather (λ g. judged m q (λ e. o e g)) (λ g. judged n q (λ e. p e g)) (λ g. judged_gains q (λ e. o e g) (λ e. p e g) (λ e. more_over e g)) gs)
      (groups m q.group cs) (groups n q.group cs) (groups_gains q.group cs))
      (by_each (λ c. shows m q (λ e. v e c)) (λ c. shows n q (λ e. w e c)) (λ c. shows_gains q (λ e. v e c) (λ e. w e c) (λ e. more e c)) cs)

  pub answer_gains : (q : Query E) (tables : List (List Row)) → Gains (answer m q tables) (answer n q tables)
  answer_gains q tables =
      by_map (finished m q) (option_and_then (shown m q) (joined m q tables)) (option_and_then (shown n q) (joined n q tables))
      (by_then (shown m q) (shown n q) (shown_gains q) (joined m q tables) (joined n q tables) (joined_gains q tables))

module _ {E : Type 0} (sized exact : Meaning E) (r : Refines sized exact) where
  -- the second, with the first's quiet terms and orders
  abbrev mixed : Meaning E
  mixed = record sized { value = exact.value; over = exact.over; truth = exact.truth }

  as_exact : mixed ≡ exact
  as_exact = λ i. record exact { quiet = r.quiet i; order = r.order i }

  -- what is answered with a limit is answered without, whenever the one meaning refines the other
  pub answer_refines : (q : Query E) (tables : List (List Row)) → Gains (answer sized q tables) (answer exact q tables)
  answer_refines q tables =
      subst (λ (x : Meaning E). Gains (answer sized q tables) (answer x q tables)) as_exact
      (answer_gains sized.truth exact.truth sized.quiet sized.order sized.value exact.value sized.over exact.over r.truth r.value r.over q tables)

  pub holds_refines : (es : List E) (c : Row) → Gains (holds sized es c) (holds exact es c)
  holds_refines es c =
      subst (λ (x : Meaning E). Gains (holds sized es c) (holds x es c)) as_exact
      (holds_gains sized.truth exact.truth sized.quiet sized.order sized.value exact.value sized.over exact.over r.truth r.value r.over es c)
