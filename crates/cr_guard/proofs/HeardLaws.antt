-- Laws of what is heard.
use Rattle.std.proofs.Common.{◌≡◌, ◌⊎◌, inl, inr, ℕ, zero, suc, ◌<◌, Bool, true, false, List, [], ◌∷◌, ◌++◌, length, get_or, map, Option, Some, None, refl, sym, ap, subst, ◌∙◌, arith, Ordering, Less}
use Rattle.std.specs.List.{filter_map, flat_map, cons_option, Contains, AllByRecursion}
use Rattle.std.specs.List.Sorted.{IsStrictlySortedBy}
use Rattle.std.specs.Option.{option_map}
use Rattle.std.specs.Ordering.{ordering_then}
use Rattle.std.proofs.lemmas.Cmp.{tied_itself, lists_total}
use Rattle.std.specs.FinMap.{slice_cmp-IsAntisymmetric}
use Rattle.cr_value.specs.declared.value.Value.{Value}
use Rattle.cr_value.specs.Order.{bytes_cmp}
use Rattle.cr_value.specs.OrderLaws.{bytes_total, bytes_exact, value_total, value_exact}
use Rattle.cr_lattice.specs.declared.table.TableDef.{TableDef}
use Rattle.cr_lattice.specs.Check.{same_bytes}
use Rattle.cr_lattice.specs.Rows.{keys_in_order}
use Rattle.cr_lattice.proofs.SortedSets.{list_any-set_of, IsStrictlySortedBy-set_of}
use Rattle.cr_delta.specs.Key.{key_of}
use Rattle.cr_delta.proofs.Among.{Among, Among-append, append_left, append_right, Among-flat_map, map_member, member_has, any_member, member_of_any}
use Rattle.cr_delta.proofs.Members.{eq_true, same_is, is_same}
use Rattle.cr_guard.specs.declared.event.EventKind.{EventKind}
use Rattle.cr_guard.specs.declared.event.Event.{Event}
use Rattle.cr_guard.specs.Heard.{row_at, became, event, event_at, keys_of_both, heard, heard_of}
use Rattle.cr_guard.specs.Laws.{HeardIsWhatBecame, HeardIsInOrder, StayingIsSilent, SameRowsAreEqual, event_cmp}

-- ---- members

Contains-Among : {A : Type 0} (xs : List A) (e : A) → Among xs e → Contains xs e
Contains-Among [] e m = absurd m
Contains-Among (x ∷ xs) e m =
    elim m [
      | inl here ↦ (zero, omega arith, sym here)
      | inr there ↦ (let c = Contains-Among xs e there in (suc c.0, omega (arith, c.1), c.2))
    ]

among_at : {A : Type 0} (xs : List A) (k : ℕ) (e : A) → k < length xs → get_or xs k e ≡ e → Among xs e
among_at [] k e lt is = absurd (omega arith)
among_at (x ∷ xs) zero e lt is = inl (sym is)
among_at (x ∷ xs) (suc k) e lt is = inr (among_at xs k e (omega arith) is)

all_of : {A : Type 0} (P : A → Type 0) (xs : List A) → ((x : A) → Among xs x → P x) → AllByRecursion P xs
all_of P [] f = tt
all_of P (x ∷ xs) f = (f x (inl refl), all_of P xs (λ y m. f y (inr m)))

-- what is given of the items is given of one of them
Among-filter_map : {A B : Type 0} (f : A → Option B) (xs : List A) (b : B) → Among (filter_map f xs) b → (a : A) × Among xs a × (f a ≡ Some b)
Among-filter_map {A} {B} f [] b m = absurd m
Among-filter_map {A} {B} f (x ∷ xs) b m = by (f x) refl m (Among-filter_map f xs b)
  where
    by : (o : Option B) → f x ≡ o → Among (cons_option o (filter_map f xs)) b → (Among (filter_map f xs) b → (a : A) × Among xs a × (f a ≡ Some b)) → (a : A) × Among (x ∷ xs) a × (f a ≡ Some b)
    by None e m rest = let r = rest m in (r.0, inr r.1, r.2)
    by (Some y) e m rest =
        elim m [
          | inl here ↦ (x, inl refl, e ∙ ap Some (sym here))
          | inr there ↦ (let r = rest there in (r.0, inr r.1, r.2))
        ]

filter_map_member : {A B : Type 0} (f : A → Option B) (xs : List A) (a : A) (b : B) → Among xs a → f a ≡ Some b → Among (filter_map f xs) b
filter_map_member f [] a b m e = absurd m
filter_map_member f (x ∷ xs) a b m e =
    elim m [
      | inl here ↦ (let is : f x ≡ Some b = ap f (sym here) ∙ e in rw is (inl refl))
      | inr there ↦ (
          let rest = filter_map_member f xs a b there e in
          elim (f x) as (λ o. Among (cons_option o (filter_map f xs)) b) [ None ↦ rest | Some y ↦ inr rest ])
    ]

-- ---- one table

in_keys : (ks : List (List ℕ)) (pk : List ℕ) → Among ks pk → Among (keys_in_order ks) pk
in_keys ks pk m =
    let is = list_any-set_of bytes_total bytes_exact (λ k. same_bytes k pk) ks ∙ any_member (λ k. same_bytes k pk) ks pk m (is_same pk pk refl) in
    let r = member_of_any (λ k. same_bytes k pk) (keys_in_order ks) is in
    subst (Among (keys_in_order ks)) (same_is r.0 pk r.2) r.1

found_key : (def : TableDef) (rows : List (List Value)) (pk : List ℕ) (row : List Value) → row_at def rows pk ≡ Some row → Among (map (key_of def) rows) pk
found_key def [] pk row e = absurd cc
found_key def (x ∷ xs) pk row e = by (same_bytes (key_of def x) pk) refl (found_key def xs pk row)
  where
    by : (b : Bool) → same_bytes (key_of def x) pk ≡ b → (row_at def xs pk ≡ Some row → Among (map (key_of def) xs) pk) → Among (map (key_of def) (x ∷ xs)) pk
    by true is rest = inl (sym (same_is (key_of def x) pk is))
    by false is rest = inr (rest (rw is at e))

event_is : (o : Option EventKind) (table pk : List ℕ) (e : Event) → option_map (event table pk) o ≡ Some e → (e.table ≡ table) × (e.pk ≡ pk) × (o ≡ Some e.kind)
event_is None table pk e is = absurd cc
event_is (Some kind) table pk e is =
    let same : event table pk kind ≡ e = cc in
    (sym (ap (λ x. x.table) same), sym (ap (λ x. x.pk) same), ap (λ x. Some x.kind) same)

became_some : (a b : Option (List Value)) (kind : EventKind) → became a b ≡ Some kind → ((r : List Value) × (a ≡ Some r)) ⊎ ((r : List Value) × (b ≡ Some r))
became_some None None kind e = absurd cc
became_some None (Some r) kind e = inr (r, refl)
became_some (Some r) b kind e = inl (r, refl)

module _ (def : TableDef) (before after : List (List Value)) where
  told : (e : Event) → Among (heard def before after) e → (e.table ≡ def.name) × (became (row_at def before e.pk) (row_at def after e.pk) ≡ Some e.kind)
  unfolding heard
  told e m =
      let r = Among-filter_map (event_at def before after) (keys_of_both def before after) e m in
      let is = event_is (became (row_at def before r.0) (row_at def after r.0)) def.name r.0 e r.2 in
      (is.0, subst (λ (pk : List ℕ). became (row_at def before pk) (row_at def after pk) ≡ Some e.kind) (sym is.1) is.2)

  tells : (e : Event) → e.table ≡ def.name → became (row_at def before e.pk) (row_at def after e.pk) ≡ Some e.kind → Among (heard def before after) e
  unfolding heard
  tells e table kind =
      let given : event_at def before after e.pk ≡ Some e = ap (option_map (event def.name e.pk)) kind ∙ ap (λ t. Some (event t e.pk e.kind)) (sym table) in
      let key = elim (became_some (row_at def before e.pk) (row_at def after e.pk) e.kind kind) as (λ _. Among (map (key_of def) before ++ map (key_of def) after) e.pk) [
        | inl r ↦ append_left (map (key_of def) before) (map (key_of def) after) e.pk (found_key def before e.pk r.0 r.1)
        | inr r ↦ append_right (map (key_of def) before) (map (key_of def) after) e.pk (found_key def after e.pk r.0 r.1)
      ] in
      filter_map_member (event_at def before after) (keys_of_both def before after) e.pk e (in_keys (map (key_of def) before ++ map (key_of def) after) e.pk key) given

pub heard_is_what_became : HeardIsWhatBecame
heard_is_what_became def before after e = (
  λ c. told def before after e (among_at (heard def before after) c.0 e c.1 c.2),
  λ is. Contains-Among (heard def before after) e (tells def before after e is.0 is.1),
)

-- ---- the order

filter_map_rises : {A B : Type 0} (R : A → A → Ordering) (S : B → B → Ordering) (f : A → Option B) → ((a b : A) (x y : B) → f a ≡ Some x → f b ≡ Some y → R a b ≡ Less → S x y ≡ Less)
    → (xs : List A) → IsStrictlySortedBy R xs → IsStrictlySortedBy S (filter_map f xs)
unfolding IsStrictlySortedBy
filter_map_rises {A} {B} R S f says [] s = tt
filter_map_rises {A} {B} R S f says (x ∷ xs) s = by (f x) refl (filter_map_rises R S f says xs s.1)
  where
    by : (o : Option B) → f x ≡ o → IsStrictlySortedBy S (filter_map f xs) → IsStrictlySortedBy S (cons_option o (filter_map f xs))
    by None e rest = rest
    by (Some y) e rest = (
      all_of (λ z. S y z ≡ Less) (filter_map f xs) (λ z m.
          let r = Among-filter_map f xs z m in
          says x r.0 y z e r.2 (member_has (λ a. R x a ≡ Less) xs r.0 s.0 r.1)),
      rest,
    )

append_rises : {A : Type 0} (R : A → A → Ordering) (xs ys : List A) → IsStrictlySortedBy R xs → IsStrictlySortedBy R ys → ((x y : A) → Among xs x → Among ys y → R x y ≡ Less) → IsStrictlySortedBy R (xs ++ ys)
unfolding IsStrictlySortedBy
append_rises R [] ys s t below = t
append_rises R (x ∷ xs) ys s t below = (
  all_of (λ z. R x z ≡ Less) (xs ++ ys) (λ z m. elim (Among-append xs ys z m) [
    | inl here ↦ member_has (λ a. R x a ≡ Less) xs z s.0 here
    | inr there ↦ below x z (inl refl) there
  ]),
  append_rises R xs ys s.1 t (λ a b m n. below a b (inr m) n),
)

by_table : (e f : Event) → bytes_cmp e.table f.table ≡ Less → event_cmp e f ≡ Less
by_table e f less = ap (λ o. ordering_then o (bytes_cmp e.pk f.pk)) less

by_key : (e f : Event) → e.table ≡ f.table → bytes_cmp e.pk f.pk ≡ Less → event_cmp e f ≡ Less
by_key e f same less = ap (λ o. ordering_then o (bytes_cmp e.pk f.pk)) (ap (λ t. bytes_cmp e.table t) (sym same) ∙ tied_itself bytes_total e.table) ∙ less

heard_rises : (def : TableDef) (before after : List (List Value)) → IsStrictlySortedBy event_cmp (heard def before after)
unfolding heard
heard_rises def before after =
    filter_map_rises bytes_cmp event_cmp (event_at def before after) (λ a b x y fa fb less.
    let p = event_is (became (row_at def before a) (row_at def after a)) def.name a x fa in
    let q = event_is (became (row_at def before b) (row_at def after b)) def.name b y fb in
    by_key x y (p.0 ∙ sym q.0) (ap (λ k. bytes_cmp k y.pk) p.1 ∙ ap (bytes_cmp a) q.1 ∙ less))
    (keys_of_both def before after) (IsStrictlySortedBy-set_of bytes_total bytes_exact (map (key_of def) before ++ map (key_of def) after))

pub heard_is_in_order : HeardIsInOrder
unfolding IsStrictlySortedBy
heard_is_in_order [] s = tt
heard_is_in_order (t ∷ ts) s =
    append_rises event_cmp (heard_of t) (flat_map heard_of ts) (heard_rises t.definition t.before t.after) (heard_is_in_order ts s.1) (λ x y m n.
    let u = Among-flat_map heard_of ts y n in
    let table_x = (told t.definition t.before t.after x m).0 in
    let table_y = (told u.0.definition u.0.before u.0.after y u.2).0 in
    let less = member_has (λ k. bytes_cmp t.definition.name k ≡ Less) (map (λ v. v.definition.name) ts) u.0.definition.name s.0 (map_member (λ v. v.definition.name) ts u.0 u.1) in
    by_table x y (ap (λ k. bytes_cmp k y.table) table_x ∙ ap (bytes_cmp t.definition.name) table_y ∙ less))

-- ---- rows that stay

pub same_rows_are_equal : SameRowsAreEqual
same_rows_are_equal a b = (
  λ e. slice_cmp-IsAntisymmetric value_exact a b (eq_true _ e),
  λ e. rw (e, tied_itself (lists_total value_total) b) refl,
)

stays : (o : Option (List Value)) → became o o ≡ None
stays None = refl
stays (Some row) = rw (tied_itself (lists_total value_total) row) refl

filter_map_none : {A B : Type 0} (f : A → Option B) (xs : List A) → ((x : A) → f x ≡ None) → filter_map f xs ≡ []
filter_map_none f [] none = refl
filter_map_none f (x ∷ xs) none = rw (none x) (filter_map_none f xs none)

pub staying_is_silent : StayingIsSilent
unfolding heard
staying_is_silent def rows = filter_map_none (event_at def rows rows) (keys_of_both def rows rows) (λ pk. ap (option_map (event def.name pk)) (stays (row_at def rows pk)))
