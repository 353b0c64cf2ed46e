-- A lawful source leaves an answer as it was, and hidden columns change none.
use Rattle.std.proofs.Common.{◌≡◌, ℕ, Bool, true, false, cond, not, ◌&&◌, ◌||◌, map, List, [], ◌∷◌, ◌++◌, Option, Some, None, option_map, refl, sym, ap, ◌∙◌, zero-add, append_assoc}
use Rattle.std.specs.Option.{option_and_then}
use Rattle.std.specs.Prelude.{filter}
use Rattle.std.specs.List.{list_any}
use Rattle.cr_bags.specs.Bags.{weight, Alike, joins, plus, gather, those, single}
use Rattle.cr_query.specs.Query.{Row, Meaning, Lawful, is_true, and_so, all_true, holds, or_padded, nulls, with_rows, combined, joined, finished, answer}
use Rattle.cr_query.specs.Queries.{Joining, Query}
use Rattle.cr_query.specs.Plans.{Gives, is_false, QuietIsSafe}
use Rattle.cr_bags.proofs.BagLaws.{osum, osum_bag, weigh-gather, then_alike, map_same}
use Rattle.cr_query.proofs.QueryLaws.{shown_alike, finished_same}

plus_zero : (o : Option ℕ) → plus (Some 0) o ≡ o
plus_zero None = refl
plus_zero (Some n) = ap (λ (k : ℕ). Some k) (zero-add n)

osum_filter : {X : Type 0} (F : X → Option ℕ) (p : X → Bool) → ((x : X) → p x ≡ false → F x ≡ Some 0) → (xs : List X) → osum F xs ≡ osum F (filter p xs)
osum_filter F p none [] = refl
osum_filter F p none (x ∷ xs) =
    elim (p x) as (λ b. p x ≡ b → plus (F x) (osum F xs) ≡ osum F (cond b (x ∷ filter p xs) (filter p xs))) [
      | true ↦ λ e. ap (plus (F x)) (osum_filter F p none xs)
      | false ↦ λ e. ap (λ o. plus o (osum F xs)) (none x e) ∙ plus_zero _ ∙ osum_filter F p none xs
    ] refl

-- the law of plans: where f gives nothing for what does not meet the constraints, a lawful source serves
pub gather_gives : {X Y : Type 0} (f : X → Option (List Y)) (meets : X → Bool) → ((x : X) → meets x ≡ false → f x ≡ Some []) → (rows got : List X) → Gives meets rows got → Alike (gather f got) (gather f rows)
gather_gives {X} f meets none rows got g = record {
  weighs = λ h.
      let F : X → Option ℕ = λ x. option_map (weight h) (f x) in
      let zeros : (x : X) → meets x ≡ false → F x ≡ Some 0 = λ x e. ap (option_map (weight h)) (none x e) in
      weigh-gather h f got
      ∙ osum_filter F meets zeros got
      ∙ osum_bag F g.omits_none
      ∙ sym (osum_filter F meets zeros rows)
      ∙ sym (weigh-gather h f rows);
}

-- gathering in two steps
joins_assoc : {X : Type 0} (o p r : Option (List X)) → joins (joins o p) r ≡ joins o (joins p r)
joins_assoc None p r = refl
joins_assoc (Some xs) None r = refl
joins_assoc (Some xs) (Some ys) None = refl
joins_assoc (Some xs) (Some ys) (Some zs) = ap (λ l. Some l) (append_assoc xs ys zs)

joins_nil : {X : Type 0} (o : Option (List X)) → joins (Some []) o ≡ o
joins_nil None = refl
joins_nil (Some xs) = refl

pub gather-append : {X Y : Type 0} (f : X → Option (List Y)) (xs ys : List X) → gather f (xs ++ ys) ≡ joins (gather f xs) (gather f ys)
gather-append f [] ys = sym (joins_nil _)
gather-append f (x ∷ xs) ys = ap (joins (f x)) (gather-append f xs ys) ∙ sym (joins_assoc (f x) (gather f xs) (gather f ys))

-- a fault later on is a fault, also after a fault earlier
then_joins : {X Y : Type 0} (g : X → Option (List Y)) (o p : Option (List X)) → option_and_then (gather g) (joins o p) ≡ joins (option_and_then (gather g) o) (option_and_then (gather g) p)
then_joins g None p = refl
then_joins g (Some xs) None = sym (joins_none (gather g xs)) where
  joins_none : {Y : Type 0} (o : Option (List Y)) → joins o None ≡ None
  joins_none None = refl
  joins_none (Some ys) = refl
then_joins g (Some xs) (Some ys) = gather-append g xs ys

pub gather_gather : {X Y Z : Type 0} (f : X → Option (List Y)) (g : Y → Option (List Z)) (xs : List X) → option_and_then (gather g) (gather f xs) ≡ gather (λ x. option_and_then (gather g) (f x)) xs
gather_gather f g [] = refl
gather_gather f g (x ∷ xs) = then_joins g (f x) (gather f xs) ∙ ap (joins (option_and_then (gather g) (f x))) (gather_gather f g xs)

pub gather-map : {X Y Z : Type 0} (v : X → Y) (g : Y → Option (List Z)) (xs : List X) → gather g (map v xs) ≡ gather (λ x. g (v x)) xs
gather-map v g [] = refl
gather-map v g (x ∷ xs) = ap (joins (g (v x))) (gather-map v g xs)

-- one table
module _ {E : Type 0} (m : Meaning E) where
  abbrev pub step : Query E → Row → Option (List Row)
  step q r = option_map (λ b. cond b (single r) []) (holds m q.terms r)

  append_nil : {X : Type 0} (xs : List X) → xs ++ [] ≡ xs
  append_nil [] = refl
  append_nil (x ∷ xs) = ap (λ l. x ∷ l) (append_nil xs)

  pub joined_one : (q : Query E) (j : Joining E) → q.sources ≡ single j → j.left ≡ false → (rows : List Row) → joined m q (single rows) ≡ gather (step q) rows
  joined_one q j one inner rows =
      let made : combined m (single j) (single rows) (single []) ≡ Some (map (λ r. r) rows) =
      ap (λ b. option_and_then (combined m [] []) (joins (cond b (option_map (or_padded (nulls j.width) []) (those (holds m j.on) (with_rows [] rows))) (Some (with_rows [] rows))) (Some []))) inner ∙ ap (λ l. Some l) (append_nil (map (λ r. r) rows)) in
      ap (λ js. option_and_then (those (holds m q.terms)) (combined m js (single rows) (single []))) one
      ∙ ap (option_and_then (those (holds m q.terms))) made
      ∙ gather-map (λ r. r) _ rows

module _ {E : Type 0} (m : Meaning E) (law : Lawful m) (safe : QuietIsSafe m) where
  -- a quiet term that isn't true rejects, whatever the others are
  quiet_rejects : (others terms : List E) (c : Row) → list_any (λ e. m.quiet e && is_false (is_true m e c)) terms ≡ true → all_true m (filter m.quiet terms ++ others) c ≡ Some false
  quiet_rejects others [] c h = absurd cc
  quiet_rejects others (e ∷ es) c h =
      elim (m.quiet e) as (λ b. m.quiet e ≡ b → ((b && is_false (is_true m e c)) || list_any (λ e. m.quiet e && is_false (is_true m e c)) es) ≡ true → all_true m (cond b (e ∷ filter m.quiet es) (filter m.quiet es) ++ others) c ≡ Some false) [
        | false ↦ λ q h. quiet_rejects others es c h
        | true ↦ λ q h.
            elim (is_true m e c) as (λ o. is_true m e c ≡ o → (is_false o || list_any (λ e. m.quiet e && is_false (is_true m e c)) es) ≡ true → and_so o (all_true m (filter m.quiet es ++ others) c) ≡ Some false) [
              | None ↦ λ n h. absurd (safe e c q n)
              | Some b ↦ elim b as (λ b. is_true m e c ≡ Some b → (is_false (Some b) || list_any (λ e. m.quiet e && is_false (is_true m e c)) es) ≡ true → and_so (Some b) (all_true m (filter m.quiet es ++ others) c) ≡ Some false) [
                | true ↦ λ n h. quiet_rejects others es c h
                | false ↦ λ n h. refl
              ]
            ] refl h
      ] refl h

  pub rejected : (terms : List E) (c : Row) → list_any (λ e. m.quiet e && is_false (is_true m e c)) terms ≡ true → holds m terms c ≡ Some false
  rejected terms c h = quiet_rejects (filter (λ e. not (m.quiet e)) terms) terms c h

  -- a term known to be true needs no second check
  pub all_true-omit : (omit : E → Bool) (c : Row) → ((e : E) → omit e ≡ true → is_true m e c ≡ Some true) → (es : List E) → all_true m (filter (λ e. not (omit e)) es) c ≡ all_true m es c
  all_true-omit omit c known [] = refl
  all_true-omit omit c known (e ∷ es) =
      elim (omit e) as (λ b. omit e ≡ b → all_true m (cond (not b) (e ∷ filter (λ e. not (omit e)) es) (filter (λ e. not (omit e)) es)) c ≡ and_so (is_true m e c) (all_true m es c)) [
        | true ↦ λ k. all_true-omit omit c known es ∙ ap (λ o. and_so o (all_true m es c)) (sym (known e k))
        | false ↦ λ k. ap (and_so (is_true m e c)) (all_true-omit omit c known es)
      ] refl

  pub answer_gives : (q : Query E) (j : Joining E) (meets : Row → Bool) (rows got : List Row) → q.sources ≡ single j → j.left ≡ false → ((r : Row) → meets r ≡ false → holds m q.terms r ≡ Some false) → Gives meets rows got → answer m q (single got) ≡ answer m q (single rows)
  answer_gives q j meets rows got one inner none g =
      let alike : Alike (joined m q (single got)) (joined m q (single rows)) =
      rw (joined_one m q j one inner got, joined_one m q j one inner rows) (gather_gives (step m q) meets (λ r e. ap (option_map (λ b. cond b (single r) [])) (none r e)) rows got g) in
      map_same (finished m q) (finished m q) (finished_same m law q) _ _ (then_alike _ _ (shown_alike m law q) _ _ alike)

pub joins-nil_right : {X : Type 0} (o : Option (List X)) → joins o (Some []) ≡ o
joins-nil_right None = refl
joins-nil_right (Some xs) = ap (λ l. Some l) (go xs) where
  go : {X : Type 0} (xs : List X) → xs ++ [] ≡ xs
  go [] = refl
  go (x ∷ xs) = ap (λ l. x ∷ l) (go xs)
