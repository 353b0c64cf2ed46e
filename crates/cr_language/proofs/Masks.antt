-- Where NULL is put for columns that no expression of a query reads, the query answers what it answered.
use Rattle.std.proofs.Common.{◌≡◌, ◌∙◌, ℕ, zero, suc, ◌+◌, Bool, true, false, cond, not, List, [], ◌∷◌, ◌++◌, map, filter, take, drop, length, Option, Some, None, option_map, refl, ap, sym, arith, zero-add}
use Rattle.std.specs.Prelude.{if◌then◌else◌}
use Rattle.std.specs.Option.{option_and_then, option_to_list}
use Rattle.std.specs.Ordering.{is_eq}
use Rattle.std.specs.List.{AllByRecursion}
use Rattle.std.proofs.lemmas.List.{length-append}
use Rattle.cr_value.specs.declared.value.Value.{Value}
use Rattle.cr_value.specs.declared.value.Value.TheVariants.{Null}
use Rattle.cr_bags.specs.Bags.{joins, gather, each, those, single, sort, firsts}
use Rattle.cr_query.specs.Queries.{Query, Joining, Term}
use Rattle.cr_query.specs.Query.{Row, Group, Meaning, nulls, with_rows, or_padded, and_so, all_true, quiet_first, holds, joined_with, combined, joined, keyed, by_exprs, group_at, groups_of, groups, has, pair, shows, judged, shown_groups, shown, finished, answer, row_cmp}
use Rattle.cr_query.specs.Plans.{masked, seen}
use Rattle.cr_world.specs.Language.{AreWide}
use Rattle.cr_language.specs.Standing.{split}

-- ---- lists that may be faults

map_append : {X Y : Type 0} (f : X → Y) (xs ys : List X) → map f (xs ++ ys) ≡ map f xs ++ map f ys
map_append f [] ys = refl
map_append f (x ∷ xs) ys = ap (λ zs. f x ∷ zs) (map_append f xs ys)

joins_map : {X Y : Type 0} (f : X → Y) (o p : Option (List X)) → joins (option_map (map f) o) (option_map (map f) p) ≡ option_map (map f) (joins o p)
joins_map f None p = refl
joins_map f (Some xs) None = refl
joins_map f (Some xs) (Some ys) = ap Some (sym (map_append f xs ys))

-- what g gives of each x is what h gives of f x
gather_over : {X Y Z : Type 0} (f : X → Y) (g : Y → Option (List Z)) (h : X → Option (List Z)) (xs : List X) → AllByRecursion (λ x. g (f x) ≡ h x) xs → gather g (map f xs) ≡ gather h xs
gather_over f g h [] e = refl
gather_over f g h (x ∷ xs) e = λ i. joins (e.0 i) (gather_over f g h xs e.1 i)

gather_same : {X Y : Type 0} (g h : X → Option (List Y)) (xs : List X) → AllByRecursion (λ x. g x ≡ h x) xs → gather g xs ≡ gather h xs
gather_same g h [] e = refl
gather_same g h (x ∷ xs) e = λ i. joins (e.0 i) (gather_same g h xs e.1 i)

-- what g gives of the images are the images of what h gives
gather_images : {X Y : Type 0} (f : X → X) (k : Y → Y) (g h : X → Option (List Y)) (xs : List X) → AllByRecursion (λ x. g (f x) ≡ option_map (map k) (h x)) xs
    → gather g (map f xs) ≡ option_map (map k) (gather h xs)
gather_images f k g h [] e = refl
gather_images f k g h (x ∷ xs) e = (λ i. joins (e.0 i) (gather_images f k g h xs e.1 i)) ∙ joins_map k (h x) (gather h xs)

always : {X : Type 0} (P : X → Type 0) → ((x : X) → P x) → (xs : List X) → AllByRecursion P xs
always P f [] = tt
always P f (x ∷ xs) = (f x, always P f xs)

weaker : {X : Type 0} (P Q : X → Type 0) → ((x : X) → P x → Q x) → (xs : List X) → AllByRecursion P xs → AllByRecursion Q xs
weaker P Q f [] h = tt
weaker P Q f (x ∷ xs) h = (f x h.0, weaker P Q f xs h.1)

all_append : {X : Type 0} (P : X → Type 0) (xs ys : List X) → AllByRecursion P xs → AllByRecursion P ys → AllByRecursion P (xs ++ ys)
all_append P [] ys h k = k
all_append P (x ∷ xs) ys h k = (h.0, all_append P xs ys h.1 k)

all_or : {X : Type 0} (P : X → Type 0) (b : Bool) (x : X) (xs : List X) → P x → AllByRecursion P xs → AllByRecursion P (if b then x ∷ xs else xs)
all_or P true x xs h k = (h, k)
all_or P false x xs h k = k

all_filter : {X : Type 0} (P : X → Type 0) (p : X → Bool) (xs : List X) → AllByRecursion P xs → AllByRecursion P (filter p xs)
all_filter P p [] h = tt
all_filter P p (x ∷ xs) h = all_or P (p x) x (filter p xs) h.0 (all_filter P p xs h.1)

-- what holds of all that is gathered from each holds of all that is gathered
abbrev GatheredAre : {X : Type 0} → (X → Type 0) → Option (List X) → Type 0
GatheredAre P None = Unit {0}
GatheredAre P (Some xs) = AllByRecursion P xs

joins_are : {X : Type 0} (P : X → Type 0) (o p : Option (List X)) → GatheredAre P o → GatheredAre P p → GatheredAre P (joins o p)
joins_are P None p h k = tt
joins_are P (Some xs) None h k = tt
joins_are P (Some xs) (Some ys) h k = all_append P xs ys h k

gathered_are : {X Y : Type 0} (P : Y → Type 0) (g : X → Option (List Y)) (xs : List X) → AllByRecursion (λ x. GatheredAre P (g x)) xs → GatheredAre P (gather g xs)
gathered_are P g [] h = tt
gathered_are P g (x ∷ xs) h = joins_are P (g x) (gather g xs) h.0 (gathered_are P g xs h.1)

one_is : {X : Type 0} (P : X → Type 0) (x : X) → P x → (o : Option Bool) → GatheredAre P (option_map (λ b. cond b (single x) []) o)
one_is P x k None = tt
one_is P x k (Some true) = (k, tt)
one_is P x k (Some false) = tt

those_are : {X : Type 0} (P : X → Type 0) (p : X → Option Bool) (xs : List X) → AllByRecursion P xs → GatheredAre P (those p xs)
those_are P p xs h = gathered_are P (λ x. option_map (λ b. cond b (single x) []) (p x)) xs (weaker P (λ x. GatheredAre P (option_map (λ b. cond b (single x) []) (p x))) (λ x k. one_is P x k (p x)) xs h)

chosen : {X Y : Type 0} (f : X → Y) (x : X) (o : Option Bool) → option_map (λ b. cond b (single (f x)) []) o ≡ option_map (map f) (option_map (λ b. cond b (single x) []) o)
chosen f x None = refl
chosen f x (Some true) = refl
chosen f x (Some false) = refl

those_images : {X : Type 0} (f : X → X) (p q : X → Option Bool) → ((x : X) → p (f x) ≡ q x) → (xs : List X) → those p (map f xs) ≡ option_map (map f) (those q xs)
those_images f p q e xs =
    gather_images f f (λ x. option_map (λ b. cond b (single x) []) (p x)) (λ x. option_map (λ b. cond b (single x) []) (q x)) xs
    (always _ (λ x. ap (option_map (λ b. cond b (single (f x)) [])) (e x) ∙ chosen f x (q x)) xs)

-- ---- masks

masked_append : (mask : List Bool) (c r : Row) → masked mask (c ++ r) ≡ masked mask c ++ masked (drop (length c) mask) r
masked_append [] [] r = refl
masked_append [] (v ∷ vs) r = refl
masked_append (b ∷ bs) [] r = refl
masked_append (b ∷ bs) (v ∷ vs) r = ap (λ row. cond b v Null ∷ row) (masked_append bs vs r)

masked_taken : (mask : List Bool) (r : Row) → masked (take (length r) mask) r ≡ masked mask r
masked_taken [] [] = refl
masked_taken [] (v ∷ vs) = refl
masked_taken (b ∷ bs) [] = refl
masked_taken (b ∷ bs) (v ∷ vs) = ap (λ row. cond b v Null ∷ row) (masked_taken bs vs)

same_null : (b : Bool) → cond b Null Null ≡ Null
same_null true = refl
same_null false = refl

masked_nulls : (mask : List Bool) (n : ℕ) → masked mask (nulls n) ≡ nulls n
masked_nulls [] n = refl
masked_nulls (b ∷ bs) zero = refl
masked_nulls (b ∷ bs) (suc n) = λ i. same_null b i ∷ masked_nulls bs n i

length_nulls : (n : ℕ) → length (nulls n) ≡ n
length_nulls zero = refl
length_nulls (suc n) = ap suc (length_nulls n)

drop_none : {X : Type 0} (n : ℕ) → drop {A = X} n [] ≡ []
drop_none zero = refl
drop_none (suc n) = refl

suc_plus : (m n : ℕ) → suc (m + n) ≡ suc m + n
suc_plus m n = omega arith

drop_drop : {X : Type 0} (m n : ℕ) (xs : List X) → drop n (drop m xs) ≡ drop (m + n) xs
drop_drop zero n xs = ap (λ (k : ℕ). drop k xs) (sym (zero-add n))
drop_drop (suc m) n [] = drop_none n ∙ sym (drop_none (suc m + n))
drop_drop (suc m) n (x ∷ xs) = drop_drop m n xs ∙ ap (λ (k : ℕ). drop k (x ∷ xs)) (suc_plus m n)

-- ---- a mask that expressions which stand do not see

module _ {E : Type 0} (m : Meaning E) (mask : List Bool) (Stands : E → Type 0)
    (reads : (e : E) → Stands e → (c : Row) → m.value e (masked mask c) ≡ m.value e c)
    (reads_over : (e : E) → Stands e → (k : Row) (cs : List Row) → m.over e (record { shown = k; members = map (masked mask) cs }) ≡ m.over e (record { shown = k; members = cs })) where
  abbrev f : Row → Row
  f = masked mask

  abbrev Stand : List E → Type 0
  Stand es = AllByRecursion Stands es

  -- ---- conditions

  all_true_same : (es : List E) → Stand es → (c : Row) → all_true m es (f c) ≡ all_true m es c
  all_true_same [] h c = refl
  all_true_same (e ∷ es) h c = λ i. and_so (option_and_then m.truth (reads e h.0 c i)) (all_true_same es h.1 c i)

  holds_same : (es : List E) → Stand es → (c : Row) → holds m es (f c) ≡ holds m es c
  holds_same es h c =
      all_true_same (quiet_first m es)
      (all_append Stands (filter m.quiet es) (filter (λ e. not (m.quiet e)) es) (all_filter Stands m.quiet es h) (all_filter Stands (λ e. not (m.quiet e)) es h)) c

  -- ---- joins

  abbrev IsLong : ℕ → Row → Type 0
  IsLong n c = length c ≡ n

  one_masked : (n w : ℕ) (c r : Row) → IsLong n c → IsLong w r → f c ++ masked (take w (drop n mask)) r ≡ f (c ++ r)
  one_masked n w c r l h =
      ap (λ (k : ℕ). f c ++ masked (take k (drop n mask)) r) (sym h)
      ∙ ap (λ (row : Row). f c ++ row) (masked_taken (drop n mask) r)
      ∙ ap (λ (k : ℕ). f c ++ masked (drop k mask) r) (sym l)
      ∙ sym (masked_append mask c r)

  -- a combination of so many columns with the rows of one more table
  with_masked : (n w : ℕ) (c : Row) (rows : List Row) → IsLong n c → AllByRecursion (IsLong w) rows
      → with_rows (f c) (map (masked (take w (drop n mask))) rows) ≡ map f (with_rows c rows)
  with_masked n w c [] l h = refl
  with_masked n w c (r ∷ rs) l h = λ i. one_masked n w c r l h.0 i ∷ with_masked n w c rs l h.1 i

  padded_masked : (n w : ℕ) (c : Row) (cs : List Row) → IsLong n c → or_padded (nulls w) (f c) (map f cs) ≡ map f (or_padded (nulls w) c cs)
  padded_masked n w c (d ∷ ds) l = refl
  padded_masked n w c [] l = ap single (ap (λ (row : Row). f c ++ row) (sym (masked_nulls (drop (length c) mask) w)) ∙ sym (masked_append mask c (nulls w)))

  padded_option : (n w : ℕ) (c : Row) (o : Option (List Row)) → IsLong n c → option_map (or_padded (nulls w) (f c)) (option_map (map f) o) ≡ option_map (map f) (option_map (or_padded (nulls w) c) o)
  padded_option n w c None l = refl
  padded_option n w c (Some cs) l = ap Some (padded_masked n w c cs l)

  joined_masked : (j : Joining E) (n : ℕ) (rows : List Row) (c : Row) → Stand j.on → IsLong n c → AllByRecursion (IsLong j.width) rows
      → joined_with m j (map (masked (take j.width (drop n mask))) rows) (f c) ≡ option_map (map f) (joined_with m j rows c)
  joined_masked j n rows c h l wide = by_kind j.left where
    joins_by : Bool → List Row → Row → Option (List Row)
    joins_by left rs d = cond left (option_map (or_padded (nulls j.width) d) (those (holds m j.on) (with_rows d rs))) (Some (with_rows d rs))

    by_kind : (left : Bool) → joins_by left (map (masked (take j.width (drop n mask))) rows) (f c) ≡ option_map (map f) (joins_by left rows c)
    by_kind true =
        ap (λ (ds : List Row). option_map (or_padded (nulls j.width) (f c)) (those (holds m j.on) ds)) (with_masked n j.width c rows l wide)
        ∙ ap (option_map (or_padded (nulls j.width) (f c))) (those_images f (holds m j.on) (holds m j.on) (holds_same j.on h) (with_rows c rows))
        ∙ padded_option n j.width c (those (holds m j.on) (with_rows c rows)) l
    by_kind false = ap Some (with_masked n j.width c rows l wide)

  -- each combination then has the columns of one more table
  with_long : (n w : ℕ) (c : Row) (rows : List Row) → IsLong n c → AllByRecursion (IsLong w) rows → AllByRecursion (IsLong (n + w)) (with_rows c rows)
  with_long n w c [] l h = tt
  with_long n w c (r ∷ rs) l h = (length-append c r ∙ (λ i. l i + h.0 i), with_long n w c rs l h.1)

  padded_long : (n w : ℕ) (c : Row) (o : Option (List Row)) → IsLong n c → GatheredAre (IsLong (n + w)) o → GatheredAre (IsLong (n + w)) (option_map (or_padded (nulls w) c) o)
  padded_long n w c None l h = tt
  padded_long n w c (Some []) l h = (length-append c (nulls w) ∙ (λ i. l i + length_nulls w i), tt)
  padded_long n w c (Some (d ∷ ds)) l h = h

  joined_long : (j : Joining E) (n : ℕ) (rows : List Row) (c : Row) → IsLong n c → AllByRecursion (IsLong j.width) rows → GatheredAre (IsLong (n + j.width)) (joined_with m j rows c)
  joined_long j n rows c l wide = by_kind j.left where
    by_kind : (left : Bool) → GatheredAre (IsLong (n + j.width)) (cond left (option_map (or_padded (nulls j.width) c) (those (holds m j.on) (with_rows c rows))) (Some (with_rows c rows)))
    by_kind true = padded_long n j.width c (those (holds m j.on) (with_rows c rows)) l (those_are (IsLong (n + j.width)) (holds m j.on) (with_rows c rows) (with_long n j.width c rows l wide))
    by_kind false = with_long n j.width c rows l wide

  abbrev StandOn : List (Joining E) → Type 0
  StandOn js = AllByRecursion (λ j. Stand j.on) js

  go_on : (P : Row → Type 0) (g h : List Row → Option (List Row)) → ((ds : List Row) → AllByRecursion P ds → g (map f ds) ≡ option_map (map f) (h ds))
      → (o : Option (List Row)) → GatheredAre P o → option_and_then g (option_map (map f) o) ≡ option_map (map f) (option_and_then h o)
  go_on P g h e None k = refl
  go_on P g h e (Some ds) k = e ds k

  combined_masked : (js : List (Joining E)) (tables : List (List Row)) (n : ℕ) (cs : List Row) → StandOn js → AreWide js tables → AllByRecursion (IsLong n) cs
      → combined m js (seen (split js (drop n mask)) tables) (map f cs) ≡ option_map (map f) (combined m js tables cs)
  combined_masked [] tables n cs h wide l = refl
  combined_masked (j ∷ js) [] n cs h wide l = refl
  combined_masked (j ∷ js) (rows ∷ tables) n cs h wide l =
      ap (option_and_then (combined m js (seen (split js (drop j.width (drop n mask))) tables)))
      (gather_images f f (joined_with m j (map (masked (take j.width (drop n mask))) rows)) (joined_with m j rows) cs
      (weaker (IsLong n) (λ c. joined_with m j (map (masked (take j.width (drop n mask))) rows) (f c) ≡ option_map (map f) (joined_with m j rows c)) (λ c long. joined_masked j n rows c h.0 long wide.0) cs l))
      ∙ ap (λ (t : List Bool). option_and_then (combined m js (seen (split js t) tables)) (option_map (map f) (gather (joined_with m j rows) cs))) (drop_drop n j.width mask)
      ∙ go_on (IsLong (n + j.width)) (combined m js (seen (split js (drop (n + j.width) mask)) tables)) (combined m js tables) (λ ds k. combined_masked js tables (n + j.width) ds h.1 wide.1 k)
      (gather (joined_with m j rows) cs) (gathered_are (IsLong (n + j.width)) (joined_with m j rows) cs (weaker (IsLong n) (λ c. GatheredAre (IsLong (n + j.width)) (joined_with m j rows c)) (λ c long. joined_long j n rows c long wide.0) cs l))

  option_those : (es : List E) → Stand es → (o : Option (List Row)) → option_and_then (those (holds m es)) (option_map (map f) o) ≡ option_map (map f) (option_and_then (those (holds m es)) o)
  option_those es h None = refl
  option_those es h (Some cs) = those_images f (holds m es) (holds m es) (holds_same es h) cs

  joined_same : (q : Query E) (tables : List (List Row)) → StandOn q.sources → Stand q.terms → AreWide q.sources tables
      → joined m q (seen (split q.sources mask) tables) ≡ option_map (map f) (joined m q tables)
  joined_same q tables on terms wide =
      ap (λ (o : Option (List Row)). option_and_then (those (holds m q.terms)) o) (start ∙ combined_masked q.sources tables 0 (single []) on wide (refl, tt))
      ∙ option_those q.terms terms (combined m q.sources tables (single []))
    where
      empty : f [] ≡ []
      empty = masked_nulls mask 0

      start : combined m q.sources (seen (split q.sources mask) tables) (single []) ≡ combined m q.sources (seen (split q.sources mask) tables) (map f (single []))
      start = ap (λ (c : Row). combined m q.sources (seen (split q.sources mask) tables) (single c)) (sym empty)

  -- ---- results

  each_value : (es : List E) → Stand es → (c : Row) → each (λ e. m.value e (f c)) es ≡ each (λ e. m.value e c) es
  each_value [] h c = refl
  each_value (e ∷ es) h c = λ i. joins (option_map single (reads e h.0 c i)) (each_value es h.1 c i)

  each_gives : (g h : E → Option Value) (es : List E) → AllByRecursion (λ e. g e ≡ h e) es → each g es ≡ each h es
  each_gives g h [] e = refl
  each_gives g h (x ∷ xs) e = λ i. joins (option_map single (e.0 i)) (each_gives g h xs e.1 i)

  each_term : (g h : E → Option Value) (ts : List (Term E)) → AllByRecursion (λ e. g e ≡ h e) (map (λ t. t.expr) ts) → each (λ t. g t.expr) ts ≡ each (λ t. h t.expr) ts
  each_term g h [] e = refl
  each_term g h (x ∷ xs) e = λ i. joins (option_map single (e.0 i)) (each_term g h xs e.1 i)

  shows_same : (q : Query E) (g h : E → Option Value) → AllByRecursion (λ e. g e ≡ h e) q.results → AllByRecursion (λ e. g e ≡ h e) (map (λ t. t.expr) q.order) → shows m q g ≡ shows m q h
  shows_same q g h rs os = λ i. pair (each_gives g h q.results rs i) (each_term g h q.order os i)

  has_same : (o : Option E) (g h : E → Option Value) → AllByRecursion (λ e. g e ≡ h e) (option_to_list o) → has m o g ≡ has m o h
  has_same None g h e = refl
  has_same (Some x) g h e = ap (option_and_then m.truth) e.0

  judged_same : (q : Query E) (g h : E → Option Value) → AllByRecursion (λ e. g e ≡ h e) (option_to_list q.having) → AllByRecursion (λ e. g e ≡ h e) q.results
      → AllByRecursion (λ e. g e ≡ h e) (map (λ t. t.expr) q.order) → judged m q g ≡ judged m q h
  judged_same q g h v rs os = λ i. option_and_then (λ b. cond b (option_map single (shows_same q g h rs os i)) (Some [])) (has_same q.having g h v i)

  -- ---- groups

  abbrev moved : Row × Row → Row × Row
  moved p = (p.0, f p.1)

  abbrev over_masked : Group → Group
  over_masked g = record { shown = g.shown; members = map f g.members }

  keyed_masked : (es : List E) → Stand es → (c : Row) → keyed m es (f c) ≡ option_map moved (keyed m es c)
  keyed_masked es h c = ap (option_map (λ k. (k, f c))) (each_value es h c) ∙ by (each (λ e. m.value e c) es) where
    by : (o : Option Row) → option_map {U = Row × Row} (λ k. (k, f c)) o ≡ option_map moved (option_map (λ k. (k, c)) o)
    by None = refl
    by (Some k) = refl

  pairs_masked : (es : List E) → Stand es → (cs : List Row) → each (keyed m es) (map f cs) ≡ option_map (map moved) (each (keyed m es) cs)
  pairs_masked es h cs =
      gather_images f moved (λ c. option_map single (keyed m es c)) (λ c. option_map single (keyed m es c)) cs
      (always _ (λ c. ap (option_map single) (keyed_masked es h c) ∙ by (keyed m es c)) cs) where
        by : (o : Option (Row × Row)) → option_map single (option_map moved o) ≡ option_map (map moved) (option_map single o)
        by None = refl
        by (Some p) = refl

  chosen_one : (b : Bool) (x : Row × Row) (us xs : List (Row × Row)) → map {B = Row} (λ x. x.1) us ≡ map f (map (λ x. x.1) xs)
      → map {B = Row} (λ x. x.1) (if b then moved x ∷ us else us) ≡ map f (map (λ x. x.1) (if b then x ∷ xs else xs))
  chosen_one true x us xs e = ap (λ (rows : List Row). f x.1 ∷ rows) e
  chosen_one false x us xs e = e

  chosen_pairs : (p : Row → Bool) (ps : List (Row × Row)) → map (λ x. x.1) (filter (λ x. p x.0) (map moved ps)) ≡ map f (map (λ x. x.1) (filter (λ x. p x.0) ps))
  chosen_pairs p [] = refl
  chosen_pairs p (x ∷ xs) = chosen_one (p x.0) x (filter (λ x. p x.0) (map moved xs)) (filter (λ x. p x.0) xs) (chosen_pairs p xs)

  keys_masked : (ps : List (Row × Row)) → map {B = Row} (λ p. p.0) (map moved ps) ≡ map (λ p. p.0) ps
  keys_masked [] = refl
  keys_masked (p ∷ ps) = ap (λ ks. p.0 ∷ ks) (keys_masked ps)

  group_masked : (es : List E) (ps : List (Row × Row)) (ks : List Row) → map (group_at m es (map moved ps)) ks ≡ map over_masked (map (group_at m es ps) ks)
  group_masked es ps [] = refl
  group_masked es ps (k ∷ ks) =
      λ i. record { shown = k; members = chosen_pairs (λ r. is_eq (by_exprs m es k r)) ps i } ∷ group_masked es ps ks i

  groups_of_masked : (es : List E) (ps : List (Row × Row)) → groups_of m es (map moved ps) ≡ map over_masked (groups_of m es ps)
  groups_of_masked es ps =
      ap (λ (ks : List Row). map (group_at m es (map moved ps)) (firsts (λ a b. is_eq (by_exprs m es a b)) (sort row_cmp ks))) (keys_masked ps)
      ∙ group_masked es ps (firsts (λ a b. is_eq (by_exprs m es a b)) (sort row_cmp (map (λ p. p.0) ps)))

  groups_masked : (es : List E) → Stand es → (cs : List Row) → groups m es (map f cs) ≡ option_map (map over_masked) (groups m es cs)
  groups_masked [] h cs = refl
  groups_masked (e ∷ es) h cs = ap (option_map (groups_of m (e ∷ es))) (pairs_masked (e ∷ es) h cs) ∙ by (each (keyed m (e ∷ es)) cs) where
    by : (o : Option (List (Row × Row))) → option_map (groups_of m (e ∷ es)) (option_map (map moved) o) ≡ option_map (map over_masked) (option_map (groups_of m (e ∷ es)) o)
    by None = refl
    by (Some ps) = ap Some (groups_of_masked (e ∷ es) ps)

  -- ---- answers

  pub record AllStand (q : Query E) : Type 0 where
    pub on : StandOn q.sources
    pub terms : Stand q.terms
    pub group : Stand q.group
    pub having : Stand (option_to_list q.having)
    pub results : Stand q.results
    pub order : Stand (map (λ t. t.expr) q.order)

  values_same : (es : List E) → Stand es → (c : Row) → AllByRecursion (λ e. m.value e (f c) ≡ m.value e c) es
  values_same es h c = weaker Stands _ (λ e s. reads e s c) es h

  overs_same : (es : List E) → Stand es → (g : Group) → AllByRecursion (λ e. m.over e (over_masked g) ≡ m.over e g) es
  overs_same es h g = weaker Stands _ (λ e s. reads_over e s g.shown g.members) es h

  shown_groups_same : (q : Query E) → AllStand q → (cs : List Row) → shown_groups m q (map f cs) ≡ shown_groups m q cs
  shown_groups_same q h cs =
      ap (option_and_then (gather (λ g. judged m q (λ e. m.over e g)))) (groups_masked q.group h.group cs) ∙ by (groups m q.group cs) where
        by : (o : Option (List Group)) → option_and_then (gather (λ g. judged m q (λ e. m.over e g))) (option_map (map over_masked) o) ≡ option_and_then (gather (λ g. judged m q (λ e. m.over e g))) o
        by None = refl
        by (Some gs) =
            gather_over over_masked (λ g. judged m q (λ e. m.over e g)) (λ g. judged m q (λ e. m.over e g)) gs
            (always _ (λ g. judged_same q (λ e. m.over e (over_masked g)) (λ e. m.over e g) (overs_same (option_to_list q.having) h.having g) (overs_same q.results h.results g) (overs_same (map (λ t. t.expr) q.order) h.order g)) gs)

  shown_same : (q : Query E) → AllStand q → (cs : List Row) → shown m q (map f cs) ≡ shown m q cs
  shown_same q h cs = by q.is_grouped where
    by : (b : Bool) → cond b (shown_groups m q (map f cs)) (each (λ c. shows m q (λ e. m.value e c)) (map f cs)) ≡ cond b (shown_groups m q cs) (each (λ c. shows m q (λ e. m.value e c)) cs)
    by true = shown_groups_same q h cs
    by false =
        gather_over f (λ c. option_map single (shows m q (λ e. m.value e c))) (λ c. option_map single (shows m q (λ e. m.value e c))) cs
        (always _ (λ c. ap (option_map single) (shows_same q (λ e. m.value e (f c)) (λ e. m.value e c) (values_same q.results h.results c) (values_same (map (λ t. t.expr) q.order) h.order c))) cs)

  shown_option : (q : Query E) → AllStand q → (o : Option (List Row)) → option_and_then (shown m q) (option_map (map f) o) ≡ option_and_then (shown m q) o
  shown_option q h None = refl
  shown_option q h (Some cs) = shown_same q h cs

  pub answer_unseen : (q : Query E) (tables : List (List Row)) → AllStand q → AreWide q.sources tables → answer m q (seen (split q.sources mask) tables) ≡ answer m q tables
  answer_unseen q tables h wide =
      ap (λ (o : Option (List Row)). option_map (finished m q) (option_and_then (shown m q) o)) (joined_same q tables h.on h.terms wide)
      ∙ ap (option_map (finished m q)) (shown_option q h (joined m q tables))
