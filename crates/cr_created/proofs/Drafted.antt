-- Columns as they are drafted, one after another, and how a draft differs from the definition that is meant.
use Rattle.std.proofs.Common.{◌≡◌, ◌∙◌, ℕ, ◌+◌, ◌<◌, ◌≤◌, min, Bool, true, false, not, ◌&&◌, ◌||◌, List, [], ◌∷◌, ◌++◌, length, map, drop, get_or, Option, Some, None, refl, sym, ap, subst, append_assoc, arith}
use Rattle.std.specs.Prelude.{codes, cond, count_by, fold, position, suc, if◌then◌else◌}
use Rattle.std.specs.List.{list_any}
use Rattle.std.specs.Option.{is_some, option_map, option_or}
use Rattle.std.specs.Str.{bytes_eq}
use Rattle.std.proofs.Math.Nat.{min-eq_left}
use Rattle.std.proofs.lemmas.List.Folds.{fold-map}
use Rattle.std.proofs.lemmas.List.Quantifiers.{position-Some}
use Rattle.cr_lattice.specs.declared.table.ColumnDef.{ColumnDef}
use Rattle.cr_lattice.specs.Check.{is_key_column, same_bytes}
use Rattle.cr_lattice.specs.Profile.{is_collated_key, is_default_too_long, is_named_row}
use Rattle.cr_tree.specs.declared.statement.Column.{Column}
use Rattle.cr_questions.specs.Questions.{Name}
use Rattle.cr_questions.proofs.Folds.{map_same}
use Rattle.cr_resolve.specs.declared.refusal.Refusal.{Refusal}
use Rattle.cr_resolve.specs.declared.refusal.Refusal.TheVariants.{OutOfProfile}
use Rattle.cr_resolve.specs.declared.refusal.Outside.TheVariants.{Real}
use Rattle.cr_resolve.specs.Reading.{Read, fine, when}
use Rattle.cr_resolve.specs.Told.{Refuses}
use Rattle.cr_resolve.specs.Creates.{column_def, is_primary, is_real, key_place as place, or_none}
use Rattle.cr_resolve.proofs.InSight.{rest_at}
use Rattle.cr_resolve.proofs.Refusals.{ahead}
use Rattle.cr_created.specs.Drafts.{column_read, draft}

-- ---- one after another

abbrev real : Bool → List Refusal
real b = when b (OutOfProfile Real)

real_stands : (a b : Bool) (f : Refusal) → Refuses (real a) f → Refuses (real (a || b)) f
real_stands true b f h = h
real_stands false b f h = ahead [] (real b) f h

not_real : (a b : Bool) → real a ≡ [] → (a || b) ≡ b
not_real true b h = absurd (cc)
not_real false b h = refl

-- what is left to define, behind what is defined
abbrev pub behind : Option (List Name) → List ColumnDef → List Column → Read (List ColumnDef)
behind key held cs = record { bad = real (list_any is_real cs); misplaced = false; made = held ++ map (draft key) cs }

opened : (key : Option (List Name)) (cs : List Column) (i : ℕ) (c : Column) (held : List ColumnDef) → i < length cs → c ≡ get_or cs i c
    → behind key held (drop i cs) ≡ behind key held (c ∷ drop (i + 1) cs)
opened key cs i c held h e = ap (behind key held) (rest_at cs i c h e)

pub next : (key : Option (List Name)) (cs : List Column) (i : ℕ) (c : Column) (held : List ColumnDef) (d : ColumnDef) (whole : Read (List ColumnDef)) → i < length cs → c ≡ get_or cs i c
    → column_read key c ≡ fine d → behind key held (drop i cs) ≡ whole → behind key (held ++ d ∷ []) (drop (i + 1) cs) ≡ whole
next key cs i c held d whole h e f k =
    let rest : List Column = drop (i + 1) cs in
    let bad : real (list_any is_real rest) ≡ real (is_real c || list_any is_real rest) = ap real (sym (not_real (is_real c) (list_any is_real rest) (ap (λ r. r.bad) f))) in
    let made : (held ++ d ∷ []) ++ map (draft key) rest ≡ held ++ draft key c ∷ map (draft key) rest =
    append_assoc held (d ∷ []) (map (draft key) rest) ∙ ap (λ (x : ColumnDef). held ++ x ∷ map (draft key) rest) (sym (ap (λ r. r.made) f)) in
    let step : behind key (held ++ d ∷ []) rest ≡ behind key held (c ∷ rest) = λ j. record { bad = bad j; misplaced = false; made = made j } in
    step ∙ sym (opened key cs i c held h e) ∙ k

pub fails : (key : Option (List Name)) (cs : List Column) (i : ℕ) (c : Column) (held : List ColumnDef) (f : Refusal) (whole : Read (List ColumnDef)) → i < length cs → c ≡ get_or cs i c
    → Refuses (column_read key c).bad f → behind key held (drop i cs) ≡ whole → Refuses whole.bad f
fails key cs i c held f whole h e r k =
    subst (λ (w : Read (List ColumnDef)). Refuses w.bad f) (sym (opened key cs i c held h e) ∙ k)
    (real_stands (is_real c) (list_any is_real (drop (i + 1) cs)) f r)

-- ---- what a draft has of the definition

module _ (key : Option (List Name)) (cs : List Column) where
  any_map : (p : ColumnDef → Bool) (f : Column → ColumnDef) (xs : List Column) → list_any p (map f xs) ≡ list_any (λ c. p (f c)) xs
  any_map p f [] = refl
  any_map p f (x ∷ xs) = ap (λ b. p (f x) || b) (any_map p f xs)

  abbrev Alike : (ColumnDef → Bool) → Type 0
  Alike p = (c : Column) → p (draft key c) ≡ p (column_def key c)

  any_alike : (p : ColumnDef → Bool) → Alike p → list_any p (map (draft key) cs) ≡ list_any p (map (column_def key) cs)
  any_alike p same = any_map p (draft key) cs ∙ (λ i. list_any (λ c. same c i) cs) ∙ sym (any_map p (column_def key) cs)

  count_alike : (p : ColumnDef → Bool) → Alike p → count_by p (map (draft key) cs) ≡ count_by p (map (column_def key) cs)
  count_alike p same =
      let more : (Column → Bool) → ℕ → Column → ℕ = λ q a c. a + cond (q c) 1 0 in
      fold-map (λ (a : ℕ) (d : ColumnDef). a + cond (p d) 1 0) (draft key) 0 cs
      ∙ (λ i. fold (more (λ c. same c i)) 0 cs)
      ∙ sym (fold-map (λ (a : ℕ) (d : ColumnDef). a + cond (p d) 1 0) (column_def key) 0 cs)

  has_place : (o : Option ℕ) → is_some (option_map (λ p. min p 255) o) ≡ is_some o
  has_place None = refl
  has_place (Some p) = refl

  pub same_collated : list_any is_collated_key (map (draft key) cs) ≡ list_any is_collated_key (map (column_def key) cs)
  unfolding draft
  same_collated = any_alike is_collated_key (λ c. ap (λ (b : Bool). b && not (same_bytes (column_def key c).collation (codes "binary"))) (has_place (place key c)))

  pub same_row : list_any is_named_row (map (draft key) cs) ≡ list_any is_named_row (map (column_def key) cs)
  unfolding draft
  same_row = any_alike is_named_row (λ c. refl)

  pub same_long : list_any is_default_too_long (map (draft key) cs) ≡ list_any is_default_too_long (map (column_def key) cs)
  unfolding draft
  same_long = any_alike is_default_too_long (λ c. refl)

  pub same_count : count_by is_key_column (map (draft key) cs) ≡ count_by is_key_column (map (column_def key) cs)
  unfolding draft
  same_count = count_alike is_key_column (λ c. has_place (place key c))

-- ---- within the limit on a key nothing differs

capped : (o : Option ℕ) → ((p : ℕ) → o ≡ Some p → p ≤ 255) → option_map (λ p. min p 255) o ≡ o
capped None low = refl
capped (Some p) low = ap Some (min-eq_left (low p refl))

bare_place : (b : Bool) (p : ℕ) → (if b then Some 1 else None) ≡ Some p → p ≤ 255
bare_place true p e = let is : 1 ≡ p = cc in omega arith
bare_place false p e = absurd (cc)

low_place : (o : Option ℕ) (b : Bool) (n : ℕ) → ((i : ℕ) → o ≡ Some i → i < n) → n ≤ 8 → (p : ℕ) → option_or (option_map suc o) (if b then Some 1 else None) ≡ Some p → p ≤ 255
low_place None b n low few p e = bare_place b p e
low_place (Some i) b n low few p e = let is : suc i ≡ p = cc in let below : i < n = low i refl in omega arith

place_low : (key : Option (List Name)) (c : Column) → length (or_none key) ≤ 8 → (p : ℕ) → place key c ≡ Some p → p ≤ 255
place_low None c few p e = bare_place (list_any is_primary c.constraints) p e
place_low (Some names) c few p e =
    low_place (position (bytes_eq c.name) names) (list_any is_primary c.constraints) (length names) (λ i at. (position-Some (bytes_eq c.name) names i [] at).0) few p e

draft_is : (key : Option (List Name)) (c : Column) → length (or_none key) ≤ 8 → draft key c ≡ column_def key c
unfolding draft
draft_is key c few = ap (λ (o : Option ℕ). record (column_def key c) { key = o }) (capped (place key c) (place_low key c few))

pub drafts_are : (key : Option (List Name)) (cs : List Column) → length (or_none key) ≤ 8 → map (draft key) cs ≡ map (column_def key) cs
drafts_are key cs few = map_same (draft key) (column_def key) (λ c. draft_is key c few) cs

-- without a list of names there is nothing to cap
pub lone_is : (c : Column) → draft None c ≡ column_def None c
lone_is c = draft_is None c (omega arith)
