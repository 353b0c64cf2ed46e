-- Columns that get values, with the names before them.
use Rattle.std.proofs.Common.{◌≡◌, ◌∙◌, ℕ, ◌+◌, ◌<◌, Bool, false, ◌||◌, List, [], ◌∷◌, ◌++◌, length, map, take, drop, get_or, refl, sym, ap}
use Rattle.std.specs.Prelude.{reverse}
use Rattle.std.specs.List.{list_any}
use Rattle.std.specs.Str.{bytes_eq}
use Rattle.std.proofs.lemmas.List.{map_more, reverse-append, take_more}
use Rattle.std.proofs.lemmas.List.Sorted.{IsPermutation-reverse, list_any-IsPermutation}
use Rattle.cr_lattice.specs.declared.table.TableDef.{TableDef}
use Rattle.cr_tree.specs.declared.statement.Assignment.{Assignment as AssignmentTree}
use Rattle.cr_term.specs.declared.query.Assignment.{Assignment}
use Rattle.cr_questions.specs.Questions.{Name}
use Rattle.cr_resolve.specs.declared.refusal.Refusal.{Refusal}
use Rattle.cr_resolve.specs.declared.reading.Made.{Made}
use Rattle.cr_resolve.specs.Known.{Known}
use Rattle.cr_resolve.specs.Reading.{Read, fine, with_both}
use Rattle.cr_resolve.specs.declared.scope.Source.{Source}
use Rattle.cr_resolve.specs.Told.{told, Refuses}
use Rattle.cr_resolve.specs.Writes.{assignments, targets}
use Rattle.cr_resolve.proofs.InSight.{rest_at}
use Rattle.cr_written.specs.Targets.{target_once}
use Rattle.cr_written.specs.Updates.{assignment}
use Rattle.cr_written.proofs.Loops.{ahead_of, behind, fails, next}

-- in which order the names before stand is the same
turned : {X : Type 0} (p : X → Bool) (xs : List X) → list_any p (reverse xs) ≡ list_any p xs
turned p xs = sym (list_any-IsPermutation p xs (reverse xs) (IsPermutation-reverse xs))

-- ---- names

abbrev pub before : List Name → ℕ → List Name
before names i = reverse (take i names)

one_more : (names : List Name) (i : ℕ) (n : Name) → i < length names → n ≡ get_or names i n → before names (i + 1) ≡ n ∷ before names i
one_more names i n h e = ap reverse (take_more names i n h) ∙ reverse-append (take i names) (get_or names i n ∷ []) ∙ ap (λ (m : Name). m ∷ before names i) (sym e)

-- the columns of the names that are left
abbrev pub targets_left : TableDef → List Name → ℕ → Read (List ℕ)
targets_left def names i = targets def (before names i) (drop i names)

pub targets_at : (def : TableDef) (names : List Name) (i : ℕ) (n : Name) (b : Bool) → i < length names → n ≡ get_or names i n → b ≡ list_any (bytes_eq n) (take i names)
    → targets_left def names i ≡ ahead_of (target_once def b n) (targets_left def names (i + 1))
targets_at def names i n b h e is =
    let rest : List Name = drop (i + 1) names in
    ap (targets def (before names i)) (rest_at names i n h e)
    ∙ ap (λ (c : Bool). ahead_of (target_once def c n) (targets def (n ∷ before names i) rest)) (turned (bytes_eq n) (take i names) ∙ sym is)
    ∙ ap (λ (ms : List Name). ahead_of (target_once def b n) (targets def ms rest)) (sym (one_more names i n h e))

-- the places that are found, with no aggregate among them
abbrev pub found : List ℕ → Made (List ℕ)
found places = record { made = places; is_misplaced = false }

module _ (def : TableDef) (names : List Name) (held : List ℕ) (i : ℕ) (n : Name) (b : Bool) (below : i < length names) (item : n ≡ get_or names i n) (is : b ≡ list_any (bytes_eq n) (take i names))
    (left : behind (found held) (targets_left def names i) ≡ targets def [] names) where
  opened : behind (found held) (ahead_of (target_once def b n) (targets_left def names (i + 1))) ≡ targets def [] names
  opened = sym (ap (behind (found held)) (targets_at def names i n b below item is)) ∙ left

  pub target_fails : (f : Refusal) → Refuses (target_once def b n).bad f → Refuses (targets def [] names).bad f
  target_fails f h = fails (found held) (target_once def b n) (targets_left def names (i + 1)) (targets def [] names) f h opened

  pub target_next : (more : List ℕ) (at : ℕ) → target_once def b n ≡ fine at → more ≡ held ++ at ∷ [] → behind (found more) (targets_left def names (i + 1)) ≡ targets def [] names
  target_next more at h g =
      let m : Made ℕ = record { made = at; is_misplaced = false } in
      next (found held) (found more) m (target_once def b n) (targets_left def names (i + 1)) (targets def [] names) h (ap fine g) opened

-- ---- assignments

abbrev column_of : AssignmentTree → Name
column_of a = a.column

abbrev pub assigned : List AssignmentTree → ℕ → List Name
assigned trees i = reverse (map column_of (take i trees))

one_assigned : (trees : List AssignmentTree) (i : ℕ) (a : AssignmentTree) → i < length trees → a ≡ get_or trees i a → assigned trees (i + 1) ≡ a.column ∷ assigned trees i
one_assigned trees i a h e =
    ap reverse (map_more column_of trees i a h) ∙ reverse-append (map column_of (take i trees)) ((get_or trees i a).column ∷ [])
    ∙ ap (λ (b : AssignmentTree). b.column ∷ assigned trees i) (sym e)

any_of : {X Y : Type 0} (p : Y → Bool) (f : X → Y) (xs : List X) → list_any p (map f xs) ≡ list_any (λ x. p (f x)) xs
any_of p f [] = refl
any_of p f (x ∷ xs) = ap (λ (b : Bool). p (f x) || b) (any_of p f xs)

abbrev pub assignments_left : Known → Source → List AssignmentTree → ℕ → Read (List Assignment)
assignments_left known s trees i = assignments known (s ∷ []) s.relation.definition (assigned trees i) (drop i trees)

pub assignments_at : (known : Known) (s : Source) (trees : List AssignmentTree) (i : ℕ) (a : AssignmentTree) (b : Bool) → i < length trees → a ≡ get_or trees i a
    → b ≡ list_any (λ x. bytes_eq a.column x.column) (take i trees)
    → assignments_left known s trees i ≡ ahead_of (assignment known s b a) (assignments_left known s trees (i + 1))
assignments_at known s trees i a b h e is =
    let rest : List AssignmentTree = drop (i + 1) trees in
    let later : List Name → Read (List Assignment) = λ ms. assignments known (s ∷ []) s.relation.definition ms rest in
    let same : list_any (bytes_eq a.column) (assigned trees i) ≡ b = turned (bytes_eq a.column) (map column_of (take i trees)) ∙ any_of (bytes_eq a.column) column_of (take i trees) ∙ sym is in
    ap (assignments known (s ∷ []) s.relation.definition (assigned trees i)) (rest_at trees i a h e)
    ∙ ap (λ (c : Bool). ahead_of (assignment known s c a) (later (a.column ∷ assigned trees i))) same
    ∙ ap (λ (ms : List Name). ahead_of (assignment known s b a) (later ms)) (sym (one_assigned trees i a h e))

module _ (known : Known) (s : Source) (trees : List AssignmentTree) (held : Made (List Assignment)) (i : ℕ) (a : AssignmentTree) (b : Bool) (below : i < length trees) (item : a ≡ get_or trees i a)
    (is : b ≡ list_any (λ x. bytes_eq a.column x.column) (take i trees)) (left : behind held (assignments_left known s trees i) ≡ assignments known (s ∷ []) s.relation.definition [] trees) where
  abbrev all : Read (List Assignment)
  all = assignments known (s ∷ []) s.relation.definition [] trees

  assigned_there : behind held (ahead_of (assignment known s b a) (assignments_left known s trees (i + 1))) ≡ all
  assigned_there = sym (ap (behind held) (assignments_at known s trees i a b below item is)) ∙ left

  pub assignment_fails : (f : Refusal) → Refuses (assignment known s b a).bad f → Refuses all.bad f
  assignment_fails f h = fails held (assignment known s b a) (assignments_left known s trees (i + 1)) all f h assigned_there

  pub assignment_next : (more : Made (List Assignment)) (m : Made Assignment) → assignment known s b a ≡ told m → told more ≡ with_both (λ ys y. ys ++ y ∷ []) (told held) (told m)
      → behind more (assignments_left known s trees (i + 1)) ≡ all
  assignment_next more m h g = next held more m (assignment known s b a) (assignments_left known s trees (i + 1)) all h g assigned_there
