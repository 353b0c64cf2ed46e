-- Columns in sight, source by source.
use Rattle.std.proofs.Common.{◌≡◌, ◌∙◌, ℕ, suc, ◌+◌, ◌<◌, Bool, true, false, ◌&&◌, List, [], ◌∷◌, ◌++◌, length, map, drop, get_or, Option, refl, sym, ap, drop-cons, add-one, append_assoc}
use Rattle.std.specs.Prelude.{filter}
use Rattle.std.specs.Str.{bytes_eq}
use Rattle.std.proofs.lemmas.List.{map-append}
use Rattle.std.proofs.lemmas.List.Elements.{filter-append}
use Rattle.std.specs.Prelude.{cond}
use Rattle.cr_lattice.specs.declared.table.ColumnDef.{ColumnDef}
use Rattle.cr_term.specs.declared.expr.Column.{Column}
use Rattle.cr_questions.specs.Questions.{Name}
use Rattle.cr_resolve.specs.Scope.{Source, InSight, columns_from, sight_from, is_of, named_from}

pub rest_at : {A : Type 0} (xs : List A) (i : ℕ) (x : A) → i < length xs → x ≡ get_or xs i x → drop i xs ≡ x ∷ drop (i + 1) xs
rest_at xs i x h e = rw (add-one, drop-cons xs i x h) (ap (λ (y : _). y ∷ drop (suc i) xs) (let s : get_or xs i x ≡ x = cc in s))

-- ---- all sources

abbrev pub fits : Option Name → Name → InSight → Bool
fits q name c = is_of q c.source_name && bytes_eq name c.name

abbrev pub fitting_from : Option Name → Name → ℕ → ℕ → List Source → List Column
fitting_from q name source at ss = map (λ c. c.column) (filter (fits q name) (sight_from source at ss))

kept : (q : Option Name) (name sn : Name) (source place at : ℕ) (cs : List ColumnDef) → is_of q sn ≡ true
    → map (λ c. c.column) (filter (fits q name) (columns_from sn source place at cs)) ≡ named_from name source place at cs
kept q name sn source place at [] h = refl
kept q name sn source place at (c ∷ cs) h =
    let x : InSight = record { source_name = sn; name = c.name; column = record { source = source; place = place; at = at; affinity = c.affinity; collation = c.collation } } in
    let y : InSight = record { source_name = []; name = c.name; column = record { source = source; place = place; at = at; affinity = c.affinity; collation = c.collation } } in
    rw h (by x y (filter (fits q name) (columns_from sn source (suc place) (suc at) cs)) (filter (λ d. bytes_eq name d.name) (columns_from [] source (suc place) (suc at) cs)) (bytes_eq name c.name) refl (kept q name sn source (suc place) (suc at) cs h))
  where
    by : (x y : InSight) (xs ys : List InSight) (b : Bool) → x.column ≡ y.column → map (λ c. c.column) xs ≡ map (λ c. c.column) ys
        → map (λ c. c.column) (cond b (x ∷ xs) xs) ≡ map (λ c. c.column) (cond b (y ∷ ys) ys)
    by x y xs ys true e h = cc
    by x y xs ys false e h = h

none : (q : Option Name) (name sn : Name) (source place at : ℕ) (cs : List ColumnDef) → is_of q sn ≡ false
    → map (λ c. c.column) (filter (fits q name) (columns_from sn source place at cs)) ≡ []
none q name sn source place at [] h = refl
none q name sn source place at (c ∷ cs) h = rw h (none q name sn source (suc place) (suc at) cs h)

split : (q : Option Name) (name : Name) (number from : ℕ) (s : Source) (ss : List Source)
    → fitting_from q name number from (s ∷ ss) ≡ map (λ c. c.column) (filter (fits q name) (columns_from s.name number 0 from s.relation.definition.columns)) ++ fitting_from q name (suc number) (from + length s.relation.definition.columns) ss
split q name number from s ss =
    let xs : List InSight = columns_from s.name number 0 from s.relation.definition.columns in
    let ys : List InSight = sight_from (suc number) (from + length s.relation.definition.columns) ss in
    ap (map (λ c. c.column)) (filter-append (fits q name) xs ys) ∙ map-append (λ c. c.column) (filter (fits q name) xs) (filter (fits q name) ys)

-- a source of that name, and one of another
pub source_named : (q : Option Name) (name : Name) (sources : List Source) (number from : ℕ) (s : Source) (held whole : List Column) → number < length sources → s ≡ get_or sources number s → is_of q s.name ≡ true
    → held ++ fitting_from q name number from (drop number sources) ≡ whole
    → (held ++ named_from name number 0 from s.relation.definition.columns) ++ fitting_from q name (number + 1) (from + length s.relation.definition.columns) (drop (number + 1) sources) ≡ whole
source_named q name sources number from s held whole h e t k =
    let cs : List ColumnDef = s.relation.definition.columns in
    let left : List Column = fitting_from q name (number + 1) (from + length cs) (drop (number + 1) sources) in
    let opened : fitting_from q name number from (drop number sources) ≡ named_from name number 0 from cs ++ left =
    ap (fitting_from q name number from) (rest_at sources number s h e) ∙ split q name number from s (drop (number + 1) sources) ∙ rw add-one (ap (λ (xs : List Column). xs ++ fitting_from q name (suc number) (from + length cs) (drop (suc number) sources)) (kept q name s.name number 0 from cs t)) in
    append_assoc held (named_from name number 0 from cs) left ∙ sym (ap (λ (xs : List Column). held ++ xs) opened) ∙ k

pub source_passed : (q : Option Name) (name : Name) (sources : List Source) (number from : ℕ) (s : Source) (held whole : List Column) → number < length sources → s ≡ get_or sources number s → is_of q s.name ≡ false
    → held ++ fitting_from q name number from (drop number sources) ≡ whole
    → held ++ fitting_from q name (number + 1) (from + length s.relation.definition.columns) (drop (number + 1) sources) ≡ whole
source_passed q name sources number from s held whole h e t k =
    let cs : List ColumnDef = s.relation.definition.columns in
    let left : List Column = fitting_from q name (number + 1) (from + length cs) (drop (number + 1) sources) in
    let opened : fitting_from q name number from (drop number sources) ≡ left =
    ap (fitting_from q name number from) (rest_at sources number s h e) ∙ split q name number from s (drop (number + 1) sources) ∙ rw add-one (ap (λ (xs : List Column). xs ++ fitting_from q name (suc number) (from + length cs) (drop (suc number) sources)) (none q name s.name number 0 from cs t)) in
    sym (ap (λ (xs : List Column). held ++ xs) opened) ∙ k
