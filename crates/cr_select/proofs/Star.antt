-- The columns that `*` shows, source by source.
use Rattle.std.proofs.Common.{◌≡◌, ◌∙◌, ℕ, suc, ◌+◌, ◌<◌, Bool, true, false, ◌||◌, List, [], ◌∷◌, ◌++◌, length, map, drop, get_or, Option, None, refl, sym, ap, subst, append_assoc, add-one}
use Rattle.std.specs.Prelude.{filter}
use Rattle.std.proofs.lemmas.List.{map-append}
use Rattle.std.proofs.lemmas.List.Elements.{filter-append}
use Rattle.cr_lattice.specs.declared.table.ColumnDef.{ColumnDef}
use Rattle.cr_tree.specs.declared.statement.Shown.{Shown as ShownTree}
use Rattle.cr_term.specs.Nodes as e
use Rattle.cr_questions.specs.Questions.{Name}
use Rattle.cr_resolve.specs.declared.refusal.Refusal.{Refusal}
use Rattle.cr_resolve.specs.declared.reading.Made.{Made}
use Rattle.cr_resolve.specs.Known.{Known}
use Rattle.cr_resolve.specs.Reading.{Read, with_both}
use Rattle.cr_resolve.specs.declared.scope.Source.{Source}
use Rattle.cr_resolve.specs.Scope.{InSight, columns_from, sight_from, in_sight, is_of}
use Rattle.cr_resolve.specs.Queries.{Result as ResultOf, star, result, results_of}
use Rattle.cr_resolve.specs.Told.{told, Refuses}
use Rattle.cr_resolve.proofs.InSight.{rest_at}
use Rattle.cr_resolve.proofs.Refusals.{ahead}
use Rattle.cr_select.specs.declared.outputs.Output.{Output}
use Rattle.cr_select.specs.Outputs.{shown_column, star_columns, as_result}
use Rattle.cr_select.proofs.Each.{or_assoc}

abbrev pub shown_from : Option Name → ℕ → ℕ → List Source → List Output
shown_from q number from ss = map shown_column (filter (λ c. is_of q c.source_name) (sight_from number from ss))

kept : (q : Option Name) (sn : Name) (source place at : ℕ) (cs : List ColumnDef) → is_of q sn ≡ true
    → map shown_column (filter (λ c. is_of q c.source_name) (columns_from sn source place at cs)) ≡ map shown_column (columns_from [] source place at cs)
kept q sn source place at [] h = refl
kept q sn source place at (c ∷ cs) h =
    let x : InSight = record { source_name = []; name = c.name; column = record { source = source; place = place; at = at; affinity = c.affinity; collation = c.collation } } in
    rw h (ap (λ (os : List Output). shown_column x ∷ os) (kept q sn source (suc place) (suc at) cs h))

none : (q : Option Name) (sn : Name) (source place at : ℕ) (cs : List ColumnDef) → is_of q sn ≡ false
    → map shown_column (filter (λ c. is_of q c.source_name) (columns_from sn source place at cs)) ≡ []
none q sn source place at [] h = refl
none q sn source place at (c ∷ cs) h = rw h (none q sn source (suc place) (suc at) cs h)

split : (q : Option Name) (number from : ℕ) (s : Source) (ss : List Source)
    → shown_from q number from (s ∷ ss) ≡ map shown_column (filter (λ c. is_of q c.source_name) (columns_from s.name number 0 from s.relation.definition.columns)) ++ shown_from q (suc number) (from + length s.relation.definition.columns) ss
split q number from s ss =
    let xs : List InSight = columns_from s.name number 0 from s.relation.definition.columns in
    let ys : List InSight = sight_from (suc number) (from + length s.relation.definition.columns) ss in
    ap (map shown_column) (filter-append (λ (c : InSight). is_of q c.source_name) xs ys) ∙ map-append shown_column (filter (λ c. is_of q c.source_name) xs) (filter (λ c. is_of q c.source_name) ys)

-- a source that is shown, and one that is not
pub source_shown : (q : Option Name) (sources : List Source) (number from : ℕ) (s : Source) (held whole : List Output) → number < length sources → s ≡ get_or sources number s → is_of q s.name ≡ true
    → held ++ shown_from q number from (drop number sources) ≡ whole
    → (held ++ map shown_column (columns_from [] number 0 from s.relation.definition.columns)) ++ shown_from q (number + 1) (from + length s.relation.definition.columns) (drop (number + 1) sources) ≡ whole
source_shown q sources number from s held whole h e t k =
    let cs : List ColumnDef = s.relation.definition.columns in
    let mine : List Output = map shown_column (columns_from [] number 0 from cs) in
    let left : List Output = shown_from q (number + 1) (from + length cs) (drop (number + 1) sources) in
    let opened : shown_from q number from (drop number sources) ≡ mine ++ left =
    ap (shown_from q number from) (rest_at sources number s h e) ∙ split q number from s (drop (number + 1) sources) ∙ rw add-one (ap (λ (xs : List Output). xs ++ shown_from q (suc number) (from + length cs) (drop (suc number) sources)) (kept q s.name number 0 from cs t)) in
    append_assoc held mine left ∙ sym (ap (λ (xs : List Output). held ++ xs) opened) ∙ k

pub source_passed : (q : Option Name) (sources : List Source) (number from : ℕ) (s : Source) (held whole : List Output) → number < length sources → s ≡ get_or sources number s → is_of q s.name ≡ false
    → held ++ shown_from q number from (drop number sources) ≡ whole
    → held ++ shown_from q (number + 1) (from + length s.relation.definition.columns) (drop (number + 1) sources) ≡ whole
source_passed q sources number from s held whole h e t k =
    let cs : List ColumnDef = s.relation.definition.columns in
    let left : List Output = shown_from q (number + 1) (from + length cs) (drop (number + 1) sources) in
    let opened : shown_from q number from (drop number sources) ≡ left =
    ap (shown_from q number from) (rest_at sources number s h e) ∙ split q number from s (drop (number + 1) sources) ∙ rw add-one (ap (λ (xs : List Output). xs ++ shown_from q (suc number) (from + length cs) (drop (suc number) sources)) (none q s.name number 0 from cs t)) in
    sym (ap (λ (xs : List Output). held ++ xs) opened) ∙ k

-- ---- as results

star_results : (cs : List InSight) → map as_result (map shown_column cs) ≡ map (λ c. record { alias = None; expr = e.Column c.column }) cs
star_results [] = refl
star_results (c ∷ cs) = ap (λ (rs : List ResultOf). as_result (shown_column c) ∷ rs) (star_results cs)

pub star_is : (q : Option Name) (sources : List Source) (os : List Output) → os ≡ star_columns sources q → map as_result os ≡ star sources q
star_is q sources os h = ap (map as_result) h ∙ star_results (filter (λ c. is_of q c.source_name) (in_sight sources))

-- ---- the results of all items

-- what is left to read, behind what is read
abbrev pub after : Bool → List Output → Read (List ResultOf) → Read (List ResultOf)
after b held r = record { bad = r.bad; misplaced = b || r.misplaced; made = map as_result held ++ r.made }

opened : (known : Known) (sources : List Source) (shown : List ShownTree) (i : ℕ) (t : ShownTree) (b : Bool) (held : List Output) → i < length shown → t ≡ get_or shown i t
    → after b held (results_of known sources (drop i shown)) ≡ after b held (with_both (λ rs more. rs ++ more) (result known sources t) (results_of known sources (drop (i + 1) shown)))
opened known sources shown i t b held h e = ap (λ (ts : List ShownTree). after b held (results_of known sources ts)) (rest_at shown i t h e)

pub next : (known : Known) (sources : List Source) (shown : List ShownTree) (i : ℕ) (t : ShownTree) (b : Bool) (held : List Output) (m : Made (List Output)) (whole : Read (List ResultOf))
    → i < length shown → t ≡ get_or shown i t → result known sources t ≡ told (record { made = map as_result m.made; is_misplaced = m.is_misplaced })
    → after b held (results_of known sources (drop i shown)) ≡ whole → after (b || m.is_misplaced) (held ++ m.made) (results_of known sources (drop (i + 1) shown)) ≡ whole
next known sources shown i t b held m whole h e k q =
    let more : Read (List ResultOf) = results_of known sources (drop (i + 1) shown) in
    let step : after b held (with_both (λ rs more. rs ++ more) (result known sources t) more) ≡ after b held (with_both (λ rs more. rs ++ more) (told (record { made = map as_result m.made; is_misplaced = m.is_misplaced })) more) =
    ap (λ (r : Read (List ResultOf)). after b held (with_both (λ rs more. rs ++ more) r more)) k in
    let flag : Bool → Read (List ResultOf) = λ c. record { bad = more.bad; misplaced = c; made = map as_result (held ++ m.made) ++ more.made } in
    let list : List ResultOf → Read (List ResultOf) = λ ys. record { bad = more.bad; misplaced = b || (m.is_misplaced || more.misplaced); made = ys } in
    ap flag (or_assoc b m.is_misplaced more.misplaced) ∙ ap (λ (ys : List ResultOf). list (ys ++ more.made)) (map-append as_result held m.made) ∙ ap list (append_assoc (map as_result held) (map as_result m.made) more.made)
    ∙ sym step ∙ sym (opened known sources shown i t b held h e) ∙ q

pub fails : (known : Known) (sources : List Source) (shown : List ShownTree) (i : ℕ) (t : ShownTree) (b : Bool) (held : List Output) (g : Refusal) (whole : Read (List ResultOf))
    → i < length shown → t ≡ get_or shown i t → Refuses (result known sources t).bad g
    → after b held (results_of known sources (drop i shown)) ≡ whole → Refuses whole.bad g
fails known sources shown i t b held g whole h e r q =
    subst (λ (w : Read (List ResultOf)). Refuses w.bad g) (sym (opened known sources shown i t b held h e) ∙ q)
    (ahead (result known sources t).bad (results_of known sources (drop (i + 1) shown)).bad g r)
