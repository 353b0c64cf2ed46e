-- An accepted select is a query over the tables that are named in its FROM.
use Rattle.std.proofs.Common.{◌≡◌, ◌∙◌, ℕ, suc, Bool, true, false, List, [], ◌∷◌, ◌++◌, map, Option, Some, None, Ok, refl, ap, sym}
use Rattle.std.specs.Prelude.{if◌then◌else◌}
use Rattle.std.specs.Option.{option_or}
use Rattle.std.specs.Str.{bytes_eq}
use Rattle.std.proofs.lemmas.Slice.Eq.{bytes_eq-Decides}
use Rattle.cr_lattice.specs.declared.table.Table.{Table}
use Rattle.cr_lattice.specs.declared.table.TableDef.{TableDef}
use Rattle.cr_tree.specs.declared.statement.Select.{Select}
use Rattle.cr_tree.specs.declared.statement.Statement.TheVariants as s
use Rattle.cr_term.specs.declared.query.Relation.{Relation}
use Rattle.cr_term.specs.declared.query.Held.TheVariants as held
use Rattle.cr_term.specs.declared.query.Resolved.{Resolved}
use Rattle.cr_term.specs.declared.query.Resolved.TheVariants as r
use Rattle.cr_resolve.specs.declared.refusal.Refusal.{Refusal}
use Rattle.cr_questions.specs.declared.question.Question.{Question}
use Rattle.cr_resolve.specs.Known.{Known, table_at, module_at, relation_of, or_no_table, table}
use Rattle.cr_resolve.specs.declared.scope.Source.{Source}
use Rattle.cr_resolve.specs.Queries.{Written, written, sources_of, joined_from, named, misaggregate, distinct_order, select}
use Rattle.cr_questions.specs.Questions.{Name, Answers, first_denied, questions, left_of, left, left_query, left_joined, relations_of}
use Rattle.cr_resolve.specs.Resolve.{cast_outside, select_or_mark, judged, or_allowed}
use Rattle.cr_language.specs.Laws.{table_names, SelectsReadTheirTables}
use Rattle.cr_language.proofs.Lists.{both, map_map}

-- ---- nothing stands against a list of parts

pub none_first : {X : Type 0} (xs ys : List X) → xs ++ ys ≡ [] → xs ≡ []
none_first [] ys e = refl
none_first (x ∷ xs) ys e = absurd (let z : ⊥ = cc in z)

pub none_second : {X : Type 0} (xs ys : List X) → xs ++ ys ≡ [] → ys ≡ []
none_second [] ys e = e
none_second (x ∷ xs) ys e = absurd (let z : ⊥ = cc in z)

-- ---- a relation has the name by which it is found

equal : (m n : Name) → bytes_eq m n ≡ true → m ≡ n
equal m n e = (bytes_eq-Decides m n).0 e

found_name : (name other : Name) (b : Bool) (here : Relation) (more : Option Relation) (x : Relation) → bytes_eq name other ≡ b → here.definition.name ≡ other
    → (more ≡ Some x → x.definition.name ≡ name) → (if b then Some here else more) ≡ Some x → x.definition.name ≡ name
found_name name other true here more x t h f e = let is : here ≡ x = cc in ap (λ (y : Relation). y.definition.name) (sym is) ∙ h ∙ sym (equal name other t)
found_name name other false here more x t h f e = f e

table_found : (name : Name) (at : ℕ) (ts : List Table) (x : Relation) → table_at name at ts ≡ Some x → x.definition.name ≡ name
table_found name at [] x e = absurd (let z : ⊥ = cc in z)
table_found name at (t ∷ ts) x e =
    found_name name t.definition.name (bytes_eq name t.definition.name) (record { held = held.Table at t.is_replicated; definition = t.definition }) (table_at name (suc at) ts) x
    refl refl (table_found name (suc at) ts x) e

module_found : (name : Name) (at : ℕ) (ms : List TableDef) (x : Relation) → module_at name at ms ≡ Some x → x.definition.name ≡ name
module_found name at [] x e = absurd (let z : ⊥ = cc in z)
module_found name at (m ∷ ms) x e =
    found_name name m.name (bytes_eq name m.name) (record { held = held.Module at; definition = m }) (module_at name (suc at) ms) x
    refl refl (module_found name (suc at) ms x) e

either_found : (name : Name) (o p : Option Relation) (x : Relation) → (o ≡ Some x → x.definition.name ≡ name) → (p ≡ Some x → x.definition.name ≡ name)
    → option_or o p ≡ Some x → x.definition.name ≡ name
either_found name (Some y) p x f g e = f e
either_found name None p x f g e = g e

pub relation_found : (known : Known) (name : Name) (x : Relation) → relation_of known name ≡ Some x → x.definition.name ≡ name
relation_found known name x e =
    either_found name (table_at name 0 known.catalog.tables) (module_at name 0 known.catalog.modules) x
    (table_found name 0 known.catalog.tables x) (module_found name 0 known.catalog.modules x) e

by_option : (known : Known) (name : Name) (o : Option Relation) → relation_of known name ≡ o → (or_no_table name o).bad ≡ [] → (or_no_table name o).made.definition.name ≡ name
by_option known name None e bad = absurd (let z : ⊥ = cc in z)
by_option known name (Some x) e bad = relation_found known name x e

table_named : (known : Known) (name : Name) → (table known name).bad ≡ [] → (table known name).made.definition.name ≡ name
table_named known name bad = by_option known name (relation_of known name) refl bad

-- ---- the tables of FROM

sources_named : (known : Known) (ws : List Written) → (sources_of known ws).bad ≡ [] → map (λ s. s.relation.definition.name) (sources_of known ws).made ≡ map (λ w. w.table) ws
sources_named known [] bad = refl
sources_named known (w ∷ ws) bad =
    both (λ n ns. n ∷ ns) _ _ _ _ (table_named known w.table (none_first (table known w.table).bad (sources_of known ws).bad bad))
    (sources_named known ws (none_second (table known w.table).bad (sources_of known ws).bad bad))

joined_named : (known : Known) (ss : List Source) (n : ℕ) (ws : List Written) (xs : List Source) → map (λ s. s.relation.definition.name) xs ≡ map (λ w. w.table) ws
    → map (λ j. j.relation.definition.name) (joined_from known ss n ws xs).made ≡ map (λ w. w.table) ws
joined_named known ss n [] [] e = refl
joined_named known ss n [] (x ∷ xs) e = refl
joined_named known ss n (w ∷ ws) [] e = absurd (let z : ⊥ = cc in z)
joined_named known ss n (w ∷ ws) (x ∷ xs) e =
    let first : x.relation.definition.name ≡ w.table = cc in
    let more : map (λ (s : Source). s.relation.definition.name) xs ≡ map (λ (w : Written). w.table) ws = cc in
    both (λ n ns. n ∷ ns) _ _ _ _ first (joined_named known ss (suc n) ws xs more)

-- what stands against a select's sources stands against it
pub sources_fine : (known : Known) (q : Select) → (named known q).bad ≡ [] → (sources_of known (written q.from)).bad ≡ []
sources_fine known q bad = firsts (sources_of known (written q.from)).bad _ _ _ _ _ _ _ bad where
  firsts : (a b c d e f g h : List Refusal) → a ++ b ++ c ++ d ++ e ++ f ++ g ++ h ≡ [] → a ≡ []
  firsts a b c d e f g h p =
      none_first a b (none_first (a ++ b) c (none_first (a ++ b ++ c) d (none_first (a ++ b ++ c ++ d) e (none_first (a ++ b ++ c ++ d ++ e) f
      (none_first (a ++ b ++ c ++ d ++ e ++ f) g (none_first (a ++ b ++ c ++ d ++ e ++ f ++ g) h p))))))

query_named : (known : Known) (q : Select) → (select known q).bad ≡ [] → map (λ j. j.relation.definition.name) (select known q).made.joined ≡ table_names q
query_named known q bad =
    let sources = sources_of known (written q.from) in
    joined_named known sources.made 0 (written q.from) sources.made
    (sources_named known (written q.from) (sources_fine known q (none_first (named known q).bad (misaggregate q (named known q)) (none_first ((named known q).bad ++ misaggregate q (named known q)) (distinct_order q (select known q).made) bad))))

-- ---- what is accepted

pub record Accepted (answers : Answers) (x : Resolved) (bad : List Refusal) (y : Resolved) : Type 0 where
  pub none : bad ≡ []
  pub is : y ≡ left_of answers x

by_denied : (answers : Answers) (x : Resolved) (o : Option Question) (y : Resolved) → or_allowed answers x o ≡ Ok y → y ≡ left_of answers x
by_denied answers x None y e = let is : left_of answers x ≡ y = cc in sym is
by_denied answers x (Some q) y e = absurd (let z : ⊥ = cc in z)

pub by_bad : (answers : Answers) (x : Resolved) (bad : List Refusal) (y : Resolved) → judged answers x bad ≡ Ok y → Accepted answers x bad y
by_bad answers x (f ∷ fs) y e = absurd (let z : ⊥ = cc in z)
by_bad answers x [] y e = record { none = refl; is = by_denied answers x (first_denied answers (questions x)) y e }

pub read_their_tables : SelectsReadTheirTables
read_their_tables known answers q y unmarked e =
    let x = r.Select (select known q).made in
    let casts = cast_outside (s.Select q) in
    let a = by_bad answers x (casts ++ (select known q).bad) y
    (ap (λ (o : Option Name). judged answers (select_or_mark known q o).made (casts ++ (select_or_mark known q o).bad)) (sym unmarked) ∙ e) in
    let f = left answers (relations_of (select known q).made) in (
      left_query f (select known q).made,
      (
        a.is,
        map_map (left_joined f) (λ j. j.relation.definition.name) (λ j. j.relation.definition.name) (λ j. refl) (select known q).made.joined
            ∙ query_named known q (none_second casts (select known q).bad a.none),
      ),
    )
