-- Sources that differ in where their relations stand show the same columns.
use Rattle.std.proofs.Common.{◌≡◌, ◌∙◌, ℕ, suc, ◌+◌, Bool, true, false, List, [], ◌∷◌, ◌++◌, map, take, length, Option, Some, None, refl, ap, sym}
use Rattle.std.specs.Prelude.{if◌then◌else◌}
use Rattle.std.specs.Option.{option_map}
use Rattle.std.specs.List.{AllByRecursion, list_any}
use Rattle.std.specs.Str.{bytes_eq}
use Rattle.cr_lattice.specs.declared.catalog.Catalog.{Catalog}
use Rattle.cr_term.specs.declared.query.Relation.{Relation}
use Rattle.cr_questions.specs.Questions.{Name}
use Rattle.cr_resolve.specs.declared.refusal.Refusal.TheVariants.{NoSuchTable}
use Rattle.cr_resolve.specs.Reading.{Read, fine, refused, with, with_both}
use Rattle.cr_resolve.specs.Known.{Known, relation_of, no_relation, or_no_table, table}
use Rattle.cr_resolve.specs.declared.scope.Source.{Source}
use Rattle.cr_resolve.specs.Scope.{columns_from, sight_from, in_sight}
use Rattle.cr_resolve.specs.Queries.{Written, sources_of}
use Rattle.cr_language.specs.Laws.{unplaced, StandsForTheSame}
use Rattle.cr_language.proofs.Lists.{both, any_map, take_map}

abbrev pub unplaced_source : Source → Source
unplaced_source s = record s { relation = unplaced s.relation }

-- the same sources, wherever their relations stand
abbrev pub SameSources : List Source → List Source → Type 0
SameSources ss us = map unplaced_source ss ≡ map unplaced_source us

sight_unplaced : (n at : ℕ) (ss : List Source) → sight_from n at (map unplaced_source ss) ≡ sight_from n at ss
sight_unplaced n at [] = refl
sight_unplaced n at (s ∷ ss) =
    ap (λ more. columns_from s.name n 0 at s.relation.definition.columns ++ more) (sight_unplaced (suc n) (at + length s.relation.definition.columns) ss)

pub sight_same : (ss us : List Source) → SameSources ss us → in_sight ss ≡ in_sight us
sight_same ss us e = sym (sight_unplaced 0 0 ss) ∙ ap in_sight e ∙ sight_unplaced 0 0 us

pub named_same : (q : Name) (ss us : List Source) → SameSources ss us → list_any (λ s. bytes_eq q s.name) ss ≡ list_any (λ s. bytes_eq q s.name) us
named_same q ss us e =
    let is : (xs : List Source) → list_any (λ s. bytes_eq q s.name) (map unplaced_source xs) ≡ list_any (λ s. bytes_eq q s.name) xs = any_map unplaced_source (λ s. bytes_eq q s.name) (λ s. bytes_eq q s.name) (λ s. refl) in
    sym (is ss) ∙ ap (list_any (λ (s : Source). bytes_eq q s.name)) e ∙ is us

pub taken_same : (n : ℕ) (ss us : List Source) → SameSources ss us → SameSources (take n ss) (take n us)
taken_same n ss us e = take_map unplaced_source n ss ∙ ap (take n) e ∙ sym (take_map unplaced_source n us)

pub chosen_same : (b : Bool) (n : ℕ) (ss us : List Source) → SameSources ss us → SameSources (if b then take n ss else ss) (if b then take n us else us)
chosen_same true n ss us e = taken_same n ss us e
chosen_same false n ss us e = e

-- ---- the tables of FROM

abbrev table_by : Name → Option Relation → Read Relation
table_by name (Some r) = fine r
table_by name None = refused (NoSuchTable name) (unplaced no_relation)

table_is : (name : Name) (o : Option Relation) → with unplaced (or_no_table name o) ≡ table_by name (option_map unplaced o)
table_is name (Some r) = refl
table_is name None = refl

pub table_same : (known : Known) (c d : Catalog) (name : Name) → StandsForTheSame known c d name
    → with unplaced (table (record known { catalog = c }) name) ≡ with unplaced (table (record known { catalog = d }) name)
table_same known c d name e =
    table_is name (relation_of (record known { catalog = c }) name) ∙ ap (table_by name) e ∙ sym (table_is name (relation_of (record known { catalog = d }) name))

pub sources_same : (known : Known) (c d : Catalog) (ws : List Written) → AllByRecursion (StandsForTheSame known c d) (map (λ w. w.table) ws)
    → with (map unplaced_source) (sources_of (record known { catalog = c }) ws) ≡ with (map unplaced_source) (sources_of (record known { catalog = d }) ws)
sources_same known c d [] h = refl
sources_same known c d (w ∷ ws) h =
    both (with_both (λ (s : Source) ss. s ∷ ss)) _ _ _ _
    (ap (with (λ (r : Relation). record { name = w.name; relation = r })) (table_same known c d w.table h.0))
    (sources_same known c d ws h.1)
