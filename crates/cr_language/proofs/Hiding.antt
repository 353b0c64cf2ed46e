-- The columns that stand in an accepted select may be read, so what stands in others changes no answer.
use Rattle.std.proofs.Common.{◌≡◌, ◌∙◌, List, [], ◌∷◌, ◌++◌, map, Option, Some, None, Ok, Err, refl, ap, sym, subst}
use Rattle.std.specs.Prelude.{Result}
use Rattle.std.specs.Option.{option_map, option_map_or}
use Rattle.std.specs.List.{AllByRecursion}
use Rattle.cr_lattice.specs.declared.catalog.Catalog.{Catalog}
use Rattle.cr_lattice.specs.declared.table.TableDef.{TableDef}
use Rattle.cr_tree.specs.declared.statement.Select.{Select}
use Rattle.cr_tree.specs.declared.statement.Statement.{Statement}
use Rattle.cr_tree.specs.declared.statement.Statement.TheVariants as s
use Rattle.cr_term.specs.declared.query.Relation.{Relation}
use Rattle.cr_term.specs.declared.query.Joined.{Joined}
use Rattle.cr_term.specs.declared.query.Query.{Query as Resolving}
use Rattle.cr_term.specs.declared.query.Insert.{Insert}
use Rattle.cr_term.specs.declared.query.Update.{Update}
use Rattle.cr_term.specs.declared.query.Delete.{Delete}
use Rattle.cr_term.specs.declared.query.Create.{Create}
use Rattle.cr_term.specs.declared.query.Alter.{Alter}
use Rattle.cr_term.specs.declared.query.MarkReplicated.{MarkReplicated}
use Rattle.cr_term.specs.declared.query.Resolved.{Resolved}
use Rattle.cr_term.specs.declared.query.Resolved.TheVariants as r
use Rattle.cr_query.specs.Queries.{Query}
use Rattle.cr_query.specs.Plans.{AllWithin, seen}
use Rattle.cr_query.specs.Query.{SameTables}
use Rattle.cr_meaning.specs.View.{Ordered, query, joining}
use Rattle.cr_resolve.specs.declared.refusal.Refusal.{Refusal as Unresolved}
use Rattle.cr_resolve.specs.Known.{Known, relation_of, or_no_table, table}
use Rattle.cr_resolve.specs.Queries.{Written, written, sources_of, misaggregate, distinct_order, named, select}
use Rattle.cr_resolve.specs.Resolve.{cast_outside, marked, select_or_mark, read, complaints, resolved}
use Rattle.cr_questions.specs.Questions.{Name, Answers, relations_of, left, left_query, left_of}
use Rattle.cr_world.specs.Language.{AreWide, definition_in}
use Rattle.cr_world.specs.Resolved as world
use Rattle.cr_world.specs.State.{State, catalog, tables_named}
use Rattle.cr_world.proofs.Claims.{blind}
use Rattle.cr_language.specs.Readable.{readable, readable_of, readable_rows, ModulesAreWide, OnlyReadableColumnsStand, UnreadableColumnsChangeNoAnswer}
use Rattle.cr_language.specs.Sql.{Engine, known, view, viewed, names, places, sql}
use Rattle.cr_language.specs.Standing.{standing}
use Rattle.cr_language.proofs.Lists.{map_map}
use Rattle.cr_language.proofs.Tables.{none_first, none_second, relation_found, sources_fine, by_bad}
use Rattle.cr_language.proofs.Instance.{of_definition, stands_for, accepted, same_names, is_language}
use Rattle.cr_language.proofs.Selecting.{joined_relations}
use Rattle.cr_language.proofs.Allowing.{relations_left, reads_allowed}
use Rattle.cr_language.proofs.Masking.{stand_within}
use Rattle.cr_language.proofs.Widths.{named_wide}

-- ---- what the tables of an accepted select are

-- a table is what its name stands for
abbrev Stands : Catalog → Relation → Type 0
Stands c t = definition_in c t.definition.name ≡ Some t.definition

found : (x : Relation) (o : Option TableDef) → Some (of_definition x.definition) ≡ option_map of_definition o → o ≡ Some x.definition
found x None e = absurd (let z : ⊥ = cc in z)
found x (Some d) e = let same : of_definition x.definition ≡ of_definition d = cc in ap (λ (r : Relation). Some r.definition) (sym same)

table_stands : (k : Known) (name : Name) → (table k name).bad ≡ [] → Stands k.catalog (table k name).made
table_stands k name bad = by (relation_of k name) refl bad where
  by : (o : Option Relation) → relation_of k name ≡ o → (or_no_table name o).bad ≡ [] → Stands k.catalog (or_no_table name o).made
  by None e bad = absurd (let z : ⊥ = cc in z)
  by (Some x) e bad =
      ap (definition_in k.catalog) (relation_found k name x e)
      ∙ found x (definition_in k.catalog name) (ap (option_map _) (sym e) ∙ stands_for k name)

sources_stand : (k : Known) (ws : List Written) → (sources_of k ws).bad ≡ [] → AllByRecursion (Stands k.catalog) (map (λ s. s.relation) (sources_of k ws).made)
sources_stand k [] bad = tt
sources_stand k (w ∷ ws) bad =
    (table_stands k w.table (none_first (table k w.table).bad (sources_of k ws).bad bad), sources_stand k ws (none_second (table k w.table).bad (sources_of k ws).bad bad))

not_marked : (z : Resolving) (m : MarkReplicated) → r.Select z ≡ r.MarkReplicated m → ⊥
not_marked z m e = cc

not_insert : (z : Resolving) (i : Insert) → r.Select z ≡ r.Insert i → ⊥
not_insert z i e = cc

not_update : (z : Resolving) (u : Update) → r.Select z ≡ r.Update u → ⊥
not_update z u e = cc

not_delete : (z : Resolving) (d : Delete) → r.Select z ≡ r.Delete d → ⊥
not_delete z d e = cc

not_create : (z : Resolving) (c : Create) → r.Select z ≡ r.Create c → ⊥
not_create z c e = cc

not_alter : (z : Resolving) (a : Alter) → r.Select z ≡ r.Alter a → ⊥
not_alter z a e = cc

same_query : (y z : Resolving) → r.Select y ≡ r.Select z → y ≡ z
same_query y z e = cc

module _ (k : Known) (answers : Answers) (z : Resolving) where
  select_stands : (q : Select) → (select k q).bad ≡ [] → z ≡ left_query (left answers (relations_of (select k q).made)) (select k q).made → AllByRecursion (Stands k.catalog) (relations_of z)
  select_stands q bad is =
      let made = (select k q).made in
      let sources = (sources_of k (written q.from)).made in
      let n = named k q in
      let fine = none_first n.bad (misaggregate q n) (none_first (n.bad ++ misaggregate q n) (distinct_order q made) bad) in
      subst (AllByRecursion (Stands k.catalog))
      (sym (ap relations_of is ∙ relations_left (left answers (relations_of made)) made ∙ joined_relations k sources 0 (written q.from)))
      (sources_stand k (written q.from) (sources_fine k q fine))

  by_statement : (x : Statement) → complaints k x ≡ [] → r.Select z ≡ left_of answers (read k x).made → AllByRecursion (Stands k.catalog) (relations_of z)
  by_statement (s.Select q) none is = by (marked q) none is where
    by : (o : Option Name) → cast_outside (s.Select q) ++ (select_or_mark k q o).bad ≡ [] → r.Select z ≡ left_of answers (select_or_mark k q o).made → AllByRecursion (Stands k.catalog) (relations_of z)
    by None none is = select_stands q (none_second (cast_outside (s.Select q)) (select k q).bad none) (same_query z _ is)
    by (Some name) none is = absurd (not_marked z _ is)
  by_statement (s.Insert i) none is = absurd (not_insert z _ is)
  by_statement (s.Update u) none is = absurd (not_update z _ is)
  by_statement (s.Delete d) none is = absurd (not_delete z _ is)
  by_statement (s.Create c) none is = absurd (not_create z _ is)
  by_statement (s.Alter a) none is = absurd (not_alter z _ is)
  by_statement (s.Begin mode) none is = absurd (let z : ⊥ = cc in z)
  by_statement s.Commit none is = absurd (let z : ⊥ = cc in z)
  by_statement s.Rollback none is = absurd (let z : ⊥ = cc in z)

  tables_stand : (x : Statement) → resolved k answers x ≡ Ok (r.Select z) → AllByRecursion (Stands k.catalog) (relations_of z)
  tables_stand x e = let a = by_bad answers (read k x).made (complaints k x) (r.Select z) e in by_statement x a.none a.is

-- ---- as sessions see it

-- the query that is shown
record Shown (k : Known) (answers : Answers) (x : Statement) (ns : List Name) (q : Query Ordered) : Type 0 where
  query_of : Resolving
  is : resolved k answers x ≡ Ok (r.Select query_of)
  names_are : ns ≡ map (λ t. t.definition.name) (relations_of query_of)
  query_is : q ≡ query query_of

first_of : (ms ns : List Name) (p q : Query Ordered) → world.Select ms p ≡ world.Select ns q → ns ≡ ms
first_of ms ns p q e = cc

second_of : (ms ns : List Name) (p q : Query Ordered) → world.Select ms p ≡ world.Select ns q → q ≡ p
second_of ms ns p q e = cc

module _ (k : Known) (answers : Answers) (x : Statement) (ns : List Name) (q : Query Ordered) where
  by_view : (w : Resolved) → resolved k answers x ≡ Ok w → view w ≡ world.Select ns q → Shown k answers x ns q
  by_view (r.Select z) is e = record {
    query_of = z;
    is = is;
    names_are =
        first_of (map (λ (j : Joined). j.relation.definition.name) z.joined) ns (query z) q e
        ∙ sym (map_map (λ (j : Joined). j.relation) (λ (t : Relation). t.definition.name) (λ (j : Joined). j.relation.definition.name) (λ j. refl) z.joined);
    query_is = second_of (map (λ (j : Joined). j.relation.definition.name) z.joined) ns (query z) q e;
  }
  by_view (r.MarkReplicated m) is e = absurd (let z : ⊥ = cc in z)
  by_view (r.Insert i) is e = absurd (let z : ⊥ = cc in z)
  by_view (r.Update u) is e = absurd (let z : ⊥ = cc in z)
  by_view (r.Delete d) is e = absurd (let z : ⊥ = cc in z)
  by_view (r.Create c) is e = absurd (let z : ⊥ = cc in z)
  by_view (r.Alter a) is e = absurd (let z : ⊥ = cc in z)
  by_view r.Begin is e = absurd (let z : ⊥ = cc in z)
  by_view r.Commit is e = absurd (let z : ⊥ = cc in z)
  by_view r.Rollback is e = absurd (let z : ⊥ = cc in z)

  shown : (o : Result Resolved Unresolved) → resolved k answers x ≡ o → viewed o ≡ Ok (world.Select ns q) → Shown k answers x ns q
  shown (Ok w) is e = let same : view w ≡ world.Select ns q = cc in by_view w is same
  shown (Err f) is e = absurd (let z : ⊥ = cc in z)

readable_is : (c : Catalog) (answers : Answers) (ts : List Relation) → AllByRecursion (Stands c) ts → readable_of c answers (map (λ t. t.definition.name) ts) ≡ map (λ t. readable answers t.definition) ts
readable_is c answers [] h = refl
readable_is c answers (t ∷ ts) h = λ i. option_map_or (readable answers) (h.0 i) [] ∷ readable_is c answers ts h.1 i

pub only_readable : (e : Engine) → OnlyReadableColumnsStand e
only_readable e c answers x ns q is =
    let h = shown (known e c) answers x ns q (resolved (known e c) answers x) refl is in
    let ts = relations_of h.query_of in
    let readables = readable_is c answers ts (tables_stand (known e c) answers h.query_of x h.is) in
    subst (λ p. AllWithin (standing places p) (readable_of c answers ns)) (sym h.query_is)
    (subst (λ m. AllWithin (standing places (query h.query_of)) m) (sym (ap (readable_of c answers) h.names_are ∙ readables))
    (stand_within answers h.query_of (reads_allowed (known e c) answers x (r.Select h.query_of) h.is)))

-- ---- what sessions answer

joins_wide : (st : State) → ModulesAreWide st → (js : List Joined) → AllByRecursion (Stands (catalog st)) (map (λ j. j.relation) js) → AreWide (map joining js) (tables_named st (map (λ t. t.definition.name) (map (λ j. j.relation) js)))
joins_wide st wide [] h = tt
joins_wide st wide (j ∷ js) h = (named_wide st wide j.relation.definition.name j.relation.definition h.0, joins_wide st wide js h.1)

same_readable : (c d : Catalog) (answers : Answers) (ns : List Name) → AllByRecursion (λ n. definition_in c n ≡ definition_in d n) ns → readable_of c answers ns ≡ readable_of d answers ns
same_readable c d answers [] h = refl
same_readable c d answers (n ∷ ns) h = λ i. option_map_or (readable answers) (h.0 i) [] ∷ same_readable c d answers ns h.1 i

module _ (e : Engine) where
  wide_in : (answers : Answers) (st : State) → ModulesAreWide st → (x : Statement) (ns : List Name) (q : Query Ordered) → viewed (resolved (known e (catalog st)) answers x) ≡ Ok (world.Select ns q)
      → AreWide q.sources (tables_named st ns)
  wide_in answers st wide x ns q is =
      let k = known e (catalog st) in
      let h = shown k answers x ns q (resolved k answers x) refl is in
      subst (λ (p : Query Ordered). AreWide p.sources (tables_named st ns)) (sym h.query_is)
      (subst (λ ms. AreWide (query h.query_of).sources (tables_named st ms)) (sym h.names_are) (joins_wide st wide h.query_of.joined (tables_stand k answers h.query_of x h.is)))

  pub change_no_answer : UnreadableColumnsChangeNoAnswer e
  change_no_answer host st new params x r t ms ns sel free alike wide wide_new same a b =
      blind (sql e) (record { allows = host.ask; refuses = host.vetoes }) (is_language e) host st new params x r t ms ns sel free alike
      (λ names' q is.
      let law = is_language e in
      let named = same_names e names' (names x) q (accepted e x (catalog st) host.ask (world.Select names' q) sel is).query (accepted e x (catalog st) host.ask (world.Select names' q) sel is).is in
      let masks = readable_of (catalog st) host.ask (names x) in
      let shows = subst (λ m. SameTables (readable_rows host st (names x)) (seen m (tables_named new (names x)))) (sym (same_readable (catalog st) (catalog new) host.ask (names x) alike)) same in (
        readable_of (catalog st) host.ask names',
        (
          only_readable e (catalog st) host.ask x names' q is,
          subst (λ ms. SameTables (seen (readable_of (catalog st) host.ask ms) (tables_named st ms)) (seen (readable_of (catalog st) host.ask ms) (tables_named new ms))) (sym named) shows,
          wide_in host.ask st wide x names' q is,
          wide_in host.ask new wide_new x names' q (sym (law.local x (catalog st) (catalog new) host.ask sel free alike) ∙ is),
        ),
      ))
      a b
