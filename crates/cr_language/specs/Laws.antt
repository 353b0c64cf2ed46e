-- What the resolution of a statement looks at, and what it leaves. Source: this project's own.
use Rattle.std.specs.Prelude.{◌≡◌, Bool, true, not, ◌||◌, List, map, None, Result, Ok, Err}
use Rattle.std.specs.Option.{option_map}
use Rattle.std.specs.List.{AllByRecursion, flat_map, list_any}
use Rattle.cr_lattice.specs.declared.catalog.Catalog.{Catalog}
use Rattle.cr_tree.specs.declared.statement.Select.{Select}
use Rattle.cr_tree.specs.declared.statement.Statement.{Statement}
use Rattle.cr_tree.specs.declared.statement.Statement.TheVariants as s
use Rattle.cr_term.specs.declared.query.Held.TheVariants as held
use Rattle.cr_term.specs.declared.query.Relation.{Relation}
use Rattle.cr_term.specs.declared.query.Joined.{Joined}
use Rattle.cr_term.specs.declared.query.Query.{Query}
use Rattle.cr_term.specs.declared.query.Resolved.{Resolved}
use Rattle.cr_term.specs.declared.query.Resolved.TheVariants as r
use Rattle.cr_resolve.specs.declared.refusal.Refusal.{Refusal}
use Rattle.cr_resolve.specs.Known.{Known, relation_of, is_site_id, is_db_version}
use Rattle.cr_resolve.specs.Trees.{calls}
use Rattle.cr_resolve.specs.Queries.{written}
use Rattle.cr_questions.specs.Questions.{Name, Answers}
use Rattle.cr_resolve.specs.Resolve.{trees, marked, resolved}

-- ---- the place of a relation in a catalog's lists

-- the same relation, wherever it stands
abbrev pub unplaced : Relation → Relation
unplaced x = record x { held = held.Module 0 }

abbrev pub unplaced_joined : Joined → Joined
unplaced_joined j = record j { relation = unplaced j.relation }

abbrev pub unplaced_query : Query → Query
unplaced_query q = record q { joined = map unplaced_joined q.joined }

abbrev pub unplaced_resolved : Resolved → Resolved
unplaced_resolved (r.Select q) = r.Select (unplaced_query q)
unplaced_resolved (r.MarkReplicated m) = r.MarkReplicated m
unplaced_resolved (r.Insert i) = r.Insert i
unplaced_resolved (r.Update u) = r.Update u
unplaced_resolved (r.Delete d) = r.Delete d
unplaced_resolved (r.Create c) = r.Create c
unplaced_resolved (r.Alter a) = r.Alter a
unplaced_resolved r.Begin = r.Begin
unplaced_resolved r.Commit = r.Commit
unplaced_resolved r.Rollback = r.Rollback

abbrev pub unplaced_outcome : Result Resolved Refusal → Result Resolved Refusal
unplaced_outcome (Ok x) = Ok (unplaced_resolved x)
unplaced_outcome (Err f) = Err f

-- ---- selects

-- a function that tells of the replica
abbrev pub asks : Name → Bool
asks name = is_site_id name || is_db_version name

-- the statement calls neither `crsql_site_id` nor `crsql_db_version`
abbrev pub asks_no_replica : Statement → Bool
asks_no_replica x = not (list_any asks (flat_map calls (trees x)))

-- the names of tables in FROM, from left to right
abbrev pub table_names : Select → List Name
table_names q = map (λ w. w.table) (written q.from)

-- a name stands for the same relation in two catalogs, wherever it stands there
abbrev pub StandsForTheSame : Known → Catalog → Catalog → Name → Type 0
StandsForTheSame known c d name = option_map unplaced (relation_of (record known { catalog = c }) name) ≡ option_map unplaced (relation_of (record known { catalog = d }) name)

-- A select that asks for neither site nor version looks at what its own names stand for, and at nothing else of a catalog.
abbrev pub SelectsLookAtTheirNames : Type 0
SelectsLookAtTheirNames = (known : Known) (c d : Catalog) (answers : Answers) (q : Select)
    → marked q ≡ None → asks_no_replica (s.Select q) ≡ true → AllByRecursion (StandsForTheSame known c d) (table_names q)
    → unplaced_outcome (resolved (record known { catalog = c }) answers (s.Select q)) ≡ unplaced_outcome (resolved (record known { catalog = d }) answers (s.Select q))

-- What an accepted select is: a query, over the tables that are named in its FROM.
abbrev pub SelectsReadTheirTables : Type 0
SelectsReadTheirTables = (known : Known) (answers : Answers) (q : Select) (y : Resolved)
    → marked q ≡ None → resolved known answers (s.Select q) ≡ Ok y
    → (z : Query) × ((y ≡ r.Select z) × (map (λ j. j.relation.definition.name) z.joined ≡ table_names q))
