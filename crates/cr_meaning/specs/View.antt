-- Resolved statements as queries and writes speak of them: an expression stands with the name of the collation by which it
-- is ordered.
use Rattle.std.specs.Prelude.{ℕ, List, [], ◌++◌, cond, map, length, codes}
use Rattle.std.specs.List.{flat_map}
use Rattle.std.specs.Option.{option_map}
use Rattle.cr_term.specs.declared.expr.Expr.{Expr}
use Rattle.cr_term.specs.declared.query.Query.{Query as Resolved}
use Rattle.cr_term.specs.declared.query.Joined.{Joined}
use Rattle.cr_term.specs.declared.query.ResultColumn.{ResultColumn}
use Rattle.cr_term.specs.declared.query.GroupTerm.{GroupTerm}
use Rattle.cr_term.specs.declared.query.OrderTerm.{OrderTerm}
use Rattle.cr_term.specs.declared.query.Assignment.{Assignment as ResolvedAssignment}
use Rattle.cr_term.specs.declared.query.Insert.{Insert as ResolvedInsert}
use Rattle.cr_term.specs.declared.query.Update.{Update as ResolvedUpdate}
use Rattle.cr_term.specs.declared.query.Delete.{Delete as ResolvedDelete}
use Rattle.cr_query.specs.Queries.{Joining, Term, Query, Insert, Assignment, Update, Delete}

pub record Ordered : Type 0 where
  pub expr : Expr
  pub collation : List ℕ

-- an expression by which nothing is ordered
abbrev pub plain : Expr → Ordered
plain e = record { expr = e; collation = codes "binary" }

abbrev pub result_term : ResultColumn → Ordered
result_term c = record { expr = c.expr; collation = c.collation }

abbrev pub group_term : GroupTerm → Ordered
group_term g = record { expr = g.expr; collation = g.collation }

abbrev pub order_term : OrderTerm → Term Ordered
order_term t = record { expr = record { expr = t.expr; collation = t.collation }; descending = t.is_descending }

-- the ON of an inner join stands among the terms of the query
abbrev pub joining : Joined → Joining Ordered
joining j = record { width = length j.relation.definition.columns; left = j.is_left; on = cond j.is_left (map plain j.on) [] }

abbrev pub inner_terms : Joined → List Ordered
inner_terms j = cond j.is_left [] (map plain j.on)

-- inner ONs and WHERE in source order
abbrev pub terms : Resolved → List Ordered
terms q = flat_map inner_terms q.joined ++ map plain q.filter

abbrev pub query : Resolved → Query Ordered
query q = record {
  sources = map joining q.joined;
  terms = terms q;
  is_grouped = q.is_grouped;
  group = map group_term q.groups;
  having = option_map plain q.having;
  results = map result_term q.results;
  is_distinct = q.is_distinct;
  order = map order_term q.order;
  offset = q.offset;
  limit = q.limit;
}

abbrev pub assignment : ResolvedAssignment → Assignment Ordered
assignment a = record { place = a.column; expr = plain a.value }

abbrev pub insert : ResolvedInsert → Insert Ordered
insert w = record { places = w.columns; tuples = map (λ row. map plain row) w.rows; is_ignored = w.is_ignored }

abbrev pub update : ResolvedUpdate → Update Ordered
update w = record { assignments = map assignment w.assignments; terms = map plain w.filter }

abbrev pub delete : ResolvedDelete → Delete Ordered
delete w = record { terms = map plain w.filter }
