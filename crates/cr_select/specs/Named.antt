-- A query whose names are read, as it is made of its parts.
use Rattle.std.specs.Prelude.{true, false, ◌||◌, List, ◌++◌, map, Option, Result, Ok, Err}
use Rattle.std.specs.Option.{option_map}
use Rattle.cr_tree.specs.declared.statement.Select.{Select}
use Rattle.cr_term.specs.declared.expr.Expr.{Expr}
use Rattle.cr_term.specs.declared.query.Joined.{Joined}
use Rattle.cr_term.specs.declared.query.GroupTerm.{GroupTerm}
use Rattle.cr_term.specs.declared.query.OrderTerm.{OrderTerm}
use Rattle.cr_resolve.specs.declared.refusal.Refusal.{Refusal}
use Rattle.cr_resolve.specs.declared.reading.Made.{Made}
use Rattle.cr_resolve.specs.Reading.{Read, each, if_any}
use Rattle.cr_resolve.specs.Known.{Known}
use Rattle.cr_resolve.specs.declared.scope.Source.{Source}
use Rattle.cr_resolve.specs.Expressions.{expr}
use Rattle.cr_resolve.specs.Queries.{Result as ResultOf, Named as NamedQuery, distinct_collations, group_term, joined_from, or_none, order_term, results_of, written}
use Rattle.cr_select.specs.declared.named.Named.{Named}
use Rattle.cr_select.specs.declared.named.Front.{Front}
use Rattle.cr_select.specs.declared.named.Back.{Back}
use Rattle.cr_select.specs.Outputs.{as_result}

abbrev pub as_query : Named → NamedQuery
as_query n = record { results = map as_result n.results; joined = n.joined; filter = n.filter; groups = n.groups; having = n.having; order = n.order }

abbrev pub as_named : Result (Made Named) Refusal → Result (Made NamedQuery) Refusal
as_named (Ok m) = Ok (record { made = as_query m.made; is_misplaced = m.is_misplaced })
as_named (Err f) = Err f

-- ---- in two halves

pub record Before : Type 0 where
  pub results : List ResultOf
  pub joined : List Joined
  pub filter : Option Expr

pub record Behind : Type 0 where
  pub groups : List GroupTerm
  pub having : Option Expr
  pub order : List OrderTerm

abbrev pub as_front : Result (Made Front) Refusal → Result (Made Before) Refusal
as_front (Ok m) = Ok (record { made = record { results = map as_result m.made.results; joined = m.made.joined; filter = m.made.filter }; is_misplaced = m.is_misplaced })
as_front (Err f) = Err f

abbrev pub as_back : Result (Made Back) Refusal → Result (Made Behind) Refusal
as_back (Ok m) = Ok (record { made = record { groups = m.made.groups; having = m.made.having; order = m.made.order }; is_misplaced = m.is_misplaced })
as_back (Err f) = Err f

abbrev pub before : Read (List ResultOf) → Read (List Joined) → Read (Option Expr) → Read Before
before results ons filter = record {
  bad = results.bad ++ (ons.bad ++ filter.bad);
  misplaced = (results.misplaced || ons.misplaced) || filter.misplaced;
  made = record { results = results.made; joined = ons.made; filter = filter.made };
}

abbrev pub behind : Read (List GroupTerm) → Read (Option Expr) → Read (List OrderTerm) → List Refusal → Read Behind
behind groups having order more = record {
  bad = groups.bad ++ (having.bad ++ (order.bad ++ more));
  misplaced = (groups.misplaced || having.misplaced) || order.misplaced;
  made = record { groups = groups.made; having = having.made; order = order.made };
}

-- what stands before GROUP BY
unfoldable pub front : Known → List Source → Select → Read Before
front known sources q = before (results_of known sources q.shown) (joined_from known sources 0 (written q.from) sources) (if_any (option_map (expr known sources false) q.filter))

-- what stands from there on, over these result columns
unfoldable pub back : Known → List Source → List ResultOf → Select → Read Behind
back known sources results q =
    behind (each (map (group_term known sources results) (or_none q.group))) (if_any (option_map (expr known sources true) q.having))
    (each (map (order_term known sources results) (or_none q.order))) (distinct_collations known q.distinct results)

abbrev pub whole : Read Before → Read Behind → Read NamedQuery
whole x y = record {
  bad = x.bad ++ y.bad;
  misplaced = x.misplaced || y.misplaced;
  made = record { results = x.made.results; joined = x.made.joined; filter = x.made.filter; groups = y.made.groups; having = y.made.having; order = y.made.order };
}

-- over the sources
unfoldable pub named_in : Known → List Source → Select → Read NamedQuery
named_in known sources q = whole (front known sources q) (back known sources (front known sources q).made.results q)
