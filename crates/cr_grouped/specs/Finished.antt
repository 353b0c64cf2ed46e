-- A query over its groups, and what stands against it once its names are read.
use Rattle.std.specs.Prelude.{◌≡◌, ◌&&◌, ◌++◌, Bool, false, not, List, [], map, Result, Ok, Err}
use Rattle.std.specs.Option.{option_and_then, option_map, option_map_or}
use Rattle.std.specs.List.{list_all}
use Rattle.cr_tree.specs.declared.statement.Select.{Select}
use Rattle.cr_term.specs.declared.query.GroupTerm.{GroupTerm}
use Rattle.cr_term.specs.declared.query.OrderTerm.{OrderTerm}
use Rattle.cr_term.specs.declared.query.Query.{Query}
use Rattle.cr_term.specs.Terms.{terms_of}
use Rattle.cr_resolve.specs.declared.refusal.Refusal.{Refusal}
use Rattle.cr_resolve.specs.declared.refusal.Refusal.TheVariants.{Misaggregate, OutOfProfile}
use Rattle.cr_resolve.specs.declared.refusal.Outside.TheVariants.{Distinct}
use Rattle.cr_resolve.specs.declared.reading.Made.{Made}
use Rattle.cr_resolve.specs.Reading.{Read, when}
use Rattle.cr_resolve.specs.Queries.{Named as NamedQuery, count_limit, distinct_order, is_grouped, is_shown, misaggregate, offset_of, query_of}
use Rattle.cr_resolve.specs.Told.{Refuses}
use Rattle.cr_select.specs.declared.named.Named.{Named}
use Rattle.cr_select.specs.Named.{as_query}
use Rattle.cr_grouped.specs.declared.select.Grouping.{Grouping}
use Rattle.cr_grouped.specs.Grouping.{is_out_of_place, ordered_in, shown_in, within, without_collates}

-- `query_of`, over groups that are known, whose terms have no COLLATE around them
unfoldable pub query_in : Select → Bool → List GroupTerm → Named → Query
query_in q grouped terms n = record {
  is_distinct = q.distinct;
  results = map (shown_in grouped terms) n.results;
  joined = n.joined;
  filter = terms_of n.filter;
  is_grouped = grouped;
  groups = terms;
  having = option_map (within grouped terms) n.having;
  order = map (ordered_in q.distinct grouped terms (map (shown_in grouped terms) n.results)) n.order;
  limit = option_and_then (λ l. count_limit l.count) q.limit;
  offset = option_map_or (λ l. offset_of l.offset) q.limit 0;
}

-- `select`, once the names are read
abbrev pub over : Select → Read NamedQuery → Read Query
over q n = record { bad = n.bad ++ misaggregate q n ++ distinct_order q (query_of q n.made); misplaced = false; made = query_of q n.made }

abbrev pub as_read : Made Named → Made NamedQuery
as_read n = record { made = as_query n.made; is_misplaced = n.is_misplaced }

-- what stands against what stands where it must not
abbrev pub misplaced_told : Bool → List Refusal
misplaced_told misplaced = when misplaced Misaggregate

-- beside DISTINCT, a term of ORDER BY that is no result column
abbrev pub unsorted : Bool → List OrderTerm → List Refusal
unsorted distinct order = when (distinct && not (list_all is_shown order)) (OutOfProfile Distinct)

-- whether there are groups, and their terms
abbrev pub as_groups : Result Grouping Refusal → Result (Bool × List GroupTerm) Refusal
as_groups (Ok g) = Ok (g.is_grouped, g.terms)
as_groups (Err f) = Err f

-- the groups of a query over which everything stands where it may
unfoldable pub AreGroups : Made Named → Result (Bool × List GroupTerm) Refusal → Type 0
AreGroups n (Ok g) = (g.0 ≡ is_grouped (as_query n.made)) × ((g.1 ≡ without_collates n.made.groups) × (is_out_of_place g.0 g.1 n ≡ false))
AreGroups n (Err f) = Refuses (misplaced_told (is_out_of_place (is_grouped (as_query n.made)) (without_collates n.made.groups) n)) f

-- the query over these groups, whose order is one beside DISTINCT
unfoldable pub IsFinished : Select → Bool → List GroupTerm → Named → Result Query Refusal → Type 0
IsFinished q grouped terms n (Ok x) = (x ≡ query_in q grouped terms n) × (unsorted q.distinct x.order ≡ [])
IsFinished q grouped terms n (Err f) = Refuses (unsorted q.distinct (query_in q grouped terms n).order) f
