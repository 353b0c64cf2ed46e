-- What a SELECT is once its names are resolved. Source: SQLite's SELECT document; that columns of groups stand in terms or
-- aggregates alone, and what DISTINCT sorts by, is this project's own.
use Rattle.std.specs.Prelude.{ℕ, ℤ, pos, negsuc, zero, suc, nat_le, ◌&&◌, ◌||◌, Bool, true, false, not, List, [], ◌∷◌, ◌++◌, length, take, map, filter, get_or, position, codes, Option, Some, None, if◌then◌else◌}
use Rattle.std.specs.Option.{option_map, option_map_or, option_and_then, unwrap_or, is_some, option_or, option_to_list}
use Rattle.std.specs.List.{flat_map, list_any, list_all}
use Rattle.std.specs.Str.{bytes_eq}
use Rattle.std.specs.Fmt.{signed_decimal}
use Rattle.cr_value.specs.declared.value.Value.TheVariants.{Null, Int}
use Rattle.cr_tree.specs.declared.expr.Expr.{Expr as Tree, out-Expr}
use Rattle.cr_tree.specs.declared.expr.Expr.TheOpen as tree
use Rattle.cr_tree.specs.declared.expr.Expr.TheOpen.{Expr-F}
use Rattle.cr_tree.specs.declared.statement.Shown.{Shown as ShownTree}
use Rattle.cr_tree.specs.declared.statement.Shown.TheVariants as shows
use Rattle.cr_tree.specs.declared.statement.Source.{Source as SourceTree}
use Rattle.cr_tree.specs.declared.statement.JoinKind.{JoinKind}
use Rattle.cr_tree.specs.declared.statement.JoinKind.TheVariants as kind
use Rattle.cr_tree.specs.declared.statement.Join.{Join}
use Rattle.cr_tree.specs.declared.statement.Tables.{Tables}
use Rattle.cr_tree.specs.declared.statement.Term.{Term}
use Rattle.cr_tree.specs.declared.statement.Select.{Select}
use Rattle.cr_term.specs.declared.expr.Expr.{Expr}
use Rattle.cr_term.specs.Nodes as e
use Rattle.cr_term.specs.declared.expr.When.{When}
use Rattle.cr_term.specs.declared.expr.Expr.TheOpen as term
use Rattle.cr_term.specs.declared.expr.Expr.TheOpen.{Expr-F as Node, When-F as ArmNode}
use Rattle.cr_term.specs.declared.expr.Expr.TheFolds.{fold-Expr as fold-Term}
use Rattle.cr_term.specs.declared.query.Joined.{Joined}
use Rattle.cr_term.specs.declared.query.GroupTerm.{GroupTerm}
use Rattle.cr_term.specs.declared.query.OrderTerm.{OrderTerm}
use Rattle.cr_term.specs.declared.query.Query.{Query}
use Rattle.cr_term.specs.Operands.{collation_of}
use Rattle.cr_term.specs.Parts.{parts, aggregates}
use Rattle.cr_term.specs.Build.{mapped, built}
use Rattle.cr_term.specs.Same.{same}
use Rattle.cr_term.specs.Terms.{terms_of, without_collate}
use Rattle.cr_questions.specs.Questions.{Name, result_column}
use Rattle.cr_resolve.specs.declared.refusal.Refusal.{Refusal}
use Rattle.cr_resolve.specs.declared.refusal.Refusal.TheVariants.{NoSuchTable, NoSuchColumn, Misaggregate, OutOfProfile}
use Rattle.cr_resolve.specs.declared.refusal.Outside.TheVariants.{Distinct}
use Rattle.cr_resolve.specs.Reading.{Read, fine, refused, with, with_both, also, also_misplaced, each, if_any, when}
use Rattle.cr_resolve.specs.Known.{Known, table, collation, collations}
use Rattle.cr_resolve.specs.Scope.{Source, in_sight, is_of}
use Rattle.cr_resolve.specs.Expressions.{expr}

-- ---- FROM

-- a table in FROM as it is written
pub record Written : Type 0 where
  pub table : Name
  pub name : Name
  pub is_left : Bool
  pub on : Option Tree

abbrev pub is_left : JoinKind → Bool
is_left kind.Comma = false
is_left kind.Inner = false
is_left kind.Cross = false
is_left kind.Left = true

-- a table with an alias is known by the alias alone
abbrev pub of_source : SourceTree → Bool → Option Tree → Written
of_source s left on = record { table = s.table; name = unwrap_or s.alias s.table; is_left = left; on = on }

abbrev pub of_join : Join → Written
of_join j = of_source j.source (is_left j.kind) j.on

abbrev pub written : Option Tables → List Written
written None = []
written (Some t) = of_source t.first false None ∷ map of_join t.joins

abbrev pub source : Known → Written → Read Source
source known w = with (λ r. record { name = w.name; relation = r }) (table known w.table)

abbrev pub sources_of : Known → List Written → Read (List Source)
sources_of known ws = each (map (source known) ws)

-- the ON of an inner join sees all tables, that of a LEFT JOIN its own and those to its left
abbrev pub joined : Known → List Source → ℕ → Written → Source → Read Joined
joined known sources at w s =
    with (λ on. record { relation = s.relation; is_left = w.is_left; on = terms_of on })
    (if_any (option_map (expr known (if w.is_left then take (suc at) sources else sources) false) w.on))

abbrev pub joined_from : Known → List Source → ℕ → List Written → List Source → Read (List Joined)
joined_from known sources at (w ∷ ws) (s ∷ ss) = with_both (λ x xs. x ∷ xs) (joined known sources at w s) (joined_from known sources (suc at) ws ss)
joined_from known sources at _ _ = fine []

-- ---- results

-- a result column, and the name that it gets, if it gets one
pub record Result : Type 0 where
  pub alias : Option Name
  pub expr : Expr

abbrev pub star : List Source → Option Name → List Result
star sources q = map (λ c. record { alias = None; expr = e.Column c.column }) (filter (λ c. is_of q c.source_name) (in_sight sources))

abbrev pub result : Known → List Source → ShownTree → Read (List Result)
result known [] shows.All = refused (NoSuchColumn (codes "*")) []
result known (s ∷ ss) shows.All = fine (star (s ∷ ss) None)
result known sources (shows.AllOf q) = if list_any (λ s. bytes_eq q s.name) sources then fine (star sources (Some q)) else refused (NoSuchTable q) []
result known sources (shows.One t alias) = with (λ x. record { alias = alias; expr = x } ∷ []) (expr known sources true t)

abbrev pub results_of : Known → List Source → List ShownTree → Read (List Result)
results_of known sources shown = with (flat_map (λ rs. rs)) (each (map (result known sources) shown))

-- ---- terms of GROUP BY and ORDER BY

abbrev pub integer_node : {A B : Type 0} → Expr-F A B → Option ℤ
integer_node (tree.Literal (Int n)) = Some n
integer_node _ = None

-- an expression that is one integer literal
abbrev pub integer_of : Tree → Option ℤ
integer_of t = integer_node (out-Expr t)

abbrev pub name_node : {A B : Type 0} → Expr-F A B → Option Name
name_node (tree.Column None name) = Some name
name_node _ = None

-- an expression that is one name without a source's
abbrev pub name_of : Tree → Option Name
name_of t = name_node (out-Expr t)

-- the place from 0 that a column number stands for
abbrev pub place_of : ℤ → ℕ → Option ℕ
place_of (pos zero) count = None
place_of (pos (suc n)) count = if nat_le (suc n) count then Some n else None
place_of (negsuc n) count = None

-- an expression, and the place of the result column that it is, if it is one
pub record Term' : Type 0 where
  pub result : Option ℕ
  pub expr : Expr

abbrev pub nothing : Expr
nothing = e.Literal Null

abbrev pub result_at : List Result → ℕ → Expr
result_at results n = (get_or results n (record { alias = None; expr = nothing })).expr

abbrev pub numbered_at : List Result → ℤ → Option ℕ → Read Term'
numbered_at results n (Some k) = fine (record { result = Some k; expr = result_at results k })
numbered_at results n None = refused (NoSuchColumn (signed_decimal n)) (record { result = None; expr = nothing })

-- an integer literal is a column number
abbrev pub numbered : List Result → ℤ → Read Term'
numbered results n = numbered_at results n (place_of n (length results))

abbrev pub other : Read Expr → Read Term'
other x = with (λ y. record { result = None; expr = y }) x

abbrev pub numbered_or : List Result → Option ℤ → Read Term' → Read Term'
numbered_or results None x = x
numbered_or results (Some n) x = numbered results n

abbrev pub has_aggregate_in : List Expr → Bool
has_aggregate_in es = not (nat_le (length (flat_map aggregates es)) 0)

-- the collation of its classes is taken before a COLLATE around it falls off
abbrev pub grouped_term : Known → Read Term' → Read GroupTerm
grouped_term known t =
    with (λ x. record { expr = x.expr; collation = collation_of (x.expr ∷ []) })
    (also_misplaced (has_aggregate_in (t.made.expr ∷ [])) (also (λ x. collation known (collation_of (x.expr ∷ []))) t))

abbrev pub group_term : Known → List Source → List Result → Tree → Read GroupTerm
group_term known sources results t = grouped_term known (numbered_or results (integer_of t) (other (expr known sources false t)))

abbrev pub has_alias : Name → Result → Bool
has_alias name r = option_map_or (bytes_eq name) r.alias false

-- the first result column of that alias
abbrev pub alias_at : List Result → Option Name → Option ℕ
alias_at results None = None
alias_at results (Some name) = position (has_alias name) results

abbrev pub aliased_or : List Result → Option ℕ → Read Term' → Read Term'
aliased_or results None x = x
aliased_or results (Some k) x = fine (record { result = Some k; expr = result_at results k })

abbrev pub order_term : Known → List Source → List Result → Term → Read OrderTerm
order_term known sources results t =
    with (λ x. record { result = x.result; expr = x.expr; collation = collation_of (x.expr ∷ []); is_descending = t.descending })
    (also (λ x. collation known (collation_of (x.expr ∷ [])))
    (numbered_or results (integer_of t.expr) (aliased_or results (alias_at results (name_of t.expr)) (other (expr known sources true t.expr)))))

-- ---- groups

-- what an expression is within a group: where an aggregate or a term of the group isn't, no column may stand
pub record Placed : Type 0 where
  -- the expression as it was
  pub self : Expr
  -- a column stands in it that is no part of a term or an aggregate
  pub is_bare : Bool
  pub made : Expr

pub record PlacedArm : Type 0 where
  pub self : When
  pub is_bare : Bool
  pub made : When

abbrev pub bare_parts : Node Placed PlacedArm → Bool
bare_parts n = list_any (λ b. b) (parts (mapped (λ x. x.is_bare ∷ []) (λ w. w.is_bare ∷ []) n))

-- a node that is no term itself
abbrev pub placed_inside : Expr → Node Placed PlacedArm → Placed
placed_inside self (term.Column c) = record { self = self; is_bare = true; made = self }
placed_inside self (term.Aggregate kind args) = record { self = self; is_bare = false; made = self }
placed_inside self n = record { self = self; is_bare = bare_parts n; made = built (mapped (λ x. x.made) (λ w. w.made) n) }

abbrev pub placed_or : Expr → Option ℕ → Node Placed PlacedArm → Placed
placed_or self (Some at) n = record { self = self; is_bare = false; made = e.Shown at self }
placed_or self None n = placed_inside self n

abbrev pub placed_node : List Expr → Node Placed PlacedArm → Placed
placed_node terms n = let self : Expr = built (mapped (λ x. x.self) (λ w. w.self) n) in placed_or self (position (λ t. same self t) terms) n

abbrev pub placed_arm : ArmNode Placed PlacedArm → PlacedArm
placed_arm w = record {
  self = record { meeting = w.meeting; when = w.when.self; then = w.then.self };
  is_bare = w.when.is_bare || w.then.is_bare;
  made = record { meeting = w.meeting; when = w.when.made; then = w.then.made };
}

-- with the terms of a group put in
abbrev pub placed : List Expr → Expr → Placed
placed terms = fold-Term Placed PlacedArm (placed_node terms) placed_arm

-- ---- the whole

-- a query whose names are read, before its groups are looked at
pub record Named : Type 0 where
  pub results : List Result
  pub joined : List Joined
  pub filter : Option Expr
  pub groups : List GroupTerm
  pub having : Option Expr
  pub order : List OrderTerm

abbrev pub or_none : {A : Type 0} → Option (List A) → List A
or_none None = []
or_none (Some xs) = xs

abbrev pub distinct_collations : Known → Bool → List Result → List Refusal
distinct_collations known false results = []
distinct_collations known true results = collations known (map (λ r. collation_of (r.expr ∷ [])) results)

-- from left to right, and what DISTINCT compares by last
abbrev pub named : Known → Select → Read Named
named known q =
    let ws : List Written = written q.from in
    let sources : Read (List Source) = sources_of known ws in
    let results : Read (List Result) = results_of known sources.made q.shown in
    let ons : Read (List Joined) = joined_from known sources.made 0 ws sources.made in
    let filter : Read (Option Expr) = if_any (option_map (expr known sources.made false) q.filter) in
    let groups : Read (List GroupTerm) = each (map (group_term known sources.made results.made) (or_none q.group)) in
    let having : Read (Option Expr) = if_any (option_map (expr known sources.made true) q.having) in
    let order : Read (List OrderTerm) = each (map (order_term known sources.made results.made) (or_none q.order)) in
    record {
      bad = sources.bad ++ results.bad ++ ons.bad ++ filter.bad ++ groups.bad ++ having.bad ++ order.bad ++ distinct_collations known q.distinct results.made;
      misplaced = results.misplaced || ons.misplaced || filter.misplaced || groups.misplaced || having.misplaced || order.misplaced;
      made = record { results = results.made; joined = ons.made; filter = filter.made; groups = groups.made; having = having.made; order = order.made };
    }

-- GROUP BY, HAVING or an aggregate makes groups
abbrev pub is_grouped : Named → Bool
is_grouped n = not (nat_le (length n.groups) 0) || is_some n.having || has_aggregate_in (map (λ r. r.expr) n.results ++ map (λ t. t.expr) n.order)

abbrev pub terms_of_groups : List GroupTerm → List Expr
terms_of_groups groups = map (λ t. without_collate t.expr) groups

abbrev pub placed_if : Bool → List Expr → Expr → Expr
placed_if false terms x = x
placed_if true terms x = (placed terms x).made

abbrev pub bare_in : Bool → List Expr → List Expr → Bool
bare_in false terms es = false
bare_in true terms es = list_any (λ x. (placed terms x).is_bare) es

-- results, HAVING and ORDER BY stand over groups
abbrev pub over_groups : Named → List Expr
over_groups n = map (λ r. r.expr) n.results ++ option_to_list n.having ++ map (λ t. t.expr) n.order

abbrev pub count_limit : ℤ → Option ℕ
count_limit (pos n) = Some n
count_limit (negsuc n) = None

abbrev pub offset_of : Option ℤ → ℕ
offset_of (Some (pos n)) = n
offset_of (Some (negsuc n)) = 0
offset_of None = 0

-- beside DISTINCT a term that is the same as a result column is that column
abbrev pub found_result : Bool → List Expr → Expr → Option ℕ
found_result true results x = position (λ r. same x r) results
found_result false results x = None

abbrev pub order_column : Bool → Bool → List Expr → List Expr → OrderTerm → OrderTerm
order_column distinct grouped terms results t =
    let x : Expr = placed_if grouped terms t.expr in
    record { result = option_or t.result (found_result distinct results x); expr = x; collation = collation_of (x ∷ []); is_descending = t.is_descending }

abbrev pub query_of : Select → Named → Query
query_of q n =
    let grouped : Bool = is_grouped n in
    let terms : List Expr = terms_of_groups n.groups in
    let results : List Expr = map (λ r. placed_if grouped terms r.expr) n.results in
    record {
      is_distinct = q.distinct;
      results = map result_column results;
      joined = n.joined;
      filter = terms_of n.filter;
      is_grouped = grouped;
      groups = map (λ t. record { expr = without_collate t.expr; collation = t.collation }) n.groups;
      having = option_map (placed_if grouped terms) n.having;
      order = map (order_column q.distinct grouped terms results) n.order;
      limit = option_and_then (λ l. count_limit l.count) q.limit;
      offset = option_map_or (λ l. offset_of l.offset) q.limit 0;
    }

-- beside DISTINCT a term of ORDER BY is a result column
abbrev pub is_shown : OrderTerm → Bool
is_shown t = is_some t.result

abbrev pub misaggregate : Select → Read Named → List Refusal
misaggregate q n = when (n.misplaced || bare_in (is_grouped n.made) (terms_of_groups n.made.groups) (over_groups n.made)) Misaggregate

abbrev pub distinct_order : Select → Query → List Refusal
distinct_order q made = when (q.distinct && not (list_all is_shown made.order)) (OutOfProfile Distinct)

abbrev pub select : Known → Select → Read Query
select known q =
    let n : Read Named = named known q in
    let made : Query = query_of q n.made in
    record { bad = n.bad ++ misaggregate q n ++ distinct_order q made; misplaced = false; made = made }
