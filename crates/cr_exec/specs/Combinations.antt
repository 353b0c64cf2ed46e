-- The values of a combination, wherever they stand.
use Rattle.std.specs.Prelude.{◌≡◌, false, List, [], length, map, Option, option_map}
use Rattle.std.specs.Option.{option_and_then}
use Rattle.cr_value.specs.declared.value.Value.{Value}
use Rattle.cr_term.specs.declared.query.Joined.{Joined}
use Rattle.cr_term.specs.declared.query.Query.{Query}
use Rattle.cr_bags.specs.Bags.{those, single}
use Rattle.cr_query.specs.Query.{Row, Meaning, all_true, combined, nulls, or_padded, with_rows}
use Rattle.cr_meaning.specs.View.{Ordered, plain, joining}
use Rattle.cr_exec.specs.Tails.{with_quiet_first}
use Rattle.cr_exec.specs.declared.join.Held.{Held}
use Rattle.cr_exec.specs.declared.join.Held.TheVariants.{Standing, Made}

abbrev pub values : Held → List Value
values (Standing vs) = vs.now
values (Made row) = row

-- the combinations of one with those of further tables, on which all terms are true
abbrev pub tail : Meaning Ordered → List Ordered → List Joined → List (List Row) → Row → Option (List Row)
tail m terms joined tables c = option_and_then (those (all_true m terms)) (combined m (map joining joined) tables (single c))

-- those of one with a table that a LEFT JOIN brings
abbrev pub left_with : Meaning Ordered → Joined → List Row → Row → Option (List Row)
left_with m j rows c = option_map (or_padded (nulls (length j.relation.definition.columns)) c) (those (all_true m (with_quiet_first (map plain j.on))) (with_rows c rows))

-- a query of one table, that no LEFT JOIN brings, without an ON
pub record IsOfOneTable (q : Query) : Type 0 where
  pub table : Joined
  pub only : q.joined ≡ single table
  pub inner : table.is_left ≡ false
  pub no_on : table.on ≡ []
