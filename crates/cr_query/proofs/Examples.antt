-- Worked examples, over small expressions.
use Rattle.std.proofs.Common.{◌≡◌, ℕ, zero, suc, pos, negsuc, ◌+ℤ◌, Bool, true, false, cond, ◌&&◌, map, length, List, [], ◌∷◌, Option, Some, None, refl, Ordering}
use Rattle.std.specs.Prelude.{codes, nat_lt, ◌+◌}
use Rattle.std.specs.Option.{option_and_then}
use Rattle.std.specs.Ordering.{is_eq, int_eq}
use Rattle.cr_value.specs.declared.value.Value.{Value}
use Rattle.cr_value.specs.declared.value.Value.TheVariants.{Null, Int, Text, Blob}
use Rattle.cr_value.specs.declared.affinity.Affinity.TheVariants as affinity
use Rattle.cr_value.specs.Order.{value_cmp}
use Rattle.cr_lattice.specs.declared.table.ColumnDef.{ColumnDef}
use Rattle.cr_lattice.specs.declared.table.TableDef.{TableDef}
use Rattle.cr_query.specs.Queries.{Query, Joining, Term}
use Rattle.cr_bags.specs.Bags.{each}
use Rattle.cr_query.specs.Query.{Row, Group, Meaning, answer}
use Rattle.cr_query.specs.Writes.{wanted_by_insert, wanted_by_update, wanted_by_delete, lacks_value}

-- columns, literals, sums, equality, a host's function `half`, NOCASE, aggregates, and a group's terms by number
pub data Expr : Type 0 where
  Col : ℕ → Expr
  Lit : Value → Expr
  Add : Expr → Expr → Expr
  Equals : Expr → Expr → Expr
  Half : Expr → Expr
  Nocase : Expr → Expr
  CountAll : Expr
  Sum : Expr → Expr
  Grouped : ℕ → Expr

abbrev pub nth : ℕ → Row → Value
nth i [] = Null
nth zero (v ∷ vs) = v
nth (suc i) (v ∷ vs) = nth i vs

abbrev pub add : Value → Value → Option Value
add (Int a) (Int b) = Some (Int (a +ℤ b))
add Null (Int b) = Some Null
add (Int a) Null = Some Null
add a b = None

abbrev pub equals : Value → Value → Value
equals Null b = Null
equals (Int a) Null = Null
equals (Text a) Null = Null
equals (Blob a) Null = Null
equals a b = Int (cond (is_eq (value_cmp a b)) (pos 1) (pos 0))

abbrev pub half : Value → Option Value
half Null = Some Null
half (Int n) = cond (int_eq n (pos 2)) (Some (Int (pos 1))) None
half v = None

abbrev pub truth : Value → Option Bool
truth Null = Some false
truth (Int (pos zero)) = Some false
truth (Int (pos (suc n))) = Some true
truth (Int (negsuc n)) = Some true
truth v = None

abbrev pub both : (Value → Value → Option Value) → Option Value → Option Value → Option Value
both f None o = None
both f (Some a) None = None
both f (Some a) (Some b) = f a b

abbrev pub value : Expr → Row → Option Value
value (Col i) row = Some (nth i row)
value (Lit v) row = Some v
value (Add a b) row = both add (value a row) (value b row)
value (Equals a b) row = both (λ x y. Some (equals x y)) (value a row) (value b row)
value (Half a) row = option_and_then half (value a row)
value (Nocase a) row = value a row
value CountAll row = None
value (Sum a) row = None
value (Grouped i) row = None

-- the sum of values, NULL of none
abbrev pub plus : List Value → Option Value
plus [] = Some (Int (pos 0))
plus (v ∷ vs) = both add (Some v) (plus vs)

abbrev pub total : List Value → Option Value
total [] = Some Null
total (v ∷ vs) = plus (v ∷ vs)

abbrev pub over : Expr → Group → Option Value
over (Grouped i) g = Some (nth i g.shown)
over CountAll g = Some (Int (pos (length g.members)))
over (Sum a) g = option_and_then total (each (value a) g.members)
over (Equals a b) g = both (λ x y. Some (equals x y)) (over a g) (over b g)
over (Lit v) g = Some v
over e g = None

abbrev pub is_plain : Expr → Bool
is_plain (Col i) = true
is_plain (Lit v) = true
is_plain e = false

abbrev pub quiet : Expr → Bool
quiet (Equals a b) = is_plain a && is_plain b
quiet e = false

abbrev pub lower : ℕ → ℕ
lower c = cond (nat_lt 64 c && nat_lt c 91) (c + 32) c

abbrev pub fold : Value → Value
fold (Text t) = Text (map lower t)
fold v = v

abbrev pub order : Expr → Value → Value → Ordering
order (Nocase e) a b = value_cmp (fold a) (fold b)
order e a b = value_cmp a b

abbrev pub m : Meaning Expr
m = record { value = value; over = over; truth = truth; quiet = quiet; order = order }

-- ---- the table t

abbrev pub int : ℕ → Value
int n = Int (pos n)

abbrev pub text : List ℕ → Value
text t = Text t

abbrev pub t : List Row
t = (int 1 ∷ text (codes "b") ∷ []) ∷ (int 2 ∷ text (codes "B") ∷ []) ∷ (int 3 ∷ text (codes "a") ∷ []) ∷ []

abbrev pub from_t : Joining Expr
from_t = record { width = 2; left = false; on = [] }

abbrev pub query : List (Joining Expr) → List Expr → List Expr → Query Expr
query sources terms results = record { sources = sources; terms = terms; is_grouped = false; group = []; having = None; results = results; is_distinct = false; order = []; offset = 0; limit = None }

abbrev pub by : Expr → Bool → Term Expr
by e d = record { expr = e; descending = d }

abbrev pub name : Expr
name = Col 1

abbrev pub id : Expr
id = Col 0

-- SELECT name FROM t ORDER BY name COLLATE NOCASE LIMIT 2
order_nocase : answer m (record (query (from_t ∷ []) [] (name ∷ [])) { order = by (Nocase name) false ∷ []; limit = Some 2 }) (t ∷ []) ≡ Some ((text (codes "a") ∷ []) ∷ (text (codes "B") ∷ []) ∷ [])
order_nocase = refl

-- DESC turns the term round, and what ties stands by the whole row
order_descending : answer m (record (query (from_t ∷ []) [] (name ∷ [])) { order = by (Nocase name) true ∷ [] }) (t ∷ []) ≡ Some ((text (codes "B") ∷ []) ∷ (text (codes "b") ∷ []) ∷ (text (codes "a") ∷ []) ∷ [])
order_descending = refl

-- without ORDER BY: in ascending order of the whole row
no_order : answer m (query (from_t ∷ []) [] (name ∷ [])) (t ∷ []) ≡ Some ((text (codes "B") ∷ []) ∷ (text (codes "a") ∷ []) ∷ (text (codes "b") ∷ []) ∷ [])
no_order = refl

-- SELECT name, count(*) FROM t GROUP BY name COLLATE NOCASE
grouped_nocase : answer m (record (query (from_t ∷ []) [] (Grouped 0 ∷ CountAll ∷ [])) { is_grouped = true; group = Nocase name ∷ [] }) (t ∷ []) ≡ Some ((text (codes "B") ∷ int 2 ∷ []) ∷ (text (codes "a") ∷ int 1 ∷ []) ∷ [])
grouped_nocase = refl

-- SELECT count(*), sum(id) FROM t, over no rows
no_rows : answer m (record (query (from_t ∷ []) [] (CountAll ∷ Sum id ∷ [])) { is_grouped = true }) ([] ∷ []) ≡ Some ((int 0 ∷ Null ∷ []) ∷ [])
no_rows = refl

summed : answer m (record (query (from_t ∷ []) [] (CountAll ∷ Sum id ∷ [])) { is_grouped = true }) (t ∷ []) ≡ Some ((int 3 ∷ int 6 ∷ []) ∷ [])
summed = refl

-- HAVING alone groups
having : answer m (record (query (from_t ∷ []) [] (CountAll ∷ [])) { is_grouped = true; having = Some (Equals CountAll (Lit (int 9))) }) (t ∷ []) ≡ Some []
having = refl

-- SELECT id FROM t WHERE half(id) = 1 AND id = 2
quiet_comes_first : answer m (query (from_t ∷ []) (Equals (Half id) (Lit (int 1)) ∷ Equals id (Lit (int 2)) ∷ []) (id ∷ [])) (t ∷ []) ≡ Some ((int 2 ∷ []) ∷ [])
quiet_comes_first = refl

-- SELECT id FROM t WHERE half(id) = 1
loud_faults : answer m (query (from_t ∷ []) (Equals (Half id) (Lit (int 1)) ∷ []) (id ∷ [])) (t ∷ []) ≡ None
loud_faults = refl

-- SELECT id FROM t WHERE name + 1 = 2 AND id = 9
nothing_kept : answer m (query (from_t ∷ []) (Equals (Add name (Lit (int 1))) (Lit (int 2)) ∷ Equals id (Lit (int 9)) ∷ []) (id ∷ [])) (t ∷ []) ≡ Some []
nothing_kept = refl

-- SELECT name + 1 FROM t LIMIT 0
limit_hides_no_fault : answer m (record (query (from_t ∷ []) [] (Add name (Lit (int 1)) ∷ [])) { limit = Some 0 }) (t ∷ []) ≡ None
limit_hides_no_fault = refl

-- SELECT DISTINCT name COLLATE NOCASE FROM t
distinct_nocase : answer m (record (query (from_t ∷ []) [] (Nocase name ∷ [])) { is_distinct = true }) (t ∷ []) ≡ Some ((text (codes "B") ∷ []) ∷ (text (codes "a") ∷ []) ∷ [])
distinct_nocase = refl

-- SELECT t.id, u.id FROM t LEFT JOIN t AS u ON u.id = t.id + 1
left_join : answer m (query (from_t ∷ record { width = 2; left = true; on = Equals (Col 2) (Add id (Lit (int 1))) ∷ [] } ∷ []) [] (id ∷ Col 2 ∷ [])) (t ∷ t ∷ []) ≡ Some ((int 1 ∷ int 2 ∷ []) ∷ (int 2 ∷ int 3 ∷ []) ∷ (int 3 ∷ Null ∷ []) ∷ [])
left_join = refl

-- SELECT u.id FROM t, t AS u WHERE t.id = 3 AND u.id = 1, OFFSET and LIMIT
offset : answer m (record (query (from_t ∷ []) [] (id ∷ [])) { order = by id true ∷ []; offset = 1; limit = Some 1 }) (t ∷ []) ≡ Some ((int 2 ∷ []) ∷ [])
offset = refl

-- ---- writes

abbrev pub id_column : ColumnDef
id_column = record { name = codes "id"; affinity = affinity.Integer; collation = codes "binary"; not_null = false; key = Some 1; default = Null }

abbrev pub name_column : ColumnDef
name_column = record { name = codes "name"; affinity = affinity.Text; collation = codes "binary"; not_null = false; key = None; default = text (codes "none") }

abbrev pub def : TableDef
def = record { name = codes "t"; columns = id_column ∷ name_column ∷ [] }

-- INSERT INTO t(id) VALUES(4)
left_out : wanted_by_insert m def.columns (record { places = 0 ∷ []; tuples = (Lit (int 4) ∷ []) ∷ []; is_ignored = false }) [] ≡ Some ((int 4 ∷ text (codes "none") ∷ []) ∷ [])
left_out = refl

-- an ignored INSERT evaluates nothing
ignored : wanted_by_insert m def.columns (record { places = 0 ∷ []; tuples = (Half (Lit (int 1)) ∷ []) ∷ []; is_ignored = true }) t ≡ Some t
ignored = refl

-- UPDATE t SET id = id + 1
updates : wanted_by_update m def.columns (record { assignments = record { place = 0; expr = Add id (Lit (int 1)) } ∷ []; terms = [] }) t
    ≡ Some ((int 2 ∷ text (codes "b") ∷ []) ∷ (int 3 ∷ text (codes "B") ∷ []) ∷ (int 4 ∷ text (codes "a") ∷ []) ∷ [])
updates = refl

-- DELETE FROM t WHERE id = 2
deletes : wanted_by_delete m (record { terms = Equals id (Lit (int 2)) ∷ [] }) t ≡ Some ((int 1 ∷ text (codes "b") ∷ []) ∷ (int 3 ∷ text (codes "a") ∷ []) ∷ [])
deletes = refl

-- a key column wants a value, whatever is declared
null_key : lacks_value def ((Null ∷ Null ∷ []) ∷ []) ≡ true
unfolding lacks_value
null_key = refl

null_name : lacks_value def ((int 1 ∷ Null ∷ []) ∷ []) ≡ false
unfolding lacks_value
null_name = refl
