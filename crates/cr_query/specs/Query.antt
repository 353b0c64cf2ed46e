-- The joined combinations of a query, and its answer. Source: SQLite's SELECT document; that quiet terms come first, that a
-- row of values is shown for a group, and where ties stand is this project's own.
use Rattle.std.specs.Prelude.{◌≡◌, ℕ, zero, suc, Bool, true, false, cond, not, filter, map, take, drop, List, [], ◌∷◌, ◌++◌, Option, Some, None, option_map}
use Rattle.std.specs.Option.{option_and_then}
use Rattle.std.specs.Cmp.{IsTotalOrder}
use Rattle.std.specs.Cmp.Lexicographic.{slice_cmp}
use Rattle.std.specs.declared.cmp.Ordering.{Ordering}
use Rattle.std.specs.declared.cmp.Ordering.TheVariants.{Equal}
use Rattle.std.specs.Ordering.{then_cmp, on, is_eq}
use Rattle.cr_value.specs.declared.value.Value.{Value}
use Rattle.cr_value.specs.declared.value.Value.TheVariants.{Null}
use Rattle.cr_value.specs.Order.{value_cmp}
use Rattle.cr_query.specs.Queries.{Joining, Term, Query, Shown}
use Rattle.cr_bags.specs.Bags.{SameBag, gather, each, those, single, sort, firsts}

-- a row of values; a combination is one too, the columns of its tables in the order of FROM
abbrev pub Row : Type 0
Row = List Value

-- the combinations of a group, with the values shown for its terms
pub record Group : Type 0 where
  pub shown : Row
  pub members : List Row

-- what expressions mean; None is a fault
pub record Meaning (E : Type 0) : Type 0 where
  pub value : E → Row → Option Value
  pub over : E → Group → Option Value
  pub truth : Value → Option Bool
  pub quiet : E → Bool
  pub order : E → Value → Value → Ordering

pub record Lawful {E : Type 0} (m : Meaning E) : Type 0 where
  pub order_total : (e : E) → IsTotalOrder (m.order e)
  -- an aggregate looks at which combinations a group has and how often
  pub over_bag : (e : E) (k : Row) (cs ds : List Row) → SameBag cs ds → m.over e (record { shown = k; members = cs }) ≡ m.over e (record { shown = k; members = ds })

-- value by value
abbrev pub row_cmp : Row → Row → Ordering
row_cmp = slice_cmp value_cmp

abbrev pub nulls : ℕ → Row
nulls zero = []
nulls (suc n) = Null ∷ nulls n

abbrev pub with_rows : Row → List Row → List Row
with_rows c rows = map (λ r. c ++ r) rows

abbrev pub or_padded : Row → Row → List Row → List Row
or_padded pad c [] = single (c ++ pad)
or_padded pad c (d ∷ ds) = d ∷ ds

abbrev pub head_or_null : Row → Value
head_or_null [] = Null
head_or_null (v ∷ vs) = v

abbrev pub rest_of : Row → Row
rest_of [] = []
rest_of (v ∷ vs) = vs

abbrev pub always_ties : Row → Row → Ordering
always_ties a b = Equal

abbrev pub directed : Bool → (Value → Value → Ordering) → Value → Value → Ordering
directed true R a b = R b a
directed false R a b = R a b

abbrev pub shown_row : Shown → Row
shown_row s = s.row

abbrev pub shown_keys : Shown → Row
shown_keys s = s.keys

-- by the whole row; the keys only make it exact
abbrev pub spelled_cmp : Shown → Shown → Ordering
spelled_cmp = then_cmp (on shown_row row_cmp) (on shown_keys row_cmp)

abbrev pub pair : Option Row → Option Row → Option Shown
pair None o = None
pair (Some a) None = None
pair (Some a) (Some b) = Some (record { row = a; keys = b })

abbrev pub limited : Option ℕ → List Row → List Row
limited None rows = rows
limited (Some n) rows = take n rows

abbrev pub and_so : Option Bool → Option Bool → Option Bool
and_so None o = None
and_so (Some true) o = o
and_so (Some false) o = Some false

module _ {E : Type 0} (m : Meaning E) where
  -- ---- conditions

  abbrev pub is_true : E → Row → Option Bool
  is_true e c = option_and_then m.truth (m.value e c)

  -- left to right, to the first that isn't true
  abbrev pub all_true : List E → Row → Option Bool
  all_true [] c = Some true
  all_true (e ∷ es) c = and_so (is_true e c) (all_true es c)

  -- quiet terms first
  abbrev pub quiet_first : List E → List E
  quiet_first es = filter m.quiet es ++ filter (λ e. not (m.quiet e)) es

  abbrev pub holds : List E → Row → Option Bool
  holds es c = all_true (quiet_first es) c

  -- ---- joins

  -- a combination with the rows of one more table
  abbrev pub joined_with : Joining E → List Row → Row → Option (List Row)
  joined_with j rows c =
      cond j.left (option_map (or_padded (nulls j.width) c) (those (holds j.on) (with_rows c rows))) (Some (with_rows c rows))

  abbrev pub combined : List (Joining E) → List (List Row) → List Row → Option (List Row)
  combined [] tables cs = Some cs
  combined (j ∷ js) [] cs = Some cs
  combined (j ∷ js) (rows ∷ tables) cs = option_and_then (combined js tables) (gather (joined_with j rows) cs)

  -- the combinations on which all terms are true
  abbrev pub joined : Query E → List (List Row) → Option (List Row)
  joined q tables = option_and_then (those (holds q.terms)) (combined q.sources tables (single []))

  -- ---- orders and classes

  abbrev pub by_terms : List (Term E) → Row → Row → Ordering
  by_terms [] = always_ties
  by_terms (t ∷ ts) = then_cmp (on head_or_null (directed t.descending (m.order t.expr))) (on rest_of (by_terms ts))

  abbrev pub by_exprs : List E → Row → Row → Ordering
  by_exprs [] = always_ties
  by_exprs (e ∷ es) = then_cmp (on head_or_null (m.order e)) (on rest_of (by_exprs es))

  -- by the terms, then by the whole row
  abbrev pub ordered_cmp : List (Term E) → Shown → Shown → Ordering
  ordered_cmp ts = then_cmp (on shown_keys (by_terms ts)) (on shown_row row_cmp)

  -- of each class of rows the least
  abbrev pub distinct : List E → List Shown → List Shown
  distinct es shown = firsts (λ a b. is_eq (by_exprs es a.row b.row)) (sort spelled_cmp shown)

  -- ---- groups

  abbrev pub keyed : List E → Row → Option (Row × Row)
  keyed es c = option_map (λ k. (k, c)) (each (λ e. m.value e c) es)

  abbrev pub group_at : List E → List (Row × Row) → Row → Group
  group_at es pairs k = record { shown = k; members = map (λ p. p.1) (filter (λ p. is_eq (by_exprs es k p.0)) pairs) }

  -- the classes of the terms' values, each with its least row of values
  abbrev pub groups_of : List E → List (Row × Row) → List Group
  groups_of es pairs = map (group_at es pairs) (firsts (λ a b. is_eq (by_exprs es a b)) (sort row_cmp (map (λ p. p.0) pairs)))

  -- without terms there is one group
  abbrev pub groups : List E → List Row → Option (List Group)
  groups [] cs = Some (single (record { shown = []; members = cs }))
  groups (e ∷ es) cs = option_map (groups_of (e ∷ es)) (each (keyed (e ∷ es)) cs)

  abbrev pub has : Option E → (E → Option Value) → Option Bool
  has None f = Some true
  has (Some e) f = option_and_then m.truth (f e)

  -- ---- results

  -- results and terms, by what gives an expression's value
  abbrev pub shows : Query E → (E → Option Value) → Option Shown
  shows q f = pair (each f q.results) (each (λ t. f t.expr) q.order)

  -- what a group shows, if it has what HAVING asks
  abbrev pub judged : Query E → (E → Option Value) → Option (List Shown)
  judged q f = option_and_then (λ b. cond b (option_map single (shows q f)) (Some [])) (has q.having f)

  abbrev pub shown_groups : Query E → List Row → Option (List Shown)
  shown_groups q cs = option_and_then (gather (λ g. judged q (λ e. m.over e g))) (groups q.group cs)

  abbrev pub shown : Query E → List Row → Option (List Shown)
  shown q cs = cond q.is_grouped (shown_groups q cs) (each (λ c. shows q (λ e. m.value e c)) cs)

  abbrev pub finished : Query E → List Shown → List Row
  finished q shown =
      limited q.limit (drop q.offset (map shown_row (sort (ordered_cmp q.order) (cond q.is_distinct (distinct q.results shown) shown))))

  -- the rows that a query answers, of tables in the order of FROM
  abbrev pub answer : Query E → List (List Row) → Option (List Row)
  answer q tables = option_map (finished q) (option_and_then (shown q) (joined q tables))

-- tables with the same rows, each as often
abbrev pub SameTables : {X : Type 0} → List (List X) → List (List X) → Type 0
SameTables [] [] = Unit {0}
SameTables [] (u ∷ us) = ⊥
SameTables (t ∷ ts) [] = ⊥
SameTables (t ∷ ts) (u ∷ us) = SameBag t u × SameTables ts us

-- ---- two meanings

-- what has a value under the first has it under the second, as what has one with a limit has it without
pub record Refines {E : Type 0} (sized exact : Meaning E) : Type 0 where
  pub value : (e : E) (c : Row) (v : Value) → sized.value e c ≡ Some v → exact.value e c ≡ Some v
  pub over : (e : E) (g : Group) (v : Value) → sized.over e g ≡ Some v → exact.over e g ≡ Some v
  pub truth : (v : Value) (b : Bool) → sized.truth v ≡ Some b → exact.truth v ≡ Some b
  pub quiet : sized.quiet ≡ exact.quiet
  pub order : sized.order ≡ exact.order
