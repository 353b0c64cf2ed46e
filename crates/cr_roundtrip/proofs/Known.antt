-- Each symbol of a statement is a known one.
use Rattle.std.proofs.Common.{◌≡◌, ℕ, Bool, true, false, List, [], ◌∷◌, ◌++◌, Option, Some, None, length, ◌≤◌}
use Rattle.cr_tree.specs.declared.limits.TheConstants.{LIMITS}
use Rattle.cr_tree.specs.declared.symbol.Mark.{Mark}
use Rattle.cr_tree.specs.declared.symbol.Mark.TheVariants as m
use Rattle.cr_tree.specs.declared.symbol.Symbol.{Symbol}
use Rattle.cr_tree.specs.declared.symbol.Symbol.TheVariants as k
use Rattle.cr_tree.specs.declared.expr.Expr.{Expr}
use Rattle.cr_tree.specs.Grammar.{Operator, Or, And, Equal, DoubleEqual, Unequal, BangEqual, Is, IsNot, Like, NotLike, Less, AtMost, Greater, AtLeast, Plus, Minus, Star, Slash, Percent, Bars, Test, IsNull, NotNull, NotNullApart, Sizes, NoSizes, OneSize, TwoSizes, Phrase, Leaf, Negative, Name, Dotted, NotOf, PlusOf, MinusOf, With, Inside, CallNone, Call, CountAll, Cast, Case, Tail, Infix, Tested, Collated, Among, Between, Phrases, One, And_more, Arms, Arm, And_arms, Perhaps, Absent, Present, spelled, spelled_tail, spelled_all, spelled_arms, spelled_perhaps, operator_words, test_words, not_words, sizes_words, names_words, leaf, is_size, AreSizes, IsProper, IsProperTail, AreProper, AreProperArms, IsProperPerhaps}
use Rattle.cr_tree.specs.Language.{Language, expr}
use Rattle.cr_tree.specs.declared.statement.JoinKind.{JoinKind}
use Rattle.cr_tree.specs.declared.statement.JoinKind.TheVariants as j
use Rattle.cr_statement.specs.Languages.{◌◁◌, ◌▷◌, ◌⊗◌, ◌⟨$⟩◌, ◌∣◌, Either, either_fits, by_either, option_fits, option_words, all_fit, all_words, maybe, maybe_mark, many, commas, mark, nothing, name, one_of, sizes}
use Rattle.cr_statement.specs.Languages as choice
use Rattle.cr_statement.specs.Statements as grammar
use Rattle.cr_roundtrip.specs.Printed.{All}
use Rattle.cr_roundtrip.proofs.Printed.{join}

abbrev pub IsKnown : Symbol → Type 0
IsKnown k.Other = ⊥
IsKnown _ = Unit {0}

abbrev Knowns : List Symbol → Type 0
Knowns ts = All IsKnown ts

and_then : (xs ys : List Symbol) → Knowns xs → Knowns ys → Knowns (xs ++ ys)
and_then xs ys a b = join IsKnown xs ys a b

-- ---- expressions

leaf_known : (t : Symbol) (x : Expr) → leaf t ≡ Some x → IsKnown t
leaf_known (k.Mark y) x h = tt
leaf_known (k.Name n) x h = tt
leaf_known (k.Text n) x h = tt
leaf_known (k.Blob n) x h = tt
leaf_known (k.Number n) x h = tt
leaf_known (k.Bits n) x h = tt
leaf_known (k.Param n) x h = tt
leaf_known k.Other x h = absurd (cc)

size_known : (t : Symbol) → is_size t ≡ true → IsKnown t
size_known (k.Mark y) h = tt
size_known (k.Name n) h = tt
size_known (k.Text n) h = tt
size_known (k.Blob n) h = tt
size_known (k.Number n) h = tt
size_known (k.Bits n) h = tt
size_known (k.Param n) h = tt
size_known k.Other h = absurd (cc)

sizes_known : (s : Sizes) → AreSizes s → Knowns (sizes_words s)
sizes_known NoSizes h = tt
sizes_known (OneSize a) h = (tt, (size_known a h, (tt, tt)))
sizes_known (TwoSizes a b) h = (tt, (size_known a h.0, (tt, (size_known b h.1, (tt, tt)))))

names_known : (ns : List (List ℕ)) → Knowns (names_words ns)
names_known [] = tt
names_known (n ∷ ns) = (tt, names_known ns)

operator_known : (op : Operator) → Knowns (operator_words op)
operator_known Or = (tt, tt)
operator_known And = (tt, tt)
operator_known Equal = (tt, tt)
operator_known DoubleEqual = (tt, tt)
operator_known Unequal = (tt, tt)
operator_known BangEqual = (tt, tt)
operator_known Is = (tt, tt)
operator_known IsNot = (tt, (tt, tt))
operator_known Like = (tt, tt)
operator_known NotLike = (tt, (tt, tt))
operator_known Less = (tt, tt)
operator_known AtMost = (tt, tt)
operator_known Greater = (tt, tt)
operator_known AtLeast = (tt, tt)
operator_known Plus = (tt, tt)
operator_known Minus = (tt, tt)
operator_known Star = (tt, tt)
operator_known Slash = (tt, tt)
operator_known Percent = (tt, tt)
operator_known Bars = (tt, tt)

test_known : (t : Test) → Knowns (test_words t)
test_known IsNull = (tt, tt)
test_known NotNull = (tt, tt)
test_known NotNullApart = (tt, (tt, tt))

not_known : (n : Bool) → Knowns (not_words n)
not_known true = (tt, tt)
not_known false = tt

closed_known : (ts : List Symbol) → Knowns ts → Knowns (ts ++ k.Mark m.Close ∷ [])
closed_known ts a = and_then ts (k.Mark m.Close ∷ []) a (tt, tt)

mutual
  phrase_known : (p : Phrase) → IsProper p → Knowns (spelled p)
  phrase_known (Leaf t x) i = (leaf_known t x i, tt)
  phrase_known (Negative n) i = (tt, (tt, tt))
  phrase_known (Name n) i = (tt, tt)
  phrase_known (Dotted s n) i = (tt, (tt, (tt, tt)))
  phrase_known (NotOf p) i = (tt, phrase_known p i.0)
  phrase_known (PlusOf p) i = (tt, phrase_known p i.0)
  phrase_known (MinusOf p) i = (tt, phrase_known p i.0)
  phrase_known (With p t) i = and_then (spelled p) (spelled_tail t) (phrase_known p i.0) (tail_known t i.1)
  phrase_known (Inside p) i = (tt, closed_known (spelled p) (phrase_known p i))
  phrase_known (CallNone f) i = (tt, (tt, (tt, tt)))
  phrase_known (Call f all) i = (tt, (tt, closed_known (spelled_all all) (all_known all i)))
  phrase_known CountAll i = (tt, (tt, (tt, (tt, tt))))
  phrase_known (Cast p n ns s) i = (
    tt,
    (
      tt,
      and_then (spelled p) (k.Mark m.As ∷ k.Name n ∷ names_words ns ++ (sizes_words s ++ k.Mark m.Close ∷ [])) (phrase_known p i.0)
          (tt, (tt, and_then (names_words ns) (sizes_words s ++ k.Mark m.Close ∷ []) (names_known ns) (closed_known (sizes_words s) (sizes_known s i.1)))),
    ),
  )
  phrase_known (Case s arms o) i = (
    tt,
    and_then (spelled_perhaps s []) (spelled_arms arms ++ (spelled_perhaps o (k.Mark m.Else ∷ []) ++ k.Mark m.End ∷ [])) (perhaps_known s [] i.0 tt)
        (and_then (spelled_arms arms) (spelled_perhaps o (k.Mark m.Else ∷ []) ++ k.Mark m.End ∷ []) (arms_known arms i.1)
        (and_then (spelled_perhaps o (k.Mark m.Else ∷ [])) (k.Mark m.End ∷ []) (perhaps_known o (k.Mark m.Else ∷ []) i.2 (tt, tt)) (tt, tt))),
  )

  tail_known : (t : Tail) → IsProperTail t → Knowns (spelled_tail t)
  tail_known (Infix op p) i = and_then (operator_words op) (spelled p) (operator_known op) (phrase_known p i.0)
  tail_known (Tested t) i = test_known t
  tail_known (Collated c) i = (tt, (tt, tt))
  tail_known (Among n all) i = and_then (not_words n) (k.Mark m.In ∷ k.Mark m.Open ∷ spelled_all all ++ k.Mark m.Close ∷ []) (not_known n) (tt, (tt, closed_known (spelled_all all) (all_known all i)))
  tail_known (Between n low high) i = and_then (not_words n) (k.Mark m.Between ∷ spelled low ++ k.Mark m.And ∷ spelled high) (not_known n) (tt, and_then (spelled low) (k.Mark m.And ∷ spelled high) (phrase_known low i.0) (tt, phrase_known high i.2))

  all_known : (all : Phrases) → AreProper all → Knowns (spelled_all all)
  all_known (One p) i = phrase_known p i
  all_known (And_more p all) i = and_then (spelled p) (k.Mark m.Comma ∷ spelled_all all) (phrase_known p i.0) (tt, all_known all i.1)

  arms_known : (arms : Arms) → AreProperArms arms → Knowns (spelled_arms arms)
  arms_known (Arm p q) i = (tt, and_then (spelled p) (k.Mark m.Then ∷ spelled q) (phrase_known p i.0) (tt, phrase_known q i.1))
  arms_known (And_arms p q arms) i = (tt, and_then (spelled p) (k.Mark m.Then ∷ spelled q ++ spelled_arms arms) (phrase_known p i.0) (tt, and_then (spelled q) (spelled_arms arms) (phrase_known q i.1) (arms_known arms i.2)))

  perhaps_known : (o : Perhaps) (words : List Symbol) → IsProperPerhaps o → Knowns words → Knowns (spelled_perhaps o words)
  perhaps_known Absent words i a = tt
  perhaps_known (Present p) words i a = and_then words (spelled p) a (phrase_known p i)

-- ---- languages

-- whatever it means
record Knows {D : Type 0} (fits : D → Type 0) (words : D → List Symbol) : Type 0 where
  pub known : (d : D) → fits d → Knowns (words d)

abbrev Of : {A : Type 0} → Language A → Type 0
Of L = Knows (L.fits LIMITS) L.words

expression : Of expr
expression = record { known = λ d i. phrase_known d i.proper }

a_name : Of name
a_name = record { known = λ d i. (tt, tt) }

a_mark : (x : Mark) → Knows {D = Unit {0}} (λ d. Unit {0}) (λ d. k.Mark x ∷ [])
a_mark x = record { known = λ d i. (tt, tt) }

an_empty : Knows {D = Unit {0}} (λ d. Unit {0}) (λ d. [])
an_empty = record { known = λ d i. tt }

bool_known : (x : Mark) (b : Bool) → Knowns ((maybe_mark x).words b)
bool_known x true = (tt, tt)
bool_known x false = tt

perhaps_mark : (x : Mark) → Of (maybe_mark x)
perhaps_mark x = record { known = λ d i. bool_known x d }

some_sizes : Of sizes
some_sizes = record { known = λ d i. sizes_known d i }

module _ {D : Type 0} {F : D → Type 0} {w : D → List Symbol} (p : Knows F w) where
  behind : (x : Mark) → Knows F (λ d. k.Mark x ∷ w d)
  behind x = record { known = λ d i. (tt, p.known d i) }

  before : (x : Mark) → Knows F (λ d. w d ++ k.Mark x ∷ [])
  before x = record { known = λ d i. and_then (w d) (k.Mark x ∷ []) (p.known d i) (tt, tt) }

  pair : {E : Type 0} {G : E → Type 0} {v : E → List Symbol} → Knows G v → Knows {D = D × E} (λ d. F d.0 × G d.1) (λ d. w d.0 ++ v d.1)
  pair {E} {G} {v} q = record { known = λ d i. and_then (w d.0) (v d.1) (p.known d.0 i.0) (q.known d.1 i.1) }

  option_known : (d : Option D) → option_fits F d → Knowns (option_words w d)
  option_known None i = tt
  option_known (Some d) i = p.known d i

  option : Knows (option_fits F) (option_words w)
  option = record { known = option_known }

  each_known : (ts : List Symbol) → Knowns ts → (ds : List D) → all_fit F ds → Knowns (all_words (λ d. ts ++ w d) ds)
  each_known ts a [] i = tt
  each_known ts a (d ∷ ds) i = and_then (ts ++ w d) (all_words (λ d. ts ++ w d) ds) (and_then ts (w d) a (p.known d i.0)) (each_known ts a ds i.1)

  several : Knows (all_fit F) (all_words w)
  several = record { known = each_known [] tt }

  at_most : (n : ℕ) → Knows {D = List D} (λ ds. all_fit F ds × (length ds ≤ n)) (all_words w)
  at_most n = record { known = λ d i. each_known [] tt d i.0 }

  listed : Knows {D = D × List D} (λ d. F d.0 × all_fit F d.1) (λ d. w d.0 ++ all_words (λ d. k.Mark m.Comma ∷ w d) d.1)
  listed = record { known = λ d i. and_then (w d.0) (all_words (λ d. k.Mark m.Comma ∷ w d) d.1) (p.known d.0 i.0) (each_known (k.Mark m.Comma ∷ []) (tt, tt) d.1 i.1) }

  either : {E : Type 0} {G : E → Type 0} {v : E → List Symbol} → Knows G v → Knows (either_fits F G) (by_either w v)
  either {E} {G} {v} q = record { known = at }
    where
      at : (d : Either D E) → either_fits F G d → Knowns (by_either w v d)
      at (choice.One d) i = p.known d i
      at (choice.Other d) i = q.known d i

one_known : {A : Type 0} (means : Symbol → Option A) → ((a : A) → means k.Other ≡ Some a → ⊥) → Of (one_of means)
one_known {A} means none = record { known = λ d i. (at d.symbol d.value i, tt) }
  where
    at : (t : Symbol) (a : A) → means t ≡ Some a → IsKnown t
    at (k.Mark y) a h = tt
    at (k.Name n) a h = tt
    at (k.Text n) a h = tt
    at (k.Blob n) a h = tt
    at (k.Number n) a h = tt
    at (k.Bits n) a h = tt
    at (k.Param n) a h = tt
    at k.Other a h = absurd (none a h)

-- ---- statements

int : Of grammar.int
int = one_known grammar.int_of (λ a h. cc)

negative : Of grammar.negative
negative = behind (one_known grammar.negative_of (λ a h. cc)) m.Minus

count : Of grammar.count
count = either negative int

literal : Of grammar.literal
literal = either negative (either (behind int m.Plus) (one_known grammar.plain_of (λ a h. cc)))

flag : (on off : Mark) → Of (grammar.flag on off)
flag on off = either (a_mark on) (perhaps_mark off)

alias : Of grammar.alias
alias = option (pair (perhaps_mark m.As) a_name)

shown : Of grammar.shown
shown = either (a_mark m.Star) (either (before (before a_name m.Dot) m.Star) (pair expression alias))

source : Of grammar.source
source = pair a_name alias

joined : (kind : JoinKind) → Of (grammar.joined kind)
joined kind = pair (behind source m.Join) (option (behind expression m.On))

a_join : Of grammar.join
a_join = either (behind source m.Comma) (either (pair (behind (perhaps_mark m.Outer) m.Left) (joined j.Left)) (either (behind (joined j.Inner) m.Inner) (either (behind (joined j.Cross) m.Cross) (joined j.Inner))))

filter : Of grammar.filter
filter = option (behind expression m.Where)

select : Of grammar.select
select = pair (behind (flag m.Distinct m.All) m.Select) (pair (listed shown) (pair (option (behind (pair source (at_most a_join LIMITS.joins)) m.From)) (pair filter (pair (option (behind (behind (listed expression) m.By) m.Group)) (pair (option (behind expression m.Having))
    (pair (option (behind (behind (listed (pair expression (flag m.Desc m.Asc))) m.By) m.Order)) (option (pair (behind count m.Limit) (option (behind count m.Offset))))))))))

names : Of (m.Open ◁ grammar.names ▷ m.Close)
names = behind (before (listed a_name) m.Close) m.Open

insert : Of grammar.insert
insert = pair (behind (behind a_name m.Into) m.Insert) (pair (option names) (behind (listed (behind (before (listed expression) m.Close) m.Open)) m.Values))

update : Of grammar.update
update = pair (behind a_name m.Update) (pair (behind (listed (pair a_name (behind expression m.Equal))) m.Set) filter)

delete : Of grammar.delete
delete = pair (behind (behind a_name m.From) m.Delete) filter

constraint : Of grammar.constraint
constraint = either (behind (a_mark m.Key) m.Primary) (either (behind (a_mark m.Null) m.Not) (either (behind literal m.Default) (behind a_name m.Collate)))

column : Of grammar.column
column = pair a_name (pair (several a_name) (pair some_sizes (several constraint)))

if_not_exists : Of grammar.if_not_exists
if_not_exists = either (behind (behind (a_mark m.Exists) m.Not) m.If) an_empty

create : Of grammar.create
create = pair (behind (behind if_not_exists m.Table) m.Create) (pair a_name (behind (before (pair (listed column) (option (behind (behind (behind names m.Key) m.Primary) m.Comma))) m.Close) m.Open))

alter : Of grammar.alter
alter = pair (behind (behind a_name m.Table) m.Alter) (behind (pair (perhaps_mark m.Column) column) m.Add)

ended : (x : Mark) → Knows {D = Bool} (λ d. Unit {0}) (λ d. k.Mark x ∷ (maybe_mark m.Transaction).words d)
ended x = behind (perhaps_mark m.Transaction) x

begin : Of grammar.begin
begin = pair (behind (option (one_known grammar.mode_of (λ a h. cc))) m.Begin) (perhaps_mark m.Transaction)

statement : Of grammar.statement
statement = either select (either create (either alter (either insert (either update (either delete (either begin (either (ended m.Commit) (either (ended m.End) (ended m.Rollback)))))))))

pub all_are_known : (d : grammar.statement.D) → grammar.statement.fits LIMITS d → All IsKnown (grammar.statement.words d)
all_are_known d i = statement.known d i
