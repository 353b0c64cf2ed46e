-- The parser of a SELECT masters its language.
use Rattle.std.proofs.Common.{◌≡◌, ℕ, ◌<◌, ◌≤◌, Bool, true, false, List, [], ◌∷◌, ◌++◌, Option, Some, None, refl, ◌∙◌, ap, append_assoc, arith}
use Rattle.cr_tree.specs.declared.limits.Limits.{Limits}
use Rattle.cr_tree.specs.declared.symbol.Mark.{Mark}
use Rattle.cr_tree.specs.declared.symbol.Mark.TheVariants as m
use Rattle.cr_tree.specs.declared.symbol.Symbol.{Symbol}
use Rattle.cr_tree.specs.declared.symbol.Symbol.TheVariants as k
use Rattle.cr_tree.specs.declared.expr.Expr.{Expr}
use Rattle.cr_tree.specs.Marks.{same_mark, is_mark}
use Rattle.cr_tree.specs.Reading.{begins}
use Rattle.cr_tree.specs.Language.{Language}
use Rattle.cr_tree.specs.Language.{expr as phrase}
use Rattle.cr_tree.proofs.Forms.{is_same, mark_is}
use Rattle.cr_tree.proofs.Repeats.{begins_next}
use Rattle.cr_tree.proofs.Phrases.{Stops, stops_comma}
use Rattle.cr_tree.proofs.Judged.{IsOver}
use Rattle.cr_tree.specs.declared.statement.Tables.{Tables}
use Rattle.cr_tree.specs.declared.statement.Term.{Term}
use Rattle.cr_tree.specs.declared.statement.Limit.{Limit}
use Rattle.cr_statement.specs.Languages.{◌◁◌, ◌⊗◌, option_words, all_words, maybe, commas}
use Rattle.cr_statement.specs.Statements as grammar
use Rattle.cr_statement.specs.Reading.{filter}
use Rattle.cr_statement.specs.Queries.{group, having, order, from, limited, sources, grouping, ending, clauses, select}
use Rattle.cr_statement.proofs.Mastery.{MastersBefore, followed_by, made_of, behind_mark, and_then_by, regrouped_of, maybe_of, commas_of, expr_of}
use Rattle.cr_statement.proofs.Queries.{Tabled, tables_of, flag_of, limit_of, group_of, having_of, order_of}
use Rattle.cr_statement.proofs.Shown.{Shows, shown_of, shown_avoids}

-- ---- the order of the clauses

abbrev pub rank : Symbol → ℕ
rank (k.Mark m.From) = 1
rank (k.Mark m.Where) = 2
rank (k.Mark m.Group) = 3
rank (k.Mark m.Having) = 4
rank (k.Mark m.Order) = 5
rank (k.Mark m.Limit) = 6
rank _ = 0

-- a clause behind that one comes next, or the end
abbrev pub Later : ℕ → List Symbol → Type 0
Later n [] = Unit {0}
Later n (t ∷ ts) = n < rank t

earlier : (i n : ℕ) (ts : List Symbol) → i < n → Later n ts → Later i ts
earlier i n [] h l = tt
earlier i n (t ∷ ts) h l = omega (arith, h, l)

over_later : (n : ℕ) (ts : List Symbol) → IsOver ts → Later n ts
over_later n [] h = tt
over_later n (t ∷ ts) h = absurd h

-- it begins with no mark of a clause up to that one, and with no other mark
later_not : (n : ℕ) (x : Mark) (ts : List Symbol) → Later n ts → rank (k.Mark x) ≤ n → begins_next (is_mark x) ts ≡ false
later_not n x [] l h = refl
later_not n x (t ∷ ts) l h = at (is_mark x t) refl
  where
    at : (b : Bool) → is_mark x t ≡ b → b ≡ false
    at false e = refl
    at true e = absurd (omega (arith, l, h, ap rank (mark_is x t e)))

-- it goes on with nothing that a clause ends with
later_clear : (n : ℕ) (ts : List Symbol) → Later n ts → Tabled ts
unfolding same_mark
later_clear n [] l = (refl, ((refl, tt), (refl, record { operator = omega arith; plain = refl })))
later_clear n (k.Mark m.From ∷ ts) l = (refl, ((refl, tt), (refl, record { operator = omega arith; plain = refl })))
later_clear n (k.Mark m.Where ∷ ts) l = (refl, ((refl, tt), (refl, record { operator = omega arith; plain = refl })))
later_clear n (k.Mark m.Group ∷ ts) l = (refl, ((refl, tt), (refl, record { operator = omega arith; plain = refl })))
later_clear n (k.Mark m.Having ∷ ts) l = (refl, ((refl, tt), (refl, record { operator = omega arith; plain = refl })))
later_clear n (k.Mark m.Order ∷ ts) l = (refl, ((refl, tt), (refl, record { operator = omega arith; plain = refl })))
later_clear n (k.Mark m.Limit ∷ ts) l = (refl, ((refl, tt), (refl, record { operator = omega arith; plain = refl })))
later_clear n (_ ∷ ts) l = absurd (omega (arith, l))

later_stops : (n : ℕ) (ts : List Symbol) → Later n ts → Stops 1 ts
later_stops n ts l = (later_clear n ts l).1.1.1

-- what stands there, and the end behind it, begins with a clause behind that one, if at all
abbrev Comes : {A : Type 0} → ℕ → Language A → Type 0
Comes n L = (lim : Limits) (d : L.D) (rest : List Symbol) → L.fits lim d → IsOver rest → Later n (L.words d ++ rest)

clause_comes : {A B : Type 0} (n : ℕ) (x : Mark) (L : Language A) (M : Language B) → n < rank (k.Mark x) → Comes (rank (k.Mark x)) M → Comes n (maybe (x ◁ L) ⊗ M)
clause_comes n x L M h c lim d rest i st = at d.0
  where
    at : (e : Option L.D) → Later n ((option_words (λ d. k.Mark x ∷ L.words d) e ++ M.words d.1) ++ rest)
    at None = earlier n (rank (k.Mark x)) (M.words d.1 ++ rest) h (c lim d.1 rest i.1 st)
    at (Some e) = h

-- ---- each clause

from_of : MastersBefore (Later 1) (maybe (m.From ◁ grammar.tables)) from
unfolding from
from_of = followed_by (maybe_of (is_mark m.From) (λ lim d i. is_same m.From) (behind_mark tables_of m.From)) (λ rest l. (later_not 1 m.From rest l (omega arith), later_clear 1 rest l))

where_of : MastersBefore (Later 2) grammar.filter filter
unfolding filter
where_of = followed_by (maybe_of (is_mark m.Where) (λ lim d i. is_same m.Where) (behind_mark expr_of m.Where)) (λ rest l. (later_not 2 m.Where rest l (omega arith), later_stops 2 rest l))

grouped_of : MastersBefore (Later 3) (maybe (m.Group ◁ m.By ◁ commas phrase)) group
grouped_of = followed_by group_of (λ rest l. (later_not 3 m.Group rest l (omega arith), (later_not 3 m.Comma rest l (omega arith), later_stops 3 rest l)))

having_next : MastersBefore (Later 4) (maybe (m.Having ◁ phrase)) having
having_next = followed_by having_of (λ rest l. (later_not 4 m.Having rest l (omega arith), later_stops 4 rest l))

ordered_of : MastersBefore (Later 5) (maybe (m.Order ◁ m.By ◁ commas grammar.term)) order
ordered_of = followed_by order_of (λ rest l. (later_not 5 m.Order rest l (omega arith), (later_not 5 m.Comma rest l (omega arith), (later_stops 5 rest l, (later_not 5 m.Desc rest l (omega arith), later_not 5 m.Asc rest l (omega arith))))))

limited_of : MastersBefore IsOver (maybe grammar.limit) (λ lim. limited)
unfolding limited
limited_of = followed_by (maybe_of (is_mark m.Limit) (λ lim d i. is_same m.Limit) limit_of)
    (λ rest h. (later_not 6 m.Limit rest (over_later 6 rest h) (omega arith), (later_not 6 m.Offset rest (over_later 6 rest h) (omega arith), tt)))

-- ---- all of them

abbrev clause_6 : Language (Option Limit)
clause_6 = maybe grammar.limit

abbrev clause_5 : Language (Option (List Term) × Option Limit)
clause_5 = maybe (m.Order ◁ m.By ◁ commas grammar.term) ⊗ clause_6

abbrev clause_4 : Language (Option Expr × (Option (List Term) × Option Limit))
clause_4 = maybe (m.Having ◁ phrase) ⊗ clause_5

abbrev clause_3 : Language (Option (List Expr) × (Option Expr × (Option (List Term) × Option Limit)))
clause_3 = maybe (m.Group ◁ m.By ◁ commas phrase) ⊗ clause_4

abbrev clause_2 : Language (Option Expr × (Option (List Expr) × (Option Expr × (Option (List Term) × Option Limit))))
clause_2 = grammar.filter ⊗ clause_3

abbrev clause_1 : Language (Option Tables × (Option Expr × (Option (List Expr) × (Option Expr × (Option (List Term) × Option Limit)))))
clause_1 = maybe (m.From ◁ grammar.tables) ⊗ clause_2

comes_6 : Comes 5 clause_6
comes_6 lim None rest i st = over_later 5 rest st
comes_6 lim (Some d) rest i st = omega arith

comes_5 : Comes 4 clause_5
comes_5 = clause_comes 4 m.Order (m.By ◁ commas grammar.term) clause_6 (omega arith) comes_6

comes_4 : Comes 3 clause_4
comes_4 = clause_comes 3 m.Having phrase clause_5 (omega arith) comes_5

comes_3 : Comes 2 clause_3
comes_3 = clause_comes 2 m.Group (m.By ◁ commas phrase) clause_4 (omega arith) comes_4

comes_2 : Comes 1 clause_2
comes_2 = clause_comes 1 m.Where phrase clause_3 (omega arith) comes_3

comes_1 : Comes 0 clause_1
comes_1 = clause_comes 0 m.From grammar.tables clause_2 (omega arith) comes_2

sources_of : MastersBefore (Later 2) (maybe (m.From ◁ grammar.tables) ⊗ grammar.filter) sources
unfolding sources
sources_of = and_then_by from_of where_of (λ lim d rest i st. link d rest st)
  where
    link : (d : grammar.filter.D) (rest : List Symbol) → Later 2 rest → Later 1 (grammar.filter.words d ++ rest)
    link None rest st = earlier 1 2 rest (omega arith) st
    link (Some d) rest st = omega arith

grouping_of : MastersBefore (Later 4) (maybe (m.Group ◁ m.By ◁ commas phrase) ⊗ maybe (m.Having ◁ phrase)) grouping
unfolding grouping
grouping_of = and_then_by grouped_of having_next (λ lim d rest i st. link d rest st)
  where
    link : (d : (maybe (m.Having ◁ phrase)).D) (rest : List Symbol) → Later 4 rest → Later 3 ((maybe (m.Having ◁ phrase)).words d ++ rest)
    link None rest st = earlier 3 4 rest (omega arith) st
    link (Some d) rest st = omega arith

ending_of : MastersBefore IsOver clause_5 ending
unfolding ending
ending_of = and_then_by ordered_of limited_of comes_6

clauses_of : MastersBefore IsOver clause_1 clauses
unfolding clauses
clauses_of = regrouped_of (maybe (m.From ◁ grammar.tables)) grammar.filter clause_3
    (and_then_by sources_of (regrouped_of (maybe (m.Group ◁ m.By ◁ commas phrase)) (maybe (m.Having ◁ phrase)) clause_5 (and_then_by grouping_of ending_of comes_5)) comes_3)

pub select_of : MastersBefore IsOver grammar.select select
unfolding select same_mark begins
select_of = made_of (and_then_by (behind_mark (flag_of m.Distinct m.All refl) m.Select) (and_then_by (commas_of (λ rest. ((refl, tt), stops_comma rest)) shown_of) clauses_of listed) (λ lim d rest i st. (plain m.Distinct refl refl lim d rest i, plain m.All refl refl lim d rest i)))
    (λ x. record { distinct = x.0; shown = x.1.0; from = x.1.1.0; filter = x.1.1.1.0; group = x.1.1.1.1.0; having = x.1.1.1.1.1.0; order = x.1.1.1.1.1.1.0; limit = x.1.1.1.1.1.1.1 })
  where
    listed : (lim : Limits) (d : clause_1.D) (rest : List Symbol) → clause_1.fits lim d → IsOver rest → (begins_next (is_mark m.Comma) (clause_1.words d ++ rest) ≡ false) × Shows (clause_1.words d ++ rest)
    listed lim d rest i st = let l = comes_1 lim d rest i st in
        (later_not 0 m.Comma (clause_1.words d ++ rest) l (omega arith), ((later_clear 0 (clause_1.words d ++ rest) l).1.0, later_stops 0 (clause_1.words d ++ rest) l))

    plain : (x : Mark) → same_mark x m.Star ≡ false → begins 1 (k.Mark x) ≡ false → (lim : Limits) (d : (commas grammar.shown ⊗ clause_1).D) (rest : List Symbol) → (commas grammar.shown ⊗ clause_1).fits lim d
        → begins_next (is_mark x) ((commas grammar.shown ⊗ clause_1).words d ++ rest) ≡ false
    plain x e b lim d rest i = ap (begins_next (is_mark x))
        (append_assoc (grammar.shown.words d.0.0 ++ all_words (λ d. k.Mark m.Comma ∷ grammar.shown.words d) d.0.1) (clause_1.words d.1) rest
        ∙ append_assoc (grammar.shown.words d.0.0) (all_words (λ d. k.Mark m.Comma ∷ grammar.shown.words d) d.0.1) (clause_1.words d.1 ++ rest))
        ∙ shown_avoids x e b lim d.0.0 (all_words (λ d. k.Mark m.Comma ∷ grammar.shown.words d) d.0.1 ++ (clause_1.words d.1 ++ rest)) i.0.0 tt
