-- The parsers of the parts of a SELECT master their languages.
use Rattle.std.proofs.Common.{◌≡◌, ℕ, ℤ, Bool, true, false, List, [], ◌∷◌, ◌++◌, ◌≤◌, Option, Some, None, length, refl, pos, neg_ℤ, arith}
use Rattle.cr_tree.specs.declared.limits.LimitKind.TheVariants as limits
use Rattle.cr_tree.specs.declared.limits.Limits.{Limits}
use Rattle.cr_tree.specs.declared.symbol.Mark.{Mark}
use Rattle.cr_tree.specs.declared.symbol.Mark.TheVariants as m
use Rattle.cr_tree.specs.declared.symbol.Symbol.{Symbol}
use Rattle.cr_tree.specs.declared.symbol.Symbol.TheVariants as k
use Rattle.cr_tree.specs.Marks.{same_mark, is_mark}
use Rattle.cr_tree.specs.Grammar.{Phrase, spelled}
use Rattle.cr_tree.specs.Reading.{pure, expect}
use Rattle.cr_tree.proofs.Forms.{is_same}
use Rattle.cr_tree.proofs.Repeats.{begins_next, begins_front}
use Rattle.cr_tree.proofs.Phrases.{Stops, stops_comma}
use Rattle.cr_tree.proofs.Tracks.{Within, within_then}
use Rattle.cr_tree.specs.Language.{Language}
use Rattle.cr_tree.specs.Language.{expr as phrase}
use Rattle.cr_tree.specs.declared.statement.Join.{Join}
use Rattle.cr_tree.specs.declared.statement.JoinKind.{JoinKind}
use Rattle.cr_tree.specs.declared.statement.JoinKind.TheVariants as j
use Rattle.cr_statement.specs.Languages.{Either, One, Other, ◌◁◌, ◌⊗◌, ◌⟨$⟩◌, ◌∣◌, option_words, maybe_mark, all_fit, all_words, maybe, commas}
use Rattle.cr_statement.specs.Languages as languages
use Rattle.cr_statement.specs.Statements as grammar
use Rattle.cr_statement.specs.Queries.{begins_alias, alias, source, joined, begins_join, comma_join, left_join, plain_join, join, tables, flag, term, count, limit, group, having, order}
use Rattle.cr_statement.proofs.Mastery.{MastersBefore, Anything, neither, commas_of, up_to_of, shrinks_of, followed_by, made_of, behind_mark, and_then_by, maybe_of, either_of, nothing_of, name_of, eat_of, symbol_of, expr_of}

-- what follows begins no alias
abbrev pub Apart : List Symbol → Type 0
Apart rest = (begins_next begins_alias rest ≡ false) × Anything rest

pub alias_of : MastersBefore Apart grammar.alias (λ lim. alias)
unfolding alias same_mark
alias_of = maybe_of begins_alias (λ lim d i. starts d.0 d.1) (made_of (and_then_by (eat_of m.As) name_of (λ lim d rest i st. refl)) (λ x. x.1))
  where
    starts : (b : Bool) (n : List ℕ) → begins_next begins_alias ((languages.maybe_mark m.As).words b ++ k.Name n ∷ []) ≡ true
    starts true n = refl
    starts false n = refl

pub source_of : MastersBefore Apart grammar.source (λ lim. source)
unfolding source
source_of = made_of (and_then_by name_of alias_of (λ lim d rest i st. tt)) (λ x. record { table = x.0; alias = x.1 })

-- what follows begins no alias and no ON, and doesn't go on with an expression
abbrev pub Joinable : List Symbol → Type 0
Joinable rest = Apart rest × ((begins_next (is_mark m.On) rest ≡ false) × Stops 1 rest)

on_stops : (d : Option Phrase) (rest : List Symbol) → Joinable rest → Apart (option_words (λ p. k.Mark m.On ∷ spelled p) d ++ rest)
unfolding same_mark
on_stops None rest st = st.0
on_stops (Some d) rest st = (refl, tt)

pub joined_of : (kind : JoinKind) → MastersBefore Joinable (grammar.joined kind) (joined kind)
unfolding joined
joined_of kind = made_of (and_then_by (behind_mark source_of m.Join) (followed_by (maybe_of (is_mark m.On) (λ lim d i. is_same m.On) (behind_mark expr_of m.On)) (λ rest h. h.1)) (λ lim d rest i st. on_stops d rest st))
    (λ x. record { kind = kind; source = x.0; on = x.1 })

-- ---- joins

abbrev left : Language Join
left = (λ x. x.1) ⟨$⟩ m.Left ◁ maybe_mark m.Outer ⊗ grammar.joined j.Left

abbrev inner : Language Join
inner = m.Inner ◁ grammar.joined j.Inner

abbrev cross : Language Join
cross = m.Cross ◁ grammar.joined j.Cross

pub join_of : MastersBefore Joinable grammar.join join
unfolding join comma_join left_join plain_join same_mark
join_of =
    either_of (is_mark m.Comma) (λ lim d i. is_same m.Comma)
    (neither Joinable (is_mark m.Comma) left (inner ∣ cross ∣ grammar.joined j.Inner) (λ lim d rest i st. refl)
    (neither Joinable (is_mark m.Comma) inner (cross ∣ grammar.joined j.Inner) (λ lim d rest i st. refl) (neither Joinable (is_mark m.Comma) cross (grammar.joined j.Inner) (λ lim d rest i st. refl) (λ lim d rest i st. refl))))
    (made_of (behind_mark (followed_by source_of (λ rest h. h.0)) m.Comma) (λ x. record { kind = j.Comma; source = x; on = None }))
    (either_of (is_mark m.Left) (λ lim d i. is_same m.Left)
    (neither Joinable (is_mark m.Left) inner (cross ∣ grammar.joined j.Inner) (λ lim d rest i st. refl) (neither Joinable (is_mark m.Left) cross (grammar.joined j.Inner) (λ lim d rest i st. refl) (λ lim d rest i st. refl)))
    (made_of (and_then_by (behind_mark (eat_of m.Outer) m.Left) (joined_of j.Left) (λ lim d rest i st. refl)) (λ x. x.1))
    (either_of (is_mark m.Inner) (λ lim d i. is_same m.Inner) (neither Joinable (is_mark m.Inner) cross (grammar.joined j.Inner) (λ lim d rest i st. refl) (λ lim d rest i st. refl)) (behind_mark (joined_of j.Inner) m.Inner)
    (either_of (is_mark m.Cross) (λ lim d i. is_same m.Cross) (λ lim d rest i st. refl) (behind_mark (joined_of j.Cross) m.Cross) (joined_of j.Inner))))

join_begins : (lim : Limits) (d : grammar.join.D) → grammar.join.fits lim d → begins_next begins_join (grammar.join.words d) ≡ true
join_begins lim (One d) i = refl
join_begins lim (Other (One d)) i = refl
join_begins lim (Other (Other (One d))) i = refl
join_begins lim (Other (Other (Other (One d)))) i = refl
join_begins lim (Other (Other (Other (Other d)))) i = refl

-- a join stops what stands before it
join_stops : (ts : List Symbol) → begins_next begins_join ts ≡ true → Joinable ts
unfolding same_mark
join_stops [] h = absurd (cc)
join_stops (k.Mark m.Comma ∷ ts) h = ((refl, tt), (refl, record { operator = omega arith; plain = refl }))
join_stops (k.Mark m.Left ∷ ts) h = ((refl, tt), (refl, record { operator = omega arith; plain = refl }))
join_stops (k.Mark m.Inner ∷ ts) h = ((refl, tt), (refl, record { operator = omega arith; plain = refl }))
join_stops (k.Mark m.Cross ∷ ts) h = ((refl, tt), (refl, record { operator = omega arith; plain = refl }))
join_stops (k.Mark m.Join ∷ ts) h = ((refl, tt), (refl, record { operator = omega arith; plain = refl }))
join_stops (_ ∷ ts) h = absurd (cc)

join_takes : (lim : Limits) (t : Symbol) (ts : List Symbol) → begins_join t ≡ true → Within (length ts) (join lim (t ∷ ts))
unfolding join comma_join left_join plain_join joined same_mark expect
join_takes lim (k.Mark m.Comma) ts h = within_then (λ x. pure (record { kind = j.Comma; source = x; on = None })) (λ x ts. omega arith) (length ts) (source ts) (shrinks_of source_of lim ts)
join_takes lim (k.Mark m.Left) ts h = shrinks_of (made_of (and_then_by (eat_of m.Outer) (joined_of j.Left) (λ lim d rest i st. refl)) (λ x. x.1)) lim ts
join_takes lim (k.Mark m.Inner) ts h = shrinks_of (joined_of j.Inner) lim ts
join_takes lim (k.Mark m.Cross) ts h = shrinks_of (joined_of j.Cross) lim ts
join_takes lim (k.Mark m.Join) ts h = shrinks_of (made_of (and_then_by source_of (followed_by (maybe_of (is_mark m.On) (λ lim d i. is_same m.On) (behind_mark expr_of m.On)) (λ rest h. h.1)) (λ lim d rest i st. on_stops d rest st)) (λ x. record { kind = j.Inner; source = x.0; on = x.1 })) lim ts
join_takes lim _ ts h = absurd (cc)

-- what follows begins no join either
abbrev pub Tabled : List Symbol → Type 0
Tabled rest = (begins_next begins_join rest ≡ false) × Joinable rest

pub tables_of : MastersBefore Tabled grammar.tables tables
unfolding tables
tables_of = made_of (and_then_by source_of (up_to_of limits.Tables (λ lim. lim.joins) begins_join join_begins join_stops join_takes (λ lim lim' wide. wide.joins) (λ e lim lim' wide. wide.more_joins) (λ e lim lim' wide. wide.same_joins) join_of) link) (λ x. record { first = x.0; joins = x.1 })
  where
    link : (lim : Limits) (ds : List grammar.join.D) (rest : List Symbol) → all_fit (grammar.join.fits lim) ds × (length ds ≤ lim.joins) → Tabled rest → Apart (all_words grammar.join.words ds ++ rest)
    link lim [] rest i st = st.1.0
    link lim (d ∷ ds) rest i st = (join_stops ((grammar.join.words d ++ all_words grammar.join.words ds) ++ rest)
        (begins_front begins_join (grammar.join.words d ++ all_words grammar.join.words ds) rest (begins_front begins_join (grammar.join.words d) (all_words grammar.join.words ds) (join_begins lim d i.0.0)))).0

-- ---- terms and counts

pub flag_of : (on off : Mark) → same_mark on off ≡ false → MastersBefore (λ rest. (begins_next (is_mark on) rest ≡ false) × (begins_next (is_mark off) rest ≡ false)) (grammar.flag on off) (λ lim. flag on off)
unfolding flag
flag_of on off e = either_of (is_mark on) (λ lim d i. is_same on) (λ lim d rest i st. avoids d rest st) (followed_by (behind_mark (nothing_of true) on) (λ rest h. tt)) (made_of (followed_by (eat_of off) (λ rest h. h.1)) (λ b. false))
  where
    avoids : (d : Bool) (rest : List Symbol) → (begins_next (is_mark on) rest ≡ false) × (begins_next (is_mark off) rest ≡ false) → begins_next (is_mark on) ((languages.maybe_mark off).words d ++ rest) ≡ false
    avoids true rest st = e
    avoids false rest st = st.0

-- what follows is no DESC and no ASC, and doesn't go on with an expression
abbrev pub Ordered : List Symbol → Type 0
Ordered rest = Stops 1 rest × ((begins_next (is_mark m.Desc) rest ≡ false) × (begins_next (is_mark m.Asc) rest ≡ false))

pub term_of : MastersBefore Ordered grammar.term term
unfolding term same_mark
term_of = made_of (and_then_by expr_of (followed_by (flag_of m.Desc m.Asc refl) (λ rest h. h.1)) (λ lim d rest i st. link d rest st)) (λ x. record { expr = x.0; descending = x.1 })
  where
    link : (d : Either (Unit {0}) Bool) (rest : List Symbol) → Ordered rest → Stops 1 ((grammar.flag m.Desc m.Asc).words d ++ rest)
    link (One d) rest st = record { operator = omega arith; plain = refl }
    link (Other true) rest st = record { operator = omega arith; plain = refl }
    link (Other false) rest st = st.0

count_of : MastersBefore Anything grammar.count (λ lim. count)
unfolding count
count_of = either_of (is_mark m.Minus) (λ lim d i. is_same m.Minus) (λ lim d rest i st. at d.symbol d.value i) (behind_mark (symbol_of grammar.negative_of (k.Number 0) (neg_ℤ (pos 0)) refl) m.Minus) (symbol_of grammar.int_of (k.Number 0) (pos 0) refl)
  where
    at : (t : Symbol) (i : ℤ) → grammar.int_of t ≡ Some i → is_mark m.Minus t ≡ false
    at (k.Mark x) i e = absurd (cc)
    at _ i e = refl

pub limit_of : MastersBefore (λ rest. (begins_next (is_mark m.Offset) rest ≡ false) × Anything rest) grammar.limit (λ lim. limit)
unfolding limit
limit_of = made_of (and_then_by (behind_mark count_of m.Limit) (maybe_of (is_mark m.Offset) (λ lim d i. is_same m.Offset) (behind_mark count_of m.Offset)) (λ lim d rest i st. tt)) (λ x. record { count = x.0; offset = x.1 })

-- ---- clauses

-- what follows the last of a list of expressions
abbrev pub Listed : List Symbol → Type 0
Listed rest = (begins_next (is_mark m.Comma) rest ≡ false) × Stops 1 rest

pub group_of : MastersBefore (λ rest. (begins_next (is_mark m.Group) rest ≡ false) × Listed rest) (maybe (m.Group ◁ m.By ◁ commas phrase)) group
unfolding group
group_of = maybe_of (is_mark m.Group) (λ lim d i. is_same m.Group) (behind_mark (behind_mark (commas_of stops_comma expr_of) m.By) m.Group)

pub having_of : MastersBefore (λ rest. (begins_next (is_mark m.Having) rest ≡ false) × Stops 1 rest) (maybe (m.Having ◁ phrase)) having
unfolding having
having_of = maybe_of (is_mark m.Having) (λ lim d i. is_same m.Having) (behind_mark expr_of m.Having)

pub order_of : MastersBefore (λ rest. (begins_next (is_mark m.Order) rest ≡ false) × ((begins_next (is_mark m.Comma) rest ≡ false) × Ordered rest)) (maybe (m.Order ◁ m.By ◁ commas grammar.term)) order
unfolding order same_mark
order_of = maybe_of (is_mark m.Order) (λ lim d i. is_same m.Order) (behind_mark (behind_mark (commas_of (λ rest. (stops_comma rest, (refl, refl))) term_of) m.By) m.Order)
