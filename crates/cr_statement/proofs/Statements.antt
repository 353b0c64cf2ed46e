-- The parsers of statements that show nothing master their languages.
use Rattle.std.proofs.Common.{◌≡◌, Bool, true, false, List, [], ◌∷◌, ◌++◌, Option, Some, None, is_some, refl, ap, arith}
use Rattle.cr_tree.specs.declared.symbol.Mark.{Mark}
use Rattle.cr_tree.specs.declared.symbol.Mark.TheVariants as m
use Rattle.cr_tree.specs.declared.symbol.Symbol.{Symbol}
use Rattle.cr_tree.specs.declared.symbol.Symbol.TheVariants as k
use Rattle.cr_tree.specs.Marks.{same_mark, is_mark}
use Rattle.cr_tree.specs.Grammar.{Phrase}
use Rattle.cr_tree.proofs.Forms.{is_same}
use Rattle.cr_tree.proofs.Repeats.{begins_next}
use Rattle.cr_tree.proofs.Phrases.{Stops, stops_comma, stops_close}
use Rattle.cr_tree.proofs.Judged.{IsOver}
use Rattle.cr_tree.specs.declared.statement.Mode.TheVariants as o
use Rattle.cr_tree.specs.declared.statement.Statement.{Statement}
use Rattle.cr_tree.specs.declared.statement.Statement.TheVariants as t
use Rattle.cr_tree.specs.Reading.{eat}
use Rattle.cr_statement.specs.Languages.{◌◁◌, ◌▷◌, ◌⟨$⟩◌, ◌∣◌, option_fits, option_words, maybe}
use Rattle.cr_statement.specs.Languages as languages
use Rattle.cr_statement.specs.Statements as grammar
use Rattle.cr_statement.specs.Reading.{filter, names, columns, row, insert, assignment, update, delete, mode, begin, ended, transaction, command}
use Rattle.cr_statement.proofs.Mastery.{MastersBefore, Anything, Avoids, followed_by, made_of, behind_mark, before_mark, and_then_by, maybe_of, either_of, neither, commas_of, name_of, eat_of, symbol_of, expr_of}

-- ---- the end

over_clear : (b : Symbol → Bool) (rest : List Symbol) → IsOver rest → begins_next b rest ≡ false
over_clear b [] h = refl
over_clear b (t ∷ ts) h = absurd h

over_stops : (rest : List Symbol) → IsOver rest → Stops 1 rest
over_stops [] h = record { operator = omega arith; plain = refl }
over_stops (t ∷ ts) h = absurd h

-- ---- writes

filter_of : MastersBefore IsOver grammar.filter filter
unfolding filter
filter_of = followed_by (maybe_of (is_mark m.Where) (λ lim d i. is_same m.Where) (behind_mark expr_of m.Where)) (λ rest h. (over_clear (is_mark m.Where) rest h, over_stops rest h))

delete_of : MastersBefore IsOver grammar.delete delete
unfolding delete
delete_of = made_of (and_then_by (behind_mark (behind_mark name_of m.From) m.Delete) filter_of (λ lim d rest i st. tt)) (λ x. record { table = x.0; filter = x.1 })

assignment_of : MastersBefore (Stops 1) grammar.assignment assignment
unfolding assignment
assignment_of = made_of (and_then_by name_of (behind_mark expr_of m.Equal) (λ lim d rest i st. tt)) (λ x. record { column = x.0; value = x.1 })

-- what stands behind an expression is no comma, and doesn't go on with it
abbrev LastOf : List Symbol → Type 0
LastOf rest = (begins_next (is_mark m.Comma) rest ≡ false) × Stops 1 rest

filter_last : (d : Option Phrase) (rest : List Symbol) → IsOver rest → LastOf (grammar.filter.words d ++ rest)
unfolding same_mark
filter_last None rest h = (over_clear (is_mark m.Comma) rest h, over_stops rest h)
filter_last (Some d) rest h = (refl, record { operator = omega arith; plain = refl })

update_of : MastersBefore IsOver grammar.update update
unfolding update
update_of = made_of (and_then_by (behind_mark name_of m.Update) (and_then_by (behind_mark (commas_of stops_comma assignment_of) m.Set) filter_of (λ lim d rest i st. filter_last d rest st)) (λ lim d rest i st. tt))
    (λ x. record { table = x.0; assignments = x.1.0; filter = x.1.1 })

pub names_of : MastersBefore Anything (m.Open ◁ grammar.names ▷ m.Close) (λ lim. names)
unfolding names same_mark
names_of = behind_mark (before_mark (commas_of (λ rest. tt) name_of) m.Close (λ rest. (refl, tt))) m.Open

columns_of : MastersBefore (λ rest. (begins_next (is_mark m.Open) rest ≡ false) × Anything rest) (maybe (m.Open ◁ grammar.names ▷ m.Close)) (λ lim. columns)
unfolding columns
columns_of = maybe_of (is_mark m.Open) (λ lim d i. is_same m.Open) names_of

row_of : MastersBefore Anything grammar.row row
unfolding row same_mark
row_of = behind_mark (before_mark (commas_of stops_comma expr_of) m.Close (λ rest. (refl, stops_close rest))) m.Open

insert_of : MastersBefore IsOver grammar.insert insert
unfolding insert same_mark
insert_of = followed_by (made_of (and_then_by (behind_mark (behind_mark name_of m.Into) m.Insert) (and_then_by columns_of (behind_mark (commas_of (λ rest. tt) row_of) m.Values) (λ lim d rest i st. (refl, tt))) (λ lim d rest i st. tt))
    (λ x. record { table = x.0; columns = x.1.0; rows = x.1.1 })) (λ rest h. (over_clear (is_mark m.Comma) rest h, tt))

-- ---- transactions

word_of : MastersBefore IsOver (languages.maybe_mark m.Transaction) (λ lim. eat m.Transaction)
word_of = followed_by (eat_of m.Transaction) (over_clear (is_mark m.Transaction))

mode_of : MastersBefore (λ rest. (begins_next (λ t. is_some (grammar.mode_of t)) rest ≡ false) × Anything rest) (maybe (languages.one_of grammar.mode_of)) (λ lim. mode)
unfolding mode
mode_of = maybe_of (λ t. is_some (grammar.mode_of t)) (λ lim d i. ap is_some i) (symbol_of grammar.mode_of (k.Mark m.Deferred) o.Deferred refl)

begin_of : MastersBefore IsOver grammar.begin (λ lim. begin)
unfolding begin
begin_of = made_of (and_then_by (behind_mark mode_of m.Begin) word_of (λ lim d rest i st. (link d rest st, tt))) (λ x. t.Begin x.0)
  where
    link : (d : Bool) (rest : List Symbol) → IsOver rest → begins_next (λ t. is_some (grammar.mode_of t)) ((languages.maybe_mark m.Transaction).words d ++ rest) ≡ false
    link true rest h = refl
    link false rest h = over_clear (λ t. is_some (grammar.mode_of t)) rest h

ended_of : (x : Mark) (s : Statement) → MastersBefore IsOver (grammar.ended x s) (λ lim. ended x s)
unfolding ended
ended_of x s = made_of (behind_mark word_of x) (λ b. s)

-- none of them begins with another mark
pub transaction_avoids : (x : Mark) → same_mark x m.Begin ≡ false → same_mark x m.Commit ≡ false → same_mark x m.End ≡ false → same_mark x m.Rollback ≡ false → Avoids (is_mark x) IsOver grammar.transaction
transaction_avoids x a b c d = neither IsOver (is_mark x) grammar.begin (grammar.ended m.Commit t.Commit ∣ grammar.ended m.End t.Commit ∣ grammar.ended m.Rollback t.Rollback) (λ lim z rest i st. a)
    (neither IsOver (is_mark x) (grammar.ended m.Commit t.Commit) (grammar.ended m.End t.Commit ∣ grammar.ended m.Rollback t.Rollback) (λ lim z rest i st. b)
    (neither IsOver (is_mark x) (grammar.ended m.End t.Commit) (grammar.ended m.Rollback t.Rollback) (λ lim z rest i st. c) (λ lim z rest i st. d)))

transaction_of : MastersBefore IsOver grammar.transaction (λ lim. transaction)
unfolding transaction same_mark
transaction_of =
    either_of (is_mark m.Begin) (λ lim d i. is_same m.Begin)
    (neither IsOver (is_mark m.Begin) (grammar.ended m.Commit t.Commit) (grammar.ended m.End t.Commit ∣ grammar.ended m.Rollback t.Rollback) (λ lim d rest i st. refl)
    (neither IsOver (is_mark m.Begin) (grammar.ended m.End t.Commit) (grammar.ended m.Rollback t.Rollback) (λ lim d rest i st. refl) (λ lim d rest i st. refl)))
    begin_of
    (either_of (is_mark m.Commit) (λ lim d i. is_same m.Commit)
    (neither IsOver (is_mark m.Commit) (grammar.ended m.End t.Commit) (grammar.ended m.Rollback t.Rollback) (λ lim d rest i st. refl) (λ lim d rest i st. refl))
    (ended_of m.Commit t.Commit)
    (either_of (is_mark m.End) (λ lim d i. is_same m.End) (λ lim d rest i st. refl) (ended_of m.End t.Commit) (ended_of m.Rollback t.Rollback)))

-- ---- what shows nothing

pub command_of : MastersBefore IsOver grammar.command command
unfolding command same_mark
command_of =
    either_of (is_mark m.Insert) (λ lim d i. is_same m.Insert)
    (neither IsOver (is_mark m.Insert) (t.Update ⟨$⟩ grammar.update) ((t.Delete ⟨$⟩ grammar.delete) ∣ grammar.transaction) (λ lim d rest i st. refl)
    (neither IsOver (is_mark m.Insert) (t.Delete ⟨$⟩ grammar.delete) grammar.transaction (λ lim d rest i st. refl) (transaction_avoids m.Insert refl refl refl refl)))
    (made_of insert_of t.Insert)
    (either_of (is_mark m.Update) (λ lim d i. is_same m.Update)
    (neither IsOver (is_mark m.Update) (t.Delete ⟨$⟩ grammar.delete) grammar.transaction (λ lim d rest i st. refl) (transaction_avoids m.Update refl refl refl refl))
    (made_of update_of t.Update)
    (either_of (is_mark m.Delete) (λ lim d i. is_same m.Delete) (transaction_avoids m.Delete refl refl refl refl) (made_of delete_of t.Delete) transaction_of))
