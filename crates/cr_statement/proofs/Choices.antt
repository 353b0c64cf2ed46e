-- Where no mark of a choice comes next, the last is read.
use Rattle.std.proofs.Common.{◌≡◌, false, List, [], ◌∷◌, refl, ◌∙◌}
use Rattle.cr_tree.specs.declared.limits.Limits.{Limits}
use Rattle.cr_tree.specs.declared.symbol.Mark.{Mark}
use Rattle.cr_tree.specs.declared.symbol.Mark.TheVariants as m
use Rattle.cr_tree.specs.declared.symbol.Symbol.{Symbol}
use Rattle.cr_tree.specs.Marks.{is_mark}
use Rattle.cr_tree.specs.Reading.{Parser, pure, name, behind, sees}
use Rattle.cr_tree.proofs.Forms.{if_false}
use Rattle.cr_value.specs.declared.value.Value.TheVariants as v
use Rattle.cr_tree.specs.declared.statement.Constraint.TheVariants as c
use Rattle.cr_tree.specs.declared.statement.Statement.TheVariants as t
use Rattle.cr_statement.specs.Statements as grammar
use Rattle.cr_statement.specs.Creating.{literal, constraint, create, alter}
use Rattle.cr_statement.specs.Queries.{select}
use Rattle.cr_statement.specs.Whole.{statement}
use Rattle.cr_statement.specs.Reading.{made, choose, one_of, insert, update, delete, begin, ended, transaction, command}

choose_other : {A : Type 0} (x : Mark) (p q : Parser A) (ts : List Symbol) → sees x ts ≡ false → choose (is_mark x) p q ts ≡ q ts
choose_other x p q [] h = refl
choose_other x p q (t ∷ ts) h = if_false (is_mark x t) (p (t ∷ ts)) (q (t ∷ ts)) h

pub literal_last : (ts : List Symbol) → sees m.Minus ts ≡ false → sees m.Plus ts ≡ false → literal ts ≡ one_of grammar.plain_of ts
unfolding literal
literal_last ts a b =
    choose_other m.Minus (made v.Int (behind m.Minus (one_of grammar.negative_of))) (choose (is_mark m.Plus) (made v.Int (behind m.Plus (one_of grammar.int_of))) (one_of grammar.plain_of)) ts a
    ∙ choose_other m.Plus (made v.Int (behind m.Plus (one_of grammar.int_of))) (one_of grammar.plain_of) ts b

pub constraint_last : (ts : List Symbol) → sees m.Primary ts ≡ false → sees m.Not ts ≡ false → sees m.Default ts ≡ false → constraint ts ≡ made c.Collate (behind m.Collate name) ts
unfolding constraint
constraint_last ts a b d =
    choose_other m.Primary (behind m.Primary (behind m.Key (pure c.PrimaryKey))) (choose (is_mark m.Not) (behind m.Not (behind m.Null (pure c.NotNull))) (choose (is_mark m.Default) (made c.Default (behind m.Default literal)) (made c.Collate (behind m.Collate name)))) ts a
    ∙ (choose_other m.Not (behind m.Not (behind m.Null (pure c.NotNull))) (choose (is_mark m.Default) (made c.Default (behind m.Default literal)) (made c.Collate (behind m.Collate name))) ts b
    ∙ choose_other m.Default (made c.Default (behind m.Default literal)) (made c.Collate (behind m.Collate name)) ts d)

pub transaction_last : (ts : List Symbol) → sees m.Begin ts ≡ false → sees m.Commit ts ≡ false → sees m.End ts ≡ false → transaction ts ≡ ended m.Rollback t.Rollback ts
unfolding transaction
transaction_last ts a b c =
    choose_other m.Begin begin (choose (is_mark m.Commit) (ended m.Commit t.Commit) (choose (is_mark m.End) (ended m.End t.Commit) (ended m.Rollback t.Rollback))) ts a
    ∙ (choose_other m.Commit (ended m.Commit t.Commit) (choose (is_mark m.End) (ended m.End t.Commit) (ended m.Rollback t.Rollback)) ts b
    ∙ choose_other m.End (ended m.End t.Commit) (ended m.Rollback t.Rollback) ts c)

pub command_last : (lim : Limits) (ts : List Symbol) → sees m.Insert ts ≡ false → sees m.Update ts ≡ false → sees m.Delete ts ≡ false → command lim ts ≡ transaction ts
unfolding command
command_last lim ts a b c =
    choose_other m.Insert (made t.Insert (insert lim)) (choose (is_mark m.Update) (made t.Update (update lim)) (choose (is_mark m.Delete) (made t.Delete (delete lim)) transaction)) ts a
    ∙ (choose_other m.Update (made t.Update (update lim)) (choose (is_mark m.Delete) (made t.Delete (delete lim)) transaction) ts b
    ∙ choose_other m.Delete (made t.Delete (delete lim)) transaction ts c)

pub statement_last : (lim : Limits) (ts : List Symbol) → sees m.Select ts ≡ false → sees m.Create ts ≡ false → sees m.Alter ts ≡ false → statement lim ts ≡ command lim ts
unfolding statement
statement_last lim ts a b c =
    choose_other m.Select (made t.Select (select lim)) (choose (is_mark m.Create) (made t.Create create) (choose (is_mark m.Alter) (made t.Alter alter) (command lim))) ts a
    ∙ (choose_other m.Create (made t.Create create) (choose (is_mark m.Alter) (made t.Alter alter) (command lim)) ts b
    ∙ choose_other m.Alter (made t.Alter alter) (command lim) ts c)
