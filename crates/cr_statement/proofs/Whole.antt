-- The parser of statements masters their language.
use Rattle.std.proofs.Common.{◌≡◌, false, refl}
use Rattle.cr_tree.specs.declared.symbol.Mark.{Mark}
use Rattle.cr_tree.specs.declared.symbol.Mark.TheVariants as m
use Rattle.cr_tree.specs.Marks.{same_mark, is_mark}
use Rattle.cr_tree.proofs.Forms.{is_same}
use Rattle.cr_tree.proofs.Judged.{Masters, IsOver}
use Rattle.cr_tree.specs.declared.statement.Statement.TheVariants as t
use Rattle.cr_statement.specs.Languages.{◌⟨$⟩◌, ◌∣◌}
use Rattle.cr_statement.specs.Statements as grammar
use Rattle.cr_statement.specs.Whole.{statement}
use Rattle.cr_statement.proofs.Mastery.{Avoids, neither, masters, made_of, either_of}
use Rattle.cr_statement.proofs.Statements.{transaction_avoids, command_of}
use Rattle.cr_statement.proofs.Selects.{select_of}
use Rattle.cr_statement.proofs.Creates.{create_of, alter_of}

-- a command begins with no other mark
command_avoids : (x : Mark) → same_mark x m.Insert ≡ false → same_mark x m.Update ≡ false → same_mark x m.Delete ≡ false → Avoids (is_mark x) IsOver grammar.transaction → Avoids (is_mark x) IsOver grammar.command
command_avoids x a b c e = neither IsOver (is_mark x) (t.Insert ⟨$⟩ grammar.insert) ((t.Update ⟨$⟩ grammar.update) ∣ (t.Delete ⟨$⟩ grammar.delete) ∣ grammar.transaction) (λ lim d rest i st. a)
    (neither IsOver (is_mark x) (t.Update ⟨$⟩ grammar.update) ((t.Delete ⟨$⟩ grammar.delete) ∣ grammar.transaction) (λ lim d rest i st. b)
    (neither IsOver (is_mark x) (t.Delete ⟨$⟩ grammar.delete) grammar.transaction (λ lim d rest i st. c) e))

pub statement_of : Masters grammar.statement statement
unfolding statement same_mark
statement_of = masters (either_of (is_mark m.Select) (λ lim d i. is_same m.Select)
    (neither IsOver (is_mark m.Select) (t.Create ⟨$⟩ grammar.create) ((t.Alter ⟨$⟩ grammar.alter) ∣ grammar.command) (λ lim d rest i st. refl)
    (neither IsOver (is_mark m.Select) (t.Alter ⟨$⟩ grammar.alter) grammar.command (λ lim d rest i st. refl) (command_avoids m.Select refl refl refl (transaction_avoids m.Select refl refl refl refl))))
    (made_of select_of t.Select)
    (either_of (is_mark m.Create) (λ lim d i. is_same m.Create)
    (neither IsOver (is_mark m.Create) (t.Alter ⟨$⟩ grammar.alter) grammar.command (λ lim d rest i st. refl) (command_avoids m.Create refl refl refl (transaction_avoids m.Create refl refl refl refl)))
    (made_of create_of t.Create)
    (either_of (is_mark m.Alter) (λ lim d i. is_same m.Alter) (command_avoids m.Alter refl refl refl (transaction_avoids m.Alter refl refl refl refl)) (made_of alter_of t.Alter) command_of))) (λ rest h. h)
