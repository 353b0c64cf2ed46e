-- Reading any statement.
use Rattle.cr_tree.specs.declared.limits.Limits.{Limits}
use Rattle.cr_tree.specs.declared.symbol.Mark.TheVariants as m
use Rattle.cr_tree.specs.Marks.{is_mark}
use Rattle.cr_tree.specs.Reading.{Parser}
use Rattle.cr_tree.specs.declared.statement.Statement.{Statement}
use Rattle.cr_tree.specs.declared.statement.Statement.TheVariants as t
use Rattle.cr_statement.specs.Reading.{made, choose, command}
use Rattle.cr_statement.specs.Queries.{select}
use Rattle.cr_statement.specs.Creating.{create, alter}

unfoldable pub statement : Limits → Parser Statement
statement lim = choose (is_mark m.Select) (made t.Select (select lim)) (choose (is_mark m.Create) (made t.Create create) (choose (is_mark m.Alter) (made t.Alter alter) (command lim)))
