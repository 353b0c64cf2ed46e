use Rattle.std.proofs.Common.{rules, arith, ◌≡◌, ◌+◌, ◌-◌, Some, None, drop, length, true, false}
use Rattle.cr_shell.specs.Words.{behind, is_empty}
use Rattle.cr_shell.specs.TableLine.{column_at}
use Rattle.cr_shell.proofs.TableLemmas.{no_column, last_column, unparted_column, next_column, none_left}
use Rattle.cr_shell.proofs.table_line.columns_in.Goals as goal

pub returns-in_default : goal.returns-in_default
returns-in_default c =
    let none : None ≡ column_at c.loop.keys (drop c.loop.at c.args.text.now) = search rules in
    no_column _ c.loop.columns.items _ (length c.args.text.now - (c.loop.counter + 1)) c.loop.keys (drop c.loop.at c.args.text.now) c.loop.invariant.rest (omega arith) none

pub returns-then-is_at_end : goal.returns-then-is_at_end
returns-then-is_at_end c =
    let read : Some (c.in-Some.column, drop c.in-Some.end c.args.text.now) ≡ column_at c.loop.keys (drop c.loop.at c.args.text.now) = search rules in
    let all : is_empty (drop c.in-Some.end c.args.text.now) ≡ true = search rules in
    let e = last_column _ c.loop.columns.items _ (length c.args.text.now - (c.loop.counter + 1)) c.loop.keys (drop c.loop.at c.args.text.now) c.loop.invariant.rest (omega arith) _ read all in
    search (rules, e)

pub returns-in_default-behind_from : goal.returns-in_default-behind_from
returns-in_default-behind_from c =
    let read : Some (c.in-Some.column, drop c.in-Some.end c.args.text.now) ≡ column_at c.loop.keys (drop c.loop.at c.args.text.now) = search rules in
    let some : is_empty (drop c.in-Some.end c.args.text.now) ≡ false = search rules in
    let none : None ≡ behind 32 (drop c.in-Some.end c.args.text.now) = search rules in
    unparted_column _ c.loop.columns.items _ (length c.args.text.now - (c.loop.counter + 1)) c.loop.keys (drop c.loop.at c.args.text.now) c.loop.invariant.rest (omega arith) _ read some none

pub loop-preserved : goal.loop-preserved
loop-preserved c =
    let read : Some (c.in-Some.column, drop c.in-Some.end c.args.text.now) ≡ column_at c.loop.keys (drop c.loop.at c.args.text.now) = search rules in
    let some : is_empty (drop c.in-Some.end c.args.text.now) ≡ false = search rules in
    let next : Some (drop c.in-Some-behind_from.next c.args.text.now) ≡ behind 32 (drop c.in-Some.end c.args.text.now) = search rules in
    let e = next_column _ c.loop.columns.items _ (length c.args.text.now - (c.loop.counter + 1)) c.loop.keys (drop c.loop.at c.args.text.now) c.loop.invariant.rest (omega arith) _ read _ some next in
    search (rules, e)

pub returns : goal.returns
returns c = none_left _ c.loop.columns.items _ c.loop.keys (drop c.loop.at c.args.text.now) c.loop.invariant.rest (omega arith)
