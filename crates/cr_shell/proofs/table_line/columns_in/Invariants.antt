use Rattle.std.proofs.Common.{◌≡◌, ◌++◌, ◌-◌, drop, length}
use Rattle.std.specs.Option.{option_map}
use Rattle.cr_shell.specs.TableLine.{columns_in}
use Rattle.cr_shell.proofs.table_line.columns_in.Given as goal

abbrev pub invariant-loop : goal.invariant-loop
invariant-loop l = record {
  rest : columns_in (length l.text) 0 l.text ≡ option_map (λ more. l.columns.items ++ more) (columns_in (l.end - l.counter) l.keys (drop l.at l.text));
}
