use denote.Shadow.{shadow}
use denote.Text.{Utf8}
use Rattle.std.proofs.Common.{◌≡◌, drop}
use Rattle.std.specs.Prelude.{codes}
use Rattle.cr_resolve.specs.Creates.{collation_after}
use Rattle.cr_created.proofs.column.collation_of.Given as goal

abbrev pub invariant-loop-constraint : goal.invariant-loop-constraint
invariant-loop-constraint l = record {
  text : shadow (Utf8 l.last);
  kept : collation_after l.last (drop l.constraint-index l.constraints) ≡ collation_after (codes "binary") l.constraints;
}
