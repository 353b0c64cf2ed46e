use Rattle.std.proofs.Common.{◌≡◌, drop}
use Rattle.cr_resolve.specs.Creates.{missing}
use Rattle.cr_created.proofs.names.check_listed.Given as goal

abbrev pub invariant-loop-name : goal.invariant-loop-name
invariant-loop-name l = missing l.columns (drop l.name-index l.key) ≡ missing l.columns l.key
