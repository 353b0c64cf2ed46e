use Rattle.std.proofs.Common.{◌≡◌, drop}
use Rattle.cr_select.proofs.Readings.{output_collations}
use Rattle.cr_select.proofs.named.check_all.Given as goal

abbrev pub invariant-loop-output : goal.invariant-loop-output
invariant-loop-output g l = output_collations (g.K.Naming.known l.known) (drop l.output-index l.outputs) ≡ output_collations (g.K.Naming.known l.known) l.outputs
