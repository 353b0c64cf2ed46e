use Rattle.std.proofs.Common.{length}
use Rattle.cr_exec.proofs.source.+sources_of.Given as goal

abbrev pub decreases-sources_of : goal.decreases-sources_of
decreases-sources_of g l = length l.joined.now
