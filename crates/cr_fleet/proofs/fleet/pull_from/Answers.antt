use Rattle.std.proofs.Common.{true, false}
use Rattle.cr_fleet.proofs.Pulling.{asked_for}
use Rattle.cr_fleet.proofs.fleet.pull_from.Goals as goal

pub returns-then-is_incremental-clause-pulls : goal.returns-then-is_incremental-clause-pulls
returns-then-is_incremental-clause-pulls g c = asked_for _ _ _ _ _ _ _ _ _ _ c.args.is_incremental true c.if-is_incremental.true
    (record {
      pulls = c.pull_since.ensures.pulls;
      told = c.pull_since.ensures.at_once;
      heard = c.pull_since.ensures.heard;
      inside = c.pull_since.ensures.inside;
      pending = c.pull_since.ensures.pending;
      peer_pending = c.pull_since.ensures.peer;
    })

pub returns-else-is_incremental-clause-pulls : goal.returns-else-is_incremental-clause-pulls
returns-else-is_incremental-clause-pulls g c = asked_for _ _ _ _ _ _ _ _ _ _ c.args.is_incremental false c.if-is_incremental.false
    (record {
      pulls = c.pull.ensures.pulls;
      told = c.pull.ensures.at_once;
      heard = c.pull.ensures.heard;
      inside = c.pull.ensures.inside;
      pending = c.pull.ensures.pending;
      peer_pending = c.pull.ensures.peer;
    })
