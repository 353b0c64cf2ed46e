use Rattle.std.proofs.Common.{subst}
use Rattle.std.specs.Prelude.{Decides}
use Rattle.std.specs.List.{IsDistinct}
use Rattle.cr_sound.specs.Sound.{is_one_stamp}
use Rattle.cr_sound.proofs.StampLemmas.{stamps_decided}
use Rattle.cr_sound.proofs.stamps.have_distinct_stamps.Goals as goal

pub returns : goal.returns
returns c =
    stamps_decided c.args.cells.now c.are_distinct.result
    (subst (λ l. Decides c.are_distinct.result (IsDistinct is_one_stamp l)) c.in_ok-stamps_of.ensures c.are_distinct.ensures)
