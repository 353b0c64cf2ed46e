use Rattle.std.proofs.Common.{rules}
use Rattle.std.proofs.lemmas.Fn.{always_returns_same}
use Rattle.cr_sound.proofs.KeptLemmas.{cell_may_follow, kept_decided}
use Rattle.cr_sound.proofs.cells.are_kept.Goals as goal

pub returns : goal.returns
returns c =
    kept_decided c.args.cells.now c.is_sorted_by.result
    (c.is_sorted_by.ensures.cases cell_may_follow (always_returns_same _ _ _ (λ a r f' called. search rules)))
