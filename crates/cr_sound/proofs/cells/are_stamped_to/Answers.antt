use Rattle.std.proofs.Common.{rules, tests, SFits, w64}
use Rattle.std.proofs.lemmas.Bool.Decides.{Decides-at}
use Rattle.std.proofs.lemmas.Iterator.{YieldsList-from_slice}
use Rattle.std.proofs.lemmas.Iterator.Search.{all_from_yields_List}
use Rattle.cr_sound.specs.Sound.{is_stamped_to}
use Rattle.cr_sound.proofs.StampLemmas.{all_stamped_decided}
use Rattle.cr_sound.proofs.cells.are_stamped_to.Goals as goal

pub returns : goal.returns
returns c =
    let fits : SFits w64 c.args.version = c.ranges.version in
    let is = all_from_yields_List (is_stamped_to c.args.version) _ _ c.all.result c.all.ensures.ran (YieldsList-from_slice c.args.cells.now cc) (λ x b q k. search (rules, tests)) in
    Decides-at c.all.result _ is (all_stamped_decided c.args.version c.args.cells.now)
