use Rattle.std.proofs.Common.{◌≡◌, take}
use Rattle.std.specs.List.{filter_map}
use Rattle.cr_guard.specs.Heard.{event_at}
use Rattle.cr_guard.proofs.heard.heard.Given as goal

abbrev pub invariant-loop-pk : goal.invariant-loop-pk
invariant-loop-pk l = l.events.items ≡ filter_map (event_at l.def l.before l.after) (take l.pk-index l.pk-items)
