use Rattle.std.proofs.Common.{◌≡◌, ◌-◌, take}
use Rattle.std.specs.List.{filter_map}
use Rattle.cr_delta.specs.Key.{key_part, key_places}
use Rattle.cr_delta.proofs.key.key_values.Given as goal

abbrev pub invariant-loop-place : goal.invariant-loop-place
invariant-loop-place l = l.values.items ≡ filter_map (key_part l.def l.row) (take (l.place - 1) key_places)
