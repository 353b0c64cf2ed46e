use Rattle.std.proofs.Common.{◌≡◌, ◌+◌, ◌-◌, ◌^◌, min, length, take}
use Rattle.std.specs.List.{filter_map, flat_map}
use Rattle.cr_value.specs.Packing.{packed_value}
use Rattle.cr_delta.specs.Key.{key_part, key_places}
use Rattle.cr_wanted.proofs.long.key_len.Given as goal

abbrev pub invariant-loop-place : goal.invariant-loop-place
invariant-loop-place l = l.len ≡ min (1 + length (flat_map packed_value (filter_map (key_part l.def l.row) (take (l.place - 1) key_places)))) (2 ^ 64 - 1)
