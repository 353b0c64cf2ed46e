use Rattle.std.proofs.Common.{◌∙◌, ◌≡◌, ◌-◌, ◌+◌, ◌^◌, min, length, take, sym, ap, arith}
use Rattle.std.specs.List.{filter_map, flat_map}
use Rattle.std.specs.Option.{option_copied}
use Rattle.cr_value.specs.Packing.{packed_value}
use Rattle.cr_delta.specs.Key.{key_part, key_places, key_values, key_of}
use Rattle.cr_wanted.proofs.Lengths.{whole_length, length_more, length_same}
use Rattle.cr_wanted.proofs.long.key_len.Goals as goal
use Rattle.cr_wanted.proofs.long.key_len.Goals.{in-Some, in_default}

pub loop-place-preserved : goal.loop-place-preserved
loop-place-preserved c =
    let f = key_part c.args.def.now c.args.row.now in
    elim c.match-key_part.branch [
      | in-Some w ↦
          length_more f c.loop-place.place c.loop-place.auto.place c.loop-place-test.true w.in-Some.value.now c.loop-place.len w.packed_value_len.result c.match-key_part.len (2 ^ 64 - 1)
          (sym c.key_part.ensures ∙ ap option_copied w.in-Some.is) c.loop-place.invariant w.packed_value_len.ensures (w.len-is ∙ w.saturating_add-len.ensures)
      | in_default w ↦
          w.len-is
          ∙ length_same f c.loop-place.place c.loop-place.auto.place c.loop-place-test.true c.loop-place.len (2 ^ 64 - 1) (sym c.key_part.ensures ∙ ap option_copied w.in_default.is) c.loop-place.invariant
    ]

pub returns : goal.returns
unfolding key_of key_values
returns c =
    let last : c.loop-place.place ≡ 9 = omega arith in
    c.loop-place.invariant
    ∙ ap (λ p. min (1 + length (flat_map packed_value (filter_map (key_part c.args.def.now c.args.row.now) (take (p - 1) key_places)))) (2 ^ 64 - 1)) last
    ∙ whole_length (filter_map (key_part c.args.def.now c.args.row.now) key_places) (2 ^ 64 - 1)
