use Rattle.std.proofs.Common.{◌+◌, ◌-◌, List, Option, Some, drop, sym, ap, ◌∙◌}
use Rattle.std.specs.Prelude.{position}
use Rattle.cr_value.specs.declared.value.Value.{Value}
use Rattle.cr_lattice.specs.Check.{stands_at}
use Rattle.cr_delta.specs.Key.{key_places}
use Rattle.cr_bags.specs.Bags.{gather, joins}
use Rattle.cr_sought.specs.Sought.{sought_part, tells}
use Rattle.cr_sought.proofs.Packs.{joins_first, no_column, no_value, one_value}
use Rattle.cr_sought.proofs.key.sought_values.Goals as goal
use Rattle.cr_sought.proofs.key.sought_values.Goals.{in-Some+in_ok-column+in_ok-value+in-Some-2+in_ok-push-in-Some-2, in_default}

pub loop-place-init : goal.loop-place-init
loop-place-init c =
    let all = gather (sought_part (tells c.args.telling.now) c.args.base c.args.definition.now) key_places in
    ap (λ vs. joins (Some vs) all) c.new-values.ensures.items ∙ joins_first all

pub returns-in-None : goal.returns-in-None
returns-in-None c =
    let column = sym (sym c.in-Some.is ∙ c.key_column.ensures ∙ ap (position (stands_at c.loop-place.place)) c.as_slice.ensures) in
    no_value (tells c.args.telling.now) c.args.base c.args.definition.now
    c.loop-place.place c.loop-place.auto.place c.loop-place-test.true c.loop-place.values.items c.in-Some.at
    column (ap (tells c.args.telling.now) (sym c.in_ok-column.ensures) ∙ sym c.in_ok-value.ensures ∙ c.in-None.is)
    ∙ c.loop-place.invariant

pub loop-place-preserved : goal.loop-place-preserved
loop-place-preserved c =
    let told = sym (c.key_column.ensures ∙ ap (position (stands_at c.loop-place.place)) c.as_slice.ensures) in
    let part = sought_part (tells c.args.telling.now) c.args.base c.args.definition.now in
    let all : List Value → Option (List Value) = λ vs. joins (Some vs) (gather part (drop (c.loop-place.place + 1 - 1) key_places)) in
    elim c.match-key_column.branch [
      | in-Some+in_ok-column+in_ok-value+in-Some-2+in_ok-push-in-Some-2 w ↦
          ap (λ v. all v.items) w.values-is
          ∙ ap all w.in_ok-push-in-Some-2.ensures.items
          ∙ one_value (tells c.args.telling.now) c.args.base c.args.definition.now
          c.loop-place.place c.loop-place.auto.place c.loop-place-test.true c.loop-place.values.items w.in-Some.at w.in-Some-2.value
          (told ∙ w.in-Some.is)
          (ap (tells c.args.telling.now) (sym w.in_ok-column.ensures) ∙ sym w.in_ok-value.ensures ∙ w.in-Some-2.is)
          ∙ c.loop-place.invariant
      | in_default w ↦
          ap (λ v. all v.items) w.values-is
          ∙ no_column (tells c.args.telling.now) c.args.base c.args.definition.now
          c.loop-place.place c.loop-place.auto.place c.loop-place-test.true c.loop-place.values.items (told ∙ w.in_default.is)
          ∙ c.loop-place.invariant
    ]
