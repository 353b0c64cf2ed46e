use Rattle.std.proofs.Common.{◌∙◌, ap, map, sym}
use Rattle.std.specs.Option.{option_map}
use Rattle.cr_exec.specs.Equalities.{sought}
use Rattle.cr_exec.specs.Groups.{row_there}
use Rattle.cr_exec.proofs.Indexed.{wide_there}
use Rattle.cr_exec.proofs.Sought.{asks_it, narrow_next, none_next}
use Rattle.cr_exec.proofs.source.asked.Goals as goal
use Rattle.cr_exec.proofs.source.asked.Goals.{in-Some+else-is_wide, in_default}

pub returns-then-is_wide : goal.returns-then-is_wide
returns-then-is_wide c =
    asks_it c.args.start (map row_there c.args.rows.now) c.args.terms.now c.loop-term.term-index c.term-item.result _ c.loop-term-test.true c.term-item.is c.loop-term.invariant (sought c.in-Some.equality)
    (sym c.equality_of.ensures ∙ ap (option_map sought) c.in-Some.is) (sym (wide_there c.in-Some.equality.place c.args.rows.now) ∙ sym c.is_wide.ensures ∙ c.if-is_wide.true)

pub loop-term-preserved : goal.loop-term-preserved
loop-term-preserved c =
    elim c.match-equality_of.branch [
      | in-Some+else-is_wide w ↦
          narrow_next c.args.start (map row_there c.args.rows.now) c.args.terms.now c.loop-term.term-index c.term-item.result _ c.loop-term-test.true c.term-item.is c.loop-term.invariant (sought w.in-Some.equality)
          (sym c.equality_of.ensures ∙ ap (option_map sought) w.in-Some.is) (sym (wide_there w.in-Some.equality.place c.args.rows.now) ∙ sym w.is_wide.ensures ∙ w.if-is_wide.false)
      | in_default w ↦
          none_next c.args.start (map row_there c.args.rows.now) c.args.terms.now c.loop-term.term-index c.term-item.result _ c.loop-term-test.true c.term-item.is c.loop-term.invariant
          (sym c.equality_of.ensures ∙ ap (option_map sought) w.in_default.is)
    ]
