use Rattle.std.proofs.Common.{◌≡◌, ◌+ℤ◌, pos, ℤ, arith, ap, ◌∙◌, SFits, w64, to_z, of_z, to_z-of_z}
use Rattle.std.proofs.lemmas.Int.{ints}
use Rattle.cr_cells.proofs.cells.restamped.Goals.{in-Some+in_ok-cell-in-Some, in-None+in_ok-change-in-None}
use Rattle.cr_cells.proofs.CommitLemmas.{cell_for, seq_after, restamped_more, restamped_done}
use Rattle.cr_cells.proofs.cells.restamped.Goals as goal

pub loop-change-preserved : goal.loop-change-preserved
loop-change-preserved c =
    let seq : ℤ = to_z w64 c.loop-change.seq-bits in
    let version : ℤ = to_z w64 (of_z w64 c.args.version) in
    let x = c.change-item.result in
    elim c.match-cell_with.branch [
      | in-Some+in_ok-cell-in-Some w ↦ record {
        cells =
            restamped_more version c.args.cells.now seq (to_z w64 c.match-cell_with.seq-bits) c.args.next.now c.loop-change.change-index x c.loop-change.out.items c.push.new.self.items _ c.match-cell_with.cell
            c.loop-change-test.true c.change-item.is
            (w.cell-is ∙ w.in_ok-cell-in-Some.ensures ∙ ap (cell_for version seq x) w.in-Some.ensures)
            (w.seq-is ∙ ap (seq_after seq) w.in-Some.ensures)
            c.in_ok-push.ensures.items c.loop-change.invariant.cells;
        from_0 = omega (arith, ints, w.seq-is, c.loop-change.invariant.from_0);
        past = omega (arith, ints, w.seq-is, c.loop-change.invariant.past);
      }
      | in-None+in_ok-change-in-None w ↦ (
          let next_seq : to_z w64 (of_z w64 (seq +ℤ pos 1)) ≡ seq +ℤ pos 1 = omega (arith, ints, c.loop-change.invariant.past, c.loop-change.invariant.from_0) in
          record {
            cells =
                restamped_more version c.args.cells.now seq (to_z w64 c.match-cell_with.seq-bits) c.args.next.now c.loop-change.change-index x c.loop-change.out.items c.push.new.self.items _ c.match-cell_with.cell
                c.loop-change-test.true c.change-item.is
                (w.cell-is ∙ ap (λ d. record { change = d; version = version; seq = seq }) w.in_ok-change-in-None.ensures ∙ ap (cell_for version seq x) w.in-None.ensures)
                (w.seq-is ∙ next_seq ∙ ap (seq_after seq) w.in-None.ensures)
                c.in_ok-push.ensures.items c.loop-change.invariant.cells;
            from_0 = omega (arith, ints, w.seq-is, next_seq, c.loop-change.invariant.from_0);
            past = omega (arith, ints, w.seq-is, next_seq, c.loop-change.invariant.past);
          })
    ]

pub returns : goal.returns
returns c =
    let fits : SFits w64 c.args.version = c.ranges.version in
    restamped_done c.args.version _ c.args.cells.now _ c.args.next.now c.loop-change.change-index c.loop-change.out.items c.loop-change-test.false (to_z-of_z fits) c.requires.cells_in_order c.requires.next_in_order c.loop-change.invariant.cells
