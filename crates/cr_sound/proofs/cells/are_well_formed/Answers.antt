use Rattle.std.proofs.Common.{◌≡◌, ◌∙◌, sym, subst, None}
use Rattle.cr_lattice.specs.declared.stamped.Stamped.{Stamped}
use Rattle.cr_cells.specs.Tables.{fault_in}
use Rattle.cr_sound.proofs.KeptLemmas.{change_at}
use Rattle.cr_sound.proofs.cells.are_well_formed.Goals as goal

pub returns-then-not-branch : goal.returns-then-not-branch
returns-then-not-branch c = (
  (λ e. absurd cc),
  λ all.
      sym c.if-not-branch.true
      ∙ c.in_ok-is_well_formed.ensures.1 (subst (λ (s : Stamped). fault_in c.args.tables.now s.change ≡ None) (sym c.cell-item.is)
      (change_at (λ change. fault_in c.args.tables.now change ≡ None) c.args.cells.now c.loop-cell.cell-index c.cell-item.result all c.loop-cell-test.true)),
)
