-- Which row is told as bad.
use Rattle.std.proofs.Common.{◌≡◌, List, [], ◌∷◌, Option, Some, None, refl}
use Rattle.cr_lattice.specs.declared.change.Change.{Change}
use Rattle.cr_cells.specs.Tables.{earlier}
use Rattle.cr_query.specs.Query.{Row}
use Rattle.cr_world.specs.State.{State}
use Rattle.cr_world.specs.Statement.{change_of_row, first_bad}
use Rattle.cr_world.specs.Statement as session
use Rattle.cr_received.specs.Received.{fault_of_change, first_bad_in}

same_fault : (st : State) (o : Option Change) → session.fault_of_change st o ≡ fault_of_change st.holding.tables o
same_fault st None = refl
same_fault st (Some c) = refl

pub told_by_tables : (st : State) (rows : List Row) → first_bad st rows ≡ first_bad_in st.holding.tables rows
told_by_tables st [] = refl
told_by_tables st (row ∷ rows) = λ i. earlier (same_fault st (change_of_row row) i) (told_by_tables st rows i)
