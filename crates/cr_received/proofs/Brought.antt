-- What an INSERT into the table of changes brings is received.
use Rattle.std.proofs.Common.{◌≡◌, inl, inr, List, Result, Ok, Err, subst}
use Rattle.cr_value.specs.declared.value.Value.{Value}
use Rattle.cr_lattice.specs.declared.change.Change.{Change}
use Rattle.cr_lattice.specs.declared.table.ColumnDef.{ColumnDef}
use Rattle.cr_lattice.specs.declared.table.Table.{Table}
use Rattle.cr_term.specs.declared.query.Insert.{Insert}
use Rattle.cr_scalar.specs.Host.{Host}
use Rattle.cr_query.specs.Query.{Row}
use Rattle.cr_query.specs.Writes.{inserted_rows}
use Rattle.cr_meaning.specs.View as view
use Rattle.cr_exec.specs.Answers.{IsMeant}
use Rattle.cr_world.specs.declared.refusal.Refusal.{Refusal}
use Rattle.cr_world.specs.State.{changes_columns}
use Rattle.cr_received.specs.Received.{TellsChanges, Receives}

module _ (host : Host) (params : List Value) (tables : List Table) (insert : Insert) {X : Type 0} (seen : X → List Change) where
  pub received : (cols : List ColumnDef) (rows : List Row) → cols ≡ changes_columns → IsMeant host params (λ m. inserted_rows m cols (view.insert insert)) rows → (r : Result X Refusal) → TellsChanges seen tables rows r → Receives host params tables insert seen r
  received cols rows are both (Ok x) h = record { rows = rows; brought = subst (λ cs. IsMeant host params (λ m. inserted_rows m cs (view.insert insert)) rows) are both; well_formed = h.0; changes_of_rows = h.1 }
  received cols rows are both (Err r) h =
      elim h [
        | inl memory ↦ inl memory
        | inr told ↦ inr (inr (record { rows = rows; brought = subst (λ cs. IsMeant host params (λ m. inserted_rows m cs (view.insert insert)) rows) are both; first = told }))
      ]
