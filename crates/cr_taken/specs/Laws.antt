-- What holds of the rows that local writes want, and of their changes. Source: this project's own.
use Rattle.std.specs.Prelude.{◌≡◌, ℕ, ◌≤◌, List, Some, None}
use Rattle.cr_value.specs.declared.value.Value.{Value}
use Rattle.cr_value.specs.Packing.{size_limit}
use Rattle.cr_lattice.specs.declared.change.Change.{Change}
use Rattle.cr_lattice.specs.declared.table.ColumnDef.{ColumnDef}
use Rattle.cr_lattice.specs.declared.table.Table.{Table}
use Rattle.cr_lattice.specs.declared.table.TableDef.{TableDef}
use Rattle.cr_value.specs.Size.{value_len}
use Rattle.cr_lattice.specs.Keep.{join}
use Rattle.cr_lattice.specs.Rows.{rows}
use Rattle.cr_cells.specs.Holding.{Holding, IsSound, kept_of}
use Rattle.cr_cells.specs.Tables.{AreWellFormed, first_fault}
use Rattle.cr_delta.specs.Delta.{delta}
use Rattle.cr_scalar.specs.Host.{Host}
use Rattle.cr_query.specs.Query.{Row, Meaning, Refines}
use Rattle.cr_query.specs.Queries.{Insert, Update, Delete}
use Rattle.cr_query.specs.Writes.{inserted_rows, wanted_by_insert, wanted_by_update, wanted_by_delete}
use Rattle.cr_query.proofs.Refining.{Gains}
use Rattle.cr_meaning.specs.View.{Ordered}
use Rattle.cr_meaning.specs.Meaning.{sized}
use Rattle.cr_wanted.specs.Judged.{AreTaken}
use Rattle.cr_taken.specs.Taken.{AreFitting, AreHeld, Replicates, AreKept, Have64Bits, Inserts64Bits, Updates64Bits}

-- ---- what is kept

abbrev pub SoundStoresKeep : Type 0
SoundStoresKeep = (h : Holding) → IsSound h → AreKept h.tables (kept_of h)

abbrev pub TransactionsKeep : Type 0
TransactionsKeep = (tables : List Table) (kept more : List Change)
    → AreKept tables kept → AreWellFormed tables more → AreKept tables (join kept more)

-- ---- changes

abbrev pub StoresTake : Type 0
StoresTake = (h : Holding) (def : TableDef) (wanted taken : List Row)
    → IsSound h → Replicates h.tables def → AreHeld def wanted → AreTaken def wanted taken
    → first_fault h.tables (delta def h.site (kept_of h) taken) ≡ None

abbrev pub ChangesAreTaken : Type 0
ChangesAreTaken = (tables : List Table) (kept : List Change) (site : List ℕ) (def : TableDef) (wanted taken : List Row)
    → AreKept tables kept → Replicates tables def → AreHeld def wanted → AreTaken def wanted taken
    → first_fault tables (delta def site kept taken) ≡ None

-- ---- rows that fit

abbrev pub ShownRowsFit : Type 0
ShownRowsFit = (tables : List Table) (kept : List Change) (def : TableDef)
    → AreKept tables kept → Replicates tables def → AreFitting def (rows kept def)

abbrev pub InsertsFit : Type 0 → Type 0
InsertsFit E = (tables : List Table) (kept : List Change) (def : TableDef) (m : Meaning E) (w : Insert E) (out : List Row)
    → AreKept tables kept → Replicates tables def
    → wanted_by_insert m def.columns w (rows kept def) ≡ Some out → AreFitting def out

abbrev pub UpdatesFit : Type 0 → Type 0
UpdatesFit E = (tables : List Table) (kept : List Change) (def : TableDef) (m : Meaning E) (w : Update E) (out : List Row)
    → AreKept tables kept → Replicates tables def
    → wanted_by_update m def.columns w (rows kept def) ≡ Some out → AreFitting def out

abbrev pub DeletesFit : Type 0 → Type 0
DeletesFit E = (tables : List Table) (kept : List Change) (def : TableDef) (m : Meaning E) (w : Delete E) (out : List Row)
    → AreKept tables kept → Replicates tables def
    → wanted_by_delete m w (rows kept def) ≡ Some out → AreFitting def out

-- ---- rows that are held

abbrev pub SizedIsSmall : Type 0
SizedIsSmall = (host : Host) (params : List Value) (e : Ordered) (row : Row) (v : Value)
    → (sized host params).value e row ≡ Some v → value_len v ≤ size_limit

abbrev pub ShownRowsAreHeld : Type 0
ShownRowsAreHeld = (tables : List Table) (kept : List Change) (def : TableDef)
    → AreKept tables kept → Replicates tables def → Have64Bits kept → AreHeld def (rows kept def)

abbrev pub InsertsAreHeld : Type 0
InsertsAreHeld = (tables : List Table) (kept : List Change) (def : TableDef) (host : Host) (params : List Value) (w : Insert Ordered) (out : List Row)
    → AreKept tables kept → Replicates tables def → Have64Bits kept → Inserts64Bits (sized host params) w
    → wanted_by_insert (sized host params) def.columns w (rows kept def) ≡ Some out → AreHeld def out

abbrev pub UpdatesAreHeld : Type 0
UpdatesAreHeld = (tables : List Table) (kept : List Change) (def : TableDef) (host : Host) (params : List Value) (w : Update Ordered) (out : List Row)
    → AreKept tables kept → Replicates tables def → Have64Bits kept → Updates64Bits (sized host params) w (rows kept def)
    → wanted_by_update (sized host params) def.columns w (rows kept def) ≡ Some out → AreHeld def out

abbrev pub DeletesAreHeld : Type 0
DeletesAreHeld = (tables : List Table) (kept : List Change) (def : TableDef) (host : Host) (params : List Value) (w : Delete Ordered) (out : List Row)
    → AreKept tables kept → Replicates tables def → Have64Bits kept
    → wanted_by_delete (sized host params) w (rows kept def) ≡ Some out → AreHeld def out

-- ---- two meanings

abbrev pub RowsRefine : Type 0 → Type 0
RowsRefine E = (m n : Meaning E) → Refines m n → (cols : List ColumnDef) (w : Insert E) → Gains (inserted_rows m cols w) (inserted_rows n cols w)

abbrev pub InsertsRefine : Type 0 → Type 0
InsertsRefine E = (m n : Meaning E) → Refines m n → (cols : List ColumnDef) (w : Insert E) (shown : List Row)
    → Gains (wanted_by_insert m cols w shown) (wanted_by_insert n cols w shown)

abbrev pub UpdatesRefine : Type 0 → Type 0
UpdatesRefine E = (m n : Meaning E) → Refines m n → (cols : List ColumnDef) (w : Update E) (shown : List Row)
    → Gains (wanted_by_update m cols w shown) (wanted_by_update n cols w shown)

abbrev pub DeletesRefine : Type 0 → Type 0
DeletesRefine E = (m n : Meaning E) → Refines m n → (w : Delete E) (shown : List Row)
    → Gains (wanted_by_delete m w shown) (wanted_by_delete n w shown)
