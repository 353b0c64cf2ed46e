-- An INSERT looks at what is kept of the keys of its rows, and no more. Source: this project's own.
use Rattle.std.specs.Prelude.{◌≡◌, ℕ, Bool, true, List, ◌++◌, Some, None}
use Rattle.std.specs.List.{AllByRecursion}
use Rattle.cr_lattice.specs.declared.change.Change.{Change}
use Rattle.cr_lattice.specs.declared.table.ColumnDef.{ColumnDef}
use Rattle.cr_lattice.specs.declared.table.TableDef.{TableDef}
use Rattle.cr_lattice.specs.Profile.{has_key}
use Rattle.cr_lattice.specs.Rows.{rows}
use Rattle.cr_cells.specs.Tables.{has_defaults}
use Rattle.cr_delta.specs.Delta.{delta}
use Rattle.cr_query.specs.Queries.{Insert}
use Rattle.cr_query.specs.Query.{Row, Meaning}
use Rattle.cr_query.specs.Writes.{has_twice, has_long_key, lacks_value, by_key, inserted_rows, wanted_by_insert}
use Rattle.cr_touched.specs.Parts.{part, under_keys}
use Rattle.cr_touched.specs.Shown.{AreKeptOf}
use Rattle.cr_touched.specs.Touched.{passes}

-- what is to be said of rows that are wanted: what stands against them, and which changes lead to them from what is kept
pub record Verdict : Type 0 where
  pub long : Bool
  pub lacking : Bool
  pub twice : Bool
  pub changes : List Change

abbrev pub verdict : TableDef → List ℕ → List Change → List Row → Verdict
verdict def site kept wanted = record {
  long = has_long_key def wanted;
  lacking = lacks_value def wanted;
  twice = has_twice def wanted;
  changes = delta def site kept (by_key def wanted);
}

-- the verdict on rows that come to those that are shown
abbrev pub verdict_with : TableDef → List ℕ → List Row → List Change → Verdict
verdict_with def site more kept = verdict def site kept (rows kept def ++ more)

-- An INSERT looks at what is kept of the keys of its rows, and no more; that is kept like the whole.
abbrev pub InsertsLookAtTheirKeys : Type 0
InsertsLookAtTheirKeys =
    (def : TableDef) (site : List ℕ) (kept : List Change) (more : List Row) → has_key def ≡ true → has_defaults def ≡ true → AreKeptOf def kept
    → (verdict_with def site more kept ≡ verdict_with def site more (under_keys def more kept)) × AreKeptOf def (under_keys def more kept)

-- So it is with any keys, among which those of the rows are.
abbrev pub InsertsMayLookFurther : Type 0
InsertsMayLookFurther =
    (def : TableDef) (site : List ℕ) (kept : List Change) (more : List Row) (p : List ℕ → Bool)
    → has_key def ≡ true → has_defaults def ≡ true → AreKeptOf def kept → AllByRecursion (λ r. passes def p r ≡ true) more
    → (verdict_with def site more kept ≡ verdict_with def site more (part def.name p kept)) × AreKeptOf def (part def.name p kept)

-- the INSERT wants the same rows under both meanings of those that are shown, and the verdict on them is v
pub record IsJudged {E : Type 0} (m n : Meaning E) (w : Insert E) (def : TableDef) (site : List ℕ) (kept : List Change) (v : Verdict) : Type 0 where
  pub wanted : List Row
  pub by_one : wanted_by_insert m def.columns w (rows kept def) ≡ Some wanted
  pub by_other : wanted_by_insert n def.columns w (rows kept def) ≡ Some wanted
  pub told : verdict def site kept wanted ≡ v

-- How an INSERT is judged over what is kept of its keys, so it is judged over all.
abbrev pub InsertsAreJudgedAlike : Type 0 → Type 0
InsertsAreJudgedAlike E =
    (m n : Meaning E) (w : Insert E) (def : TableDef) (site : List ℕ) (kept : List Change) (more : List Row) (v : Verdict)
    → has_key def ≡ true → has_defaults def ≡ true → AreKeptOf def kept → inserted_rows m def.columns w ≡ Some more
    → IsJudged m n w def site (under_keys def more kept) v → IsJudged m n w def site kept v

-- Whatever rows are shown, it has a fault or has none.
abbrev pub InsertsFaultAlike : Type 0 → Type 0
InsertsFaultAlike E =
    (m : Meaning E) (cols : List ColumnDef) (w : Insert E) (some all : List Row)
    → wanted_by_insert m cols w some ≡ None → wanted_by_insert m cols w all ≡ None
