-- What one cell and one kept change add to a write.
use Rattle.std.specs.Prelude.{ℕ, ℤ, pos, ◌+ℤ◌, not, ◌&&◌, ◌||◌, List, [], ◌∷◌, if◌then◌else◌}
use Rattle.std.specs.List.{list_any}
use Rattle.cr_value.specs.declared.value.Value.{Value}
use Rattle.cr_lattice.specs.declared.change.Change.{Change}
use Rattle.cr_lattice.specs.declared.table.ColumnDef.{ColumnDef}
use Rattle.cr_lattice.specs.declared.table.TableDef.{TableDef}
use Rattle.cr_lattice.specs.Check.{same_bytes, is_key_column}
use Rattle.cr_lattice.specs.Rows.{is_present}
use Rattle.cr_delta.specs.Delta.{length_of, version_of, differs, row_change, column_change}

-- a column of a row that comes
abbrev pub new_cell : TableDef → List ℕ → List ℕ → ℤ → ColumnDef × Value → List Change
new_cell def site pk cl cell = if is_key_column cell.0 then [] else column_change def site pk cl cell (pos 1) ∷ []

-- a column of a row that stays
abbrev pub changed_cell : TableDef → List ℕ → List Change → List ℕ → ColumnDef × Value → List Change
changed_cell def site kept pk cell =
    if is_key_column cell.0 || not (differs kept def.name pk cell) then []
    else column_change def site pk (length_of kept def.name pk) cell (version_of kept def.name pk cell.0.name +ℤ pos 1) ∷ []

-- a kept change of a row, of which these are the keys that stay
abbrev pub removal : TableDef → List ℕ → List (List ℕ) → Change → List Change
removal def site keys c =
    if is_present def.name c && not (list_any (λ k. same_bytes k c.pk) keys) then row_change def site c.pk (c.cl +ℤ pos 1) ∷ [] else []
