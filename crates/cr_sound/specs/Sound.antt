-- What is tested of a table, of a cell and of neighbours. Source: this project's own.
use Rattle.std.specs.Prelude.{ℕ, ℤ, pos, int_le, Bool, not, ◌&&◌, ◌||◌, List}
use Rattle.std.specs.Ordering.{int_eq, is_lt}
use Rattle.cr_lattice.specs.declared.change.Change.{Change}
use Rattle.cr_lattice.specs.declared.stamped.Stamped.{Stamped}
use Rattle.cr_lattice.specs.declared.table.Table.{Table}
use Rattle.cr_lattice.specs.Change.{change_cmp, beats}
use Rattle.cr_cells.specs.Tables.{has_defaults}
use Rattle.cr_cells.specs.Marks.{Mark}
use Rattle.cr_cells.specs.Holding.{Holding}

-- what a store of the site holds
abbrev pub holding : List Table → List ℕ → ℤ → List Stamped → List Mark → Holding
holding tables site version cells marks = record { tables = tables; site = site; version = version; cells = cells; marks = marks }

-- a replicated table has its defaults
abbrev pub has_its_defaults : Table → Bool
has_its_defaults t = not t.is_replicated || has_defaults t.definition

-- next is above last, and neither beats the other
unfoldable pub may_follow : Change → Change → Bool
may_follow last next = is_lt (change_cmp last next) && (not (beats last next) && not (beats next last))

-- a version from 1 to this one, and a place from 0 on
abbrev pub is_stamped_to : ℤ → Stamped → Bool
is_stamped_to version s = int_le (pos 1) s.version && (int_le s.version version && int_le (pos 0) s.seq)

-- the version and the place of a cell
abbrev pub stamp_of : Stamped → ℤ × ℤ
stamp_of s = (s.version, s.seq)

abbrev pub is_one_stamp : ℤ × ℤ → ℤ × ℤ → Bool
is_one_stamp a b = int_eq a.0 b.0 && int_eq a.1 b.1
