-- When two cells are of one key, and what becomes of a list of cells.
use Rattle.std.specs.Prelude.{◌≡◌, true, Option, Some, None, codes, ◌||◌, ℕ, Bool, ◌&&◌, List, map, cond}
use Rattle.std.specs.List.{list_any, AllByRecursion}
use Rattle.sqlite_schema.specs.Names.{same_name}
use Rattle.sqlite_rules.specs.Lists.{Has}
use Rattle.cr_lattice.specs.declared.change.Change.{Change}
use Rattle.cr_lattice.specs.declared.stamped.Stamped.{Stamped}
use Rattle.cr_lattice.specs.declared.table.ColumnDef.{ColumnDef}
use Rattle.cr_lattice.specs.declared.table.Table.{Table}
use Rattle.cr_lattice.specs.Check.{same_bytes}
use Rattle.cr_cells.specs.Tables.{is_named, with_column}
use Rattle.cr_layout.specs.Definition.{definition}
use Rattle.cr_cells.specs.Marks.{Mark}

-- two changes are of one cell
abbrev pub same_key : Change → Change → Bool
same_key c d = same_bytes c.table d.table && (same_bytes c.pk d.pk && same_bytes c.cid d.cid)

-- the cells, of which the one of that key is another
abbrev pub replaced : Stamped → List Stamped → List Stamped
replaced n ss = map (λ s. cond (same_key s.change n.change) n s) ss

-- the marks, of which the one of that site is another
abbrev pub set_mark : Mark → List Mark → List Mark
set_mark m marks = map (λ o. cond (same_bytes o.0 m.0) m o) marks

-- the name is that of a table of a store, its letters in either case
abbrev pub is_ours : List ℕ → Bool
is_ours name = same_name name (codes "cr_meta") || (same_name name (codes "cr_schema") || (same_name name (codes "cr_cell") || (same_name name (codes "cr_peer") || same_name name (codes "cr_cell2"))))

-- these are the bytes of the definition of each table of that name with the column
abbrev pub AreWidened : List ℕ → ColumnDef → List ℕ → List Table → Type 0
AreWidened name col bytes ts = AllByRecursion (λ t. is_named name t ≡ true → definition (with_column col t.definition) ≡ bytes) ts

-- the same cells, in any order and any number
pub record SameCells (xs ys : List Stamped) : Type 0 where
  pub to : (s : Stamped) → Has xs s → Has ys s
  pub from : (s : Stamped) → Has ys s → Has xs s

-- a mark of that site is there
abbrev pub has_site : List Mark → List ℕ → Bool
has_site marks site = list_any (λ o. same_bytes o.0 site) marks

-- it is told whether the mark's site has one
abbrev pub IsTold : Option Mark → Bool → List Mark → Type 0
IsTold None told marks = Unit {0}
IsTold (Some m) told marks = told ≡ has_site marks m.0
