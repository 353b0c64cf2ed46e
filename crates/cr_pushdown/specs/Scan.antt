-- A reading of a table, page by page. Source: this project's own.
use Rattle.std.specs.Prelude.{◌≡◌, ℕ, Bool, true, false, not, cond, List, [], Option, None, filter}
use Rattle.std.specs.Option.{ForSome, is_none}
use Rattle.std.specs.List.Sorted.{IsSortedBy}
use Rattle.cr_value.specs.declared.value.Value.{Value}
use Rattle.cr_lattice.specs.declared.change.Change.{Change}
use Rattle.cr_lattice.specs.declared.table.TableDef.{TableDef}
use Rattle.cr_lattice.specs.Check.{same_bytes}
use Rattle.cr_lattice.specs.Keep.{join}
use Rattle.cr_lattice.specs.Rows.{has_lesser_key}
use Rattle.cr_cells.specs.Pages.{above, up_to}
use Rattle.cr_term.specs.declared.expr.Expr.{Expr}
use Rattle.cr_scalar.specs.Host.{Host}
use Rattle.cr_query.specs.Query.{Row}
use Rattle.cr_touched.specs.Parts.{part}
use Rattle.cr_pushdown.specs.declared.scan.Scan.{Scan}
use Rattle.cr_pushdown.specs.Passing.{passing}

abbrev pub is_of : TableDef → Change → Bool
is_of def c = same_bytes c.table def.name

-- the changes under keys above the one key, as all are where none is given
abbrev pub is_left : Option (List ℕ) → Change → Bool
is_left after c = above after c.pk

-- those under keys above the end of a page: none where it has no end
abbrev pub is_behind : Option (List ℕ) → Change → Bool
is_behind bound c = not (up_to bound c.pk)

-- The further changes are of the table, lie behind what was read, and stand by their keys.
pub record Stands (scan : Scan) : Type 0 where
  pub sorted : IsSortedBy has_lesser_key scan.later.now
  pub of : filter (is_of scan.def.now) scan.later.now ≡ scan.later.now
  pub left : filter (is_left scan.after) scan.later.now ≡ scan.later.now

-- it stands before the first page of a table, with these further changes
pub record IsFrom (def : TableDef) (own : List Change) (scan : Scan) : Type 0 where
  pub table : scan.def.now ≡ def
  pub after : scan.after ≡ None
  pub later : scan.later.now ≡ own
  pub left : scan.is_at_end ≡ false

-- it stands at its end where no page is left, else behind where it stood
abbrev pub IsFurther : Scan → Scan → Type 0
IsFurther old new = (new.is_at_end ≡ is_none new.after) × ForSome new.after (λ key. above old.after key ≡ true)

-- the rows that pass and are not read yet
abbrev pub rows_left : Host → List Value → List Expr → List Change → Scan → List Row
rows_left host params terms kept scan =
    cond scan.is_at_end [] (passing host params terms scan.def.now (part scan.def.now.name (above scan.after) (join kept scan.later.now)))
