-- A write looks at what is kept of the keys that it touches, and no more. Source: this project's own.
use Rattle.std.specs.Prelude.{◌≡◌, ℕ, Bool, true, false, not, ◌&&◌, ◌||◌, List, ◌++◌, filter}
use Rattle.std.specs.List.{list_any, AllByRecursion}
use Rattle.std.specs.Ordering.{is_eq}
use Rattle.cr_lattice.specs.declared.change.Change.{Change}
use Rattle.cr_lattice.specs.declared.table.TableDef.{TableDef}
use Rattle.cr_lattice.specs.Change.{row_cmp}
use Rattle.cr_lattice.specs.Keep.{keep}
use Rattle.cr_lattice.specs.Rows.{is_alive, row}
use Rattle.cr_cells.specs.Commit.{newly_kept}
use Rattle.cr_delta.specs.Key.{key_of}
use Rattle.cr_delta.specs.Delta.{is_wanted, delta}
use Rattle.cr_query.specs.Query.{Row}
use Rattle.cr_query.specs.Writes.{repeats, has_twice}
use Rattle.cr_touched.specs.Parts.{part, keys_of, is_key_of}

-- ---- the changes of a write

abbrev pub passes : TableDef → (List ℕ → Bool) → Row → Bool
passes def p r = p (key_of def r)

-- under keys that don't pass the wanted rows are those that are shown
pub record IsShownOutside (kept : List Change) (def : TableDef) (wanted : List Row) (p : List ℕ → Bool) : Type 0 where
  pub shown : AllByRecursion (λ r. p (key_of def r) ≡ false → (is_alive kept def.name (key_of def r) ≡ true) × (row kept def (key_of def r) ≡ r)) wanted
  pub all : (pk : List ℕ) → p pk ≡ false → is_alive kept def.name pk ≡ true → is_wanted def wanted pk ≡ true

-- The changes of a write are those of the keys that it touches, from what is kept of those keys.
abbrev pub DeltaOfTouchedKeys : Type 0
DeltaOfTouchedKeys =
    (def : TableDef) (site : List ℕ) (s : List Change) (wanted : List Row) (p : List ℕ → Bool) → IsShownOutside (keep s) def wanted p
    → delta def site (keep s) wanted ≡ delta def site (part def.name p (keep s)) (filter (passes def p) wanted)

-- ---- two rows of one key

-- the row has none of the keys that go
abbrev pub stays : TableDef → List Row → Row → Bool
stays def before r = not (is_key_of (keys_of def before) (key_of def r))

-- two rows that come have one key, or one has a key that is there and does not go
abbrev pub meets_a_key : TableDef → (List ℕ → Bool) → List Row → List Row → Bool
meets_a_key def there before after =
    repeats (keys_of def after) || list_any (λ pk. there pk && not (is_key_of (keys_of def before) pk)) (keys_of def after)

-- Where rows go and others come, whether two have one key is told by looking up the keys of those that come.
abbrev pub KeysByLookUps : Type 0
KeysByLookUps =
    (def : TableDef) (rows before after : List Row) → has_twice def rows ≡ false
    → has_twice def (filter (stays def before) rows ++ after) ≡ meets_a_key def (is_key_of (keys_of def rows)) before after

-- ---- what a commit takes in

-- the change is of a row of which some of these are
abbrev pub is_of_their_rows : List Change → Change → Bool
is_of_their_rows more c = list_any (λ d. is_eq (row_cmp d c)) more

unfoldable pub of_their_rows : List Change → List Change → List Change
of_their_rows more kept = filter (is_of_their_rows more) kept

-- The changes that come in are told from what is kept of their rows.
abbrev pub NewlyKeptOfTheirRows : Type 0
NewlyKeptOfTheirRows = (kept more : List Change) → newly_kept kept more ≡ newly_kept (of_their_rows more kept) more
