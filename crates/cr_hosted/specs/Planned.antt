-- What a query sees of its host's modules. Source: this project's own.
use Rattle.std.specs.Prelude.{◌≡◌, ℕ, ◌==◌, Bool, true, find, length, List, Option, None, Some, if◌then◌else◌}
use Rattle.std.specs.List.{list_all}
use Rattle.cr_value.specs.declared.value.Value.{Value}
use Rattle.cr_lattice.specs.declared.table.Table.{Table}
use Rattle.cr_lattice.specs.Check.{same_bytes}
use Rattle.cr_cells.specs.Tables.{is_named}
use Rattle.cr_exec.specs.Equalities.{OrdersBytes}
use Rattle.cr_modules.specs.States.{AreListed, Best, module_in, module_width}
use Rattle.cr_replica.specs.declared.snapshot.Listing.{Listing}
use Rattle.cr_scalar.specs.Host.{Host as Means}
use Rattle.cr_snapshot.specs.Seen.{name_of}
use Rattle.cr_sought.specs.Joins.{width}
use Rattle.cr_term.specs.declared.query.Joined.{Joined}
use Rattle.cr_term.specs.declared.query.Query.{Query}
use Rattle.cr_world.specs.State.{ModuleState, changes_columns, changes_name}

-- how many columns a table has, or what else has the name
abbrev pub width_or : Option Table → ℕ → ℕ
width_or None other = other
width_or (Some t) other = length t.definition.columns

-- how many columns the table of a name has, or the table of changes, or the module of the name
abbrev pub width_seen : List Table → List ModuleState → List ℕ → ℕ
width_seen tables ms name =
    width_or (find (is_named name) tables) (if same_bytes changes_name name then length changes_columns else module_width (module_in ms name))

-- as many as a query takes it to have
abbrev pub is_as_wide : List Table → List ModuleState → Joined → Bool
is_as_wide tables ms j = width_seen tables ms (name_of j) == width j

-- Texts are compared byte by byte, and each table of a query has as many columns as the query takes it to have.
pub record MayOffer (means : Means) (tables : List Table) (ms : List ModuleState) (q : Query) : Type 0 where
  pub bytes : OrdersBytes means
  pub wide : list_all (is_as_wide tables ms) q.joined ≡ true

-- each module that the query names, read by what the query offers it exactly where it may, else all its rows
pub record ShowsModules (means : Means) (params : List Value) (tables : List Table) (bests : List Best) (ms : List ModuleState) (q : Query) (ls : List Listing) : Type 0 where
  pub may_offer : Bool
  pub may : may_offer ≡ true → MayOffer means tables ms q
  pub must : MayOffer means tables ms q → may_offer ≡ true
  pub listed : AreListed may_offer params q bests ms ls
