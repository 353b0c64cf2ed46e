-- When a store is refused for what the database has. Source: this project's own.
use Rattle.std.specs.Prelude.{◌≡◌, Bool, Result, Ok, Err}
use Rattle.std.specs.List.{list_any}
use Rattle.sqlite.specs.Schema.{Schema}
use Rattle.cr_cells.specs.declared.store.CellsError.{CellsError}
use Rattle.cr_cells.specs.declared.store.CellsError.TheVariants as error
use Rattle.cr_cells.specs.declared.store.StoreFault.{StoreFault}
use Rattle.cr_store.specs.Words.{is_ours}

-- a table of a store is there
abbrev pub has_store : Schema → Bool
has_store s = list_any (λ t. is_ours t.name) s.tables

-- refused for this, and for nothing else, and what was given comes back as it was
abbrev pub IsRefused : {A B : Type 0} → Result A (CellsError × B) → StoreFault → B → Type 0
IsRefused (Ok a) f given = ⊥
IsRefused (Err e) f given = (e.0 ≡ error.Store f) × (e.1 ≡ given)
