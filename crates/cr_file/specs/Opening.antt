-- What becomes of a file's database as a store. Source: this project's own.
use Rattle.std.specs.Prelude.{◌≡◌, ℕ, List, Option, Some, None}
use Rattle.cr_cells.specs.Calls.{IsRefusal}
use Rattle.cr_cells.specs.Holding.{Holding, empty_holding}
use Rattle.cr_store.specs.Opening.{IsOpenError}
use Rattle.cr_file.specs.declared.FileFault.{FileFault}
use Rattle.cr_file.specs.declared.FileFault.TheVariants.{NoSite, Unopened, Cells}

-- what may be told where a store is to be opened: what opening tells
abbrev pub FailsToOpen : FileFault → Type 0
FailsToOpen NoSite = ⊥
FailsToOpen Unopened = ⊥
FailsToOpen (Cells e) = IsOpenError e

-- what may be told where one is to be made: that there is no site for it, or what making it tells
abbrev pub FailsToMake : Option (List ℕ) → FileFault → Type 0
FailsToMake None e = e ≡ NoSite
FailsToMake (Some site) NoSite = ⊥
FailsToMake (Some site) Unopened = ⊥
FailsToMake (Some site) (Cells e) = IsRefusal e

-- why a file gives no store: there is no site for a new one, it is no database, or what making and opening tell
abbrev pub FailsInFile : Option (List ℕ) → FileFault → Type 0
FailsInFile site NoSite = site ≡ None
FailsInFile site Unopened = Unit {0}
FailsInFile site (Cells e) = IsOpenError e

-- a new store of the site
abbrev pub IsStoreOf : Option (List ℕ) → Holding → Type 0
IsStoreOf None h = ⊥
IsStoreOf (Some site) h = h ≡ empty_holding site
