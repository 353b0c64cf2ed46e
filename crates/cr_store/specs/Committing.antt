-- What a commit decides before it writes, and what it leaves.
use Rattle.std.specs.Prelude.{◌≡◌, pos, ◌+ℤ◌, false, List, Option, if◌then◌else◌}
use Rattle.std.specs.List.{AllByRecursion}
use Rattle.sqlite.specs.Effect.{Database}
use Rattle.sqlite_rules.specs.Lists.{Has}
use Rattle.cr_lattice.specs.declared.change.Change.{Change}
use Rattle.cr_lattice.specs.declared.stamped.Stamped.{Stamped}
pub use Rattle.cr_cells.specs.Calls.{StaysWithinLimit, IsNotCommitted as IsUndecided}
pub use Rattle.cr_cells.specs.Commit.{is_none}
use Rattle.cr_cells.specs.Calls.{is_past_limit}
use Rattle.cr_cells.specs.Commit.{is_changed, cells_after, committed}
use Rattle.cr_cells.specs.Holding.{Holding, kept_of}
use Rattle.cr_cells.specs.Marks.{Mark, marks_after}
use Rattle.cr_store.specs.declared.outcome.Decision.{Decision}
use Rattle.cr_store.specs.declared.outcome.Outcome.{Outcome}
use Rattle.cr_store.specs.Ordinals.{IsNamed}
use Rattle.cr_store.specs.Plan.{put_all, without_all}
use Rattle.cr_store.specs.Shows.{Shows}

-- the cells that are left by what is to be written
abbrev pub left_by : Decision → List Stamped → List Stamped
left_by d ss = without_all d.stamp d.plan.gone.items (put_all d.plan.news.items ss)

-- What is to be written leaves the cells of the commit, and the version goes on where a kept change changes.
pub record IsDecided (h : Holding) (more : List Change) (d : Decision) : Type 0 where
  pub changed : d.is_changed ≡ is_changed (kept_of h) more
  pub past : is_past_limit h more ≡ false
  pub version : d.version ≡ (if is_changed (kept_of h) more then h.version +ℤ pos 1 else h.version)
  pub to : (s : Stamped) → Has (left_by d h.cells) s → Has (cells_after h.cells more (h.version +ℤ pos 1)) s
  pub from : (s : Stamped) → Has (cells_after h.cells more (h.version +ℤ pos 1)) s → Has (left_by d h.cells) s
  pub named : AllByRecursion (λ n. IsNamed h.tables n.cell) d.plan.news.items

-- the database shows what is committed
pub record HasCommitted (db : Database) (h : Holding) (more : List Change) (peer : Option Mark) (o : Outcome) : Type 0 where
  pub shows : Shows db (committed h more peer)
  pub version : o.version ≡ (if is_changed (kept_of h) more then h.version +ℤ pos 1 else h.version)
  pub marks : o.marks.items ≡ marks_after h.marks peer
  pub changed : o.is_changed ≡ is_changed (kept_of h) more
  pub past : is_past_limit h more ≡ false
