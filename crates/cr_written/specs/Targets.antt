-- A column that gets a value, by whether it got one before.
use Rattle.std.specs.Prelude.{ℕ, Bool}
use Rattle.cr_lattice.specs.declared.table.TableDef.{TableDef}
use Rattle.cr_questions.specs.Questions.{Name}
use Rattle.cr_resolve.specs.declared.refusal.Refusal.TheVariants.{AmbiguousColumn}
use Rattle.cr_resolve.specs.Reading.{Read, also, when}
use Rattle.cr_resolve.specs.Writes.{target}

-- `target_after`, of what it takes from the names before
abbrev pub target_once : TableDef → Bool → Name → Read ℕ
target_once def repeated name = also (λ at. when repeated (AmbiguousColumn name)) (target def name)
