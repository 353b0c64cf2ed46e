-- The numbers of what becomes of a row. Source: "Data Change Notification Callbacks" of SQLite's C interface.
use Rattle.std.specs.Prelude.{ℕ}
use Rattle.cr_guard.specs.declared.event.EventKind.{EventKind}
use Rattle.cr_guard.specs.declared.event.EventKind.TheVariants.{Appeared, Gone, Changed}

abbrev pub event_code : EventKind → ℕ
event_code Appeared = 18
event_code Gone = 9
event_code Changed = 23
