-- Damage for one cause that has another.
use Rattle.std.proofs.Common.{Result, Ok, Err, MatchResult}
use Rattle.cr_cells.specs.declared.store.CellsError.{CellsError}
use Rattle.cr_cells.specs.declared.store.CellsError.TheVariants as error
use Rattle.cr_store.specs.Opening.{IsDamage}

pub damage_then : {P Q : Type 0} (e : CellsError) → (P → Q) → IsDamage P e → IsDamage Q e
damage_then error.Memory f h = tt
damage_then (error.Store x) f h = (h.0, f h.1)
damage_then error.VersionLimit f h = absurd h

pub read_then : {T : Type 0} (r : Result T CellsError) (P P' : T → Type 0) (Q Q' : Type 0) → ((x : T) → P x → P' x) → (Q → Q') → MatchResult r P (IsDamage Q) → MatchResult r P' (IsDamage Q')
read_then (Ok x) P P' Q Q' f g h = f x h
read_then (Err e) P P' Q Q' f g h = damage_then e g h
