-- What is opened again holds what it held.
use Rattle.std.proofs.Common.{Result, Ok, Err, IfOk, IfErr, MatchResult, refl}
use Rattle.sqlite.specs.Effect.{Database}
use Rattle.cr_cells.specs.declared.store.CellsError.{CellsError}
use Rattle.cr_cells.specs.declared.store.CellsError.TheVariants as error
use Rattle.cr_cells.specs.declared.store.StoreFault.TheVariants as fault
use Rattle.cr_cells.specs.Calls.{IsRefusal}
use Rattle.cr_cells.specs.Holding.{Holding}
use Rattle.cr_store.specs.Opening.{IsReadable, IsHeld, FailsToOpen}

pub ok_part : {B E : Type 0} (r : Result B E) (P : B → Type 0) (Q : E → Type 0) → MatchResult r P Q → IfOk r P
ok_part (Ok b) P Q h = h
ok_part (Err e) P Q h = tt

pub err_part : {B E : Type 0} (r : Result B E) (P : B → Type 0) (Q : E → Type 0) → MatchResult r P Q → IfErr r Q
err_part (Ok b) P Q h = tt
err_part (Err e) P Q h = h

pub both_ok : {B E : Type 0} (r : Result B E) (P Q : B → Type 0) → IfOk r P → IfOk r Q → IfOk r (λ b. P b × Q b)
both_ok (Ok b) P Q p q = (p, q)
both_ok (Err e) P Q p q = tt

pub both_err : {B E : Type 0} (r : Result B E) (P Q : E → Type 0) → IfErr r P → IfErr r Q → IfErr r (λ e. P e × Q e)
both_err (Ok b) P Q p q = tt
both_err (Err e) P Q p q = (p, q)

pub err_then : {B E : Type 0} (r : Result B E) (P Q : E → Type 0) → ((e : E) → P e → Q e) → IfErr r P → IfErr r Q
err_then (Ok b) P Q f h = tt
err_then (Err e) P Q f h = f e h

-- what holds something readable is not damaged
pub refusal_only : (db : Database) (h : Holding) → IsHeld db h → IsReadable h → (e : CellsError) → FailsToOpen db e → IsRefusal e
refusal_only db h held can error.Memory fails = tt
refusal_only db h held can (error.Store fault.Taken) fails = absurd fails
refusal_only db h held can (error.Store fault.Damaged) fails = absurd (fails h can held)
refusal_only db h held can (error.Store fault.Refused) fails = refl
refusal_only db h held can error.VersionLimit fails = absurd fails
