-- What is told of a file whose database gives no store.
use Rattle.std.proofs.Common.{◌≡◌, ℕ, Bool, true, false, List, Option, Some, None, Result, Ok, Err, refl, sym, subst}
use Rattle.std.specs.Prelude.{IfErr, MatchResult}
use Rattle.cr_cells.specs.declared.store.CellsError.{CellsError}
use Rattle.cr_cells.specs.declared.store.CellsError.TheVariants as error
use Rattle.cr_cells.specs.declared.store.StoreFault.TheVariants as fault
use Rattle.cr_cells.specs.Calls.{IsRefusal}
use Rattle.cr_store.specs.Opening.{IsOpenError}
use Rattle.cr_file.specs.declared.FileFault.{FileFault}
use Rattle.cr_file.specs.declared.FileFault.TheVariants.{NoSite, Unopened, Cells}
use Rattle.cr_file.specs.Opening.{FailsInFile, FailsToMake, FailsToOpen}

apart : (P : Type 0) → ((P → ⊥) → ⊥) → (P → ⊥) → ⊥
apart P f g = f g

-- A store that can't be made is refused for want of memory or by sqlite, where no table of a store is there: whether a transaction is
-- open, and whether the database has something.
pub refused_by : (e : CellsError) (is_busy : Bool) (HasNothing : Type 0) → (is_busy ≡ true → e ≡ error.Store fault.Refused) → (is_busy ≡ false → (HasNothing → ⊥) → e ≡ error.Store fault.Refused)
    → (is_busy ≡ false → HasNothing → IsRefusal e) → IsRefusal e
refused_by e true P busy foreign why = subst IsRefusal (sym (busy refl)) refl
refused_by error.Memory false P busy foreign why = tt
refused_by (error.Store fault.Refused) false P busy foreign why = refl
refused_by (error.Store fault.Taken) false P busy foreign why =
    absurd (apart P (λ no. (let e = foreign refl no in let z : ⊥ = cc in z)) (λ p. (let f = why refl p in let z : ⊥ = cc in z)))
refused_by (error.Store fault.Damaged) false P busy foreign why =
    absurd (apart P (λ no. (let e = foreign refl no in let z : ⊥ = cc in z)) (λ p. (let f = why refl p in let z : ⊥ = cc in z)))
refused_by error.VersionLimit false P busy foreign why =
    absurd (apart P (λ no. (let e = foreign refl no in let z : ⊥ = cc in z)) (λ p. why refl p))

-- ---- the store of a file

by_opening : (e : CellsError) → IsRefusal e → IsOpenError e
by_opening error.Memory told = tt
by_opening (error.Store fault.Taken) told = (let z : ⊥ = cc in absurd z)
by_opening (error.Store fault.Damaged) told = tt
by_opening (error.Store fault.Refused) told = tt
by_opening error.VersionLimit told = told

opening_fails : (site : Option (List ℕ)) (e : FileFault) → FailsToOpen e → FailsInFile site e
opening_fails site NoSite fails = absurd fails
opening_fails site Unopened fails = absurd fails
opening_fails site (Cells e) fails = fails

making_fails : (site : Option (List ℕ)) (e : FileFault) → FailsToMake site e → FailsInFile site e
making_fails None e same = subst (FailsInFile None) (sym same) refl
making_fails (Some s) NoSite fails = absurd fails
making_fails (Some s) Unopened fails = absurd fails
making_fails (Some s) (Cells e) fails = by_opening e fails

-- what is told of a file is told of the database that it is, whether that has tables of a store or not
pub tells_why : {A : Type 0} (P Q : A → Type 0) (site : Option (List ℕ)) (result : Result A FileFault) (b : Bool) → (b ≡ true → MatchResult result P FailsToOpen) → (b ≡ false → MatchResult result Q (FailsToMake site))
    → IfErr result (FailsInFile site)
tells_why P Q site (Ok m) b opens makes = tt
tells_why P Q site (Err e) true opens makes = opening_fails site e (opens refl)
tells_why P Q site (Err e) false opens makes = making_fails site e (makes refl)
