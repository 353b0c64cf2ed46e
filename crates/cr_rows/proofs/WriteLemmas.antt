-- What a statement that fails in a transaction leaves.
use Rattle.std.proofs.Common.{◌≡◌, ◌⊎◌, inl, inr, ℕ, Bool, true, false, List, Ok, Err, Result, OnErr, IsTrue, refl, subst}
use Rattle.sqlite.specs.Order.{Row}
use Rattle.sqlite.specs.declared.error.Error.{Error}
use Rattle.sqlite.specs.State.{State, IsUnchanged, IsRolledBack, ExecutesInside}

unchanged : (s : State) → IsTrue s.is_open → IsUnchanged s s
unchanged s h = (record { was_open = h; is_open = h; now_is = refl; committed_is = refl; mode = refl }, record { changes = refl; last_rowid = refl }, refl)

failed : (sql : List ℕ) (params : Row) (old new : State) (e : Error) → ExecutesInside 0 sql params old new (Err e) → IsUnchanged old new ⊎ IsRolledBack old new
failed sql params old new e (inl h) = h.1
failed sql params old new e (inr h) = inl h.2

-- inside a transaction it did nothing or the transaction is rolled back, and outside it did nothing
pub fails : {T E : Type 0} (sql : List ℕ) (params : Row) (old new : State) (r : Result T E) (e : Error) → IsTrue new.is_open → (old.in_transaction ≡ false → new ≡ old) → (IsTrue old.in_transaction → ExecutesInside 0 sql params old new (Err e))
    → OnErr r (IsUnchanged old new ⊎ IsRolledBack old new)
fails sql params old new (Ok x) e it ended runs = tt
fails sql params old new (Err x) e it ended runs = by old.in_transaction refl
  where
    by : (b : Bool) → old.in_transaction ≡ b → IsUnchanged old new ⊎ IsRolledBack old new
    by true m = failed sql params old new e (runs m)
    by false m = inl (subst (λ (s : State). IsUnchanged s new) (ended m) (unchanged new it))
