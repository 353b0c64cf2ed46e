-- What a query that is asked between transactions leaves, whatever it answers.
use Rattle.std.proofs.Common.{◌≡◌, inl, inr, ℕ, List, Ok, Err, Some, None, Option, Result, IfOk, IfErr, IsTrue, Vec, Global, sym, subst, ◌∙◌}
use Rattle.sqlite.specs.Order.{Row}
use Rattle.sqlite.specs.declared.error.Error.{Error}
use Rattle.sqlite_resolve.specs.declared.compiled.Compiled.{Compiled}
use Rattle.sqlite_schema.specs.declared.command.Returning.{Returning}
use Rattle.sqlite.specs.Clock.{timed}
use Rattle.sqlite.specs.Listing.{understood}
use Rattle.sqlite.specs.State.{State, Fails, ShowsRows, FailsToQuery, IsNotRun, FailsToShow, Shown, IsUnchanged}
use Rattle.sqlite.proofs.Callers.{IsPlain}

-- a query that shows rows changes nothing
pub shown_same : (sql : List ℕ) (params : Row) (old new : State) (rows : List Row) → IsPlain (understood old.now.schema sql) → Shown sql params old new rows → IsUnchanged old new
unfolding Shown
shown_same sql params old new rows plain h = let bare = subst IsPlain h.1.is plain in (rw bare.0 at h.2).3

record AsksOnly (old new : State) : Type 0 where
  pub was_open : IsTrue new.is_open → IsTrue old.is_open
  pub same : old.now ≡ old.committed → IsTrue new.is_open → new.now ≡ old.now

unchanged_asks : (old new : State) → IsUnchanged old new → AsksOnly old new
unchanged_asks old new h = record { was_open = λ it. h.0.was_open; same = λ settled it. h.0.now_is }

failed_asks : (old new : State) (e : Error) → Fails old new ⊥ e → AsksOnly old new
failed_asks old new e h = let back = h.3 in record { was_open = λ it. back.was_open it; same = λ settled it. (back.undone it).0 ∙ sym settled }

asks_only : (sql : List ℕ) (params : Row) (old new : State) (r : Result (Vec Row Global) Error) → IsPlain (understood old.now.schema sql) → IfOk r (λ rows. Shown sql params old new rows.items)
    → IfErr r (FailsToQuery sql params old new) → AsksOnly old new
unfolding FailsToQuery IsNotRun
asks_only sql params old new (Ok rows) plain ok err = unchanged_asks old new (shown_same sql params old new rows.items plain ok)
asks_only sql params old new (Err e) plain ok (inl (inl h)) = unchanged_asks old new h.1
asks_only sql params old new (Err e) plain ok (inl (inr h)) = failed_asks old new e h
asks_only sql params old new (Err e) plain ok (inr h) =
    let bare = subst IsPlain h.1.is plain in
    let failed : FailsToShow old new sql h.0 (timed params h.0.formats h.1.now) e None = subst (FailsToShow old new sql h.0 (timed params h.0.formats h.1.now) e) bare.0 h.2 in
    unchanged_asks old new failed.3

pub asks_same : (sql : List ℕ) (params : Row) (old new : State) (r : Result (Vec Row Global) Error) → IsPlain (understood old.now.schema sql) → IfOk r (λ rows. Shown sql params old new rows.items)
    → IfErr r (FailsToQuery sql params old new) → old.now ≡ old.committed → IsTrue new.is_open → new.now ≡ old.now
asks_same sql params old new r plain ok err = (asks_only sql params old new r plain ok err).same

shown_open : (old new : State) (sql : List ℕ) (c : Compiled) (params : Row) (rows : List Row) (o : Option Returning) → ShowsRows old new sql c params rows o → IsTrue old.is_open
shown_open old new sql c params rows None h = h.3.0.was_open
shown_open old new sql c params rows (Some what) h = h.1.shown.was_open

-- and was asked of an open connection
pub shown_was_open : (sql : List ℕ) (params : Row) (old new : State) (rows : List Row) → Shown sql params old new rows → IsTrue old.is_open
unfolding Shown
shown_was_open sql params old new rows h = shown_open old new sql h.0 _ rows h.0.returning h.2

failed_open : (old new : State) (sql : List ℕ) (c : Compiled) (params : Row) (e : Error) (o : Option Returning) → IsTrue new.is_open → FailsToShow old new sql c params e o → IsTrue old.is_open
failed_open old new sql c params e None it h = h.3.0.was_open
failed_open old new sql c params e (Some what) it (inl h) = h.1.0.was_open
failed_open old new sql c params e (Some what) it (inr h) = h.3.was_open it

-- only a connection that was open is open after a query
pub open_before : (sql : List ℕ) (params : Row) (old new : State) (r : Result (Vec Row Global) Error) → IfOk r (λ rows. Shown sql params old new rows.items)
    → IfErr r (FailsToQuery sql params old new) → IsTrue new.is_open → IsTrue old.is_open
unfolding Shown FailsToQuery IsNotRun
open_before sql params old new (Ok rows) ok err it = shown_open old new sql ok.0 _ rows.items ok.0.returning ok.2
open_before sql params old new (Err e) ok (inl (inl h)) it = h.1.0.was_open
open_before sql params old new (Err e) ok (inl (inr h)) it = h.3.was_open it
open_before sql params old new (Err e) ok (inr h) it = failed_open old new sql h.0 _ e h.0.returning it h.2
