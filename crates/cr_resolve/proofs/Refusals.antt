-- What is told first of what stands against something.
use Rattle.std.proofs.Common.{◌≡◌, List, [], ◌∷◌, ◌++◌, Some}
use Rattle.cr_resolve.specs.declared.refusal.Refusal.{Refusal}
use Rattle.cr_resolve.specs.declared.refusal.Refusal.TheVariants.{OutOfProfile, Limit, BadName, NoSuchTable, NoSuchColumn, AmbiguousColumn, NoSuchFunction, WrongArity, NoSuchCollation, Misaggregate, TableExists, Denied, Memory}
use Rattle.cr_resolve.specs.Told.{first, Refuses}

first_ahead : (xs ys : List Refusal) (f : Refusal) → first xs ≡ Some f → first (xs ++ ys) ≡ Some f
first_ahead [] ys f h = absurd (cc)
first_ahead (x ∷ xs) ys f h = h

-- what stands against a part stands against the whole
pub ahead : (xs ys : List Refusal) (f : Refusal) → Refuses xs f → Refuses (xs ++ ys) f
ahead xs ys Memory h = tt
ahead xs ys (OutOfProfile what) h = first_ahead xs ys (OutOfProfile what) h
ahead xs ys (Limit which) h = first_ahead xs ys (Limit which) h
ahead xs ys (BadName name) h = first_ahead xs ys (BadName name) h
ahead xs ys (NoSuchTable name) h = first_ahead xs ys (NoSuchTable name) h
ahead xs ys (NoSuchColumn name) h = first_ahead xs ys (NoSuchColumn name) h
ahead xs ys (AmbiguousColumn name) h = first_ahead xs ys (AmbiguousColumn name) h
ahead xs ys (NoSuchFunction name) h = first_ahead xs ys (NoSuchFunction name) h
ahead xs ys (WrongArity name) h = first_ahead xs ys (WrongArity name) h
ahead xs ys (NoSuchCollation name) h = first_ahead xs ys (NoSuchCollation name) h
ahead xs ys Misaggregate h = first_ahead xs ys Misaggregate h
ahead xs ys (TableExists name) h = first_ahead xs ys (TableExists name) h
ahead xs ys (Denied q) h = first_ahead xs ys (Denied q) h
