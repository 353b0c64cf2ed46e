-- What an answer says of what is read: it is read just where nothing stands against it, else the first that does is told,
-- or want of memory.
use Rattle.std.specs.Prelude.{◌≡◌, List, [], ◌∷◌, Option, Some, None, Result, Ok, Err}
use Rattle.cr_resolve.specs.declared.refusal.Refusal.{Refusal}
use Rattle.cr_resolve.specs.declared.refusal.Refusal.TheVariants.{Memory}
use Rattle.cr_resolve.specs.declared.reading.Made.{Made}
use Rattle.cr_resolve.specs.Reading.{Read, fine}

abbrev pub first : List Refusal → Option Refusal
first [] = None
first (f ∷ fs) = Some f

abbrev pub Refuses : List Refusal → Refusal → Type 0
Refuses bad Memory = Unit {0}
Refuses bad f = first bad ≡ Some f

-- nothing stands against it
abbrev pub Passes : {A : Type 0} → List Refusal → Result A Refusal → Type 0
Passes bad (Ok x) = bad ≡ []
Passes bad (Err f) = Refuses bad f

abbrev pub told : {A : Type 0} → Made A → Read A
told m = record { bad = []; misplaced = m.is_misplaced; made = m.made }

abbrev pub Reads : {A : Type 0} → Read A → Result (Made A) Refusal → Type 0
Reads r (Ok m) = r ≡ told m
Reads r (Err f) = Refuses r.bad f

-- the same of what has no aggregate in it
abbrev pub Finds : {A : Type 0} → Read A → Result A Refusal → Type 0
Finds r (Ok x) = r ≡ fine x
Finds r (Err f) = Refuses r.bad f
