-- What becomes of what is served, and of the guard that it is under, over commands. Source: this project's own.
use Rattle.std.specs.Prelude.{ℕ, Bool, List}
use Rattle.cr_world.specs.declared.command.Command.{Command}
use Rattle.cr_world.specs.declared.command.FleetReply.{FleetReply}
use Rattle.cr_world.specs.Language.{Language}
use Rattle.cr_world.specs.World.{Closures}

-- what is served, and the guard that it is under
abbrev pub Guarded : Type 0 → Type 0 → Type 0
Guarded T G = T × G

-- the same, and what is gathered of SQL
abbrev pub Standing : Type 0 → Type 0 → Type 0
Standing T G = T × G × List ℕ

abbrev pub guarded : {T G : Type 0} → Standing T G → Guarded T G
guarded s = (s.0, s.1)

-- Commands ran with these replies in each language that the host's functions make, since it is open which of these are the
-- names of functions.
abbrev pub RanAs : {S E T G : Type 0} → (Language S E → Closures → Guarded T G → Guarded T G → List Command → List FleetReply → Type 0) → ((List ℕ → Bool) → Type 0) → ((List ℕ → Bool) → Language S E) → Closures
    → Guarded T G → Guarded T G → List Command → List FleetReply → Type 0
RanAs ran are_names language k s0 s1 cs rs = (has : List ℕ → Bool) → are_names has → ran (language has) k s0 s1 cs rs
