-- What a listener has noted after it heard events. Source: this project's own.
use Rattle.std.specs.Prelude.{List, [], ◌∷◌, Option}
use Rattle.std.specs.Option.{option_map}
use Rattle.cr_guard.specs.declared.event.Event.{Event}

-- Where there is a listener, what it has noted once it heard these events at once; of none it isn't told.
abbrev pub noted_with : (List Event → List Event → List Event) → Option (List Event) → List Event → Option (List Event)
noted_with noting noted [] = noted
noted_with noting noted (e ∷ es) = option_map (λ was. noting was (e ∷ es)) noted
