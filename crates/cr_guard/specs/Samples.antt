-- An authorizer, a commit hook and a listener that a host may set. Source: this project's own.
use Rattle.std.specs.Prelude.{ℕ, Bool, ◌&&◌, nat_lt, List, length, codes, if◌then◌else◌}
use Rattle.std.specs.Str.{bytes_eq}
use Rattle.cr_lattice.specs.declared.change.Change.{Change}
use Rattle.cr_host.specs.declared.meaning.Action.{Action}
use Rattle.cr_host.specs.declared.meaning.Action.TheVariants.{Read}
use Rattle.cr_host.specs.declared.meaning.Auth.{Auth}
use Rattle.cr_host.specs.declared.meaning.Auth.TheVariants.{Ok, Deny}
use Rattle.cr_guard.specs.declared.event.Event.{Event}
use Rattle.cr_guard.specs.declared.samples.Notes.{Notes}

-- READ of t.name is denied, and nothing else
abbrev pub denies_names : Action → List ℕ → List ℕ → Auth
denies_names Read a b = if bytes_eq a (codes "t") && bytes_eq b (codes "name") then Deny else Ok
denies_names action a b = Ok

abbrev pub refuses_over_two : List Change → Bool
refuses_over_two changes = nat_lt 2 (length changes)

-- what it heard
abbrev pub notes : Notes → List Event
notes n = n.events.items
