-- Takings by a call, and definitions: why they are refused and what they leave. Source: this project's own; a taking is a
-- join of what is kept with what came.
use Rattle.std.specs.Prelude.{ℕ, ℤ, pos, Bool, not, find, map, is_some, List, [], ◌∷◌, ◌++◌, Option, Some, None, if◌then◌else◌}
use Rattle.std.specs.List.{list_any}
use Rattle.std.specs.Option.{option_map}
use Rattle.cr_lattice.specs.declared.change.Change.{Change}
use Rattle.cr_lattice.specs.declared.table.TableDef.{TableDef}
use Rattle.cr_lattice.specs.Check.{same_bytes}
use Rattle.cr_cells.specs.Holding.{Holding, kept_of, changes_of, since}
use Rattle.cr_cells.specs.Tables.{first_fault}
use Rattle.cr_cells.specs.Commit.{committed, newly_kept}
use Rattle.cr_cells.specs.Calls.{is_past_limit}
use Rattle.cr_cells.specs.Marks.{Mark, seen_of}
use Rattle.cr_replica.specs.Definition.{defined}
use Rattle.cr_lattice.specs.Profile.{profile_fault}
use Rattle.cr_world.specs.declared.refusal.Refusal.{Refusal}
use Rattle.cr_world.specs.declared.refusal.Refusal.TheVariants as refusal
use Rattle.cr_world.specs.State.{State, in_transaction, catalog}
use Rattle.cr_world.specs.Resolved as target
use Rattle.cr_world.specs.Language.{definition_in}
use Rattle.cr_world.specs.Refusals.{of_profile}
use Rattle.cr_world.specs.Causes.{Cause, first_cause, of_option, where_true}
use Rattle.cr_world.specs.Statement.{Host, no_default}
use Rattle.cr_world.specs.World.{Member}

-- ---- why

-- what is judged before memory or the store is asked for anything: an open transaction, then one's own site
abbrev pub own_site : State → Option Mark → Option Refusal
own_site st None = None
own_site st (Some m) = if same_bytes m.0 st.holding.site then Some refusal.SameSite else None

abbrev pub at_once : State → Option Mark → Option Refusal
at_once st mark = if in_transaction st then Some refusal.TransactionState else own_site st mark

-- Then what stands against changes that are taken: the first that isn't well formed, the greatest version, the veto.
abbrev pub taking_cause : Host → State → List Change → Cause
taking_cause host st more =
    first_cause (of_option (option_map refusal.BadChange (first_fault st.holding.tables more)) ∷ where_true (is_past_limit st.holding more) refusal.VersionLimit
    ∷ where_true (host.vetoes (newly_kept (kept_of st.holding) more)) refusal.Veto ∷ [])

-- `take`, and with a mark, that is a site with its version, `take_from`
abbrev pub take_cause : Host → State → List Change → Option Mark → Cause
take_cause host st more mark = first_cause (of_option (at_once st mark) ∷ taking_cause host st more ∷ [])

-- ---- what is left

abbrev pub taking : List Change → Option Mark → State → State
taking more mark st = record st { holding = committed st.holding more mark }

-- ---- pulls

-- the peer's changes above a version, by their stamps
abbrev pub changes_above : Holding → ℤ → List Change
changes_above peer version = changes_of (since peer.cells version)

-- a pull keeps no mark, but a peer of the same site is refused
abbrev pub pull_cause : Host → State → Holding → Cause
pull_cause host st peer = take_cause host st (changes_above peer (pos 0)) (Some (peer.site, pos 0))

abbrev pub seen_at : State → Holding → ℤ
seen_at st peer = seen_of st.holding.marks peer.site

abbrev pub pull_since_cause : Host → State → Holding → Cause
pull_since_cause host st peer = take_cause host st (changes_above peer (seen_at st peer)) (Some (peer.site, peer.version))

abbrev pub pulling : Option Member → Member → Member
pulling None m = m
pulling (Some peer) m = record m { state = taking (changes_above peer.state.holding (pos 0)) None m.state; held = m.held ++ peer.held }

-- an incremental pull keeps the peer's version; what is held then is all that the peer held, by the promise of marks
abbrev pub pulling_since : Option Member → Member → Member
pulling_since None m = m
pulling_since (Some peer) m = record m {
  state = taking (changes_above peer.state.holding (seen_at m.state peer.state.holding)) (Some (peer.state.holding.site, peer.state.holding.version)) m.state;
  held = m.held ++ peer.held;
}

abbrev pub taking_row : Option Change → Member → Member
taking_row None m = m
taking_row (Some c) m = record m { state = taking (c ∷ []) None m.state; held = m.held ++ c ∷ [] }

-- ---- definitions by a call

-- the first name that stands before
abbrev pub first_repeat : List (List ℕ) → List (List ℕ) → Option (List ℕ)
first_repeat before [] = None
first_repeat before (n ∷ ns) = if list_any (same_bytes n) before then Some n else first_repeat (n ∷ before) ns

-- `define`: as CREATE TABLE and then the call that makes a table replicated
abbrev pub define_cause : (List ℕ → Bool) → State → TableDef → Cause
define_cause has_collation st def =
    first_cause (of_option (option_map (of_profile def) (profile_fault def)) ∷ where_true (is_some (definition_in (catalog st) def.name)) (refusal.TableExists def.name)
    ∷ of_option (option_map refusal.AmbiguousColumn (first_repeat [] (map (λ c. c.name) def.columns)))
    ∷ of_option (option_map (λ c. refusal.NoSuchCollation c.collation) (find (λ c. not (has_collation c.collation)) def.columns))
    ∷ where_true (in_transaction st) refusal.TransactionState ∷ no_default (target.Table def) ∷ [])

abbrev pub defining : TableDef → Member → Member
defining def m = record m { state = record m.state { holding = defined m.state.holding def } }
