-- What a session sees of its host's modules. Source: this project's own.
use Rattle.std.specs.Prelude.{◌≡◌, ◌⊎◌, [], ◌∷◌, ◌++◌, Result, Ok, Err, unwrap_or}
use Rattle.std.specs.Option.{option_map}
use Rattle.cr_lattice.specs.declared.table.TableDef.{TableDef}
use Rattle.cr_lattice.specs.Profile.{profile_fault}
use Rattle.cr_replica.specs.declared.snapshot.Snapshot.{Snapshot}
use Rattle.cr_world.specs.declared.refusal.Refusal.{Refusal}
use Rattle.cr_world.specs.declared.refusal.Refusal.TheVariants as refusal
use Rattle.cr_world.specs.Refusals.{of_profile}
use Rattle.cr_world.specs.Causes.{Free, IsWant, Tells}
use Rattle.cr_world.specs.State.{State, ModuleState}
use Rattle.cr_modules.specs.States.{register_cause}
use Rattle.cr_session.specs.Performing.{placed}

-- the snapshot without modules
abbrev pub alone : Snapshot → Snapshot
alone s = record s { modules = [] }

-- a module is registered behind the others, or the first cause that holds is told, or want, and nothing is changed
abbrev pub IsRegistered : State → ModuleState → Result (Unit {0}) Refusal → State → Type 0
IsRegistered old m (Ok u) new = (register_cause old.holding.tables old.modules m.name ≡ Free) × (new ≡ placed (old.modules ++ m ∷ []) old)
IsRegistered old m (Err r) new = (IsWant r ⊎ Tells (register_cause old.holding.tables old.modules m.name) r) × (new ≡ old)

-- what is told of a definition whose name a module has: what it breaks by itself, or else that the name is taken
abbrev pub taken_name : TableDef → Refusal
taken_name def = unwrap_or (option_map (of_profile def) (profile_fault def)) (refusal.TableExists def.name)
