-- A table is defined beside a host's modules as without them, unless one has its name.
use Rattle.std.proofs.Common.{◌≡◌, ◌⊎◌, inl, inr, ℕ, Bool, true, false, cond, List, [], ◌∷◌, map, find, Option, Some, None, Result, Ok, Err, refl, sym, ap, subst, ◌∙◌}
use Rattle.std.specs.Prelude.{is_some, not, unwrap_or}
use Rattle.std.specs.Option.{option_map, option_or}
use Rattle.cr_lattice.specs.declared.change.Change.{Change}
use Rattle.cr_lattice.specs.declared.table.TableDef.{TableDef}
use Rattle.cr_lattice.specs.Check.{same_bytes}
use Rattle.cr_lattice.specs.Profile.{profile_fault}
use Rattle.cr_lattice.specs.declared.profile.ProfileFault.{ProfileFault}
use Rattle.cr_cells.specs.Holding.{Holding}
use Rattle.cr_cells.specs.Tables.{is_named}
use Rattle.cr_world.specs.declared.command.Command.TheVariants.{Define}
use Rattle.cr_world.specs.declared.command.Declaration.TheVariants as declared
use Rattle.cr_world.specs.declared.command.FleetReply.{FleetReply}
use Rattle.cr_world.specs.declared.refusal.Refusal.{Refusal}
use Rattle.cr_world.specs.declared.refusal.Refusal.TheVariants as refusal
use Rattle.cr_world.specs.Refusals.{of_profile}
use Rattle.cr_world.specs.Resolved as target
use Rattle.cr_world.specs.Answers.{IsDone}
use Rattle.cr_world.specs.Causes.{Cause, IsWant, Tells, first_cause, of_option, where_true}
use Rattle.cr_world.specs.Language.{Language, definition_in}
use Rattle.cr_world.specs.State.{ModuleState, State, catalog, changes_definition, in_transaction, module_definition}
use Rattle.cr_world.specs.Statement.{Host, no_default}
use Rattle.cr_world.specs.Takings.{define_cause, first_repeat}
use Rattle.cr_world.specs.World.{Member}
use Rattle.cr_modules.specs.States.{module_in}
use Rattle.cr_session.specs.Performing.{placed}
use Rattle.cr_session.specs.Sessions.{own_after, reply_of, state_of}
use Rattle.cr_hosted.specs.Hosted.{taken_name}
use Rattle.cr_hosted.proofs.Naming.{found_of}

-- ---- what has a name

some_behind : {X : Type 0} (o p : Option X) → is_some p ≡ true → is_some (option_or o p) ≡ true
some_behind None p e = e
some_behind (Some x) p e = refl

some_after : {X : Type 0} (b : Bool) (x : X) (o : Option X) → is_some o ≡ true → is_some (cond b (Some x) o) ≡ true
some_after true x o e = refl
some_after false x o e = e

is_some_mapped : {X Y : Type 0} (f : X → Y) (o : Option X) → is_some (option_map f o) ≡ is_some o
is_some_mapped f None = refl
is_some_mapped f (Some x) = refl

none_is : {X : Type 0} (o : Option X) → is_some o ≡ false → o ≡ None
none_is None e = refl
none_is (Some x) e = absurd (let z : ⊥ = cc in z)

-- the name of a module is taken
taken : (st : State) (ms : List ModuleState) (name : List ℕ) → is_some (module_in ms name) ≡ true → is_some (definition_in (catalog (placed ms st)) name) ≡ true
taken st ms name e =
    some_behind (option_map (λ t. t.definition) (find (is_named name) st.holding.tables)) _
    (some_after (same_bytes changes_definition.name name) changes_definition _ (ap is_some (found_of name ms) ∙ is_some_mapped module_definition (module_in ms name) ∙ e))

-- a name that no module has is taken as it is without them
as_alone : (st : State) (ms : List ModuleState) (name : List ℕ) → is_some (module_in ms name) ≡ false → is_some (definition_in (catalog (placed ms st)) name) ≡ is_some (definition_in (catalog (placed [] st)) name)
as_alone st ms name e =
    ap (λ (o : Option TableDef). is_some (option_or (option_map (λ t. t.definition) (find (is_named name) st.holding.tables)) (cond (same_bytes changes_definition.name name) (Some changes_definition) o)))
    (found_of name ms ∙ ap (option_map module_definition) (none_is (module_in ms name) e))

-- ---- what stands against a definition

told_by : (def : TableDef) (fault : Option ProfileFault) (b : Bool) (causes : List Cause) → b ≡ true
    → Tells (first_cause (of_option (option_map (of_profile def) fault) ∷ where_true b (refusal.TableExists def.name) ∷ causes)) (unwrap_or (option_map (of_profile def) fault) (refusal.TableExists def.name))
told_by def (Some f) b causes e = refl
told_by def None true causes e = refl
told_by def None false causes e = absurd (let z : ⊥ = cc in z)

-- that a module has the name
tells_taken : (has_collation : List ℕ → Bool) (h : Holding) (pending : Option (List Change)) (ms : List ModuleState) (def : TableDef) → is_some (module_in ms def.name) ≡ true → Tells (define_cause has_collation (placed ms (state_of h pending)) def) (taken_name def)
tells_taken has_collation h pending ms def e =
    told_by def (profile_fault def) (is_some (definition_in (catalog (placed ms (state_of h pending))) def.name))
    (of_option (option_map refusal.AmbiguousColumn (first_repeat [] (map (λ c. c.name) def.columns)))
    ∷ of_option (option_map (λ c. refusal.NoSuchCollation c.collation) (find (λ c. not (has_collation c.collation)) def.columns))
    ∷ where_true (in_transaction (placed ms (state_of h pending))) refusal.TransactionState ∷ no_default (target.Table def) ∷ [])
    (taken (state_of h pending) ms def.name e)

pub told : (has_collation : List ℕ → Bool) (h : Holding) (pending : Option (List Change)) (ms : List ModuleState) (def : TableDef) (r : Refusal) → is_some (module_in ms def.name) ≡ true
    → (r ≡ refusal.Memory) ⊎ (r ≡ taken_name def) → IsWant r ⊎ Tells (define_cause has_collation (placed ms (state_of h pending)) def) r
told has_collation h pending ms def r e (inl want) = inl (inl want)
told has_collation h pending ms def r e (inr is) = inr (subst (Tells (define_cause has_collation (placed ms (state_of h pending)) def)) (sym is) (tells_taken has_collation h pending ms def e))

-- else the same as without modules
pub done_beside : (has_collation : List ℕ → Bool) (h : Holding) (pending : Option (List Change)) (ms : List ModuleState) (def : TableDef) (reply : FleetReply) → is_some (module_in ms def.name) ≡ false
    → IsDone (define_cause has_collation (state_of h pending) def) reply → IsDone (define_cause has_collation (placed ms (state_of h pending)) def) reply
done_beside has_collation h pending ms def reply e done = rw (as_alone (state_of h pending) ms def.name e) done

-- ---- where a session then stands

pub left_beside : {S E : Type 0} (l : Language S E) (host : Host) (ms : List ModuleState) (old new : State) (def : TableDef) (result : Result (Unit {0}) Refusal)
    → ((m : Member) → m.state ≡ old → (own_after l host (Define (declared.Table def)) (reply_of result) m).state ≡ new)
    → (m : Member) → m.state ≡ placed ms old → (own_after l host (Define (declared.Table def)) (reply_of result) m).state ≡ placed ms new
left_beside l host ms old new def (Ok u) f m e = ap (λ (s : State). (own_after l host (Define (declared.Table def)) (reply_of (Ok u)) (record m { state = s })).state) e ∙ ap (placed ms) (f (record m { state = old }) refl)
left_beside l host ms old new def (Err r) f m e = e ∙ ap (placed ms) (f (record m { state = old }) refl)
