-- How a host's modules stand in a session, and what an update or a registration does to them. Source: this project's own.
use Rattle.std.specs.Prelude.{◌≡◌, ◌⊎◌, ◌<◌, ℕ, Bool, true, false, not, ◌&&◌, ◌||◌, find, length, slice_index_or, take, map, cond, List, [], ◌∷◌, ◌++◌, Option, Some, None, is_some, Result, Ok, Err}
use Rattle.std.specs.List.{AllByRecursion, list_all, list_any}
use Rattle.cr_value.specs.declared.value.Value.{Value}
use Rattle.cr_lattice.specs.declared.table.ColumnDef.{ColumnDef}
use Rattle.cr_lattice.specs.declared.table.Table.{Table}
use Rattle.cr_lattice.specs.Check.{same_bytes}
use Rattle.cr_lattice.specs.Profile.{is_reserved}
use Rattle.cr_cells.specs.Tables.{is_named}
use Rattle.cr_module.specs.Lawful.{AreWide}
use Rattle.cr_module.specs.Lawful as lawful
use Rattle.cr_module.specs.declared.module.UpdateError.{UpdateError}
use Rattle.cr_module.specs.declared.plan.Choice.{Choice}
use Rattle.cr_module.specs.declared.plan.Constraint.{Constraint}
use Rattle.cr_module.specs.declared.plan.Order.{Order}
use Rattle.cr_plan.specs.declared.offer.Offer.{Offer}
use Rattle.cr_plan.specs.Offers.{IsReadBy}
use Rattle.cr_plan.specs.Orders.{orders_for}
use Rattle.cr_plan.specs.Told.{offers_to}
use Rattle.cr_module.specs.declared.module.UpdateError.TheVariants as update
use Rattle.cr_query.specs.Query.{Row}
use Rattle.cr_replica.specs.declared.snapshot.Listing.{Listing}
use Rattle.cr_snapshot.specs.Seen.{name_of}
use Rattle.cr_term.specs.declared.query.Query.{Query}
use Rattle.cr_world.specs.declared.refusal.Refusal.{Refusal}
use Rattle.cr_world.specs.declared.refusal.Refusal.TheVariants as refusal
use Rattle.cr_world.specs.declared.refusal.EvalFault.TheVariants as eval
use Rattle.cr_world.specs.Causes.{Cause, Free, Tells, or_else, where_true}
use Rattle.cr_world.specs.State.{ModuleState, is_module, module_definition}
use Rattle.cr_world.specs.Statement.{ModulesLeave}

-- ---- one module

-- why the module of a name takes no rows
abbrev pub of_update : List ℕ → UpdateError → Refusal
of_update name update.ReadOnly = refusal.ReadOnly name
of_update name (update.Host text) = refusal.Eval (eval.Host text)
of_update name update.Memory = refusal.Memory

abbrev pub told_as : List ℕ → Result (List Row) UpdateError → Result (List Row) Refusal
told_as name (Ok rows) = Ok rows
told_as name (Err e) = Err (of_update name e)

-- a host's module of these columns and rows under a name
abbrev pub made : List ℕ → List ColumnDef → List Row → lawful.Updates → ModuleState
made name columns rows updated = record { name = name; columns = columns; rows = rows; updated = λ lists. told_as name (updated lists) }

abbrev pub definition_listed : ModuleState → Listing
definition_listed m = record { definition = module_definition m; rows = [] }

-- it takes the rows, or memory ran out or it doesn't take them, and stands as it was
abbrev pub UpdatesTo : ModuleState → List Row → Result (Unit {0}) Refusal → ModuleState → Type 0
UpdatesTo old rows (Ok u) new = (new.name ≡ old.name) × (new.columns ≡ old.columns) × (old.updated (rows ∷ []) ≡ Ok new.rows) × (new.updated ≡ (λ more. old.updated (rows ∷ more)))
UpdatesTo old rows (Err r) new = ((r ≡ refusal.Memory) ⊎ (old.updated (rows ∷ []) ≡ Err r)) × (new ≡ old)

-- ---- modules of a session

-- no name stands twice
abbrev pub are_distinct : List (List ℕ) → Bool
are_distinct [] = true
are_distinct (n ∷ ns) = list_all (λ o. not (same_bytes o n)) ns && are_distinct ns

abbrev pub HasNone : {X : Type 0} → (X → Bool) → List X → Type 0
HasNone p xs = AllByRecursion (λ x. p x ≡ false) xs

-- the place of the first that passes a test
abbrev pub IsPlace : {X : Type 0} → (X → Bool) → List X → Option ℕ → Type 0
IsPlace {X} p xs None = HasNone p xs
IsPlace {X} p xs (Some i) = (i < length xs) × ((x : X) → p (slice_index_or xs i x) ≡ true) × HasNone p (take i xs)

abbrev pub module_in : List ModuleState → List ℕ → Option ModuleState
module_in ms name = find (is_module name) ms

abbrev pub module_width : Option ModuleState → ℕ
module_width None = 0
module_width (Some m) = length m.columns

-- what a module chooses where constraints and an order are offered
abbrev pub Best : Type 0
Best = List Constraint → List Order → Choice

-- the module of a name doesn't take the rows, and says so
abbrev pub IsRefusedBy : Option ModuleState → List Row → Refusal → Type 0
IsRefusedBy None rows r = ⊥
IsRefusedBy (Some m) rows r = m.updated (rows ∷ []) ≡ Err r

-- the module of a name takes rows, if there is one, or all stand as they were
abbrev pub Updates : List ℕ → List Row → List ModuleState → Result (Unit {0}) Refusal → List ModuleState → Type 0
Updates name rows old (Ok u) new = ModulesLeave (Some name) rows old new
Updates name rows old (Err r) new = ((r ≡ refusal.Memory) ⊎ IsRefusedBy (module_in old name) rows r) × (new ≡ old)

-- ---- what a query sees

-- a query has the name among those of its tables
abbrev pub is_among : List (List ℕ) → List ℕ → Bool
is_among names n = list_any (same_bytes n) names

-- what a query offers to the table of a name, if it may
abbrev pub offered : Bool → List Value → Query → List ℕ → List Offer
offered may_offer params q name = cond may_offer (offers_to params q name) []

-- What a module is called and its columns; and, if it was read, what it gave of its rows where these constraints and this order
-- were offered, each with a value for each column, as all its rows have; if it was not, no rows.
pub record IsListed (is_read : Bool) (best : Best) (offers : List Offer) (orders : List Order) (m : ModuleState) (l : Listing) : Type 0 where
  pub definition : l.definition ≡ module_definition m
  pub given : is_read ≡ true → IsReadBy best m.rows offers orders l.rows
  pub wide : is_read ≡ true → AreWide m.columns l.rows
  pub all_wide : is_read ≡ true → AreWide m.columns m.rows
  pub unread : is_read ≡ false → l.rows ≡ []

-- each module, read by what the query offers it if the query has its name
abbrev pub AreListed : Bool → List Value → Query → List Best → List ModuleState → List Listing → Type 0
AreListed may_offer params q [] [] [] = Unit {0}
AreListed may_offer params q (c ∷ cs) (m ∷ ms) (l ∷ ls) =
    IsListed (is_among (map name_of q.joined) m.name) c (offered may_offer params q m.name) (orders_for q) m l
    × AreListed may_offer params q cs ms ls
AreListed may_offer params q [] [] (l ∷ ls) = ⊥
AreListed may_offer params q [] (m ∷ ms) ls = ⊥
AreListed may_offer params q (c ∷ cs) [] ls = ⊥
AreListed may_offer params q (c ∷ cs) (m ∷ ms) [] = ⊥

-- ---- registrations

abbrev pub is_taken : List Table → List ModuleState → List ℕ → Bool
is_taken ts ms name = is_some (find (is_named name) ts) || is_some (module_in ms name)

-- a name that may not be, then one that a table or a module has
abbrev pub register_cause : List Table → List ModuleState → List ℕ → Cause
register_cause ts ms name = or_else (where_true (is_reserved name) (refusal.BadName name)) (where_true (is_taken ts ms name) (refusal.TableExists name))

-- the module stands behind the others, or the first cause that holds is told, or want of memory, and all stand as they were
abbrev pub Registers : List Table → List ModuleState → ModuleState → Result (Unit {0}) Refusal → List ModuleState → Type 0
Registers ts old m (Ok u) new = (register_cause ts old m.name ≡ Free) × (new ≡ old ++ m ∷ [])
Registers ts old m (Err r) new = ((r ≡ refusal.Memory) ⊎ Tells (register_cause ts old m.name) r) × (new ≡ old)
