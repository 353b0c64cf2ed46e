-- What a session makes of a statement that may be carried out. Source: this project's own.
use Rattle.std.specs.Prelude.{◌≡◌, ◌⊎◌, ◌&&◌, ℕ, Bool, true, false, not, cond, List, [], ◌∷◌, unwrap_or, Option, Some, None, is_some, Result, Ok, Err}
use Rattle.cr_value.specs.declared.value.Value.{Value}
use Rattle.cr_lattice.specs.declared.change.Change.{Change}
use Rattle.cr_cells.specs.Calls.{StaysClean, is_past_limit}
use Rattle.cr_cells.specs.Holding.{kept_of}
use Rattle.cr_cells.specs.Commit.{newly_kept}
use Rattle.cr_tree.specs.declared.statement.Statement.{Statement}
use Rattle.cr_tree.specs.declared.statement.Statement.TheVariants as s
use Rattle.cr_questions.specs.Questions.{Answers}
use Rattle.cr_resolve.specs.Known.{Known}
use Rattle.cr_answer.specs.Allowing.{Allows}
use Rattle.cr_term.specs.declared.query.Held.{Held}
use Rattle.cr_term.specs.declared.query.Held.TheVariants as held
use Rattle.cr_term.specs.declared.query.Relation.{Relation}
use Rattle.cr_term.specs.declared.query.Resolved.{Resolved}
use Rattle.cr_term.specs.declared.query.Resolved.TheVariants as r
use Rattle.cr_scalar.specs.Host.{Host as Means}
use Rattle.cr_meaning.specs.View.{Ordered}
use Rattle.cr_meaning.specs.Meaning.{exact, regarded, sized}
use Rattle.cr_query.specs.Query.{Row}
use Rattle.cr_language.specs.Sql.{view}
use Rattle.cr_world.specs.declared.command.Reply.{Reply}
use Rattle.cr_world.specs.declared.command.Reply.TheVariants.{Done}
use Rattle.cr_world.specs.declared.refusal.Refusal.{Refusal}
use Rattle.cr_world.specs.declared.refusal.Refusal.TheVariants as refusal
use Rattle.cr_world.specs.Refusals.{is_want}
use Rattle.cr_world.specs.Causes.{Cause, Free, Tells, IsWant, first_cause, where_true}
use Rattle.cr_world.specs.Resolved.{Resolved as Viewed, Target}
use Rattle.cr_world.specs.Resolved as viewed
use Rattle.cr_world.specs.State.{State, ModuleState, in_transaction, table_of}
use Rattle.cr_world.specs.Takings.{taking}
use Rattle.cr_world.specs.Statement.{Host, ModulesLeave, adding, causes_of, ended, evaluated, is_memory, left_by, reply_to, touches, updates_module}
use Rattle.cr_world.specs.Statement as statement

-- passed where nothing holds; else what holds is told, or there is no memory to tell it
abbrev pub Passes : Cause → Result (Unit {0}) Refusal → Type 0
Passes c (Ok u) = c ≡ Free
Passes c (Err f) = (f ≡ refusal.Memory) ⊎ Tells c f

abbrev pub is_table : Held → Bool
is_table (held.Table at is_replicated) = true
is_table (held.Module at) = false

-- a table that is not replicated
abbrev pub unreplicated : Held → List ℕ → Cause
unreplicated (held.Table at is_replicated) name = where_true (not is_replicated) (refusal.NotYet name)
unreplicated (held.Module at) name = Free

abbrev pub not_replicated : Relation → Cause
not_replicated x = unreplicated x.held x.definition.name

-- ---- transactions

abbrev pub is_commit : Viewed Ordered → Bool
is_commit viewed.Commit = true
is_commit x = false

-- where a refused statement leaves a session: where it stood; but a COMMIT inside a transaction ends it, unless memory is
-- wanting
abbrev pub refused : State → Viewed Ordered → Refusal → State
refused st x f = cond (is_commit x && (in_transaction st && not (is_memory f))) (ended st) st

-- the statement is allowed with so many parameters, or why it isn't
abbrev pub Permits : Known → Answers → Statement → ℕ → Result (Unit {0}) Refusal → Type 0
Permits known answers x count (Ok u) = (y : Resolved) × Allows known answers x count (Ok y)
Permits known answers x count (Err f) = Allows known answers x count (Err f)

-- what an accepted BEGIN, COMMIT or ROLLBACK leaves of a transaction, whatever becomes of the store
abbrev pub left_open : Statement → Option (List Change)
left_open (s.Begin mode) = Some []
left_open x = None

-- ---- what is carried out

-- a statement that neither opens nor ends a transaction
abbrev pub is_performed : Resolved → Bool
is_performed (r.Select q) = true
is_performed (r.MarkReplicated m) = true
is_performed (r.Insert i) = true
is_performed (r.Update u) = true
is_performed (r.Delete d) = true
is_performed (r.Create c) = true
is_performed (r.Alter a) = true
is_performed r.Begin = false
is_performed r.Commit = false
is_performed r.Rollback = false

module _ (means : Means) (params : List Value) (host : Host) (st : State) (x : Viewed Ordered) where
  -- what is evaluated, without a limit on values and with it
  abbrev pub without_limit : Option (List Row)
  without_limit = evaluated (exact means params) st x

  abbrev pub with_limit : Option (List Row)
  with_limit = evaluated (sized means params) st x

  -- the first cause that holds against it
  abbrev pub against : Cause
  against = first_cause (causes_of host st x without_limit with_limit)

  -- the fault of evaluation that is told remains, whatever stands for all others
  abbrev pub IsFound : Refusal → Type 0
  IsFound f = statement.IsFound (λ g. regarded g means params) st x f

  -- it is carried out where nothing holds against it; else the first cause is told, or want
  abbrev pub Says : Result Reply Refusal → State → Type 0
  Says (Ok reply) new = (against ≡ Free) × ((reply ≡ reply_to x (unwrap_or with_limit [])) × (new ≡ left_by st x (unwrap_or with_limit []) []))
  Says (Err f) new = (IsWant f ⊎ Tells against f) × (new ≡ refused st x f)

  -- and a fault of evaluation that is told is one that remains
  abbrev pub Performs : Result Reply Refusal → State → Type 0
  Performs (Ok reply) new = Says (Ok reply) new
  Performs (Err f) new = (IsWant f ⊎ Tells against f) × ((new ≡ refused st x f) × IsFound f)

  -- the same where there are modules: one that takes rows shows what its update says, the others stay
  abbrev pub PerformsWith : Result Reply Refusal → State → Type 0
  PerformsWith (Ok reply) new =
      (against ≡ Free) × ((reply ≡ reply_to x (unwrap_or with_limit [])) × (ModulesLeave (updates_module x) (unwrap_or with_limit []) st.modules new.modules
      × (new ≡ left_by st x (unwrap_or with_limit []) new.modules)))
  PerformsWith (Err f) new = (IsWant f ⊎ Tells against f) × ((new ≡ refused st x f) × (touches st.modules x ≡ false → IsFound f))

-- A statement whose names are resolved, with these parameters. It holds where the store is clean after it, as it is where it was
-- clean before, its device is honest, and there was no want.
pub record Performed {C : Type 0} (means : Means) (params : List Value) (host : Host) (is_honest is_clean : C → Type 0) (stands : C → State) (old : C) (x : Resolved) (result : Result Reply Refusal) (new : C) : Type 0 where
  pub device : StaysClean is_honest is_clean is_want old new result
  pub performs : is_clean new → Performs means params host (stands old) (view x) result (stands new)

pub record PerformedWith {C : Type 0} (means : Means) (params : List Value) (host : Host) (is_honest is_clean : C → Type 0) (stands : C → State) (old : C) (x : Resolved) (result : Result Reply Refusal) (new : C) : Type 0 where
  pub device : StaysClean is_honest is_clean is_want old new result
  pub performs : is_clean new → PerformsWith means params host (stands old) (view x) result (stands new)

-- ---- beside modules

-- the same with these modules
abbrev pub placed : List ModuleState → State → State
placed ms st = record st { modules = ms }

-- where it stands beside these modules
abbrev pub beside : {C : Type 0} → List ModuleState → (C → State) → C → State
beside ms stands c = placed ms (stands c)

-- a table that rows are written to is there
abbrev pub is_held : State → Target → Bool
is_held st (viewed.Table def) = is_some (table_of st def.name)
is_held st viewed.Changes = true
is_held st (viewed.Module name columns) = true

abbrev pub has_target : {E : Type 0} → State → Viewed E → Bool
has_target st (viewed.Insert t w) = is_held st t
has_target st (viewed.Update t w) = is_held st t
has_target st (viewed.Delete t w) = is_held st t
has_target st x = true

-- ---- the changes of a write

-- what holds against changes that are committed: a version past the greatest, then the veto
abbrev pub commit_cause : Host → State → List Change → Cause
commit_cause host st more =
    first_cause (where_true (is_past_limit st.holding more) refusal.VersionLimit ∷ where_true (host.vetoes (newly_kept (kept_of st.holding) more)) refusal.Veto ∷ [])

-- all are committed where nothing holds against them, and an open transaction stays; else the first cause is told, or want, and
-- nothing is changed
abbrev pub AreCommitted : Host → State → List Change → Result Reply Refusal → State → Type 0
AreCommitted host old more (Ok reply) new = (commit_cause host old more ≡ Free) × ((reply ≡ Done) × (new ≡ taking more None old))
AreCommitted host old more (Err f) new = (IsWant f ⊎ Tells (commit_cause host old more) f) × (new ≡ old)

pub record Commits {C : Type 0} (host : Host) (is_honest is_clean : C → Type 0) (stands : C → State) (old : C) (more : List Change) (result : Result Reply Refusal) (new : C) : Type 0 where
  pub device : StaysClean is_honest is_clean is_want old new result
  pub commits : is_clean new → AreCommitted host (stands old) more result (stands new)

-- nothing holds against changes that an open transaction keeps
abbrev pub adding_cause : Host → State → List Change → Cause
adding_cause host st more = cond (in_transaction st) Free (commit_cause host st more)

-- all are committed, or kept with those of the open transaction, where nothing holds against them; else the first cause is
-- told, or want, and nothing is changed
abbrev pub AreAdded : Host → State → List Change → Result Reply Refusal → State → Type 0
AreAdded host old more (Ok reply) new = (adding_cause host old more ≡ Free) × ((reply ≡ Done) × (new ≡ adding more old))
AreAdded host old more (Err f) new = (IsWant f ⊎ Tells (adding_cause host old more) f) × (new ≡ old)

pub record Adds {C : Type 0} (host : Host) (is_honest is_clean : C → Type 0) (stands : C → State) (old : C) (more : List Change) (result : Result Reply Refusal) (new : C) : Type 0 where
  pub device : StaysClean is_honest is_clean is_want old new result
  pub adds : is_clean new → AreAdded host (stands old) more result (stands new)
