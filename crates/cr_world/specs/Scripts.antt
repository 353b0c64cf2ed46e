-- Scripts: statement by statement, up to the first that is refused. What was done before it stands. Source: this project's
-- own; SQLite's `sqlite3_exec`.
use Rattle.std.specs.Prelude.{◌≡◌, ◌⊎◌, ℕ, zero, suc, List, [], ◌∷◌, ◌++◌, unwrap_or, Option, Some, None, Result, Ok, Err}
use Rattle.std.specs.Option.{option_map_or}
use Rattle.cr_value.specs.declared.value.Value.{Value}
use Rattle.cr_lattice.specs.declared.change.Change.{Change}
use Rattle.cr_world.specs.declared.refusal.Refusal.{Refusal}
use Rattle.cr_world.specs.declared.refusal.Refusal.TheVariants as refusal
use Rattle.cr_world.specs.declared.command.Reply.{Reply}
use Rattle.cr_world.specs.declared.command.Reply.TheVariants.{Done}
use Rattle.cr_world.specs.Language.{Language, Piece, Statement, Unread}
use Rattle.cr_world.specs.State.{State, ModuleState}
use Rattle.cr_world.specs.Statement.{Host, Answers, stepped, commits, rows_of, allowed_of}

-- a statement of a script as it was come to: where the session stood, all that it had ever held, and what was replied
pub record Moment (S : Type 0) : Type 0 where
  pub state : State
  pub held : List Change
  pub statement : S
  pub reply : Result Reply Refusal

module _ {S E : Type 0} (l : Language S E) (host : Host) where
  -- These statements have these replies, one for each that is accepted, and then this refusal, if one is refused; and then the
  -- session stands there. Want of memory may be the refusal of any, and where all are accepted nothing is refused.
  abbrev pub RunsEach : State → List (Piece S) → List Reply → Option Refusal → State → Type 0
  RunsEach st [] [] None new = new ≡ st
  RunsEach st [] [] (Some r) new = ⊥
  RunsEach st [] (x ∷ xs) f new = ⊥
  RunsEach st (Unread why ∷ ps) [] (Some r) new = ((r ≡ why) ⊎ (r ≡ refusal.Memory)) × (new ≡ st)
  RunsEach st (Unread why ∷ ps) [] None new = ⊥
  RunsEach st (Unread why ∷ ps) (x ∷ xs) f new = ⊥
  RunsEach st (Statement s ∷ ps) [] None new = ⊥
  RunsEach st (Statement s ∷ ps) [] (Some r) new = Answers l host st [] s (Err r) st.modules × (new ≡ stepped l host st [] s (Err r) st.modules)
  RunsEach st (Statement s ∷ ps) (x ∷ xs) f new = (ms : List ModuleState) × (Answers l host st [] s (Ok x) ms × RunsEach (stepped l host st [] s (Ok x) ms) ps xs f new)

  -- The same of a whole script: one that has no statement may be refused for want of memory, too.
  abbrev pub Runs : State → List (Piece S) → List Reply → Option Refusal → State → Type 0
  Runs st ps xs f new = RunsEach st ps xs f new ⊎ ((ps ≡ []) × (xs ≡ []) × (f ≡ Some refusal.Memory) × (new ≡ st))

  -- what a statement adds to all that was ever held: what it commits
  abbrev pub added_by : State → S → List Change
  added_by st s = option_map_or (λ r. unwrap_or (commits st r (rows_of l host st [] r)) []) (allowed_of l host st [] s) []

  -- where a statement that is accepted leaves a session without modules
  abbrev pub accepted : State → S → Reply → State
  accepted st s x = stepped l host st [] s (Ok x) st.modules

  -- where a script of such a session leaves it
  abbrev pub after_script : State → List (Piece S) → List Reply → Option Refusal → State
  after_script st [] xs f = st
  after_script st (Unread why ∷ ps) xs f = st
  after_script st (Statement s ∷ ps) [] None = st
  after_script st (Statement s ∷ ps) [] (Some r) = stepped l host st [] s (Err r) st.modules
  after_script st (Statement s ∷ ps) (x ∷ xs) f = after_script (accepted st s x) ps xs f

  abbrev pub added_by_script : State → List (Piece S) → List Reply → List Change
  added_by_script st [] xs = []
  added_by_script st (Unread why ∷ ps) xs = []
  added_by_script st (Statement s ∷ ps) [] = []
  added_by_script st (Statement s ∷ ps) (x ∷ xs) = added_by st s ++ added_by_script (accepted st s x) ps xs

  -- its statement at a place from 0, if it is come to
  abbrev pub moment : State → List Change → List (Piece S) → List Reply → Option Refusal → ℕ → Option (Moment S)
  moment st held [] xs f i = None
  moment st held (Unread why ∷ ps) xs f i = None
  moment st held (Statement s ∷ ps) [] None i = None
  moment st held (Statement s ∷ ps) [] (Some r) zero = Some (record { state = st; held = held; statement = s; reply = Err r })
  moment st held (Statement s ∷ ps) [] (Some r) (suc i) = None
  moment st held (Statement s ∷ ps) (x ∷ xs) f zero = Some (record { state = st; held = held; statement = s; reply = Ok x })
  moment st held (Statement s ∷ ps) (x ∷ xs) f (suc i) = moment (accepted st s x) (held ++ added_by st s) ps xs f i

-- ---- one statement with parameters

module _ {S E : Type 0} (l : Language S E) (host : Host) where
  -- A text that is to be one statement has this answer, and then the session stands there. An empty one is Done.
  abbrev pub Executes : State → List Value → Option (Piece S) → Result Reply Refusal → State → Type 0
  Executes st params None (Ok reply) new = (reply ≡ Done) × (new ≡ st)
  Executes st params None (Err r) new = (r ≡ refusal.Memory) × (new ≡ st)
  Executes st params (Some (Unread why)) (Ok reply) new = ⊥
  Executes st params (Some (Unread why)) (Err r) new = ((r ≡ why) ⊎ (r ≡ refusal.Memory)) × (new ≡ st)
  Executes st params (Some (Statement s)) (Ok reply) new = (ms : List ModuleState) × (Answers l host st params s (Ok reply) ms × (new ≡ stepped l host st params s (Ok reply) ms))
  Executes st params (Some (Statement s)) (Err r) new = Answers l host st params s (Err r) st.modules × (new ≡ stepped l host st params s (Err r) st.modules)
