-- What a host's listener hears of statements. Source: "Data Change Notification Callbacks" of SQLite's C interface tells of the
-- rows that a statement changes as it changes them; that all are told at once, before they are kept, is this project's own.
use Rattle.std.specs.Prelude.{◌≡◌, ◌⊎◌, ℕ, Bool, true, false, List, [], ◌∷◌, Option, Some, None, Result, Ok, Err, if◌then◌else◌}
use Rattle.cr_guard.specs.declared.event.Event.{Event}
use Rattle.cr_tree.specs.declared.statement.Statement.{Statement}
use Rattle.cr_tree.specs.declared.statement.Statement.TheVariants as s
use Rattle.cr_statement.specs.Sql.{Refusal as Unread}
use Rattle.cr_world.specs.declared.command.Reply.{Reply}
use Rattle.cr_world.specs.declared.refusal.Refusal.{Refusal}
use Rattle.cr_world.specs.Causes.{IsWant}
use Rattle.cr_world.specs.Language.{Language, Piece}
use Rattle.cr_world.specs.Language as language
use Rattle.cr_world.specs.State.{ModuleState, State, heard_between}
use Rattle.cr_world.specs.Statement.{Answers, Host, stepped}

-- a statement that opens or ends a transaction
abbrev pub is_transaction : Statement → Bool
is_transaction (s.Select q) = false
is_transaction (s.Insert i) = false
is_transaction (s.Update u) = false
is_transaction (s.Delete d) = false
is_transaction (s.Create c) = false
is_transaction (s.Alter a) = false
is_transaction (s.Begin mode) = true
is_transaction s.Commit = true
is_transaction s.Rollback = true

-- it keeps what the open transaction did
abbrev pub asks_commit : Statement → Bool
asks_commit s.Commit = true
asks_commit x = false

-- What there is to hear of an accepted statement: what became of the rows of replicated tables. What a COMMIT keeps was told of
-- before, and what a ROLLBACK undoes isn't told.
abbrev pub heard_of_statement : Statement → State → State → List Event
heard_of_statement x old new = if is_transaction x then [] else heard_between old new

-- the same of a text that is to be one statement, which may be empty
abbrev pub heard_of_piece : Option (Piece Statement) → State → State → List Event
heard_of_piece None old new = []
heard_of_piece (Some (language.Unread why)) old new = []
heard_of_piece (Some (language.Statement x)) old new = heard_of_statement x old new

-- All of it is heard where the call is accepted; where it is refused nothing, or perhaps something if for want, which may come after
-- the telling.
abbrev pub Hears : {T : Type 0} → (List Event → Type 0) → List Event → Result T Refusal → Type 0
Hears hears events (Ok x) = hears events
Hears hears events (Err r) = IsWant r ⊎ hears []

-- ---- the statements of a script, one after another

-- the next one, that is found so
abbrev pub HearsTurn : (List Event → Type 0) → State → Result (Option (Statement × ℕ)) Unread → Result (Option (Reply × ℕ)) Refusal → State → Type 0
HearsTurn hears old found (Ok None) new = hears []
HearsTurn hears old found (Ok (Some t)) new = (x : Statement) × (n : ℕ) × (found ≡ Ok (Some (x, n))) × hears (heard_of_statement x old new)
HearsTurn hears old found (Err r) new = IsWant r ⊎ hears []

module _ {E G : Type 0} (l : Language Statement E) (host : Host) (hears : G → G → List Event → Type 0) where
  -- Of each that is accepted all there is to hear was heard, in their order and nothing else, where the modules are as it leaves them;
  -- of one that is refused for want perhaps something.
  abbrev pub HearsAll : G → State → List (Piece Statement) → List Reply → Option Refusal → G → Type 0
  HearsAll g st [] xs None h = hears g h []
  HearsAll g st [] xs (Some r) h = IsWant r ⊎ hears g h []
  HearsAll g st (language.Unread why ∷ ps) xs None h = hears g h []
  HearsAll g st (language.Unread why ∷ ps) xs (Some r) h = IsWant r ⊎ hears g h []
  HearsAll g st (language.Statement s ∷ ps) [] None h = hears g h []
  HearsAll g st (language.Statement s ∷ ps) [] (Some r) h = IsWant r ⊎ hears g h []
  HearsAll g st (language.Statement s ∷ ps) (x ∷ xs) why h =
      (ms : List ModuleState) × (mid : G) × Answers l host st [] s (Ok x) ms × hears g mid (heard_of_statement s st (stepped l host st [] s (Ok x) ms))
      × HearsAll mid (stepped l host st [] s (Ok x) ms) ps xs why h
