-- What is made of the statements of a script, one after another. Source: this project's own.
use Rattle.std.specs.Prelude.{◌≡◌, ◌≢◌, ◌⊎◌, ℕ, Bool, true, false, List, [], ◌∷◌, map, Option, Some, None, Result, Ok, Err}
use Rattle.cr_value.specs.declared.value.Value.{Value}
use Rattle.cr_lex.specs.declared.token.Token.{Token}
use Rattle.cr_tree.specs.declared.statement.Statement.{Statement}
use Rattle.cr_cells.specs.Calls.{StaysClean}
use Rattle.cr_statement.specs.Sql.{Refusal as Unread, is_semicolon}
use Rattle.cr_statement.specs.Scripts as scripts
use Rattle.cr_world.specs.declared.command.Reply.{Reply}
use Rattle.cr_world.specs.declared.refusal.Refusal.{Refusal}
use Rattle.cr_world.specs.declared.refusal.Refusal.TheVariants as refusal
use Rattle.cr_world.specs.Refusals.{is_want}
use Rattle.cr_world.specs.Language.{Language, Piece}
use Rattle.cr_world.specs.Statement.{Host, Answers, stepped}
use Rattle.cr_world.specs.Scripts.{Executes, Runs}
use Rattle.cr_world.specs.Answers.{script_wants}
use Rattle.cr_language.specs.Sql.{piece, of_unread, single_of}
use Rattle.cr_world.specs.State.{State}

-- the next statement of what is left of a script
unfoldable pub next : List ℕ → List Token → Result (Option (Statement × ℕ)) Unread
next source tokens = scripts.next source tokens

-- what is left of a script, in so many turns
unfoldable pub pieces_left : ℕ → List ℕ → List Token → List (Piece Statement)
pieces_left n source tokens = map piece (scripts.pieces_in n source tokens)

-- the same of a text that is to be one statement
unfoldable pub single_left : List ℕ → List Token → Option (Piece Statement)
single_left source tokens = single_of source tokens

-- nothing stands before the first `;`
abbrev pub is_empty : List ℕ → List Token → Bool
is_empty source [] = true
is_empty source (t ∷ ts) = is_semicolon source t

-- where the token behind the first begins
abbrev pub second_place : List Token → Option ℕ
second_place [] = None
second_place (t ∷ []) = None
second_place (t ∷ u ∷ us) = Some u.from

module _ {S E C : Type 0} (l : Language S E) (host : Host) (is_honest is_clean : C → Type 0) (stands : C → State) where
  -- A statement with these parameters. It holds where the store is clean after it, as it is where it was clean before, its device
  -- is honest, and there was no want.
  pub record Carries (old : C) (params : List Value) (x : S) (result : Result Reply Refusal) (new : C) : Type 0 where
    pub device : StaysClean is_honest is_clean is_want old new result
    pub answers : is_clean new → Answers l host (stands old) params x result (stands new).modules
    pub leaves : is_clean new → stepped l host (stands old) params x result (stands new).modules ≡ stands new

  -- a text that is to be one statement, with these parameters
  pub record Executed (old : C) (params : List Value) (piece : Option (Piece S)) (result : Result Reply Refusal) (new : C) : Type 0 where
    pub device : StaysClean is_honest is_clean is_want old new result
    pub executes : is_clean new → Executes l host (stands old) params piece result (stands new)

  -- the same of the pieces of a script, with these replies, and this refusal if there is one
  pub record CarriesAll (old : C) (pieces : List (Piece S)) (replies : List Reply) (why : Option Refusal) (new : C) : Type 0 where
    pub was_honest : is_honest new → is_honest old
    pub was_clean : is_clean new → is_clean old
    pub stays_clean : is_honest new → is_clean old → script_wants why ≡ false → is_clean new
    pub runs : is_clean new → Runs l host (stands old) pieces replies why (stands new)

module _ {E C : Type 0} (l : Language Statement E) (host : Host) (is_honest is_clean : C → Type 0) (stands : C → State) where
  -- The next statement of a script is refused: it can't be read, or it can't be carried out, or there is no memory for it, which is
  -- never told where no statement is left.
  abbrev pub Stops : C → Result (Option (Statement × ℕ)) Unread → Refusal → C → Type 0
  Stops old found r new =
      ((why : Unread) × (found ≡ Err why) × ((r ≡ of_unread why) ⊎ (r ≡ refusal.Memory)) × (new ≡ old))
      ⊎ (((x : Statement) × (n : ℕ) × (found ≡ Ok (Some (x, n))) × Carries l host is_honest is_clean stands old [] x (Err r) new)
      ⊎ ((r ≡ refusal.Memory) × (new ≡ old) × (found ≢ Ok None)))

  pub record Goes (old : C) (found : Result (Option (Statement × ℕ)) Unread) (t : Reply × ℕ) (new : C) : Type 0 where
    pub statement : Statement
    pub is : found ≡ Ok (Some (statement, t.1))
    pub carries : Carries l host is_honest is_clean stands old [] statement (Ok t.0) new

  -- one statement, and how many tokens it takes; none where no statement is left
  abbrev pub Turns : C → Result (Option (Statement × ℕ)) Unread → Result (Option (Reply × ℕ)) Refusal → C → Type 0
  Turns old found (Ok None) new = (found ≡ Ok None) × (new ≡ old)
  Turns old found (Ok (Some t)) new = Goes old found t new
  Turns old found (Err r) new = Stops old found r new
