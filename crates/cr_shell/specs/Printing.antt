-- What answers are printed as. Source: this project's own; rows and changes as SQL literals joined by bars, changes
-- in the columns of cr-sqlite's `crsql_changes`.
use Rattle.std.specs.Prelude.{◌≡◌, ◌≢◌, Bool, true, false, ℕ, List, [], ◌∷◌, ◌++◌, Option}
use Rattle.std.specs.List.{flat_map}
use Rattle.std.specs.Io.KnownBytes.{Appends}
use Rattle.cr_value.specs.declared.value.Value.{Value}
use Rattle.cr_value.specs.declared.value.Value.TheVariants.{Int, Text, Blob}
use Rattle.cr_value.specs.Literal.{literal}
use Rattle.cr_lattice.specs.declared.stamped.Stamped.{Stamped}
use Rattle.cr_world.specs.declared.command.FleetReply.{FleetReply}
use Rattle.cr_world.specs.declared.command.FleetReply.TheVariants.{Script, Rows, Changes, Done, Refused}
use Rattle.cr_world.specs.declared.command.Reply.{Reply}
use Rattle.cr_world.specs.declared.command.Reply.TheVariants as statement
use Rattle.cr_world.specs.declared.refusal.Refusal.{Refusal}
use Rattle.cr_shell.specs.declared.printing.Answer.{Answer}
use Rattle.cr_shell.specs.declared.printing.Answer.TheVariants.{Reply as Replied, Help}
use Rattle.cr_shell.specs.Helping.{help_text}
use Rattle.cr_shell.specs.Refusing.{refusal_line, refusal_told}

-- known bytes grow by a front of these, and not by all of them
abbrev pub AppendsPart : Option (List ℕ) → Option (List ℕ) → List ℕ → Type 0
AppendsPart old new bytes = (front : List ℕ) × (rest : List ℕ) × (bytes ≡ front ++ rest) × (rest ≢ []) × Appends old new front

-- A watched writer wrote the bytes: whole if it hasn't failed, and a front of them, not all, if it failed meanwhile. Once
-- it has failed, nothing more is written.
pub record Prints {W : Type 0} (contents : W → Option (List ℕ)) (old new : W × Bool) (bytes : List ℕ) : Type 0 where
  pub whole : new.1 ≡ false → (old.1 ≡ false) × Appends (contents old.0) (contents new.0) bytes
  pub part : old.1 ≡ false → new.1 ≡ true → AppendsPart (contents old.0) (contents new.0) bytes
  pub failed : old.1 ≡ true → new ≡ old

-- ---- rows

-- each value as a literal behind a bar
unfoldable pub behind_bars : List Value → List ℕ
behind_bars [] = []
behind_bars (v ∷ vs) = 124 ∷ literal v ++ behind_bars vs

-- the values as literals joined by bars, and the end of the line
abbrev pub row_line : List Value → List ℕ
row_line [] = 10 ∷ []
row_line (v ∷ vs) = literal v ++ behind_bars vs ++ 10 ∷ []

-- a change as a row: its table, the key, the column, what that holds and its version, the version of the commit at which it
-- came in, who made it, the causal length, and its place in that commit
abbrev pub change_row : Stamped → List Value
change_row s =
    Text s.change.table ∷ Blob s.change.pk ∷ Text s.change.cid ∷ s.change.val ∷ Int s.change.col_version
    ∷ Int s.version ∷ Blob s.change.site ∷ Int s.change.cl ∷ Int s.seq ∷ []

abbrev pub change_line : Stamped → List ℕ
change_line s = row_line (change_row s)

-- ---- replies

-- what a statement shows, a line for each row
abbrev pub reply_lines : Reply → List ℕ
reply_lines (statement.Rows rows) = flat_map row_line rows
reply_lines statement.Done = []

-- what its statements show, and then the refusal, if there is one
abbrev pub script_lines : List Reply → Option Refusal → List ℕ
script_lines replies refusal = flat_map reply_lines replies ++ refusal_told refusal

-- a reply: a line for each row or change, a line for a refusal, nothing where there is no more to tell
abbrev pub printed : FleetReply → List ℕ
printed (Script x) = script_lines x.replies x.refusal
printed (Rows rows) = flat_map row_line rows
printed (Changes changes) = flat_map change_line changes
printed Done = []
printed (Refused r) = refusal_line r

-- an answer: a reply, or what the commands are
abbrev pub answer_printed : Answer → List ℕ
answer_printed (Replied r) = printed r
answer_printed Help = help_text

-- the answers one after another
abbrev pub output_of : List Answer → List ℕ
output_of answers = flat_map answer_printed answers
