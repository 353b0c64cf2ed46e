-- What a line asks of a fleet. Source: this project's own line format.
use Rattle.std.specs.Prelude.{ℕ, ℤ, pos, negsuc, Bool, true, false, List, Option, Some, None, Result, Ok, Err, codes, if◌then◌else◌}
use Rattle.std.specs.Option.{option_map}
use Rattle.std.specs.Str.{bytes_eq}
use Rattle.hex.specs.Hex.{decode_sized}
use Rattle.hex.specs.declared.error.FromHexError.{FromHexError}
use Rattle.cr_value.specs.declared.value.Value.{Value}
use Rattle.cr_value.specs.declared.value.Value.TheVariants.{Null, Int, Text, Blob}
use Rattle.cr_value.specs.Unpacking.{◌>>=◌}
use Rattle.cr_value.specs.Reading.{literal_at}
use Rattle.cr_replica.specs.declared.change_row.ChangeRow.{ChangeRow}
use Rattle.cr_world.specs.declared.command.Command.{Command}
use Rattle.cr_world.specs.declared.command.Command.TheVariants.{Open, Use, Take, Rows, Changes, Pull, PullSince, Policy}
use Rattle.cr_host.specs.Names.{folded}
use Rattle.cr_host.specs.declared.meaning.Auth.{Auth}
use Rattle.cr_host.specs.declared.meaning.Auth.TheVariants as auth
use Rattle.cr_guard.specs.declared.policy.PolicyRule.TheVariants.{Read, MaxChanges}
use Rattle.cr_shell.specs.Words.{has_space, split_at_space, behind, is_empty}
use Rattle.cr_shell.specs.TableLine.{table_of}

-- ---- a change line

-- a literal behind a bar
abbrev pub barred : List ℕ → Option (Value × List ℕ)
barred bytes = behind 124 bytes >>= literal_at

abbrev pub is_int : Value → Bool
is_int (Int n) = true
is_int Null = false
is_int (Text t) = false
is_int (Blob b) = false

-- an integer behind a bar
abbrev pub integer_behind_bar : Option (Value × List ℕ) → Option (List ℕ)
integer_behind_bar None = None
integer_behind_bar (Some x) = if is_int x.0 then Some x.1 else None

-- which cell a change is of, and what stands behind it: three literals joined by bars
unfoldable pub cell_of : List ℕ → Option ((Value × Value × Value) × List ℕ)
cell_of bytes = do
  table ← literal_at bytes
  pk ← barred table.1
  cid ← barred pk.1
  Some ((table.0, pk.0, cid.0), cid.1)

-- what the cell holds and its version; of `db_version` behind them it is looked at its type alone
unfoldable pub content_of : List ℕ → Option ((Value × Value) × List ℕ)
content_of bytes = do
  val ← barred bytes
  version ← barred val.1
  after ← integer_behind_bar (barred version.1)
  Some ((val.0, version.0), after)

-- who made the change, and the causal length; of `seq`, which is the last, it is looked at its type alone
unfoldable pub origin_of : List ℕ → Option (Value × Value)
origin_of bytes = do
  site ← barred bytes
  cl ← barred site.1
  end ← integer_behind_bar (barred cl.1)
  if is_empty end then Some (site.0, cl.0) else None

-- nine literals joined by bars, as the rows of `crsql_changes` are printed
unfoldable pub row_of : List ℕ → Option ChangeRow
row_of bytes = do
  cell ← cell_of bytes
  content ← content_of cell.1
  origin ← origin_of content.1
  Some (record { table = cell.0.0; pk = cell.0.1; cid = cell.0.2; val = content.0.0; col_version = content.0.1; site_id = origin.0; cl = origin.1 })

-- ---- the commands

-- the 16 bytes of 32 hexadecimal digits in either case
abbrev pub site_in : Result (List ℕ) FromHexError → Option (List ℕ)
site_in (Ok site) = Some site
site_in (Err e) = None

-- a name and a site
unfoldable pub open_of : List ℕ → Option Command
open_of bytes = do
  words ← split_at_space bytes
  site ← site_in (decode_sized words.1 16)
  Some (Open words.0 site)

-- one word
abbrev pub word_of : List ℕ → Option (List ℕ)
word_of bytes = if has_space bytes then None else Some bytes

abbrev pub int_in : Value → Option ℤ
int_in (Int n) = Some n
int_in Null = None
int_in (Text t) = None
int_in (Blob b) = None

-- an integer, and nothing behind it
unfoldable pub integer_of : List ℕ → Option ℤ
integer_of bytes = literal_at bytes >>= λ x. if is_empty x.1 then int_in x.0 else None

-- a rule of the policy: what READ of a column answers, by the names of its table and of itself
unfoldable pub rule_of : Auth → List ℕ → Option Command
rule_of answer bytes = do
  words ← split_at_space bytes
  column ← word_of words.1
  Some (Policy (Read (record { table = folded words.0; column = folded column; answer = answer })))

-- not below 0
abbrev pub most_of : ℤ → Option ℕ
most_of (pos n) = Some n
most_of (negsuc n) = None

-- how many changes a commit may have, `off` for as many as there are
unfoldable pub veto_of : List ℕ → Option Command
veto_of bytes =
    if bytes_eq bytes (codes "off") then Some (Policy (MaxChanges None))
    else (integer_of bytes >>= λ n. option_map (λ most. Policy (MaxChanges (Some most))) (most_of n))

unfoldable pub command_in : List ℕ → List ℕ → Option Command
command_in word bytes =
    if bytes_eq word (codes ".open") then open_of bytes
    else if bytes_eq word (codes ".use") then option_map Use (word_of bytes)
    else if bytes_eq word (codes ".table") then table_of bytes
    else if bytes_eq word (codes ".take") then option_map Take (row_of bytes)
    else if bytes_eq word (codes ".rows") then option_map (λ name. Rows (folded name)) (word_of bytes)
    else if bytes_eq word (codes ".changes") then option_map Changes (integer_of bytes)
    else if bytes_eq word (codes ".pull") then option_map Pull (word_of bytes)
    else if bytes_eq word (codes ".pullnew") then option_map PullSince (word_of bytes)
    else if bytes_eq word (codes ".deny") then rule_of auth.Deny bytes
    else if bytes_eq word (codes ".ignore") then rule_of auth.Ignore bytes
    else if bytes_eq word (codes ".allow") then rule_of auth.Ok bytes
    else if bytes_eq word (codes ".veto") then veto_of bytes
    else None

-- the command that the line is, if it is one
unfoldable pub command_of : List ℕ → Option Command
command_of line = split_at_space line >>= λ words. command_in words.0 words.1
