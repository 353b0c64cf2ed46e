-- What a line asks, and what is then gathered of SQL. Source: this project's own line format.
use Rattle.std.specs.Prelude.{ℕ, ◌+◌, ◌-◌, Bool, false, not, nat_lt, ◌==◌, ◌&&◌, List, [], ◌∷◌, ◌++◌, length, codes, slice_get, Option, Some, None, if◌then◌else◌}
use Rattle.std.specs.List.{list_any}
use Rattle.std.specs.Option.{option_map_or}
use Rattle.std.specs.Str.{is_utf8, bytes_eq}
use Rattle.std.specs.Io.BufRead.{strip_last}
use Rattle.cr_statement.specs.Sql.{is_semicolon}
use Rattle.cr_language.specs.Texts.{tokens_of}
use Rattle.cr_world.specs.declared.command.Command.{Command}
use Rattle.cr_world.specs.declared.command.Command.TheVariants.{Sql}
use Rattle.cr_shell.specs.declared.asking.Asked.{Asked}
use Rattle.cr_shell.specs.declared.asking.Asked.TheVariants.{Nothing, Help, Quit, NoCommand, TooLong, Asks}
use Rattle.cr_world.specs.Answers.{IsReady}
use Rattle.cr_shell.specs.Lines.{command_of}

-- ---- what is gathered

abbrev pub has_token : List ℕ → Bool
has_token text = not (length (tokens_of text) == 0)

-- the last token of a text is `;`
abbrev pub ends_in_semicolon : List ℕ → Bool
ends_in_semicolon text = option_map_or (is_semicolon text) (slice_get (tokens_of text) (length (tokens_of text) - 1)) false

abbrev pub has_semicolon : List ℕ → Bool
has_semicolon line = list_any (λ c. c == 59) line

-- the greatest length of SQL
abbrev pub script_limit : ℕ
script_limit = 1000000

-- the line and a line feed are added
abbrev pub gathered_with : List ℕ → List ℕ → List ℕ
gathered_with gathered line = (gathered ++ line) ++ 10 ∷ []

abbrev pub is_too_long : List ℕ → List ℕ → Bool
is_too_long gathered line = nat_lt script_limit (length gathered + length line + 1)

-- ---- commands

abbrev pub begins_with_dot : List ℕ → Bool
begins_with_dot [] = false
begins_with_dot (c ∷ cs) = c == 46

-- a line that begins with `.` is a command, unless it stands inside SQL
abbrev pub is_command : List ℕ → List ℕ → Bool
is_command gathered line = begins_with_dot line && not (has_token gathered)

abbrev pub asked_by : Option Command → Asked
asked_by None = NoCommand
asked_by (Some c) = Asks c

unfoldable pub asks_command : List ℕ → Asked
asks_command text = if bytes_eq text (codes ".quit") then Quit else if bytes_eq text (codes ".help") then Help else asked_by (command_of text)

-- ---- what is asked, and what is gathered then

-- SQL is run once its last token is the line's `;`
abbrev pub asks_sql : List ℕ → List ℕ → Asked × List ℕ
asks_sql gathered line =
    if has_semicolon line && ends_in_semicolon (gathered_with gathered line)
    then (Asks (Sql (gathered_with gathered line)), [])
    else (Nothing, gathered_with gathered line)

-- A text in UTF-8 is a command or SQL; what isn't UTF-8, or makes SQL too long, drops what is gathered.
abbrev pub asked_of_text : List ℕ → List ℕ → Asked × List ℕ
asked_of_text gathered text =
    if not (is_command gathered text) && is_too_long gathered text then (TooLong, [])
    else if not (is_utf8 text) then (NoCommand, [])
    else if is_command gathered text then (asks_command text, gathered)
    else asks_sql gathered text

-- a line, without the carriage return at its end
unfoldable pub asked : List ℕ → List ℕ → Asked × List ℕ
asked gathered line = asked_of_text gathered (strip_last 13 line)

-- at the end of the input SQL is run that no `;` has ended
abbrev pub asked_at_end : List ℕ → Asked × List ℕ
asked_at_end gathered = if has_token gathered then (Asks (Sql gathered), []) else (Nothing, gathered)

-- the names of a definition that is asked are in ASCII lower case
abbrev pub AsksReady : Asked → Type 0
AsksReady Nothing = Unit {0}
AsksReady Help = Unit {0}
AsksReady Quit = Unit {0}
AsksReady NoCommand = Unit {0}
AsksReady TooLong = Unit {0}
AsksReady (Asks c) = IsReady c
