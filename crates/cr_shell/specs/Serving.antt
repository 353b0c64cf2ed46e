-- What is read, what it asks, and what is written for it. Source: this project's own line format.
use Rattle.std.specs.Prelude.{◌≡◌, ◌≢◌, ◌⊎◌, ◌<◌, ◌≤◌, ℕ, Bool, true, false, not, ◌==◌, List, [], ◌∷◌, ◌++◌, length, map, Option, Some, None, Result, Ok, Err}
use Rattle.std.specs.List.{flat_map, list_all, AllByRecursion}
use Rattle.std.specs.Io.KnownBytes.{Consumes, IsAtEnd}
use Rattle.cr_world.specs.declared.command.Command.{Command}
use Rattle.cr_world.specs.declared.command.FleetReply.{FleetReply}
use Rattle.cr_world.specs.declared.command.FleetReply.TheVariants.{Done, Refused}
use Rattle.cr_world.specs.declared.refusal.Refusal.TheVariants as refusal
use Rattle.cr_world.specs.declared.refusal.Limit.TheVariants as limit
use Rattle.cr_shell.specs.Running.{Standing, Guarded, guarded}
use Rattle.cr_shell.specs.declared.serving.Line.{Line}
use Rattle.cr_shell.specs.declared.serving.Next.{Next}
use Rattle.cr_shell.specs.declared.serving.Next.TheVariants as next
use Rattle.cr_shell.specs.declared.serving.End.{End}
use Rattle.cr_shell.specs.declared.serving.End.TheVariants as end
use Rattle.cr_shell.specs.declared.serving.ServeFault.{ServeFault}
use Rattle.cr_shell.specs.declared.serving.ServeFault.TheVariants as fault
use Rattle.cr_shell.specs.declared.printing.Answer.{Answer}
use Rattle.cr_shell.specs.declared.printing.Answer.TheVariants as answer
use Rattle.cr_shell.specs.Printing.{Prints, output_of}
use Rattle.cr_shell.specs.declared.asking.Asked.{Asked}
use Rattle.cr_shell.specs.declared.asking.Asked.TheVariants.{Nothing, Help, Quit, NoCommand, TooLong, Asks}
use Rattle.cr_shell.specs.Asking.{asked, asked_at_end}

-- ---- lines

-- the lines, each with the line feed that ends it
abbrev pub ended : List (List ℕ) → List ℕ
ended lines = flat_map (λ l. l ++ 10 ∷ []) lines

-- there is no line feed in it
abbrev pub IsLine : List ℕ → Type 0
IsLine line = list_all (λ c. not (c == 10)) line ≡ true

-- what is heard: a line, or the end of the input
pub data Entry : Type 0 where
  AtLine : List ℕ → Entry
  AtEnd : Entry

-- what it asks where this is gathered, and what is gathered then
abbrev pub asks : List ℕ → Entry → Asked × List ℕ
asks gathered (AtLine line) = asked gathered line
asks gathered AtEnd = asked_at_end gathered

-- ---- turns

-- what was heard, the command that was run for it, if there was one, the answer, and what is gathered then
pub record Turn : Type 0 where
  pub entry : Entry
  pub command : Option Command
  pub answer : Answer
  pub gathered : List ℕ

-- the answer where no command is run
abbrev pub own_answer : Asked → Option Answer
own_answer Nothing = Some (answer.Reply Done)
own_answer Help = Some answer.Help
own_answer NoCommand = Some (answer.Reply (Refused refusal.Command))
own_answer TooLong = Some (answer.Reply (Refused (refusal.Limit limit.Script)))
own_answer Quit = None
own_answer (Asks c) = None

-- The command is the one that is asked for, and has a reply. None is run where memory does not suffice to know what is asked:
-- that is told, and what is gathered is dropped.
abbrev pub IsFor : Asked × List ℕ → Option Command → Answer → List ℕ → Type 0
IsFor a None x gathered = ((x ≡ answer.Reply (Refused refusal.Memory)) × (gathered ≡ [])) ⊎ ((own_answer a.0 ≡ Some x) × (gathered ≡ a.1))
IsFor a (Some c) (answer.Reply r) gathered = (a.0 ≡ Asks c) × (gathered ≡ a.1)
IsFor a (Some c) answer.Help gathered = ⊥

-- one turn after another, where this is gathered before them and this after them
abbrev pub AreTurns : List ℕ → List Turn → List ℕ → Type 0
AreTurns before [] after = after ≡ before
AreTurns before (t ∷ ts) after = IsFor (asks before t.entry) t.command t.answer t.gathered × AreTurns t.gathered ts after

abbrev pub with_command : Option Command → List Command → List Command
with_command None cs = cs
with_command (Some c) cs = c ∷ cs

-- the commands that were run
abbrev pub commands : List Turn → List Command
commands [] = []
commands (t ∷ ts) = with_command t.command (commands ts)

abbrev pub with_reply : Option Command → Answer → List FleetReply → List FleetReply
with_reply None x rs = rs
with_reply (Some c) (answer.Reply r) rs = r ∷ rs
with_reply (Some c) answer.Help rs = rs

-- and their replies
abbrev pub replies : List Turn → List FleetReply
replies [] = []
replies (t ∷ ts) = with_reply t.command t.answer (replies ts)

-- a line as far as it was read; it is lost where there was no memory for one of its bytes
abbrev pub IsKept : Line → List ℕ → Type 0
IsKept line bytes = ((line.is_lost ≡ true) × (bytes ≢ [])) ⊎ ((line.is_lost ≡ false) × (line.bytes.items ≡ bytes))

-- how a line is with a byte more
abbrev pub IsPushed : Line → Line → ℕ → Type 0
IsPushed old new byte = (new.is_lost ≡ true) ⊎ ((old.is_lost ≡ false) × (new.is_lost ≡ false) × (new.bytes.items ≡ old.bytes.items ++ byte ∷ []))

abbrev pub IsNewLine : Line → Type 0
IsNewLine line = (line.bytes.items ≡ []) × (line.is_lost ≡ false)

abbrev pub IsEmpty : List ℕ → Bool → Type 0
IsEmpty bytes true = bytes ≡ []
IsEmpty bytes false = bytes ≢ []

-- the unfinished line, unless it is empty
abbrev pub last_line : List ℕ → List (List ℕ)
last_line [] = []
last_line (c ∷ cs) = (c ∷ cs) ∷ []

-- ---- all that is served

-- the greatest length of an input
abbrev pub input_limit : ℕ
input_limit = 16000000

-- the input is these lines, of which the last may end without a line feed where nothing is left of the input
abbrev pub IsAllOf : List ℕ → Option (List ℕ) → List (List ℕ) → Type 0
IsAllOf input left lines = (input ≡ ended lines) ⊎ ((before : List (List ℕ)) × (last : List ℕ) × (last ≢ []) × (lines ≡ before ++ last ∷ []) × (input ≡ ended before ++ last) × IsAtEnd left)

-- How the input that was read is made of the lines that were heard: they are all of it, and nothing is left; all but
-- `.quit` at its end; all but the unfinished line before a reader's fault. The end is heard where it is come to.
abbrev pub IsCut : Result End ServeFault → List ℕ → Option (List ℕ) → List (List ℕ) → List Entry → List ℕ → Type 0
IsCut (Ok end.Input) input left lines entries gathered = IsAllOf input left lines × IsAtEnd left × (entries ≡ map AtLine lines ++ AtEnd ∷ [])
IsCut (Ok end.Quit) input left lines entries gathered = (last : List ℕ) × IsLine last × ((asked gathered last).0 ≡ Quit) × IsAllOf input left (lines ++ last ∷ []) × (entries ≡ map AtLine lines)
IsCut (Err fault.Read) input left lines entries gathered = (rest : List ℕ) × IsLine rest × (input ≡ ended lines ++ rest) × (entries ≡ map AtLine lines)
IsCut (Err fault.Write) input left lines entries gathered = IsAllOf input left lines × ((entries ≡ map AtLine lines) ⊎ (IsAtEnd left × (entries ≡ map AtLine lines ++ AtEnd ∷ [])))

-- A fault is told with its cause: the writer failed, or the reader failed or the input reached its limit. Without one all was
-- written, and the reader didn't fail within the limit.
abbrev pub IsCaused : Result End ServeFault → List ℕ → Bool → Bool → Type 0
IsCaused (Ok end.Input) input read_failed write_failed = (length input < input_limit) × (read_failed ≡ false) × (write_failed ≡ false)
IsCaused (Ok end.Quit) input read_failed write_failed = (length input ≤ input_limit) × (read_failed ≡ false) × (write_failed ≡ false)
IsCaused (Err fault.Read) input read_failed write_failed = ((read_failed ≡ true) ⊎ (length input ≡ input_limit)) × (write_failed ≡ false)
IsCaused (Err fault.Write) input read_failed write_failed = (length input ≤ input_limit) × (read_failed ≡ false) × (write_failed ≡ true)

-- once the writer has failed nothing more is heard
abbrev pub Stops : Result End ServeFault → Type 0 → Type 0
Stops (Ok e) failed_last = Unit {0}
Stops (Err fault.Read) failed_last = Unit {0}
Stops (Err fault.Write) failed_last = failed_last

-- ---- what is heard, by what runs the commands, over a writer

-- what is heard ends the run
abbrev pub Quits : {T G : Type 0} → Standing T G → Standing T G → Entry → Type 0
Quits s0 s1 entry = ((asks s0.2 entry).0 ≡ Quit) × (s1.0 ≡ s0.0) × (s1.1 ≡ s0.1)

module _ {T G : Type 0} (runs : Guarded T G → Guarded T G → List Command → List FleetReply → Type 0) where
  -- what is known to be asked is answered: by what the command replied that it asks for, or else without running one
  abbrev pub Answers : Guarded T G → Guarded T G → Asked → Option Answer → Type 0
  Answers f0 f1 (Asks c) x = (r : FleetReply) × (x ≡ Some (answer.Reply r)) × runs f0 f1 (c ∷ []) (r ∷ [])
  Answers f0 f1 Nothing x = (x ≡ own_answer Nothing) × (f1 ≡ f0)
  Answers f0 f1 Help x = (x ≡ own_answer Help) × (f1 ≡ f0)
  Answers f0 f1 Quit x = (x ≡ None) × (f1 ≡ f0)
  Answers f0 f1 NoCommand x = (x ≡ own_answer NoCommand) × (f1 ≡ f0)
  Answers f0 f1 TooLong x = (x ≡ own_answer TooLong) × (f1 ≡ f0)

  -- it was answered, or ends the run
  abbrev pub Replies : Standing T G → Entry → Option Answer → Standing T G → Type 0
  Replies s0 entry None s1 = Quits s0 s1 entry
  Replies s0 entry (Some x) s1 = (command : Option Command) × IsFor (asks s0.2 entry) command x s1.2 × runs (guarded s0) (guarded s1) (with_command command []) (with_reply command x [])

module _ {T G W : Type 0} (contents : W → Option (List ℕ)) (runs : Guarded T G → Guarded T G → List Command → List FleetReply → Type 0) where
  -- Lines were heard, and maybe the end: each has its turn, the commands ran with these replies, and what is written is what
  -- the answers are printed as.
  pub record Heard (w0 w1 : W × Bool) (s0 s1 : Standing T G) (entries : List Entry) : Type 0 where
    pub turns : List Turn
    pub entries_are : map (λ t. t.entry) turns ≡ entries
    pub are_for : AreTurns s0.2 turns s1.2
    pub ran : runs (guarded s0) (guarded s1) (commands turns) (replies turns)
    pub written : Prints contents w0 w1 (output_of (map (λ t. t.answer) turns))

  -- it was heard, or ends the run
  abbrev pub Hears : W × Bool → W × Bool → Standing T G → Standing T G → Entry → Bool → Type 0
  Hears w0 w1 s0 s1 entry true = Heard w0 w1 s0 s1 (entry ∷ [])
  Hears w0 w1 s0 s1 entry false = Quits s0 s1 entry × (w1 ≡ w0)

  -- A line was heard, at which the writer may have failed, or ends the run.
  abbrev pub HearsLine : W × Bool → W × Bool → Standing T G → Standing T G → List ℕ → Next → Type 0
  HearsLine w0 w1 s0 s1 line next.Goes = Heard w0 w1 s0 s1 (AtLine line ∷ []) × (w1.1 ≡ false)
  HearsLine w0 w1 s0 s1 line next.Fails = Heard w0 w1 s0 s1 (AtLine line ∷ []) × (w1.1 ≡ true)
  HearsLine w0 w1 s0 s1 line next.Quits = Quits s0 s1 (AtLine line) × (w1 ≡ w0)

  -- the same of the unfinished line at the end of the input, unless it is empty
  abbrev pub HearsUnfinished : W × Bool → W × Bool → Standing T G → Standing T G → List ℕ → Next → Type 0
  HearsUnfinished w0 w1 s0 s1 line next.Goes = Heard w0 w1 s0 s1 (map AtLine (last_line line)) × (w1.1 ≡ false)
  HearsUnfinished w0 w1 s0 s1 line next.Fails = (line ≢ []) × HearsLine w0 w1 s0 s1 line next.Fails
  HearsUnfinished w0 w1 s0 s1 line next.Quits = (line ≢ []) × HearsLine w0 w1 s0 s1 line next.Quits

  -- A byte was taken: it belongs to the line; or, a line feed, it ends the line.
  abbrev pub Takes : W × Bool → W × Bool → Standing T G → Standing T G → Line → Line → ℕ → Next → Type 0
  Takes w0 w1 s0 s1 old new byte result =
      ((result ≡ next.Goes) × (byte ≢ 10) × (w1 ≡ w0) × (s1 ≡ s0) × IsPushed old new byte)
      ⊎ ((byte ≡ 10) × IsNewLine new × ((b : List ℕ) → IsKept old b → HearsLine w0 w1 s0 s1 b result))

  -- the last that was heard is what the writer failed at
  pub record FailedLast (w0 w1 : W × Bool) (s0 s1 : Standing T G) (entries : List Entry) : Type 0 where
    pub before : List Entry
    pub last : Entry
    pub entries_are : entries ≡ before ++ last ∷ []
    pub writer : W × Bool
    pub standing : Standing T G
    pub heard_before : Heard w0 writer s0 standing before
    pub had_not_failed : writer.1 ≡ false
    pub heard_last : Heard writer w1 standing s1 (last ∷ [])

  -- What was heard at the end, and that the writer failed there: at the unfinished line, or at what was gathered.
  abbrev pub FailsAtEnd : W × Bool → W × Bool → Standing T G → Standing T G → List ℕ → Type 0
  FailsAtEnd w0 w1 s0 s1 line =
      ((line ≢ []) × Heard w0 w1 s0 s1 (AtLine line ∷ []))
      ⊎ ((writer : W × Bool) × (standing : Standing T G) × Heard w0 writer s0 standing (map AtLine (last_line line)) × (writer.1 ≡ false) × Heard writer w1 standing s1 (AtEnd ∷ []))

  -- How a run ends with the unfinished line, which is heard unless it is empty; then the end is heard.
  abbrev pub Ends : W × Bool → W × Bool → Standing T G → Standing T G → List ℕ → Result End ServeFault → Type 0
  Ends w0 w1 s0 s1 line (Ok end.Quit) = (line ≢ []) × Quits s0 s1 (AtLine line) × (w1 ≡ w0)
  Ends w0 w1 s0 s1 line (Ok end.Input) = Heard w0 w1 s0 s1 (map AtLine (last_line line) ++ AtEnd ∷ []) × (w1.1 ≡ false)
  Ends w0 w1 s0 s1 line (Err fault.Read) = ⊥
  Ends w0 w1 s0 s1 line (Err fault.Write) = FailsAtEnd w0 w1 s0 s1 line × (w1.1 ≡ true)

  -- nothing is gathered before
  pub record Serves {R : Type 0} (remaining : R → Option (List ℕ)) (result : Result End ServeFault) (r0 r1 : R × Bool) (w0 w1 : W × Bool) (f0 f1 : Guarded T G) : Type 0 where
    pub input : List ℕ
    pub lines : List (List ℕ)
    pub entries : List Entry
    pub gathered : List ℕ
    pub read : Consumes (remaining r0.0) (remaining r1.0) input
    pub cut : IsCut result input (remaining r1.0) lines entries gathered
    pub are_lines : AllByRecursion IsLine lines
    pub heard : Heard w0 w1 (f0.0, f0.1, []) (f1.0, f1.1, gathered) entries
    pub caused : IsCaused result input r1.1 w1.1
    pub stops : Stops result (FailedLast w0 w1 (f0.0, f0.1, []) (f1.0, f1.1, gathered) entries)
