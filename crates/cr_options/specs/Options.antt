-- What the words of the command line ask. Source: this project's own.
use Rattle.std.specs.Prelude.{ℕ, List, [], ◌∷◌, Option, Some, None, Result, Ok, Err, option_map, codes}
use Rattle.std.specs.Result.{result_ok}
use Rattle.clap.specs.Walk.{Rule, Text, first_of}
use Rattle.clap.specs.Simple.{App, matches_of, new_app, new_rule, with_rule}
use Rattle.clap.specs.Kinds.{Kinds}
use Rattle.clap.specs.Faults.{fault_of}
use Rattle.clap.specs.declared.error.kind.ErrorKind.{ErrorKind}
use Rattle.clap.specs.declared.error.kind.ErrorKind.TheVariants.{OutOfMemory}
use Rattle.hex.specs.Hex.{decode_sized}
use Rattle.cr_options.specs.declared.options.Options.{Options}
use Rattle.cr_options.specs.declared.options.Options.TheVariants.{Fleet, File}
use Rattle.cr_options.specs.declared.stop.Stop.{Stop}
use Rattle.cr_options.specs.declared.stop.Stop.TheVariants.{Store, Usage}

-- replicas in memory; or the store in a file of that name, with a site or with none
pub data Asked : Type 0 where
  fleet : Asked
  file : Text → Option (List ℕ) → Asked

-- the same, where the name is lent
abbrev pub asked : Options → Asked
asked Fleet = fleet
asked (File name site) = file name.now site

-- `--name VALUE`
abbrev pub valued : Text → Rule
valued name = record (new_rule name) { long = Some name }

-- `crsh [--db FILE] [--site HEX32]`, as clap reads it
abbrev pub command_line : App
command_line = with_rule (with_rule (new_app (codes "crsh")) (valued (codes "db"))) (valued (codes "site"))

-- the value that the words give to the option of that name
unfoldable pub value_of : Text → List Text → Option Text
value_of name words = first_of name (matches_of command_line words)

-- the 16 bytes of 32 hexadecimal digits in either case
abbrev pub site_of : Text → Option (List ℕ)
site_of digits = result_ok (decode_sized digits 16)

-- what a file's name and a site's digits ask: a site stands only beside a file
abbrev pub chosen : Option Text → Option Text → Option Asked
chosen None None = Some fleet
chosen None (Some digits) = None
chosen (Some name) None = Some (file name None)
chosen (Some name) (Some digits) = option_map (λ site. file name (Some site)) (site_of digits)

-- what is asked where clap finds no fault
abbrev pub if_faultless : Kinds → Option Asked → Option Asked
if_faultless [] choice = choice
if_faultless (kind ∷ kinds) choice = None

abbrev pub or_usage : Option Asked → Result Asked Stop
or_usage (Some choice) = Ok choice
or_usage None = Err Usage

-- what the words ask, the first of which is the program's name
unfoldable pub options_of : List Text → Result Asked Stop
options_of words = or_usage (if_faultless (fault_of command_line words)
    (chosen (value_of (codes "db") words) (value_of (codes "site") words)))

-- clap fails for want of memory, or since it refuses the words
abbrev pub refusal_of : ErrorKind → Stop
refusal_of OutOfMemory = Store
refusal_of _ = Usage
