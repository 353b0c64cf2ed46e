-- What command lines choose, and what digits spell. Source: this project's own.
use Rattle.std.specs.Prelude.{◌≡◌, ◌≢◌, ◌↔◌, ◌⊎◌, ℕ, ◌/◌, ◌%◌, List, [], ◌∷◌, ◌++◌, length, slice_get}
use Rattle.std.specs.Prelude.{Some, None, Ok, Err, codes}
use Rattle.std.specs.List.{AllByRecursion}
use Rattle.clap.specs.Walk.{Text}
use Rattle.hex.specs.Hex.{lower_digits, upper_digits}
use Rattle.cr_options.specs.declared.stop.Stop.TheVariants.{Usage}
use Rattle.cr_options.specs.Options.{fleet, file, options_of, site_of}

-- ---- digits

-- the hexadecimal digit of that value, in either case
abbrev pub IsDigitOf : ℕ → ℕ → Type 0
IsDigitOf value digit = (slice_get lower_digits value ≡ Some digit) ⊎ (slice_get upper_digits value ≡ Some digit)

abbrev pub IsDigit : ℕ → Type 0
IsDigit digit = (value : ℕ) × IsDigitOf value digit

-- two digits a byte, that of its high four bits first
abbrev pub Spells : List ℕ → List ℕ → Type 0
Spells [] [] = Unit {0}
Spells (high ∷ low ∷ digits) (byte ∷ bytes) = IsDigitOf (byte / 16) high × IsDigitOf (byte % 16) low × Spells digits bytes
Spells _ _ = ⊥

-- digits are read as a site exactly where they spell it, and it has 16 bytes
abbrev pub SiteIsSpelled : Type 0
SiteIsSpelled = (digits site : List ℕ) → (site_of digits ≡ Some site) ↔ (Spells digits site × (length site ≡ 16))

-- each 32 digits spell one
abbrev pub DigitsSpell : Type 0
DigitsSpell = (digits : List ℕ) → length digits ≡ 32 → AllByRecursion IsDigit digits
    → (site : List ℕ) × Spells digits site × (length site ≡ 16)

-- ---- command lines

-- a word that is no option: a hyphen (45) alone, or a text that does not begin with one
abbrev pub IsValue : Text → Type 0
IsValue word = (word ≡ 45 ∷ []) ⊎ (slice_get word 0 ≢ Some 45)

abbrev pub NameIsFleet : Type 0
NameIsFleet = (program : Text) → options_of (program ∷ []) ≡ Ok fleet

abbrev pub FileIsStore : Type 0
FileIsStore = (program name : Text) → IsValue name → options_of (program ∷ codes "--db" ∷ name ∷ []) ≡ Ok (file name None)

-- whatever the name is
abbrev pub JoinedFileIsStore : Type 0
JoinedFileIsStore = (program name : Text) → options_of (program ∷ (codes "--db=" ++ name) ∷ []) ≡ Ok (file name None)

abbrev pub FileAndSiteAreStore : Type 0
FileAndSiteAreStore = (program name digits site : Text) → IsValue name → Spells digits site → length site ≡ 16
    → options_of (program ∷ codes "--db" ∷ name ∷ codes "--site" ∷ digits ∷ []) ≡ Ok (file name (Some site))

abbrev pub NoSiteIsUsage : Type 0
NoSiteIsUsage = (program name word : Text) → IsValue name → IsValue word → site_of word ≡ None
    → options_of (program ∷ codes "--db" ∷ name ∷ codes "--site" ∷ word ∷ []) ≡ Err Usage

abbrev pub SiteAloneIsUsage : Type 0
SiteAloneIsUsage = (program word : Text) → IsValue word → options_of (program ∷ codes "--site" ∷ word ∷ []) ≡ Err Usage

abbrev pub StrayIsUsage : Type 0
StrayIsUsage = (program word : Text) → IsValue word → options_of (program ∷ word ∷ []) ≡ Err Usage

abbrev pub HelpIsUsage : Type 0
HelpIsUsage = (program : Text) → (options_of (program ∷ codes "--help" ∷ []) ≡ Err Usage)
    × (options_of (program ∷ codes "--version" ∷ []) ≡ Err Usage)
