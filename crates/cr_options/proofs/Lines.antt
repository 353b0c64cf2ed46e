-- What command lines ask, word by word.
use Rattle.std.proofs.Common.{◌≡◌, ◌∙◌, ◌==◌, inl, inr, sym, ap, subst, refl, ℕ, Ok, Err, false, List, [], ◌∷◌, ◌++◌}
use Rattle.std.proofs.Common.{Option, Some, None, option_map, codes}
use Rattle.std.specs.Str.{bytes_eq}
use Rattle.std.proofs.lemmas.Bool.{ne_eqb}
use Rattle.clap.specs.Lexer.{long_of, short_of}
use Rattle.clap.specs.Walk.{Text}
use Rattle.clap.proofs.OnLiterals.{clap_on_literals}
use Rattle.cr_options.specs.Options.{chosen, file, fleet, options_of, or_usage, site_of, value_of}
use Rattle.cr_options.specs.declared.stop.Stop.TheVariants.{Usage}
use Rattle.cr_options.specs.Laws.{IsValue}

-- clap takes the word for no option, nor for the end of them
record IsPlain (word : Text) : Type 0 where
  ends : bytes_eq word (45 ∷ 45 ∷ []) ≡ false
  long : long_of word ≡ None
  short : short_of word ≡ None

is_plain : (word : Text) → IsValue word → IsPlain word
is_plain word (inl hyphen) = subst IsPlain (sym hyphen) (record { ends = refl; long = refl; short = refl })
is_plain [] (inr h) = record { ends = refl; long = refl; short = refl }
is_plain (x ∷ xs) (inr h) =
    let e : (x == 45) ≡ false = ne_eqb x 45 (λ same. h (ap Some same)) in
    record { ends = rw e refl; long = rw e refl; short = rw e refl }

pub fleet_line : (program : Text) → options_of (program ∷ []) ≡ Ok fleet
unfolding options_of value_of clap_on_literals
fleet_line program = refl

file_plain : (program name : Text) → IsPlain name → options_of (program ∷ codes "--db" ∷ name ∷ []) ≡ Ok (file name None)
unfolding options_of value_of clap_on_literals
file_plain program name p = rw (p.ends, p.long, p.short) refl

pub file_line : (program name : Text) → IsValue name → options_of (program ∷ codes "--db" ∷ name ∷ []) ≡ Ok (file name None)
file_line program name h = file_plain program name (is_plain name h)

pub joined_line : (program name : Text) → options_of (program ∷ (codes "--db=" ++ name) ∷ []) ≡ Ok (file name None)
unfolding options_of value_of clap_on_literals
joined_line program name = refl

both_plain : (program name word : Text) → IsPlain name → IsPlain word
    → options_of (program ∷ codes "--db" ∷ name ∷ codes "--site" ∷ word ∷ []) ≡ or_usage (chosen (Some name) (Some word))
unfolding options_of value_of clap_on_literals
both_plain program name word p q = rw (p.ends, p.long, p.short, q.ends, q.long, q.short) refl

-- both options, where the second word spells that site, or none
pub both_line : (program name word : Text) (site : Option (List ℕ)) → IsValue name → IsValue word → site_of word ≡ site
    → options_of (program ∷ codes "--db" ∷ name ∷ codes "--site" ∷ word ∷ [])
    ≡ or_usage (option_map (λ s. file name (Some s)) site)
both_line program name word site h k e =
    both_plain program name word (is_plain name h) (is_plain word k)
    ∙ ap (λ (o : Option (List ℕ)). or_usage (option_map (λ s. file name (Some s)) o)) e

site_plain : (program word : Text) → IsPlain word → options_of (program ∷ codes "--site" ∷ word ∷ []) ≡ Err Usage
unfolding options_of value_of clap_on_literals
site_plain program word p = rw (p.ends, p.long, p.short) refl

pub site_line : (program word : Text) → IsValue word → options_of (program ∷ codes "--site" ∷ word ∷ []) ≡ Err Usage
site_line program word h = site_plain program word (is_plain word h)

stray_plain : (program word : Text) → IsPlain word → options_of (program ∷ word ∷ []) ≡ Err Usage
unfolding options_of value_of clap_on_literals
stray_plain program word p = rw (p.ends, p.long, p.short) refl

pub stray_line : (program word : Text) → IsValue word → options_of (program ∷ word ∷ []) ≡ Err Usage
stray_line program word h = stray_plain program word (is_plain word h)

pub help_line : (program : Text) → options_of (program ∷ codes "--help" ∷ []) ≡ Err Usage
unfolding options_of value_of clap_on_literals
help_line program = refl

pub version_line : (program : Text) → options_of (program ∷ codes "--version" ∷ []) ≡ Err Usage
unfolding options_of value_of clap_on_literals
version_line program = refl
