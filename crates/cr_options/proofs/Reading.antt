-- From what clap promises of a parse to what the words ask.
use Rattle.std.proofs.Common.{◌≡◌, ◌∙◌, ◌⊎◌, inl, inr, sym, ap, subst, refl, Err, true, List, [], ◌∷◌, codes}
use Rattle.clap.specs.Words.{App, HasKind, HasMatchesOf, IsAmong, Kinds, Text, first_of, first_value, found_of}
use Rattle.clap.specs.Words.{is_simple, kind_of, matches_of, rows_of}
use Rattle.clap.specs.Faults.{fault_of, is_simple_and_free}
use Rattle.clap.specs.declared.error.Error.{Error}
use Rattle.clap.specs.declared.error.kind.ErrorKind.{ErrorKind}
use Rattle.clap.specs.declared.error.kind.ErrorKind.TheVariants.{OutOfMemory}
use Rattle.clap.specs.declared.parser.matches.ArgMatches.{ArgMatches}
use Rattle.clap.proofs.WalkLemmas.{first_value-rows}
use Rattle.cr_options.specs.declared.stop.Stop.TheVariants.{Store, Usage}
use Rattle.cr_options.specs.Options.{chosen, command_line, options_of, or_usage, refusal_of, value_of}

is_simple_line : is_simple command_line ≡ true
is_simple_line = refl

is_free_line : is_simple_and_free command_line ≡ true
is_free_line = refl

store_or_usage : (kind : ErrorKind) → (refusal_of kind ≡ Store) ⊎ (refusal_of kind ≡ Usage)
store_or_usage OutOfMemory = inl refl
store_or_usage _ = inr refl

at_fault : (words : List Text) (kind : ErrorKind) (kinds : Kinds) → fault_of command_line words ≡ kinds → IsAmong kind kinds
    → options_of words ≡ Err Usage
unfolding options_of
at_fault words kind [] e h = absurd h
at_fault words kind (k ∷ ks) e h = rw e refl

refused_line : (words : List Text) (error : Error) → HasKind (fault_of command_line words) error
    → (refusal_of (kind_of error) ≡ Store) ⊎ (options_of words ≡ Err (refusal_of (kind_of error)))
refused_line words error (inl memory) = inl (ap refusal_of memory)
refused_line words error (inr among) = elim (store_or_usage (kind_of error)) [
  | inl store ↦ inl store
  | inr usage ↦ inr (at_fault words (kind_of error) _ refl among ∙ ap Err (sym usage))
]

-- clap fails for want of memory, or the words are refused
pub refused : (app : App) (words : List Text) (error : Error) → app ≡ command_line
    → (is_simple_and_free app ≡ true → HasKind (fault_of app words) error)
    → (refusal_of (kind_of error) ≡ Store) ⊎ (options_of words ≡ Err (refusal_of (kind_of error)))
refused app words error same fails = refused_line words error
    (subst (λ (a : App). HasKind (fault_of a words) error) same (fails (ap is_simple_and_free same ∙ is_free_line)))

answered_line : (words : List Text) (m : ArgMatches) → fault_of command_line words ≡ []
    → rows_of (found_of m) ≡ matches_of command_line words
    → options_of words ≡ or_usage (chosen (first_value (found_of m) (codes "db")) (first_value (found_of m) (codes "site")))
unfolding options_of value_of
answered_line words m faultless rows =
    let given : (name : Text) → first_of name (matches_of command_line words) ≡ first_value (found_of m) name =
    λ name. ap (first_of name) (sym rows) ∙ sym (first_value-rows (found_of m) name) in
    rw (faultless, given (codes "db"), given (codes "site")) refl

-- the words ask what the values of the two options do
pub answered : (app : App) (words : List Text) (m : ArgMatches) → app ≡ command_line
    → (is_simple_and_free app ≡ true → fault_of app words ≡ []) → HasMatchesOf app words m
    → options_of words ≡ or_usage (chosen (first_value (found_of m) (codes "db")) (first_value (found_of m) (codes "site")))
answered app words m same faultless matches = answered_line words m
    (subst (λ (a : App). fault_of a words ≡ []) same (faultless (ap is_simple_and_free same ∙ is_free_line)))
    (subst (λ (a : App). rows_of (found_of m) ≡ matches_of a words) same (matches (ap is_simple same ∙ is_simple_line)).0)
