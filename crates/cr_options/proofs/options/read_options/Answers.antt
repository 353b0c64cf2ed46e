use Rattle.std.proofs.Common.{rules, ◌≡◌, ◌∙◌, ◌⊎◌, inr, ap, ap₂, sym, subst, Err, map}
use Rattle.std.specs.String.{string_bytes}
use Rattle.clap.specs.Words.{app_of}
use Rattle.cr_options.specs.declared.stop.Stop.{Stop}
use Rattle.cr_options.specs.declared.stop.Stop.TheVariants.{Store}
use Rattle.cr_options.specs.Options.{chosen, command_line, options_of, or_usage}
use Rattle.cr_options.proofs.Reading.{answered, refused}
use Rattle.cr_options.proofs.options.read_options.Goals as goal

pub returns-in-Err-clause-refusal : goal.returns-in-Err-clause-refusal
returns-in-Err-clause-refusal c =
    let same : app_of c.in-Ok.command ≡ command_line = search rules in
    subst (λ (stop : Stop). (stop ≡ Store) ⊎ (options_of (map string_bytes c.args.words.now) ≡ Err stop)) (sym c.refusal.ensures)
    (refused (app_of c.in-Ok.command) (map string_bytes c.args.words.now) c.in-Err.error same c.in-Err.ensures.kinds)

pub returns-in-Some-clause-answer : goal.returns-in-Some-clause-answer
returns-in-Some-clause-answer c =
    let same : app_of c.in-Ok.command ≡ command_line = search rules in
    let parse = c.in-Ok-try_get_matches_from in
    answered (app_of c.in-Ok.command) (map string_bytes c.args.words.now) parse.matches same parse.ensures.kinds parse.ensures.matches
    ∙ ap or_usage (ap₂ chosen (sym c.get_str.ensures) (sym c.get_str-2.ensures) ∙ sym c.in-Some.ensures)

pub returns-clause-refusal : goal.returns-clause-refusal
returns-clause-refusal c =
    let same : app_of c.in-Ok.command ≡ command_line = search rules in
    let parse = c.in-Ok-try_get_matches_from in
    inr (answered (app_of c.in-Ok.command) (map string_bytes c.args.words.now) parse.matches same parse.ensures.kinds parse.ensures.matches
    ∙ ap or_usage (ap₂ chosen (sym c.get_str.ensures) (sym c.get_str-2.ensures) ∙ sym c.in-None.ensures))
