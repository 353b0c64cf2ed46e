use Rattle.std.proofs.Common.{ap, ◌++◌, ◌∙◌, rules, SFits, w64}
use Rattle.std.specs.Prelude.{int_lt}
use Rattle.std.proofs.lemmas.Fn.{filter_same}
use Rattle.cr_recent.proofs.keys.push_above.Goals as goal

pub returns : goal.returns
returns c =
    let fits : SFits w64 c.args.version = c.ranges.version in
    c.in_ok-append.ensures.items
    ∙ ap (λ l. c.args.found.now.items ++ l) (filter_same _ (λ s. int_lt c.args.version s.version) _ (λ x b f' called. search rules) _ _ c.retain.ensures.filtered)
