use Rattle.std.proofs.Common.{◌≡◌, drop}
use Rattle.cr_sought.specs.Sought.{joined_keys}
use Rattle.cr_sought.proofs.joined.joined_keys.Given as goal

abbrev pub invariant-loop-partner : goal.invariant-loop-partner
invariant-loop-partner l =
    joined_keys l.lookup.base l.lookup.definition.now l.lookup.params.now l.lookup.terms.now (drop l.partner-index l.partners)
    ≡ joined_keys l.lookup.base l.lookup.definition.now l.lookup.params.now l.lookup.terms.now l.partners
