use Rattle.std.proofs.Common.{◌≡◌, drop}
use Rattle.std.specs.List.{flat_map}
use Rattle.cr_resolved.specs.Fits.{seen_with, term_params}
use Rattle.cr_resolved.proofs.fits.with_terms.Given as goal

abbrev pub invariant-loop-term : goal.invariant-loop-term
invariant-loop-term l = seen_with l.seen (flat_map term_params (drop l.term-index l.terms)) ≡ seen_with l.initial.seen (flat_map term_params l.terms)
