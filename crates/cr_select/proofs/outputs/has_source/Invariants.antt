use Rattle.std.proofs.Common.{◌≡◌, drop}
use Rattle.std.specs.List.{list_any}
use Rattle.std.specs.Str.{bytes_eq}
use Rattle.cr_select.proofs.outputs.has_source.Given as goal

abbrev pub invariant-loop-source : goal.invariant-loop-source
invariant-loop-source l = list_any (λ s. bytes_eq l.name s.name) (drop l.source-index l.sources) ≡ list_any (λ s. bytes_eq l.name s.name) l.sources
