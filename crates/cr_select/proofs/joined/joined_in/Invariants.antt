use Rattle.std.proofs.Common.{◌≡◌, ◌+◌, map, drop, Some}
use Rattle.cr_resolve.specs.Queries.{of_join, written, joined_from}
use Rattle.cr_select.proofs.Each.{after}
use Rattle.cr_select.proofs.joined.joined_in.Given as goal

abbrev pub invariant-loop-place : goal.invariant-loop-place
invariant-loop-place g l =
    after l.is_misplaced l.made (joined_from (g.K.Naming.known l.known) l.sources (l.place + 1) (map of_join (drop l.place l.tables.joins)) (drop l.place l.rest))
    ≡ joined_from (g.K.Naming.known l.known) l.sources 0 (written (Some l.tables)) l.sources
