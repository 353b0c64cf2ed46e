use Rattle.std.proofs.Common.{rules}
use Rattle.std.proofs.lemmas.Fn.{always_returns_same}
use Rattle.cr_lattice.specs.Rows.{has_lesser_key}
use Rattle.cr_lattice.proofs.KeyLemmas.{by_key_order, sorted_by_row}
use Rattle.cr_lattice.proofs.rows.changes_by_key.Goals as goal

pub returns-clause-same : goal.returns-clause-same
returns-clause-same c =
    sorted_by_row c.args.table.now c.args.kept.now _ _ c.in_ok-changes.ensures
    (c.in_ok-sort_by.ensures.stable has_lesser_key by_key_order (always_returns_same _ _ _ (λ a r f' called. search rules)))

pub returns-clause-sorted : goal.returns-clause-sorted
returns-clause-sorted c = c.in_ok-sort_by.ensures.sorted has_lesser_key by_key_order (always_returns_same _ _ _ (λ a r f' called. search rules))
