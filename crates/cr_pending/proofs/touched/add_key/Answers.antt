use Rattle.std.proofs.Common.{ℕ, List, sym, ap, ◌∙◌}
use Rattle.std.specs.BTreeSet.{insert_key}
use Rattle.cr_value.specs.Order.{bytes_cmp}
use Rattle.cr_touched.specs.Parts.{is_key_of}
use Rattle.cr_pending.proofs.Keys.{comes, stays}
use Rattle.cr_pending.proofs.touched.add_key.Goals as goal

pub returns-clause-stay : goal.returns-clause-stay
returns-clause-stay c = λ other e.
    ap (λ (ks : List (List ℕ)). is_key_of ks other) c.in_ok-insert.ensures.keys ∙ stays c.args.keys.now.keys c.in_ok-copy.field-0 other e

pub returns-clause-there : goal.returns-clause-there
returns-clause-there c =
    ap (λ (ks : List (List ℕ)). is_key_of ks c.args.pk.now) c.in_ok-insert.ensures.keys
    ∙ ap (is_key_of (insert_key bytes_cmp c.args.keys.now.keys c.in_ok-copy.field-0)) (sym c.in_ok-copy.ensures)
    ∙ comes c.args.keys.now.keys c.in_ok-copy.field-0
