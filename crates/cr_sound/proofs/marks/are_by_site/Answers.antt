use Rattle.std.proofs.Common.{rules}
use Rattle.std.specs.Ordering.{is_lt}
use Rattle.std.proofs.lemmas.Cmp.{on_total}
use Rattle.std.proofs.lemmas.Fn.{always_returns_same}
use Rattle.cr_value.specs.OrderLaws.{bytes_total}
use Rattle.cr_cells.specs.Marks.{Mark, mark_cmp}
use Rattle.cr_sound.proofs.Deciding.{order_decided}
use Rattle.cr_sound.proofs.marks.are_by_site.Goals as goal

pub returns : goal.returns
returns c =
    order_decided (on_total (λ (m : Mark). m.0) bytes_total) c.args.marks.now c.is_sorted_by.result
    (c.is_sorted_by.ensures.cases (λ m n. is_lt (mark_cmp m n)) (always_returns_same _ _ _ (λ a r f' called. search rules)))
