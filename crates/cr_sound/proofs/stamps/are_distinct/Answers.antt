use Rattle.std.proofs.Common.{◌≡◌, rules, subst}
use Rattle.std.specs.Ordering.{is_lt}
use Rattle.std.specs.List.{IsAllAdjacentAnswer}
use Rattle.std.proofs.lemmas.Fn.{always_returns_same}
use Rattle.cr_sound.proofs.StampLemmas.{pair_cmp, distinct_decided}
use Rattle.cr_sound.proofs.stamps.are_distinct.Goals as goal

pub returns : goal.returns
returns c =
    distinct_decided c.args.stamps.items c.sort_unstable.new.self.items c.is_sorted_by.result c.sort_unstable.ensures.permutation c.sort_unstable.ensures.sorted
    (subst (λ l. IsAllAdjacentAnswer (λ a b t. t ≡ is_lt (pair_cmp a b)) l c.is_sorted_by.result) c.deref.ensures.value
    (c.is_sorted_by.ensures.cases (λ a b. is_lt (pair_cmp a b)) (always_returns_same _ _ _ (λ a r f' called. search rules))))
