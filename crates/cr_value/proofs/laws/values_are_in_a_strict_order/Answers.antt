use Rattle.cr_value.specs.OrderLaws.{value_total, value_exact}
use Rattle.cr_value.proofs.laws.values_are_in_a_strict_order.Goals as goal

pub returns : goal.returns
returns c = record { total = value_total; only_equal_values_tie = value_exact }
