use Rattle.std.proofs.Common.{◌≡◌, Some, drop}
use Rattle.cr_bags.specs.Bags.{each, joins}
use Rattle.cr_plan.specs.Orders.{order_of}
use Rattle.cr_plan.proofs.order.all_orders.Given as goal

-- the orders so far and those of the terms that are left
abbrev pub invariant-loop-term : goal.invariant-loop-term
invariant-loop-term l = joins (Some l.orders.items) (each order_of (drop l.term-index l.terms)) ≡ each order_of l.terms
