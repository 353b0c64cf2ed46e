use Rattle.cr_pushdown.proofs.Orders.{all_stay}
use Rattle.cr_pushdown.proofs.scan.Scan.new.Goals as goal

pub returns-clause-stands : goal.returns-clause-stands
returns-clause-stands c = record { sorted = c.requires.sorted; of = c.requires.of; left = all_stay c.args.own.now }
