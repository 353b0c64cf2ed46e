use Rattle.cr_touched.proofs.Wants.{judged_alike, fault_alike}
use Rattle.cr_touched.proofs.laws.inserts_are_judged_alike.Goals as goal

pub returns : goal.returns
returns g c = record { judged = judged_alike; fault = fault_alike }
