use Rattle.std.proofs.Common.{refl}
use Rattle.cr_resolve.specs.Cases.{arms_read}
use Rattle.cr_resolve.proofs.Cases.{is_case}
use Rattle.cr_resolve.proofs.case.case.Goals as goal

pub returns : goal.returns
returns g c =
    is_case (g.K.Naming.known c.args.known.now) c.args.operand (arms_read c.args.arms) c.args.otherwise c.in_ok-arms.arms c.args.arms.is_misplaced c.case_made.result
    c.in_ok-arms.ensures refl c.case_made.ensures
