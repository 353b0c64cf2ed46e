-- Tests of the arms of a CASE.
use Rattle.cr_term.specs.declared.expr.When.{When}
use Rattle.cr_term.specs.Same.{ArmTest, test}

abbrev pub arm_test_of : When → ArmTest
arm_test_of w = record { when = test w.when; gives = test w.then }
