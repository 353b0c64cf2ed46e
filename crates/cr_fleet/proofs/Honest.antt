-- The device of a store in memory is always honest.
use Rattle.cr_world.specs.declared.command.Command.{Command}
use Rattle.cr_world.specs.declared.command.FleetReply.{FleetReply}
use Rattle.cr_world.specs.Language.{Language}
use Rattle.cr_world.specs.State.{State}
use Rattle.cr_world.specs.Statement.{Host}
use Rattle.cr_session.specs.Sessions.{Does}

abbrev pub always : {C : Type 0} → C → Type 0
always c = Unit {0}

module _ {C : Type 0} (is_honest is_clean : C → Type 0) (stands : C → State) (old new : C) (is : is_honest new) where
  pub does_always : {S E : Type 0} (l : Language S E) (host : Host) (command : Command) (reply : FleetReply) → Does l host is_honest is_clean stands old command reply new → Does l host always is_clean stands old command reply new
  does_always l host command reply d = record {
    was_honest = λ u. tt;
    was_clean = d.was_clean;
    stays_clean = λ u clean told. d.stays_clean is clean told;
    answers = d.answers;
    leaves = d.leaves;
  }
