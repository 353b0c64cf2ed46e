-- The policy behind a command that adds no rule.
use Rattle.std.proofs.Common.{◌≡◌, true, refl}
use Rattle.cr_guard.specs.Policy.{Rules}
use Rattle.cr_world.specs.declared.command.Command.{Command}
use Rattle.cr_world.specs.declared.command.Command.TheVariants.{Open, Use, Define, Take, Rows, Changes, Pull, PullSince, Policy, Sql}
use Rattle.cr_world.specs.declared.command.FleetReply.{FleetReply}
use Rattle.cr_world.specs.declared.command.FleetReply.TheVariants.{Refused}
use Rattle.cr_world.specs.declared.refusal.Refusal.{Refusal}
use Rattle.cr_session.specs.Sessions.{is_own}
use Rattle.cr_fleet.specs.Fleets.{rules_after}

-- of one that a replica carries out by itself
pub own_rules : (c : Command) (r : FleetReply) (rules : Rules) → is_own c ≡ true → rules_after c r rules ≡ rules
own_rules (Define declaration) r rules own = refl
own_rules (Take row) r rules own = refl
own_rules (Rows name) r rules own = refl
own_rules (Changes n) r rules own = refl
own_rules (Sql text) r rules own = refl
own_rules (Open name site) r rules own = absurd cc
own_rules (Use name) r rules own = absurd cc
own_rules (Pull name) r rules own = absurd cc
own_rules (PullSince name) r rules own = absurd cc
own_rules (Policy rule) r rules own = absurd cc

-- of one that is refused
pub refused_rules : (c : Command) (why : Refusal) (rules : Rules) → rules_after c (Refused why) rules ≡ rules
refused_rules (Define declaration) why rules = refl
refused_rules (Take row) why rules = refl
refused_rules (Rows name) why rules = refl
refused_rules (Changes n) why rules = refl
refused_rules (Sql text) why rules = refl
refused_rules (Open name site) why rules = refl
refused_rules (Use name) why rules = refl
refused_rules (Pull name) why rules = refl
refused_rules (PullSince name) why rules = refl
refused_rules (Policy rule) why rules = refl
