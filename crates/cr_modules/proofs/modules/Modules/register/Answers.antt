use Rattle.std.specs.Result.{is_ok}
use Rattle.cr_modules.proofs.Naming.{pushed}
use Rattle.cr_modules.proofs.Places.{free_name}
use Rattle.cr_modules.proofs.modules.Modules.register.Goals as goal

pub invariant_of-self : goal.invariant_of-self
invariant_of-self g c = record {
  distinct = pushed (λ r. r.name) (is_ok c.push.result) c.args.self.now.list.items c.push.new.self.items c.new.result c.in_ok-name.name c.push.ensures.items c.new.ensures.name c.args.self.now.distinct
      (free_name _ c.in_ok-name.name c.args.tables.now c.args.self.now.list.items c.in_ok-check_name.ensures.free);
}
