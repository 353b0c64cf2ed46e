use Rattle.std.proofs.Common.{◌∙◌}
use Rattle.cr_modules.proofs.Places.{has_place}
use Rattle.cr_modules.proofs.modules.Modules.has.Goals as goal

pub returns : goal.returns
returns g c = c.is_some.ensures ∙ has_place _ c.args.name.now c.deref.result.now c.args.self.now.list.items c.deref.ensures.value c.place_of.result c.place_of.ensures
