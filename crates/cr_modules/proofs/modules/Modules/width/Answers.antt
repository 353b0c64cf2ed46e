use Rattle.std.proofs.Common.{◌∙◌, ap, sym}
use Rattle.cr_modules.specs.States.{module_width}
use Rattle.cr_modules.proofs.Places.{not_there, there}
use Rattle.cr_modules.proofs.modules.Modules.width.Goals as goal

pub returns-in-Some : goal.returns-in-Some
returns-in-Some g c =
    c.width.ensures
    ∙ sym (ap module_width (there _ c.args.name.now c.deref.result.now c.args.self.now.list.items c.deref.ensures.value c.in-Some.at c.index.result.now c.in-Some.ensures c.index.ensures))

pub returns-in-None : goal.returns-in-None
returns-in-None g c = sym (ap module_width (not_there _ c.args.name.now c.deref.result.now c.args.self.now.list.items c.deref.ensures.value c.in-None.ensures))
