use Rattle.std.proofs.Common.{◌∙◌, ap}
use Rattle.std.specs.List.{list_any}
use Rattle.cr_hosted.proofs.Naming.{names_one}
use Rattle.cr_hosted.proofs.touching.touches.Goals as goal

pub returns-in-Select : goal.returns-in-Select
returns-in-Select g c = rw c.in-Select.is (c.names_module.ensures ∙ ap (list_any _) c.as_slice.ensures ∙ names_one _ c.in-Select.query)
