use Rattle.std.proofs.Common.{List, get_or, ap, ◌∙◌}
use Rattle.cr_store.specs.declared.stored.MetaEntry.{MetaEntry}
use Rattle.cr_store.proofs.opening.meta_in.Goals as goal

pub returns-in_err-version : goal.returns-in_err-version
returns-in_err-version c =
    rw c.from_residual-in_err-version.ensures (λ site version wide is. c.in_err-version.ensures version (c.version-item.is ∙ ap (λ (all : List MetaEntry). get_or all 0 c.version-item.result) is))
