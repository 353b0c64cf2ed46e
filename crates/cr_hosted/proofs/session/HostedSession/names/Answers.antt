use Rattle.std.proofs.Common.{ap}
use Rattle.cr_session.specs.Performing.{placed}
use Rattle.cr_hosted.proofs.Naming.{named_beside}
use Rattle.cr_hosted.proofs.session.HostedSession.names.Goals as goal

pub returns-clause-names : goal.returns-clause-names
returns-clause-names g c = λ clean.
    let read = c.in-Ok.ensures.names clean in
    record { same = ap (placed _) read.same; names = named_beside _ _ c.in-Ok.names c.in_ok-names.field-0 c.in_ok-names.ensures read.names }
