use Rattle.std.proofs.Common.{option_map}
use Rattle.cr_session.proofs.Seeing.{names_standing}
use Rattle.cr_session.proofs.session.Session.names.Goals as goal

pub returns-clause-names : goal.returns-clause-names
returns-clause-names g c = λ clean.
    names_standing g.C.Cells.holding c.args.self.now c.self.inside.replica c.names.new.self (option_map (λ p. p.1) c.self.inside.pending) c.self.view_is c.names.result (c.names.ensures.reads clean)
