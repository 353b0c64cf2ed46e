use Rattle.std.proofs.Common.{◌∙◌}
use Rattle.sqlite.specs.Held.{state}
use Rattle.cr_store.proofs.KnownLemmas.{schema_shown}
use Rattle.cr_store.proofs.store.Store.open.Goals as goal

pub returns-in-None-clause-damaged : goal.returns-in-None-clause-damaged
returns-in-None-clause-damaged g c clean h can held = c.in-None.ensures held.0 (c.schema.ensures.value ∙ schema_shown held.0 (state g.S.Store c.args.conn).now h held.1.shows)
