use Rattle.std.proofs.Common.{not, ap, ◌∙◌}
use Rattle.sqlite.specs.Held.{state}
use Rattle.cr_store.specs.Schema.{schema_of}
use Rattle.cr_store.proofs.OpenTexts.{select_old, first_10, old_names, asks_old}
use Rattle.cr_store.proofs.AskedRows.{asked, is_plain}
use Rattle.cr_store.proofs.StoreLemmas.{if_then}
use Rattle.cr_store.proofs.asking.old_rows.Goals as goal

pub returns-clause-found : goal.returns-clause-found
returns-clause-found g c clean format has =
    let old = state g.S.Store c.args.conn.now in
    let new = state g.S.Store c.ask.new.conn in
    if_then c.ask.result _ _ (λ rows h. asked (schema_of format) select_old 4 first_10 old_names (asks_old format) old new rows.items has h) (c.ask.ensures.found clean)

pub returns-clause-asks : goal.returns-clause-asks
returns-clause-asks g c clean format has =
    let old = state g.S.Store c.args.conn.now in
    let new = state g.S.Store c.ask.new.conn in
    let was_open = c.ask.ensures.was_open clean in
    record {
      was_open = was_open;
      same = λ it. c.ask.ensures.same clean (is_plain (schema_of format) select_old 4 first_10 old_names (asks_old format) old new has) (c.is_autocommit.ensures.settled (c.is_autocommit.ensures.value ∙ ap not c.requires.mode) (was_open it)) it;
    }
