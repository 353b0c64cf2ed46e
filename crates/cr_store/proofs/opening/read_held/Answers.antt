use Rattle.sqlite.specs.Held.{state}
use Rattle.cr_store.proofs.HeldLemmas.{found_held, damaged_none}
use Rattle.cr_store.proofs.opening.read_held.Goals as goal

pub returns-in-Ok-clause-found : goal.returns-in-Ok-clause-found
returns-in-Ok-clause-found g c clean has =
    let old = state g.S.Store c.args.conn.now in
    let rows = c.in-Ok.rows in
    let read = c.in-Ok.ensures.found clean has in
    let sound = (c.requires.live ((c.in-Ok.ensures.asks clean has).was_open read.0)).0 in
    found_held c.args.format old.now has rows.meta.items rows.tables.items rows.old.items rows.cells.items rows.marks.items read.1 sound c.known_in.result c.known_in.ensures

pub returns-in-Ok-clause-damaged : goal.returns-in-Ok-clause-damaged
returns-in-Ok-clause-damaged g c clean it has =
    let old = state g.S.Store c.args.conn.now in
    let rows = c.in-Ok.rows in
    let read = c.in-Ok.ensures.found clean has in
    damaged_none c.args.format old.now has rows.meta.items rows.tables.items rows.old.items rows.cells.items rows.marks.items read.1 c.known_in.result c.known_in.ensures
