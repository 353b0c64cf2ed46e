use Rattle.std.proofs.Common.{◌≡◌, ◌+◌, suc, pos, length, take, rules, ap, sym, ◌∙◌, w64, arith}
use Rattle.std.proofs.lemmas.Int.{to_z-of_z}
use Rattle.std.proofs.lemmas.List.{length-take-le}
use Rattle.std.specs.List.{position_or_len}
use Rattle.cr_cells.specs.Tables.{is_named}
use Rattle.cr_store.proofs.OrdinalLemmas.{place_found, place_past, place_within}
use Rattle.cr_store.proofs.ordinals.ordinal.Goals as goal

pub returns-in-Some : goal.returns-in-Some
returns-in-Some c =
    let is = sym c.place.ensures.is ∙ c.in-Some.is in
    let place = place_found c.args.tables.now c.args.name.now c.in-Some.place is in
    let within = place_within c.args.tables.now c.args.name.now c.in-Some.place is in
    let before = length-take-le c.in-Some.place c.args.tables.now (omega (arith, within)) in
    let one : 1 + length (take c.in-Some.place c.args.tables.now) ≡ suc (position_or_len (is_named c.args.name.now) c.args.tables.now) = omega (arith, before, place) in
    to_z-of_z w64 c.next_ordinal.result (search rules) ∙ c.next_ordinal.ensures ∙ ap pos one

pub returns-in-None : goal.returns-in-None
returns-in-None c =
    let past = place_past c.args.tables.now c.args.name.now (sym c.place.ensures.is ∙ c.in-None.is) in
    let one : 1 + length c.args.tables.now ≡ suc (position_or_len (is_named c.args.name.now) c.args.tables.now) = omega (arith, past) in
    to_z-of_z w64 c.next_ordinal-in-None.result (search rules) ∙ c.next_ordinal-in-None.ensures ∙ ap pos one
