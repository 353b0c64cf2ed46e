use Rattle.std.proofs.Common.{◌≡◌, ◌++◌, ◌∷◌, [], cond, find, take, Some, sym, ap, ◌∙◌}
use Rattle.std.specs.Option.{option_copied}
use Rattle.std.proofs.lemmas.List.{take_more}
use Rattle.cr_lattice.specs.Check.{same_bytes}
use Rattle.cr_cells.specs.Tables.{is_named}
use Rattle.cr_world.specs.State.{by_name}
use Rattle.cr_heard.proofs.Named.{found_last}
use Rattle.cr_heard.proofs.keys.table_of.Goals as goal
use Rattle.cr_heard.proofs.keys.table_of.Goals.{then-same_bytes, else-same_bytes}

pub loop-table-preserved : goal.loop-table-preserved
loop-table-preserved c =
    let tables = c.args.tables.now in
    let name = c.args.name.now in
    let i = c.loop-table.table-index in
    let t = c.table-item.result in
    let before = find (is_named name) (by_name (take i tables)) in
    let more = take_more tables i t c.loop-table-test.true ∙ ap (λ u. take i tables ++ u ∷ []) (sym c.table-item.is) in
    let last = ap (λ ts. find (is_named name) (by_name ts)) more ∙ found_last name (take i tables) t in
    let test : c.same_bytes.result ≡ is_named name t
    = c.same_bytes.ensures ∙ ap (λ n. same_bytes n c.as_bytes-in-loop-table.result.now) (c.as_bytes.ensures.value ∙ c.as_str.ensures.value) ∙ ap (same_bytes t.definition.name) c.as_bytes-in-loop-table.ensures.value in
    elim c.if-same_bytes.branch [
      | then-same_bytes w ↦ ap option_copied w.found-is ∙ sym (last ∙ ap (λ b. cond b (Some t) before) (sym test ∙ w.if-same_bytes.true))
      | else-same_bytes w ↦ ap option_copied w.found-is ∙ c.loop-table.invariant ∙ sym (last ∙ ap (λ b. cond b (Some t) before) (sym test ∙ w.if-same_bytes.false))
    ]
