use Rattle.std.proofs.Common.{sym, ap, ◌∙◌, subst}
use Rattle.std.specs.Prelude.{filter}
use Rattle.cr_lattice.specs.Rows.{is_alive, is_of_row}
use Rattle.cr_delta.specs.Adds.{Adds}
use Rattle.cr_delta.specs.Delta.{row_delta}
use Rattle.cr_delta.proofs.Members.{row_delta_stays, row_delta_comes}
use Rattle.cr_delta.proofs.Wholes.{row_delta_of_run}
use Rattle.cr_delta.proofs.delta.add_row.Goals as goal

pub returns-then-is_alive : goal.returns-then-is_alive
returns-then-is_alive c =
    let def = c.args.def.now in
    let pk = c.args.pk.now in
    let run = c.row_run-run.result.now in
    let run_is = c.row_run-run.ensures ∙ ap (λ t. filter (is_of_row t pk) c.args.kept.now) c.as_str-table.ensures.value in
    let alive = ap (λ t. is_alive run t pk) (sym c.as_str-table.ensures.value) ∙ sym c.is_alive.ensures ∙ c.if-is_alive.true in
    subst (λ cs. Adds c.add_update.result c.args.out.now.items c.add_update.new.out.items cs)
    (sym (row_delta_stays def c.args.site.now run pk c.args.row.now alive)
    ∙ ap (λ cs. row_delta def c.args.site.now cs pk c.args.row.now) run_is
    ∙ row_delta_of_run def c.args.site.now c.args.kept.now pk c.args.row.now)
    c.add_update.ensures

pub returns-else-is_alive : goal.returns-else-is_alive
returns-else-is_alive c =
    let def = c.args.def.now in
    let pk = c.args.pk.now in
    let run = c.row_run-run.result.now in
    let run_is = c.row_run-run.ensures ∙ ap (λ t. filter (is_of_row t pk) c.args.kept.now) c.as_str-table.ensures.value in
    let absent = ap (λ t. is_alive run t pk) (sym c.as_str-table.ensures.value) ∙ sym c.is_alive.ensures ∙ c.if-is_alive.false in
    subst (λ cs. Adds c.add_arrival.result c.args.out.now.items c.add_arrival.new.out.items cs)
    (sym (row_delta_comes def c.args.site.now run pk c.args.row.now absent)
    ∙ ap (λ cs. row_delta def c.args.site.now cs pk c.args.row.now) run_is
    ∙ row_delta_of_run def c.args.site.now c.args.kept.now pk c.args.row.now)
    c.add_arrival.ensures
