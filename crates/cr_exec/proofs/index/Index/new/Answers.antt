use Rattle.std.proofs.Common.{rules, refl, ap, map}
use Rattle.cr_exec.specs.Groups.{row_there}
use Rattle.cr_exec.specs.LookUps.{by_place}
use Rattle.cr_exec.proofs.Indexed.{is_index, place_total}
use Rattle.cr_exec.proofs.Runs.{sorted_so, stable_so}
use Rattle.cr_exec.proofs.index.Index.new.Goals as goal

pub returns : goal.returns
returns c =
    let place = c.args.place in
    let refs = c.in_ok-rows.rows.items in
    let rows = c.sort_by.new.self.items in
    is_index place (map row_there c.args.rows.now) refs (record { place = place; rows = c.sort_by.new.self }) refl (ap (map row_there) c.in_ok-rows.ensures)
    (sorted_so (by_place place) (place_total place) (λ a r f' k. search rules) rows c.in_ok-sort_by.ensures.sorted)
    (stable_so (by_place place) (place_total place) (λ a r f' k. search rules) refs rows c.sort_by.ensures.stable)
