use Rattle.std.proofs.Common.{◌∙◌, sym, ap}
use Rattle.std.specs.List.{list_any}
use Rattle.cr_query.specs.Writes.{lacks}
use Rattle.cr_delta.proofs.Zips.{left_over}
use Rattle.cr_wanted.proofs.nulls.has_lacking.Goals as goal

pub returns : goal.returns
returns c =
    let over = left_over c.loop-column.column-iterator c.next.new.self c.next.result c.in-None.is c.next.ensures.steps in
    sym (ap (list_any (lacks c.args.of_key)) over) ∙ c.loop-column.invariant
