use Rattle.std.proofs.Common.{◌∙◌, ap, map}
use Rattle.cr_delta.specs.Key.{key_of}
use Rattle.cr_query.specs.Writes.{by_key}
use Rattle.cr_wanted.proofs.Sets.{values-under}
use Rattle.cr_wanted.proofs.by_key.by_key.Goals as goal

pub returns-in_ok-rows-in-Some : goal.returns-in_ok-rows-in-Some
returns-in_ok-rows-in-Some c =
    let h = rw c.in-Some.is at c.in_ok-under_keys.ensures in
    (h.0, c.in_ok-rows-in-Some.ensures ∙ ap (map (λ e. e.1)) h.1 ∙ values-under (key_of c.args.def.now) (by_key c.args.def.now c.args.rows.items))
