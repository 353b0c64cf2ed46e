use Rattle.std.proofs.Common.{map, rules, sym, ap, ◌∙◌}
use Rattle.std.specs.List.{AllByRecursion}
use Rattle.cr_delta.specs.Key.{key_of, HasKey}
use Rattle.cr_guard.specs.Heard.{are_rising}
use Rattle.cr_guard.proofs.Rising.{sorted, rising}
use Rattle.cr_guard.proofs.heard.are_by_key.Goals as goal

pub returns : goal.returns
returns c =
    let keys : AllByRecursion (HasKey c.args.def.now) c.args.rows.now = search rules in
    let are = c.deref.ensures.value ∙ c.in_ok-keys.ensures in
    let is = c.are_rising.ensures ∙ ap are_rising are in (
      λ e. record { keys = keys; in_order = sorted (map (key_of c.args.def.now) c.args.rows.now) (sym is ∙ e) },
      λ k. is ∙ rising (map (key_of c.args.def.now) c.args.rows.now) k.in_order,
    )
