use Rattle.std.proofs.Common.{◌++◌, ◌∷◌, [], take, sym, ap, ◌∙◌}
use Rattle.std.specs.List.{filter_map}
use Rattle.std.specs.Option.{option_map, option_copied, option_to_list}
use Rattle.std.proofs.lemmas.List.{append-nil}
use Rattle.cr_delta.specs.Key.{key_of}
use Rattle.cr_guard.specs.Heard.{became, event, event_at, row_at}
use Rattle.cr_guard.proofs.Finding.{more_of}
use Rattle.cr_guard.proofs.heard.heard.Goals as goal
use Rattle.cr_guard.proofs.heard.heard.Goals.{in-Some+in_ok-event+in_ok-push, in_default}

pub loop-pk-preserved : goal.loop-pk-preserved
loop-pk-preserved c =
    let def = c.args.def.now in
    let f = event_at def c.args.before.now c.args.after.now in
    let pk = c.pk-item.result in
    let told = filter_map f (take c.loop-pk.pk-index c.deref-pk-items.result.now) in
    let was = c.find_row-was.ensures (key_of def) (c.deref.ensures.value ∙ c.in_ok-before_keys.ensures) in
    let is = c.find_row-is.ensures (key_of def) (c.deref-in-loop-pk.ensures.value ∙ c.in_ok-after_keys.ensures) in
    let kind = c.became.ensures ∙ ap (λ o. became o (option_copied c.find_row-is.result)) was ∙ ap (became (row_at def c.args.before.now pk)) is in
    let more = more_of f c.deref-pk-items.result.now c.loop-pk.pk-index pk c.loop-pk-test.true c.pk-item.is in
    elim c.match-became.branch [
      | in-Some+in_ok-event+in_ok-push w ↦
          ap (λ v. v.items) w.events-is
          ∙ w.in_ok-push.ensures.items
          ∙ ap (λ e. c.loop-pk.events.items ++ e ∷ []) w.in_ok-event.ensures
          ∙ ap (λ es. es ++ event def.name pk w.in-Some.kind ∷ []) c.loop-pk.invariant
          ∙ ap (λ o. told ++ option_to_list (option_map (event def.name pk) o)) (sym w.in-Some.is ∙ kind)
          ∙ sym more
      | in_default w ↦
          ap (λ v. v.items) w.events-is
          ∙ c.loop-pk.invariant
          ∙ sym (append-nil told)
          ∙ ap (λ o. told ++ option_to_list (option_map (event def.name pk) o)) (sym w.in_default.is ∙ kind)
          ∙ sym more
    ]
