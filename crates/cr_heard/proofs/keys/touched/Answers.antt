use Rattle.std.proofs.Common.{◌++◌, ◌∷◌, [], take, sym, ap, ◌∙◌}
use Rattle.std.specs.List.{filter_map}
use Rattle.std.specs.Option.{option_to_list}
use Rattle.std.proofs.lemmas.List.{append-nil, take_all}
use Rattle.cr_guard.proofs.Finding.{more_of}
use Rattle.cr_heard.specs.Touched.{touched_named}
use Rattle.cr_heard.proofs.ByName.{touched_by_names}
use Rattle.cr_heard.proofs.keys.touched.Goals as goal
use Rattle.cr_heard.proofs.keys.touched.Goals.{in-Some+in_ok-push, in_default}

pub loop-name-preserved : goal.loop-name-preserved
loop-name-preserved c =
    let f = touched_named c.args.tables.now c.args.changes.now in
    let names = c.deref-name-items.result.now in
    let told = filter_map f (take c.loop-name.name-index names) in
    let given = c.in_ok-one.ensures ∙ ap f c.as_str.ensures.value in
    let more = more_of f names c.loop-name.name-index c.name-item.result c.loop-name-test.true c.name-item.is in
    elim c.match-branch-3.branch [
      | in-Some+in_ok-push w ↦
          ap (λ v. v.items) w.all-is
          ∙ w.in_ok-push.ensures.items
          ∙ ap (λ ts. ts ++ w.in-Some.one ∷ []) c.loop-name.invariant
          ∙ ap (λ o. told ++ option_to_list o) (sym w.in-Some.is ∙ given)
          ∙ sym more
      | in_default w ↦
          ap (λ v. v.items) w.all-is
          ∙ c.loop-name.invariant
          ∙ sym (append-nil told)
          ∙ ap (λ o. told ++ option_to_list o) (sym w.in_default.is ∙ given)
          ∙ sym more
    ]

pub returns : goal.returns
returns c =
    let f = touched_named c.args.tables.now c.args.changes.now in
    c.loop-name.invariant
    ∙ ap (filter_map f) (take_all c.loop-name.name-index c.deref-name-items.result.now c.loop-name-test.false ∙ c.deref-name-items.ensures.value ∙ c.in_ok-names.ensures)
    ∙ touched_by_names c.args.tables.now c.args.changes.now
