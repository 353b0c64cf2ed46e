use Rattle.std.proofs.Common.{rules, ◌≡◌, ◌↔◌, List, sym, ap, subst, ◌∙◌}
use Rattle.std.specs.Prelude.{IsSome}
use Rattle.cr_value.specs.declared.value.Value.{Value}
use Rattle.cr_guard.specs.Heard.{AreByKey, heard}
use Rattle.cr_heard.proofs.Own.{joined_rows, joined_sound}
use Rattle.cr_heard.proofs.heard.heard_of_keys.Goals as goal

pub returns-in_default-2-clause-keyed : goal.returns-in_default-2-clause-keyed
returns-in_default-2-clause-keyed c =
    let def = c.args.touched.now.definition in
    let same = joined_rows def c.args.kept.now c.args.changes.now c.as_str.result.now c.deref.result.now c.deref-2.result.now
    c.as_str.ensures.value (c.deref.ensures.value ∙ c.in_ok-own.ensures) (c.deref-2.ensures.value ∙ c.in_ok-joined.ensures) in
    let after : IsSome c.in_ok-after.field-0 ↔ _ = subst (λ (rs : List (List Value)). IsSome c.in_ok-after.field-0 ↔ AreByKey def rs) same c.in_ok-after.ensures.keyed in
    search rules

pub returns-in_default-2-clause-sound : goal.returns-in_default-2-clause-sound
returns-in_default-2-clause-sound c sound =
    let def = c.args.touched.now.definition in
    let still = joined_sound def c.args.kept.now c.args.changes.now c.as_str.result.now c.deref.result.now c.deref-2.result.now
    c.as_str.ensures.value (c.deref.ensures.value ∙ c.in_ok-own.ensures) (c.deref-2.ensures.value ∙ c.in_ok-joined.ensures) sound.1 in
    let some = c.in_ok-after.ensures.sound still in
    search rules

pub returns-clause-heard : goal.returns-clause-heard
returns-clause-heard c =
    let def = c.args.touched.now.definition in
    let same = joined_rows def c.args.kept.now c.args.changes.now c.as_str.result.now c.deref.result.now c.deref-2.result.now
    c.as_str.ensures.value (c.deref.ensures.value ∙ c.in_ok-own.ensures) (c.deref-2.ensures.value ∙ c.in_ok-joined.ensures) in
    let after = c.in_ok-after.ensures.rows in
    rw (← same) (search rules)

pub returns-clause-keyed : goal.returns-clause-keyed
returns-clause-keyed c =
    let def = c.args.touched.now.definition in
    let same = joined_rows def c.args.kept.now c.args.changes.now c.as_str.result.now c.deref.result.now c.deref-2.result.now
    c.as_str.ensures.value (c.deref.ensures.value ∙ c.in_ok-own.ensures) (c.deref-2.ensures.value ∙ c.in_ok-joined.ensures) in
    let after : IsSome c.in_ok-after.field-0 ↔ _ = subst (λ (rs : List (List Value)). IsSome c.in_ok-after.field-0 ↔ AreByKey def rs) same c.in_ok-after.ensures.keyed in
    search rules
