use Rattle.std.proofs.Common.{◌≡◌, List, [], ℤ, map, SFits, w64, to_z-of_z, sym, ap, ◌∙◌}
use Rattle.std.specs.Prelude.{filter, int_lt}
use Rattle.cr_recent.specs.declared.keys.Key.{Key}
use Rattle.cr_recent.specs.declared.notes.Note.{Note}
use Rattle.cr_recent.specs.Notes.{Noted, noted_above, notes_in}
use Rattle.cr_recent.proofs.notes.Notes.keys_above.Goals as goal

pub returns-in_ok-keys_above-in-Some : goal.returns-in_ok-keys_above-in-Some
unfolding noted_above
returns-in_ok-keys_above-in-Some c =
    let fits : SFits w64 c.args.version = c.ranges.version in
    let of : List Note → ℤ → List Key = λ notes version. map (λ (n : Note). n.key) (filter (λ (n : Note). int_lt version n.version) notes) in
    let held : c.deref.result.now ≡ c.args.self.now.notes = c.deref.ensures.value ∙ ap notes_in (sym c.in-Some.is) ∙ ap (λ (n : Noted). n.notes) c.self.view_is in
    let keys : c.in_ok-keys_above-in-Some.field-0.items ≡ of c.args.self.now.notes c.args.version =
    c.in_ok-keys_above-in-Some.ensures ∙ ap (of c.deref.result.now) (to_z-of_z fits) ∙ ap (λ notes. of notes c.args.version) held in
    rw (← keys) c.in_order.ensures

pub returns-in-None : goal.returns-in-None
unfolding noted_above
returns-in-None c =
    let held : [] ≡ c.args.self.now.notes = ap notes_in (sym c.in-None.is) ∙ ap (λ (n : Noted). n.notes) c.self.view_is in
    rw (← held) c.new.ensures.items
