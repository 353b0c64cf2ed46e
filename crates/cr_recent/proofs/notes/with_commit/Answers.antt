use Rattle.std.proofs.Common.{◌≡◌, ◌+◌, ◌<◌, ◌≤◌, ℤ, true, false, List, ◌++◌, length, SFits, w64, to_z-of_z, sym, ap, ◌∙◌, arith}
use Rattle.std.proofs.lemmas.Bool.Decides.{nat_tests}
use Rattle.cr_lattice.specs.declared.change.Change.{Change}
use Rattle.cr_lattice.specs.Sets.{set_of}
use Rattle.cr_recent.specs.declared.notes.Note.{Note}
use Rattle.cr_recent.specs.declared.notes.TheConstants.{ROWS}
use Rattle.cr_recent.specs.Notes.{key_cmp, touched, has_room, notes_at, notes_in}
use Rattle.cr_recent.proofs.notes.with_commit.Goals.{in-Some, in-None}
use Rattle.cr_recent.proofs.notes.with_commit.Goals as goal

no_room : (notes : List Note) (changes : List Change) → ROWS < (length notes + length changes) → has_room notes changes ≡ false
no_room notes changes past = grind (arith, nat_tests)

room : (notes : List Note) (changes : List Change) → (length notes + length changes) ≤ ROWS → has_room notes changes ≡ true
room notes changes within = grind (arith, nat_tests)

pub returns-then-len-changes-gt-ROWS : goal.returns-then-len-changes-gt-ROWS
returns-then-len-changes-gt-ROWS c =
    let before : c.match-notes.notes.items ≡ notes_in c.args.notes =
    elim c.match-notes.branch [
      | in-Some w ↦ ap (λ v. v.items) w.notes-is ∙ ap notes_in (sym w.in-Some.is)
      | in-None w ↦ ap (λ v. v.items) w.notes-is ∙ w.new-notes.ensures.items ∙ ap notes_in (sym w.in-None.is)
    ] in
    let past : ROWS < (length c.match-notes.notes.items + length c.args.changes.now) = omega (arith, c.match-notes.notes.ok.0) in
    rw (← before) (no_room c.match-notes.notes.items c.args.changes.now past)

pub returns : goal.returns
unfolding touched
returns c =
    let fits : SFits w64 c.args.version = c.ranges.version in
    let before : c.match-notes.notes.items ≡ notes_in c.args.notes =
    elim c.match-notes.branch [
      | in-Some w ↦ ap (λ v. v.items) w.notes-is ∙ ap notes_in (sym w.in-Some.is)
      | in-None w ↦ ap (λ v. v.items) w.notes-is ∙ w.new-notes.ensures.items ∙ ap notes_in (sym w.in-None.is)
    ] in
    let keys : c.in_ok-keys.keys.items ≡ touched c.args.changes.now = c.in_ok-keys.ensures ∙ ap (set_of key_cmp) c.in_ok-keys_of.ensures in
    let within : (length c.match-notes.notes.items + length c.args.changes.now) ≤ ROWS = omega (arith, c.match-notes.notes.ok.0) in
    rw (← before, ← keys) (
      room c.match-notes.notes.items c.args.changes.now within,
      c.in_ok-append.ensures.items ∙ ap (λ l. c.match-notes.notes.items ++ l) (c.in_ok-more.ensures ∙ ap (λ (v : ℤ). notes_at v c.in_ok-keys.keys.items) (to_z-of_z fits)),
    )
