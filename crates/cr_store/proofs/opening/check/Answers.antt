use Rattle.std.proofs.Common.{refl, rules, w64}
use Rattle.std.proofs.lemmas.Int.{to_z-of_z}
use Rattle.cr_store.proofs.opening.check.Goals as goal

pub returns-then-branch : goal.returns-then-branch
returns-then-branch c = λ site.
    rw (← c.deref.ensures.value, ← c.deref-2.ensures.value) (rw (to_z-of_z w64 c.args.known.now.version (search rules)) at (c.in_ok-is_sound.ensures.sound c.if-branch.true site))

pub returns-else-branch : goal.returns-else-branch
returns-else-branch c = λ site.
    (refl, rw (← c.deref.ensures.value, ← c.deref-2.ensures.value) (rw (to_z-of_z w64 c.args.known.now.version (search rules)) at (c.in_ok-is_sound.ensures.unsound c.if-branch.false site)))
