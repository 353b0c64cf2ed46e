use Rattle.std.proofs.Common.{w64, to_z-of_z, rules}
use Rattle.cr_cells.specs.Plain.{holding_of}
use Rattle.cr_cells.proofs.SoundLemmas.{sound_some, sound_none, commits_none}
use Rattle.cr_cells.proofs.plain.PlainCellsCells.commit.Goals as goal

pub invariant_of-self : goal.invariant_of-self
invariant_of-self c =
    sound_some (holding_of c.self.inside) c.args.self.now c.deref.result.now _ _ c.args.changes.now c.args.peer c.in-Some.next c.deref-2.result.now c.in_ok-marks.marks.items
    c.self.view_is c.deref.ensures.value (to_z-of_z {w = w64} {z = c.self.inside.version} (search rules)) (to_z-of_z {w = w64} {z = c.in-Some.next.version} (search rules)) c.deref-2.ensures.value c.in_ok-marks.ensures
    (rw c.in-Some.is at c.in_ok-next.ensures) c.self.invariant (c.requires.well_formed tt) c.requires.from_0

pub invariant_of-self-in-None : goal.invariant_of-self-in-None
invariant_of-self-in-None c =
    sound_none (holding_of c.self.inside) c.args.peer c.deref-2.result.now c.in_ok-marks.marks.items c.deref-2.ensures.value c.in_ok-marks.ensures c.self.invariant c.requires.from_0

pub returns-in-Some-clause-sound : goal.returns-in-Some-clause-sound
returns-in-Some-clause-sound c = λ _.
    sound_some (holding_of c.self.inside) c.args.self.now c.deref.result.now _ _ c.args.changes.now c.args.peer c.in-Some.next c.deref-2.result.now c.in_ok-marks.marks.items
    c.self.view_is c.deref.ensures.value (to_z-of_z {w = w64} {z = c.self.inside.version} (search rules)) (to_z-of_z {w = w64} {z = c.in-Some.next.version} (search rules)) c.deref-2.ensures.value c.in_ok-marks.ensures
    (rw c.in-Some.is at c.in_ok-next.ensures) c.self.invariant (c.requires.well_formed tt) c.requires.from_0

pub returns-in-None-clause-sound : goal.returns-in-None-clause-sound
returns-in-None-clause-sound c = λ _.
    sound_none (holding_of c.self.inside) c.args.peer c.deref-2.result.now c.in_ok-marks.marks.items c.deref-2.ensures.value c.in_ok-marks.ensures c.self.invariant c.requires.from_0

pub returns-in-None-clause-commits : goal.returns-in-None-clause-commits
returns-in-None-clause-commits c = λ _.
    commits_none (holding_of c.self.inside) c.args.self.now c.deref.result.now c.args.changes.now c.args.peer c.deref-2.result.now c.in_ok-marks.marks.items
    c.self.view_is c.deref.ensures.value c.deref-2.ensures.value c.in_ok-marks.ensures c.self.invariant (rw c.in-None.is at c.in_ok-next.ensures)
