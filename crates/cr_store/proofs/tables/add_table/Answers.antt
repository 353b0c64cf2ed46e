use Rattle.std.proofs.Common.{arith, rules, subst, sym, w64, ◌∷◌, []}
use Rattle.std.proofs.lemmas.Int.{to_z-of_z}
use Rattle.sqlite.specs.State.{HasCleanDisk}
use Rattle.sqlite.specs.Held.{state}
use Rattle.sqlite.specs.declared.types.Value.TheVariants.{Text, Int, Blob}
use Rattle.cr_store.specs.Shows.{Holds}
use Rattle.cr_store.proofs.tables.add_table.Goals as goal

pub returns-clause-put : goal.returns-clause-put
returns-clause-put g c clean a b o cells marks it =
    let late : HasCleanDisk (state g.S.Store c.commit.new.self.0) = search rules in
    let begun = c.transaction-tx.ensures.begun in
    let inside : HasCleanDisk (state g.S.Store c.insert_table.new.tx.conn.now) = omega (arith, c.commit.ensures.survives.clean, late) in
    let done = simp (to_z-of_z w64 c.args.ordinal c.ranges.ordinal, to_z-of_z w64 c.args.crr c.ranges.crr) at (c.in_ok-insert_table.ensures.put inside a b o cells marks (rw begun it)) in
    let fact : Holds (state g.S.Store c.commit.new.self.0).now a ((Text c.args.name.now ∷ Int c.args.ordinal ∷ Int c.args.crr ∷ Blob c.args.definition.now ∷ []) ∷ b) o cells marks =
    subst (λ db. Holds db a ((Text c.args.name.now ∷ Int c.args.ordinal ∷ Int c.args.crr ∷ Blob c.args.definition.now ∷ []) ∷ b) o cells marks) (sym (c.in_ok-commit.ensures.ok late).1.now_is) done in
    search (rules, fact)
