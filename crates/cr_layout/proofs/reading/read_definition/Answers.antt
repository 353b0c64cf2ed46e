use Rattle.std.proofs.Common.{◌≡◌, Option, None, Some, arith, refl}
use Rattle.cr_lattice.specs.declared.table.TableDef.{TableDef}
use Rattle.cr_layout.specs.Reading.{definition_of}
use Rattle.cr_layout.proofs.Columns.{definition_takes, definition_again}
use Rattle.cr_layout.proofs.reading.read_definition.Goals as goal

not_both : (r : Option TableDef) (d : TableDef) → r ≡ None → r ≡ Some d → ⊥
not_both r d p q = absurd cc

pub returns-in_ok-from_str-in-Ok-clause-some : goal.returns-in_ok-from_str-in-Ok-clause-some
unfolding definition_of
returns-in_ok-from_str-in-Ok-clause-some c =
    definition_takes c.args.name.now c.args.bytes.now _ (λ i. omega (arith, c.type_inv.bytes i))
    (rw (c.in-Ok.ensures, c.in_ok-from_str-in-Ok.ensures, c.new.ensures) refl)

pub returns-in-Err-Malformed-clause-none : goal.returns-in-Err-Malformed-clause-none
unfolding definition_of
returns-in-Err-Malformed-clause-none c = λ d s.
    let none : definition_of c.args.name.now c.args.bytes.now ≡ None = rw (rw c.in-Err-Malformed.field-0-is at c.in-Err-Malformed.ensures) refl in
    not_both (definition_of c.args.name.now c.args.bytes.now) d none (definition_again c.args.name.now c.args.bytes.now d s)
