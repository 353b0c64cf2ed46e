use Rattle.std.proofs.Common.{◌≡◌, true, List, sym, ap, subst, ◌∙◌}
use Rattle.cr_lattice.specs.declared.table.Table.{Table}
use Rattle.cr_lattice.specs.declared.table.TableDef.{TableDef}
use Rattle.cr_cells.specs.Holding.{Holding}
use Rattle.cr_cells.specs.Tables.{IsNewTable, has_defaults}
use Rattle.cr_replica.proofs.Settling.{settled_is_new, settled_has_defaults}
use Rattle.cr_replica.proofs.replica.Replica.define.Goals as goal

pub add_replicated-requires-clause-is_new : goal.add_replicated-requires-clause-is_new
add_replicated-requires-clause-is_new g c = λ clean.
    let read = c.in-Ok.ensures.reads clean in
    let tables = c.deref.ensures.value ∙ read.answers ∙ sym (ap (λ (h : Holding). h.tables) read.same) in
    subst (λ (ts : List Table). IsNewTable ts c.in-Ok-settled.settled) tables
    (subst (λ (d : TableDef). IsNewTable c.deref.result.now d) (sym c.in-Ok-settled.ensures) (settled_is_new _ c.deref.result.now c.args.def.now c.requires c.in_ok-accept.ensures))

pub add_replicated-requires-clause-defaults : goal.add_replicated-requires-clause-defaults
add_replicated-requires-clause-defaults g c =
    subst (λ (d : TableDef). has_defaults d ≡ true) (sym c.in-Ok-settled.ensures) (settled_has_defaults _ c.deref.result.now c.args.def.now c.in_ok-accept.ensures)
