-- The rows that a write wants have a value for each column.
use Rattle.std.proofs.Common.{◌≡◌, inl, List, ◌++◌, length, None, refl}
use Rattle.cr_value.specs.declared.value.Value.{Value}
use Rattle.cr_lattice.specs.declared.change.Change.{Change}
use Rattle.cr_lattice.specs.declared.table.TableDef.{TableDef}
use Rattle.cr_lattice.specs.Rows.{rows}
use Rattle.cr_scalar.specs.Host.{Host}
use Rattle.cr_term.specs.declared.query.Insert.{Insert}
use Rattle.cr_term.specs.declared.query.Update.{Update}
use Rattle.cr_term.specs.declared.query.Delete.{Delete}
use Rattle.cr_query.specs.Query.{Row}
use Rattle.cr_meaning.specs.View as view
use Rattle.cr_meaning.specs.Meaning.{exact, strict}
use Rattle.cr_exec.specs.Answers.{IsMeant}
use Rattle.cr_wanted.specs.Judged.{AreWide}
use Rattle.cr_wanted.proofs.Widths.{all-append, brought_wide, shown_wide, update_wide, delete_wide}
use Rattle.cr_replica.specs.declared.snapshot.Snapshot.{Snapshot}
use Rattle.cr_changed.specs.Changed.{insert_brings, update_wants, delete_wants}

-- the rows that come stand behind those that are shown
pub behind_wide : (kept : List Change) (def : TableDef) (more : List Row) → AreWide def.columns more → AreWide def.columns (rows kept def ++ more)
behind_wide kept def more wide = all-append (λ row. length row ≡ length def.columns) (rows kept def) more (shown_wide kept def) wide

-- so are those that an INSERT brings
pub brought : (host : Host) (params : List Value) (w : Insert) (out : List Row) → IsMeant host params (insert_brings w) out → AreWide w.relation.definition.columns out
brought host params w out both = brought_wide (exact host params) w.relation.definition.columns (view.insert w) out (both.under (strict None) (inl refl))

module _ (host : Host) (params : List Value) (s : Snapshot) where
  pub updated_wide : (w : Update) (out : List Row) → IsMeant host params (update_wants s w) out → AreWide w.relation.definition.columns out
  updated_wide w out both =
      let def = w.relation.definition in
      update_wide (exact host params) def.columns (view.update w) (rows s.kept def) out (shown_wide s.kept def) (both.under (strict None) (inl refl))

  pub deleted_wide : (w : Delete) (out : List Row) → IsMeant host params (delete_wants s w) out → AreWide w.relation.definition.columns out
  deleted_wide w out both =
      let def = w.relation.definition in
      delete_wide (exact host params) def.columns (view.delete w) (rows s.kept def) out (shown_wide s.kept def) (both.under (strict None) (inl refl))
