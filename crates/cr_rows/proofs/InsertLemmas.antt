-- What INSERT does to a table that no foreign key and no count touches.
use Rattle.std.proofs.Common.{◌≡◌, ◌≢◌, ℕ, ◌/◌, length, List, [], ◌∷◌, slice_get, true, false, Some, None, Option, Ok, append-nil, sym, ap, subst, ◌∙◌}
use Rattle.std.specs.List.{AllByRecursion}
use Rattle.sqlite.specs.declared.types.Value.TheVariants.{Null, Int}
use Rattle.sqlite.specs.Order.{Row}
use Rattle.sqlite.specs.Table.{Table}
use Rattle.sqlite.specs.Term.{Term}
use Rattle.sqlite.specs.Schema.{Schema}
use Rattle.sqlite.specs.Source.TheVariants.{Values}
use Rattle.sqlite.specs.Command.TheVariants.{Insert}
use Rattle.sqlite_schema.specs.declared.schema.Keys.TheVariants.{Enforced}
use Rattle.sqlite_rules.specs.Cast.{cast_row}
use Rattle.sqlite_rules.specs.Edit.{Applies, taken_by, edit_of, next_rowid, with_rowid, are_fresh}
use Rattle.sqlite_rules.specs.Action.{works}
use Rattle.sqlite.specs.Rowids.TheVariants.{Chosen}
use Rattle.sqlite_trees.specs.Tree.{Trees, put_row}
use Rattle.sqlite.specs.Does.{Tally, Does}
use Rattle.sqlite.specs.Rows.{Written, Inserts}
use Rattle.sqlite.specs.Effect.{Database, value_rows}
use Rattle.sqlite.specs.Listing.{understood}
use Rattle.sqlite.specs.State.{State, mode_of, ExecutesIn}
use Rattle.sqlite.proofs.Callers.{IsPlain, command_of, statement_of, runs_as, one_step}
use Rattle.sqlite_schema.specs.declared.schema.Column.{Column}
use Rattle.cr_rows.specs.Schema.{keyed}
use Rattle.cr_rows.specs.Rows.{Lists}
use Rattle.cr_rows.proofs.MakeLemmas.{went, same_value}
use Rattle.cr_rows.proofs.RowLemmas.{lists_in, lists_put}

-- the table stands in the schema at this place, and a write of it sets nothing else off
pub record IsBare (schema : Schema) (at : ℕ) (table : Table) : Type 0 where
  pub listed : slice_get schema.tables at ≡ Some table
  pub alone : (olds news : List Row) → works schema Enforced 0 table.tree olds news ≡ []

-- the other tables are as they were
abbrev pub KeepsOthers : Schema → ℕ → Trees → Trees → Type 0
KeepsOthers schema tree old new = AllByRecursion (λ t. t.tree ≢ tree → new t.tree ≡ old t.tree) schema.tables

-- the row is in, at a rowid that was free
pub record HasInserted (schema : Schema) (tree : ℕ) (row : Row) (old new : State) : Type 0 where
  pub schema_is : new.now.schema ≡ schema
  pub rows : new.now.trees tree ≡ put_row (with_rowid Chosen (old.now.trees tree) row) (old.now.trees tree)
  pub fresh : are_fresh (old.now.trees tree) (with_rowid Chosen (old.now.trees tree) row ∷ []) ≡ true
  pub others : KeepsOthers schema tree old.now.trees new.now.trees

module _ (schema : Schema) (at : ℕ) (name : List ℕ) (tree : ℕ) (columns : List Column) (key : List ℕ) (bare : IsBare schema at (keyed name tree columns key)) where
  -- the rows that VALUES gives are put in by one step
  puts : (limit : Option ℕ) (terms : List Term) (width : ℕ) (params source : Row) (db : Trees) (w : Written)
      → value_rows params width (length terms / width) terms ≡ source ∷ []
      → Inserts (record { limit = limit; keys = Enforced; schema = schema; table = keyed name tree columns key; params = params }) (Values terms width) db (Ok w)
      → Applies schema Enforced db (edit_of db (keyed name tree columns key) [] Chosen 0 (source ∷ [])) w.trees
  puts limit terms width params source db w one h =
      let given = went h in
      let sources : given.0 ≡ source ∷ [] = given.1.1 ∙ rw (append-nil params) one in
      let counter = went given.2 in
      let edit = went counter.2 in
      let counted = went edit.2 in
      let last : w.trees ≡ edit.0 = ap (λ (it : Written). it.trees) (same_value counted.2) ∙ same_value counted.1 in
      let put = edit_of db (keyed name tree columns key) [] Chosen 0 given.0 in
      let step = one_step schema Enforced db edit.0 put (bare.alone (taken_by db put) put.news) edit.1 in
      subst (Applies schema Enforced db (edit_of db (keyed name tree columns key) [] Chosen 0 (source ∷ []))) (sym last)
      (subst (λ rows. Applies schema Enforced db (edit_of db (keyed name tree columns key) [] Chosen 0 rows) edit.0) sources step)

  pub inserts : (sql : List ℕ) (terms : List Term) (width : ℕ) (params source : Row) (old new : State) (count : ℕ)
      → command_of (understood schema sql) ≡ Insert at (Values terms width) → IsPlain (understood schema sql)
      → value_rows params width (length terms / width) terms ≡ source ∷ []
      → old.now.schema ≡ schema → ExecutesIn false sql params old new (Ok count) → HasInserted schema tree (cast_row (keyed name tree columns key) source) old new
  inserts sql terms width params source old new count is plain one has h =
      let command = Insert at (Values terms width) in
      let w = runs_as sql params old new schema has command is plain count h in
      let text = statement_of sql (understood schema sql) in
      let all = subst (λ s. Does old.step_limit (mode_of old) params (record old.now { schema = s }) text None command (Ok (w.tally, new.now))) has w.changed in
      let done = went (rw bare.listed at all) in
      let now = ap (λ (p : Tally × Database). p.1) (same_value (went (went done.2).2).2) in
      let edit = puts old.step_limit terms width params source old.now.trees done.0 one done.1 in
      let trees : new.now.trees ≡ done.0.trees = ap (λ (d : Database). d.trees) now in
      record {
        schema_is = ap (λ (d : Database). d.schema) now;
        rows = ap (λ (t : Trees). t tree) trees ∙ edit.rows;
        fresh = edit.fresh;
        others = subst (KeepsOthers schema tree old.now.trees) (sym trees) edit.tables;
      }

-- one more row is listed
pub lists_inserted : (schema : Schema) (tree : ℕ) (row x : Row) (old new : State) (shown : List Row) → row ≡ Null ∷ x → HasInserted schema tree row old new → Lists (old.now.trees tree) shown
    → Lists (new.now.trees tree) (x ∷ shown)
lists_inserted schema tree row x old new shown is h it =
    let rows = old.now.trees tree in
    let numbered : with_rowid Chosen rows row ≡ Int (next_rowid rows) ∷ x = ap (with_rowid Chosen rows) is in
    lists_in _ _ _ (h.rows ∙ ap (λ r. put_row r rows) numbered) (lists_put rows shown (next_rowid rows) x (subst (λ r. are_fresh rows (r ∷ []) ≡ true) numbered h.fresh) it)
