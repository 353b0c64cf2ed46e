-- What DELETE does to a table that no foreign key and no count touches.
use Rattle.std.proofs.Common.{◌≡◌, inl, inr, ℕ, ℤ, List, [], ◌∷◌, map, filter, true, false, not, Option, None, Ok, sym, ap, subst, ◌∙◌, is_eq, arith}
use Rattle.std.specs.List.{list_any}
use Rattle.std.proofs.lemmas.Int.{ints}
use Rattle.std.proofs.lemmas.Bool.Decides.{nat_tests}
use Rattle.std.proofs.lemmas.Bool.{cases_Bool, false_from_ne_true}
use Rattle.std.proofs.lemmas.Cmp.{tied_itself}
use Rattle.std.proofs.lemmas.List.Sorted.{IsPermutation-map, list_any-IsPermutation}
use Rattle.sqlite.specs.declared.types.Value.TheVariants.{Int}
use Rattle.sqlite.specs.Order.{Row}
use Rattle.sqlite_value.specs.Order.{value_cmp}
use Rattle.sqlite_value.proofs.OrderLemmas.{value_cmp_total, value_cmp-Int}
use Rattle.sqlite.specs.Term.{Term, col}
use Rattle.sqlite.specs.Schema.{Schema}
use Rattle.sqlite.specs.Program.{overlay}
use Rattle.sqlite.specs.Command.TheVariants.{Delete}
use Rattle.sqlite_schema.specs.declared.schema.Keys.TheVariants.{Enforced}
use Rattle.sqlite_schema.specs.declared.schema.Column.{Column}
use Rattle.sqlite_schema.specs.declared.program.Program.{Program}
use Rattle.sqlite_rules.specs.Lists.{Has}
use Rattle.sqlite_rules.specs.Calls.{ids_of}
use Rattle.sqlite_rules.specs.Edit.{id_in, taken_by, edit_of, without_all}
use Rattle.sqlite_rules.proofs.ListLemmas.{all_from, some_has, some_from, has_filtered, has_kept}
use Rattle.sqlite_rules.proofs.ProbeLemmas.{has_mapped, mapped_has}
use Rattle.sqlite.specs.Rowids.TheVariants.{Given}
use Rattle.sqlite_trees.specs.Tree.{Trees, rowid, has_rowid}
use Rattle.sqlite.specs.Does.{Tally, Does}
use Rattle.sqlite.specs.Rows.{Written, Deletes}
use Rattle.sqlite.specs.Effect.{Database}
use Rattle.sqlite.specs.Listing.{understood}
use Rattle.sqlite.specs.State.{State, mode_of, ExecutesIn}
use Rattle.sqlite.proofs.Callers.{IsPlain, command_of, statement_of, runs_as, one_step}
use Rattle.cr_rows.specs.Schema.{keyed}
use Rattle.cr_rows.specs.Rows.{Lists}
use Rattle.cr_rows.proofs.MakeLemmas.{went, same_value}
use Rattle.cr_rows.proofs.InsertLemmas.{IsBare, KeepsOthers}
use Rattle.cr_rows.proofs.SelectLemmas.{plain_query, passes_all, shown_from, HasAnswered, answers}
use Rattle.cr_rows.proofs.RowLemmas.{apart_same, listed_rowid}
use Rattle.cr_rows.proofs.TableLemmas.{without_all_is, filter_alike}

abbrev pub rowids_that : ℕ → List Term → Program
rowids_that tree terms = record { lets = []; body = plain_query tree terms (col 1 0 ∷ []) [] }

-- the rows that pass are gone
pub record HasDeleted (schema : Schema) (tree : ℕ) (terms : List Term) (params : Row) (old new : State) : Type 0 where
  pub schema_is : new.now.schema ≡ schema
  pub rows : new.now.trees tree ≡ filter (λ r. not (passes_all terms params r)) (old.now.trees tree)
  pub others : KeepsOthers schema tree old.now.trees new.now.trees

tied_is : (a b : ℤ) → is_eq (value_cmp (Int a) (Int b)) ≡ true → a ≡ b
tied_is a b h = let e = ap is_eq (sym (value_cmp-Int a b)) ∙ h in grind (arith, ints, nat_tests)

module _ (terms : List Term) (params : Row) (rows answer shown : List Row) (it : Lists rows shown) (asked : HasAnswered terms (col 1 0 ∷ []) [] params rows answer) where
  ids : List ℤ
  ids = map (λ a. id_in (rowid a)) (shown_from terms (col 1 0 ∷ []) params rows)

  its_rowid : (r : Row) → Has rows r → has_rowid (id_in (rowid r)) r ≡ true
  its_rowid r here = subst (λ v. is_eq (value_cmp v (Int (id_in (rowid r)))) ≡ true) (sym (listed_rowid rows shown it r here)) (ap is_eq (tied_itself value_cmp_total (Int (id_in (rowid r)))))

  rowid_is : (id : ℤ) (r : Row) → Has rows r → has_rowid id r ≡ true → rowid r ≡ Int id
  rowid_is id r here h =
      let is = listed_rowid rows shown it r here in
      is ∙ ap Int (tied_is (id_in (rowid r)) id (subst (λ v. is_eq (value_cmp v (Int id)) ≡ true) is h))

  named : (r : Row) → Has rows r → list_any (λ id. has_rowid id r) ids ≡ passes_all terms params r
  unfolding ids
  named r here = elim (cases_Bool (passes_all terms params r)) [
    | inl passes ↦ some_from (λ id. has_rowid id r) ids (id_in (rowid r))
        (mapped_has (λ a. id_in (rowid a)) _ (rowid r ∷ []) (mapped_has (λ x. rowid x ∷ []) _ r (has_kept (passes_all terms params) rows r here passes))) (its_rowid r here) ∙ sym passes
    | inr fails ↦ false_from_ne_true _ (λ some.
        let id = some_has (λ id. has_rowid id r) ids some in
        let shows = has_mapped (λ a. id_in (rowid a)) _ id.0 id.1 in
        let from = has_mapped (λ x. rowid x ∷ []) (filter (passes_all terms params) rows) shows.0 shows.1 in
        let kept = has_filtered (passes_all terms params) rows from.0 from.1 in
        let is = listed_rowid rows shown it from.0 kept.0 in
        let same_id : id.0 ≡ id_in (rowid from.0) = shows.2 ∙ ap (λ s. id_in (rowid s)) from.2 in
        let same : r ≡ from.0 = apart_same rows r from.0 it.apart here kept.0 (rowid_is id.0 r here id.2 ∙ ap Int same_id ∙ sym is) in
        let passes = ap (passes_all terms params) same ∙ kept.1 in cc) ∙ sym fails
  ]

  -- without the rowids that the query shows, what is left does not pass
  pub left_after : without_all rows (ids_of answer) ≡ filter (λ r. not (passes_all terms params r)) rows
  unfolding ids
  left_after =
      without_all_is (ids_of answer) rows ∙ filter_alike _ _ rows (all_from _ rows (λ r here.
      let moved = IsPermutation-map (λ a. id_in (rowid a)) (shown_from terms (col 1 0 ∷ []) params rows) answer asked.same in
      ap not (sym (list_any-IsPermutation (λ id. has_rowid id r) ids (ids_of answer) moved) ∙ named r here)))

module _ (schema : Schema) (at : ℕ) (name : List ℕ) (tree : ℕ) (columns : List Column) (key : List ℕ) (bare : IsBare schema at (keyed name tree columns key)) where
  takes : (limit : Option ℕ) (terms : List Term) (params : Row) (shown : List Row) (db : Trees) (w : Written) → overlay db [] tree ≡ db tree → Lists (db tree) shown
      → Deletes (record { limit = limit; keys = Enforced; schema = schema; table = keyed name tree columns key; params = params }) (rowids_that tree terms) db (Ok w)
      → (w.trees tree ≡ filter (λ r. not (passes_all terms params r)) (db tree)) × KeepsOthers schema tree db w.trees
  takes limit terms params shown db w here it h =
      let found = went h in
      let asked = answers tree terms (col 1 0 ∷ []) [] params db found.0 here found.1.answer in
      let edit = went found.2 in
      let last : w.trees ≡ edit.0 = ap (λ (it : Written). it.trees) (same_value edit.2) in
      let cut = edit_of db (keyed name tree columns key) (ids_of found.0) Given 0 [] in
      let step = one_step schema Enforced db edit.0 cut (bare.alone (taken_by db cut) cut.news) edit.1 in
      (ap (λ (t : Trees). t tree) last ∙ step.rows ∙ left_after terms params (db tree) found.0 shown it asked, subst (KeepsOthers schema tree db) (sym last) step.tables)

  pub deletes : (sql : List ℕ) (terms : List Term) (params : Row) (shown : List Row) (old new : State) (count : ℕ)
      → command_of (understood schema sql) ≡ Delete at (rowids_that tree terms) → IsPlain (understood schema sql)
      → overlay old.now.trees [] tree ≡ old.now.trees tree → Lists (old.now.trees tree) shown
      → old.now.schema ≡ schema → ExecutesIn false sql params old new (Ok count) → HasDeleted schema tree terms params old new
  deletes sql terms params shown old new count is plain here it has h =
      let command = Delete at (rowids_that tree terms) in
      let w = runs_as sql params old new schema has command is plain count h in
      let text = statement_of sql (understood schema sql) in
      let all = subst (λ s. Does old.step_limit (mode_of old) params (record old.now { schema = s }) text None command (Ok (w.tally, new.now))) has w.changed in
      let done = went (rw bare.listed at all) in
      let now = ap (λ (p : Tally × Database). p.1) (same_value (went (went done.2).2).2) in
      let cut = takes old.step_limit terms params shown old.now.trees done.0 here it done.1 in
      let trees : new.now.trees ≡ done.0.trees = ap (λ (d : Database). d.trees) now in
      record {
        schema_is = ap (λ (d : Database). d.schema) now;
        rows = ap (λ (t : Trees). t tree) trees ∙ cut.0;
        others = subst (KeepsOthers schema tree old.now.trees) (sym trees) cut.1;
      }
