-- What UPDATE does to a table that no foreign key and no count touches: each row that passes becomes another.
use Rattle.std.proofs.Common.{◌≡◌, inl, inr, ℕ, ℤ, List, [], ◌∷◌, map, filter, drop, Bool, true, false, not, cond, Option, None, Ok, refl, sym, ap, subst, ◌∙◌}
use Rattle.std.proofs.lemmas.Bool.{cases_Bool}
use Rattle.std.specs.List.Sorted.{IsPermutation}
use Rattle.std.proofs.lemmas.List.Sorted.{IsPermutation-map, IsPermutation-sym}
use Rattle.sqlite.specs.declared.types.Value.TheVariants.{Int}
use Rattle.sqlite.specs.Order.{Row}
use Rattle.sqlite_trees.specs.Tree.{Trees, rowid}
use Rattle.sqlite_trees.proofs.ListLemmas.{map-map}
use Rattle.sqlite.specs.Term.{Term, col, eval_all}
use Rattle.sqlite.specs.Schema.{Schema}
use Rattle.sqlite.specs.Program.{overlay}
use Rattle.sqlite.specs.Command.TheVariants.{Update}
use Rattle.sqlite_schema.specs.declared.schema.Keys.TheVariants.{Enforced}
use Rattle.sqlite_schema.specs.declared.schema.Column.{Column}
use Rattle.sqlite_schema.specs.declared.program.Program.{Program}
use Rattle.sqlite_rules.specs.Cast.{cast_row}
use Rattle.sqlite_rules.specs.Calls.{ids_of}
use Rattle.sqlite_rules.specs.Edit.{id_in, taken_by, edit_of, without_all, put_all, are_fresh}
use Rattle.sqlite_rules.specs.Lists.{Has}
use Rattle.sqlite.specs.Rowids.TheVariants.{Given}
use Rattle.sqlite_rules.proofs.ListLemmas.{has_filtered, has_kept}
use Rattle.sqlite_rules.proofs.ProbeLemmas.{has_mapped, mapped_has}
use Rattle.sqlite_rules.proofs.PlaceLemmas.{given}
use Rattle.sqlite_rules.proofs.TableLemmas.{put_all_has, put_all_keeps, put_all_adds}
use Rattle.sqlite.specs.Does.{Tally, Does}
use Rattle.sqlite.specs.Rows.{Written, Updates}
use Rattle.sqlite.specs.Effect.{Database}
use Rattle.sqlite.specs.Listing.{understood}
use Rattle.sqlite.specs.State.{State, mode_of, ExecutesIn}
use Rattle.sqlite.proofs.Callers.{IsPlain, command_of, statement_of, runs_as, one_step}
use Rattle.cr_rows.specs.Schema.{keyed}
use Rattle.cr_rows.specs.Rows.{AreApart, Lists, SameRows}
use Rattle.cr_rows.proofs.MakeLemmas.{went, same_value}
use Rattle.cr_rows.proofs.RowLemmas.{has_permuted, apart_filter, apart_put_all, lists_map}
use Rattle.cr_rows.proofs.InsertLemmas.{IsBare, KeepsOthers}
use Rattle.cr_rows.proofs.SelectLemmas.{plain_query, passes_all, shown_from, HasAnswered, answers}
use Rattle.cr_rows.proofs.DeleteLemmas.{left_after}

not_true : (b : Bool) → not b ≡ true → b ≡ false
not_true true e = cc
not_true false e = refl

abbrev pub changed : (Row → Bool) → (Row → Row) → Row → Row
changed p f r = cond (p r) (f r) r

module _ (p : Row → Bool) (f : Row → Row) (rows news : List Row) (same : SameRows (map f (filter p rows)) news) (fresh : are_fresh (filter (λ r. not (p r)) rows) news ≡ true) where
  became : (r : Row) → Has (put_all (filter (λ r. not (p r)) rows) news) r → Has (map (changed p f) rows) r
  became r h = elim (put_all_has news (filter (λ r. not (p r)) rows) r h) [
    | inl new ↦ let from = has_mapped f (filter p rows) r (same.from r new) in
        let kept = has_filtered p rows from.0 from.1 in
        subst (Has (map (changed p f) rows)) (ap (λ b. cond b (f from.0) from.0) kept.1 ∙ sym from.2) (mapped_has (changed p f) rows from.0 kept.0)
    | inr old ↦ let kept = has_filtered (λ r. not (p r)) rows r old in
        subst (Has (map (changed p f) rows)) (ap (λ b. cond b (f r) r) (not_true (p r) kept.1)) (mapped_has (changed p f) rows r kept.0)
  ]

  becomes : (r : Row) → Has (map (changed p f) rows) r → Has (put_all (filter (λ r. not (p r)) rows) news) r
  becomes r h =
      let from = has_mapped (changed p f) rows r h in
      elim (cases_Bool (p from.0)) [
        | inl passes ↦ put_all_adds news _ r fresh
            (same.to r (subst (Has (map f (filter p rows))) (ap (λ b. cond b (f from.0) from.0) (sym passes) ∙ sym from.2) (mapped_has f _ from.0 (has_kept p rows from.0 from.1 passes))))
        | inr fails ↦ put_all_keeps news _ r fresh
            (subst (Has (filter (λ r. not (p r)) rows)) (ap (λ b. cond b (f from.0) from.0) (sym fails) ∙ sym from.2) (has_kept (λ r. not (p r)) rows from.0 from.1 (ap not fails)))
      ]

  -- the rows that do not pass, with what the others become put among them
  replaced : SameRows (map (changed p f) rows) (put_all (filter (λ r. not (p r)) rows) news)
  replaced = record { to = becomes; from = became }

abbrev pub rows_set : ℕ → List Term → List Term → Program
rows_set tree terms project = record { lets = []; body = plain_query tree terms project [] }

-- the rows are those of before, of which those that pass became others
pub record HasSet (schema : Schema) (tree : ℕ) (terms : List Term) (params : Row) (f : Row → Row) (old new : State) : Type 0 where
  pub schema_is : new.now.schema ≡ schema
  pub rows : SameRows (map (changed (passes_all terms params) f) (old.now.trees tree)) (new.now.trees tree)
  pub apart : AreApart (new.now.trees tree)
  pub others : KeepsOthers schema tree old.now.trees new.now.trees

-- what is listed becomes another where it passes
pub lists_set : (schema : Schema) (tree : ℕ) (terms : List Term) (params : Row) (f g : Row → Row) (old new : State) (shown : List Row)
    → ((id : ℤ) (x : Row) → Has shown x → changed (passes_all terms params) f (Int id ∷ x) ≡ Int id ∷ g x) → HasSet schema tree terms params f old new → Lists (old.now.trees tree) shown
    → Lists (new.now.trees tree) (map g shown)
lists_set schema tree terms params f g old new shown each h it = lists_map g (changed (passes_all terms params) f) (old.now.trees tree) (new.now.trees tree) shown each it h.apart h.rows

module _ (schema : Schema) (at : ℕ) (name : List ℕ) (tree : ℕ) (columns : List Column) (key : List ℕ) (bare : IsBare schema at (keyed name tree columns key))
    (terms project : List Term) (params : Row) (shows_id : (r : Row) → rowid (eval_all project (params ∷ r ∷ [])) ≡ rowid r) where
  abbrev pub new_row : Row → Row
  new_row r = cast_row (keyed name tree columns key) (drop 1 (eval_all project (params ∷ r ∷ [])))

  ids_only : (rows answer : List Row) → HasAnswered terms project [] params rows answer → HasAnswered terms (col 1 0 ∷ []) [] params rows (map (λ a. rowid a ∷ []) answer)
  ids_only rows answer asked = record {
    same = subst (λ xs. IsPermutation xs (map (λ a. rowid a ∷ []) answer)) (map-map (λ a. rowid a ∷ []) _ _ ∙ each (filter (passes_all terms params) rows))
        (IsPermutation-map (λ a. rowid a ∷ []) (shown_from terms project params rows) answer asked.same);
    sorted = λ pick keyed k d low high. refl;
  }
    where
      each : (xs : List Row) → map (λ r. rowid (eval_all project (params ∷ r ∷ [])) ∷ []) xs ≡ map (λ r. rowid r ∷ []) xs
      each [] = refl
      each (r ∷ xs) = rw (shows_id r, each xs)

  sets : (limit : Option ℕ) (shown : List Row) (db : Trees) (w : Written) → overlay db [] tree ≡ db tree → Lists (db tree) shown
      → Updates (record { limit = limit; keys = Enforced; schema = schema; table = keyed name tree columns key; params = params }) (rows_set tree terms project) params db (Ok w)
      → SameRows (map (changed (passes_all terms params) new_row) (db tree)) (w.trees tree) × AreApart (w.trees tree) × KeepsOthers schema tree db w.trees
  sets limit shown db w here it h =
      let found = went h in
      let rows = db tree in
      let p = passes_all terms params in
      let asked = answers tree terms project [] params db found.0 here found.1.answer in
      let edit = went found.2 in
      let last : w.trees ≡ edit.0 = ap (λ (it : Written). it.trees) (same_value edit.2) in
      let news : List Row = map (λ s. cast_row (keyed name tree columns key) (drop 1 s)) found.0 in
      let put = edit_of db (keyed name tree columns key) (ids_of found.0) Given 1 found.0 in
      let step = one_step schema Enforced db edit.0 put (bare.alone (taken_by db put) put.news) edit.1 in
      let left : without_all rows (ids_of found.0) ≡ filter (λ r. not (p r)) rows =
      ap (without_all rows) (sym (map-map (λ r. id_in (rowid r)) (λ a. rowid a ∷ []) found.0)) ∙ left_after terms params rows (map (λ a. rowid a ∷ []) found.0) shown it (ids_only rows found.0 asked) in
      let numbers = given (without_all rows (ids_of found.0)) news in
      let moved = IsPermutation-map (λ s. cast_row (keyed name tree columns key) (drop 1 s)) (shown_from terms project params rows) found.0 asked.same in
      let both : map (λ s. cast_row (keyed name tree columns key) (drop 1 s)) (shown_from terms project params rows) ≡ map new_row (filter p rows) = map-map _ _ _ in
      let fresh : are_fresh (filter (λ r. not (p r)) rows) news ≡ true = rw (numbers, left) at step.fresh in
      let same : SameRows (map new_row (filter p rows)) news =
      record {
        to = λ r h. has_permuted _ _ r moved (subst (λ xs. Has xs r) (sym both) h);
        from = λ r h. subst (λ xs. Has xs r) both (has_permuted _ _ r (IsPermutation-sym _ _ moved) h);
      } in
      let now : w.trees tree ≡ put_all (filter (λ r. not (p r)) rows) news = ap (λ (t : Trees). t tree) last ∙ step.rows ∙ ap (put_all (without_all rows (ids_of found.0))) numbers ∙ ap (λ (all : List Row). put_all all news) left in (
        subst (SameRows (map (changed p new_row) rows)) (sym now) (replaced p new_row rows news same fresh),
        subst AreApart (sym now) (apart_put_all news (filter (λ r. not (p r)) rows) fresh (apart_filter (λ r. not (p r)) rows it.apart)),
        subst (KeepsOthers schema tree db) (sym last) step.tables,
      )

  pub updates : (sql : List ℕ) (shown : List Row) (old new : State) (count : ℕ) → command_of (understood schema sql) ≡ Update at (rows_set tree terms project) → IsPlain (understood schema sql)
      → overlay old.now.trees [] tree ≡ old.now.trees tree → Lists (old.now.trees tree) shown
      → old.now.schema ≡ schema → ExecutesIn false sql params old new (Ok count) → HasSet schema tree terms params new_row old new
  updates sql shown old new count is plain here it has h =
      let command = Update at (rows_set tree terms project) in
      let w = runs_as sql params old new schema has command is plain count h in
      let text = statement_of sql (understood schema sql) in
      let all = subst (λ s. Does old.step_limit (mode_of old) params (record old.now { schema = s }) text None command (Ok (w.tally, new.now))) has w.changed in
      let done = went (rw bare.listed at all) in
      let now = ap (λ (p : Tally × Database). p.1) (same_value (went (went done.2).2).2) in
      let cut = sets old.step_limit shown old.now.trees done.0 here it done.1 in
      let trees : new.now.trees ≡ done.0.trees = ap (λ (d : Database). d.trees) now in
      let tree_is : new.now.trees tree ≡ done.0.trees tree = ap (λ (t : Trees). t tree) trees in
      record {
        schema_is = ap (λ (d : Database). d.schema) now;
        rows = subst (SameRows (map (changed (passes_all terms params) new_row) (old.now.trees tree))) (sym tree_is) cut.0;
        apart = subst AreApart (sym tree_is) cut.1;
        others = subst (KeepsOthers schema tree old.now.trees) (sym trees) cut.2;
      }
