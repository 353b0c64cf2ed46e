-- INSERT, UPDATE and DELETE, part by part.
use Rattle.std.proofs.Common.{◌≡◌, ◌∙◌, ℕ, Bool, false, ◌||◌, List, [], ◌∷◌, ◌++◌, map, sym, ap, subst}
use Rattle.cr_tree.specs.declared.statement.Assignment.{Assignment as AssignmentTree}
use Rattle.cr_tree.specs.declared.statement.Insert.{Insert as InsertTree}
use Rattle.cr_tree.specs.declared.statement.Update.{Update as UpdateTree}
use Rattle.cr_tree.specs.declared.statement.Delete.{Delete as DeleteTree}
use Rattle.cr_term.specs.declared.expr.Expr.{Expr}
use Rattle.cr_term.specs.declared.query.Relation.{Relation}
use Rattle.cr_term.specs.declared.query.Insert.{Insert}
use Rattle.cr_term.specs.declared.query.Assignment.{Assignment}
use Rattle.cr_term.specs.declared.query.Update.{Update}
use Rattle.cr_term.specs.declared.query.Delete.{Delete}
use Rattle.cr_resolve.specs.declared.refusal.Refusal.{Refusal}
use Rattle.cr_resolve.specs.declared.refusal.Refusal.TheVariants.{Misaggregate}
use Rattle.cr_resolve.specs.declared.reading.Made.{Made}
use Rattle.cr_resolve.specs.Known.{Known, table}
use Rattle.cr_resolve.specs.Expressions.{expr}
use Rattle.cr_resolve.specs.Reading.{Read, fine, each, when}
use Rattle.cr_resolve.specs.declared.scope.Source.{Source}
use Rattle.cr_resolve.specs.Told.{told, Refuses}
use Rattle.cr_resolve.specs.Writes.{assignments, delete, insert, insert_columns, insert_row, update, width, without_aggregates}
use Rattle.cr_resolve.proofs.Refusals.{ahead}
use Rattle.cr_written.specs.Targets.{target_once}
use Rattle.cr_written.specs.Updates.{assignment}
use Rattle.cr_written.specs.Parts.{filter_of, source_of}

-- ---- one part after another

module _ (f : Refusal) where
  early : (xs ys zs : List Refusal) → Refuses xs f → Refuses ((xs ++ ys) ++ zs) f
  early xs ys zs h = ahead (xs ++ ys) zs f (ahead xs ys f h)

  -- behind a part against which nothing stands
  late : (xs ys zs : List Refusal) → xs ≡ [] → Refuses ys f → Refuses ((xs ++ ys) ++ zs) f
  late xs ys zs is h = ahead (xs ++ ys) zs f (subst (λ (ws : List Refusal). Refuses (ws ++ ys) f) (sym is) h)

  of_whole : {A : Type 0} (r s : Read A) → r ≡ s → Refuses s.bad f → Refuses r.bad f
  of_whole {A} r s is h = subst (λ (w : Read A). Refuses w.bad f) (sym is) h

-- with nothing but this against it
abbrev against : {A : Type 0} → A → List Refusal → Read A
against x bad = record { bad = bad; misplaced = false; made = x }

-- ---- INSERT

module _ (known : Known) (i : InsertTree) where
  abbrev rows_over : Relation → Read (List (List Expr))
  rows_over r = each (map (insert_row known i.table (width r.definition i.columns)) i.rows)

  abbrev insert_with : Read Relation → Read (List ℕ) → Read (List (List Expr)) → Read Insert
  insert_with t cs rows = without_aggregates (record { bad = t.bad ++ cs.bad ++ rows.bad; misplaced = rows.misplaced; made = record { relation = t.made; columns = cs.made; rows = rows.made; is_ignored = false } })

  abbrev insert_over : Read Relation → Read Insert
  insert_over t = insert_with t (insert_columns t.made.definition i.columns) (rows_over t.made)

  pub insert_no_table : (f : Refusal) → Refuses (table known i.table).bad f → Refuses (insert known i).bad f
  insert_no_table f h =
      let t : Read Relation = table known i.table in
      let cs : Read (List ℕ) = insert_columns t.made.definition i.columns in
      early f (t.bad ++ cs.bad) (rows_over t.made).bad (when (rows_over t.made).misplaced Misaggregate) (ahead t.bad cs.bad f h)

  module _ (r : Relation) (is : table known i.table ≡ fine r) where
    insert_is : insert known i ≡ insert_over (fine r)
    insert_is = ap insert_over is

    pub insert_no_column : (f : Refusal) → Refuses (insert_columns r.definition i.columns).bad f → Refuses (insert known i).bad f
    insert_no_column f h =
        let rows : Read (List (List Expr)) = rows_over r in
        of_whole f (insert known i) (insert_over (fine r)) insert_is (early f (insert_columns r.definition i.columns).bad rows.bad (when rows.misplaced Misaggregate) h)

    module _ (cs : List ℕ) (named : insert_columns r.definition i.columns ≡ fine cs) where
      pub insert_no_row : (f : Refusal) → Refuses (rows_over r).bad f → Refuses (insert known i).bad f
      insert_no_row f h =
          let rows : Read (List (List Expr)) = rows_over r in
          of_whole f (insert known i) (insert_over (fine r)) insert_is
          (late f (insert_columns r.definition i.columns).bad rows.bad (when rows.misplaced Misaggregate) (ap (λ (x : Read (List ℕ)). x.bad) named) h)

      module _ (m : Made (List (List Expr))) (read : rows_over r ≡ told m) where
        insert_read : insert known i ≡ insert_with (fine r) (fine cs) (told m)
        insert_read = insert_is ∙ ap (λ (x : Read (List ℕ)). insert_with (fine r) x (rows_over r)) named ∙ ap (insert_with (fine r) (fine cs)) read

        pub insert_misplaced : (f : Refusal) → Refuses (when m.is_misplaced Misaggregate) f → Refuses (insert known i).bad f
        insert_misplaced f h = of_whole f (insert known i) (insert_with (fine r) (fine cs) (told m)) insert_read h

        pub inserted : when m.is_misplaced Misaggregate ≡ [] → insert known i ≡ fine (record { relation = r; columns = cs; rows = m.made; is_ignored = false })
        inserted h = insert_read ∙ ap (against (record { relation = r; columns = cs; rows = m.made; is_ignored = false })) h

-- ---- UPDATE

-- a value against which something stands, of a column that may be set
pub no_value : (known : Known) (s : Source) (b : Bool) (a : AssignmentTree) (at : ℕ) (f : Refusal) → target_once s.relation.definition b a.column ≡ fine at
    → Refuses (expr known (s ∷ []) false a.value).bad f → Refuses (assignment known s b a).bad f
no_value known s b a at f is h = subst (λ (r : Read ℕ). Refuses (r.bad ++ (expr known (s ∷ []) false a.value).bad) f) (sym is) h

module _ (known : Known) (u : UpdateTree) where
  abbrev values_over : Source → Read (List Assignment)
  values_over s = assignments known (s ∷ []) s.relation.definition [] u.assignments

  abbrev update_with : Read Source → Read (List Assignment) → Read (List Expr) → Read Update
  update_with t vs fs = without_aggregates (record { bad = t.bad ++ vs.bad ++ fs.bad; misplaced = vs.misplaced || fs.misplaced; made = record { relation = t.made.relation; assignments = vs.made; filter = fs.made } })

  abbrev update_over : Read Source → Read Update
  update_over t = update_with t (values_over t.made) (filter_of known t.made u.filter)

  pub update_no_table : (f : Refusal) → Refuses (source_of known u.table).bad f → Refuses (update known u).bad f
  update_no_table f h =
      let t : Read Source = source_of known u.table in
      let vs : Read (List Assignment) = values_over t.made in
      let fs : Read (List Expr) = filter_of known t.made u.filter in
      early f (t.bad ++ vs.bad) fs.bad (when (vs.misplaced || fs.misplaced) Misaggregate) (ahead t.bad vs.bad f h)

  module _ (s : Source) (is : source_of known u.table ≡ fine s) where
    update_is : update known u ≡ update_over (fine s)
    update_is = ap update_over is

    pub update_no_value : (f : Refusal) → Refuses (values_over s).bad f → Refuses (update known u).bad f
    update_no_value f h =
        let vs : Read (List Assignment) = values_over s in
        let fs : Read (List Expr) = filter_of known s u.filter in
        of_whole f (update known u) (update_over (fine s)) update_is (early f vs.bad fs.bad (when (vs.misplaced || fs.misplaced) Misaggregate) h)

    module _ (v : Made (List Assignment)) (valued : values_over s ≡ told v) where
      pub update_no_filter : (f : Refusal) → Refuses (filter_of known s u.filter).bad f → Refuses (update known u).bad f
      update_no_filter f h =
          let vs : Read (List Assignment) = values_over s in
          let fs : Read (List Expr) = filter_of known s u.filter in
          of_whole f (update known u) (update_over (fine s)) update_is
          (late f vs.bad fs.bad (when (vs.misplaced || fs.misplaced) Misaggregate) (ap (λ (x : Read (List Assignment)). x.bad) valued) h)

      module _ (w : Made (List Expr)) (kept : filter_of known s u.filter ≡ told w) (b : Bool) (either : b ≡ (v.is_misplaced || w.is_misplaced)) where
        update_read : update known u ≡ update_with (fine s) (told v) (told w)
        update_read = update_is ∙ ap (λ (x : Read (List Assignment)). update_with (fine s) x (filter_of known s u.filter)) valued ∙ ap (update_with (fine s) (told v)) kept

        pub update_misplaced : (f : Refusal) → Refuses (when b Misaggregate) f → Refuses (update known u).bad f
        update_misplaced f h =
            of_whole f (update known u) (update_with (fine s) (told v) (told w)) update_read (subst (λ (c : Bool). Refuses (when c Misaggregate) f) either h)

        pub updated : when b Misaggregate ≡ [] → update known u ≡ fine (record { relation = s.relation; assignments = v.made; filter = w.made })
        updated h =
            update_read ∙ ap (λ (c : Bool). against (record { relation = s.relation; assignments = v.made; filter = w.made }) (when c Misaggregate)) (sym either)
            ∙ ap (against (record { relation = s.relation; assignments = v.made; filter = w.made })) h

-- ---- DELETE

module _ (known : Known) (d : DeleteTree) where
  abbrev delete_with : Read Source → Read (List Expr) → Read Delete
  delete_with t fs = without_aggregates (record { bad = t.bad ++ fs.bad; misplaced = fs.misplaced; made = record { relation = t.made.relation; filter = fs.made } })

  abbrev delete_over : Read Source → Read Delete
  delete_over t = delete_with t (filter_of known t.made d.filter)

  pub delete_no_table : (f : Refusal) → Refuses (source_of known d.table).bad f → Refuses (delete known d).bad f
  delete_no_table f h =
      let t : Read Source = source_of known d.table in
      let fs : Read (List Expr) = filter_of known t.made d.filter in
      early f t.bad fs.bad (when fs.misplaced Misaggregate) h

  module _ (s : Source) (is : source_of known d.table ≡ fine s) where
    delete_is : delete known d ≡ delete_over (fine s)
    delete_is = ap delete_over is

    pub delete_no_filter : (f : Refusal) → Refuses (filter_of known s d.filter).bad f → Refuses (delete known d).bad f
    delete_no_filter f h =
        let fs : Read (List Expr) = filter_of known s d.filter in
        of_whole f (delete known d) (delete_over (fine s)) delete_is (ahead fs.bad (when fs.misplaced Misaggregate) f h)

    module _ (w : Made (List Expr)) (kept : filter_of known s d.filter ≡ told w) where
      delete_read : delete known d ≡ delete_with (fine s) (told w)
      delete_read = delete_is ∙ ap (delete_with (fine s)) kept

      pub delete_misplaced : (f : Refusal) → Refuses (when w.is_misplaced Misaggregate) f → Refuses (delete known d).bad f
      delete_misplaced f h = of_whole f (delete known d) (delete_with (fine s) (told w)) delete_read h

      pub deleted : when w.is_misplaced Misaggregate ≡ [] → delete known d ≡ fine (record { relation = s.relation; filter = w.made })
      deleted h = delete_read ∙ ap (against (record { relation = s.relation; filter = w.made })) h
