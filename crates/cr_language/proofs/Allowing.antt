-- Each column that stands in an accepted statement may be read.
use Rattle.std.proofs.Common.{◌≡◌, ◌∙◌, false, List, [], ◌∷◌, ◌++◌, map, filter, Option, Some, None, Ok, refl, ap, sym, subst}
use Rattle.std.specs.Prelude.{get_or, not}
use Rattle.std.specs.Option.{option_map, option_to_list}
use Rattle.std.specs.List.{AllByRecursion, flat_map}
use Rattle.std.proofs.lemmas.Option.{get_or_from_slice_get}
use Rattle.cr_host.specs.declared.meaning.Action.TheVariants.{Read}
use Rattle.cr_host.specs.declared.meaning.Auth.{Auth}
use Rattle.cr_host.specs.declared.meaning.Auth.TheVariants as auth
use Rattle.cr_tree.specs.declared.statement.Select.{Select}
use Rattle.cr_tree.specs.declared.statement.Statement.{Statement}
use Rattle.cr_tree.specs.declared.statement.Statement.TheVariants as s
use Rattle.cr_term.specs.declared.expr.Column.{Column as Field}
use Rattle.cr_term.specs.declared.expr.Expr.{Expr}
use Rattle.cr_term.specs.declared.query.Relation.{Relation}
use Rattle.cr_term.specs.declared.query.Joined.{Joined}
use Rattle.cr_term.specs.declared.query.GroupTerm.{GroupTerm}
use Rattle.cr_term.specs.declared.query.OrderTerm.{OrderTerm}
use Rattle.cr_term.specs.declared.query.ResultColumn.{ResultColumn}
use Rattle.cr_term.specs.declared.query.Assignment.{Assignment}
use Rattle.cr_term.specs.declared.query.Query.{Query}
use Rattle.cr_term.specs.declared.query.Insert.{Insert}
use Rattle.cr_term.specs.declared.query.Update.{Update}
use Rattle.cr_term.specs.declared.query.Delete.{Delete}
use Rattle.cr_term.specs.declared.query.Resolved.{Resolved}
use Rattle.cr_term.specs.declared.query.Resolved.TheVariants as r
use Rattle.cr_term.specs.Parts.{columns}
use Rattle.cr_resolve.specs.declared.refusal.Refusal.{Refusal}
use Rattle.cr_questions.specs.declared.question.Question.{Question}
use Rattle.cr_questions.specs.Questions.{Name, Answers, ask, is_denied, is_ignored, denied, ignored, no_table, no_column, relation_at, read_of, asked, asked_all, update_of, questions, relations_of, exprs_of, bare_reads, first_denied, left, left_joined, left_order, left_query, left_of, result_column}
use Rattle.cr_resolve.specs.Known.{Known, table}
use Rattle.cr_resolve.specs.Queries.{written, sources_of, select}
use Rattle.cr_resolve.specs.Writes.{insert, update, delete}
use Rattle.cr_resolve.specs.Resolve.{marked, select_or_mark, read, complaints, judged, or_allowed}
use Rattle.cr_language.specs.Reads.{MayBeRead, ReadsAreAllowed, tables_of, exprs_in}
use Rattle.cr_language.proofs.Lists.{all_left, all_right, map_map}
use Rattle.cr_language.proofs.Members.{all_append, all_weaker, all_both, all_map, all_filter, all_in_flat}
use Rattle.cr_language.proofs.Leaving.{Stays, leaves, asks, none_denied}
use Rattle.cr_language.proofs.Resolving.{Sees}
use Rattle.cr_language.proofs.Selecting.{joined_relations, select_has}
use Rattle.cr_language.proofs.Writing.{insert_has, update_has, delete_has}
use Rattle.cr_language.proofs.Sighted.{IsIn, are_in_sight}

-- ---- one expression

is_ok : (a : Auth) → is_denied a ≡ false → is_ignored a ≡ false → a ≡ auth.Ok
is_ok auth.Ok d i = refl
is_ok auth.Deny d i = absurd (let z : ⊥ = cc in z)
is_ok auth.Ignore d i = absurd (let z : ⊥ = cc in z)

module _ (answers : Answers) (tables : List Relation) where
  abbrev Undenied : Question → Type 0
  Undenied q = denied answers q ≡ false

  -- a column of these tables whose READ is not denied
  abbrev IsAsked : Field → Type 0
  IsAsked c = IsIn tables c × Undenied (read_of tables c)

  may_be_read : (c : Field) → Stays answers tables IsAsked c → MayBeRead answers tables c
  may_be_read c h =
      let at = h.0.0 in
      let table_is : relation_at tables c ≡ at.table = get_or_from_slice_get tables c.source at.table no_table at.is_of in
      let column_is : get_or at.table.definition.columns c.place no_column ≡ at.column = get_or_from_slice_get at.table.definition.columns c.place at.column no_column at.is_in in
      let is : read_of tables c ≡ ask Read at.table.definition.name at.column.name =
      ap (λ (t : Relation). ask Read t.definition.name (get_or t.definition.columns c.place no_column).name) table_is ∙ ap (λ d. ask Read at.table.definition.name d.name) column_is in
      record {
        table = at.table;
        column = at.column;
        is_of = at.is_of;
        is_in = at.is_in;
        at = at.at;
        is_allowed = is_ok (answers Read at.table.definition.name at.column.name) (ap (denied answers) (sym is) ∙ h.0.1) (ap (ignored answers) (sym is) ∙ h.1);
      }

  -- its columns are of these tables, and nothing that is asked of it is denied
  abbrev IsFine : Expr → Type 0
  IsFine x = AllByRecursion (IsIn tables) (columns x) × AllByRecursion Undenied (asked tables x)

  abbrev IsRead : Expr → Type 0
  IsRead x = AllByRecursion (MayBeRead answers tables) (columns x)

  left_read : (x : Expr) → IsFine x → IsRead (left answers tables x)
  left_read x h =
      all_weaker (Stays answers tables IsAsked) (MayBeRead answers tables) may_be_read (columns (left answers tables x))
      (leaves answers tables IsAsked x (all_both (IsIn tables) (λ c. Undenied (read_of tables c)) (columns x) h.0 (asks tables Undenied x h.1)))

  are_fine : (es : List Expr) → AllByRecursion (λ x. AllByRecursion (IsIn tables) (columns x)) es → AllByRecursion Undenied (asked_all tables es) → AllByRecursion IsFine es
  are_fine [] h k = tt
  are_fine (x ∷ es) h k = ((h.0, all_left Undenied (asked tables x) (asked_all tables es) k), are_fine es h.1 (all_right Undenied (asked tables x) (asked_all tables es) k))

  -- the same of what has an expression
  left_all : {X : Type 0} (f : X → Expr) (xs : List X) → AllByRecursion IsFine (map f xs) → AllByRecursion (λ x. IsRead (left answers tables (f x))) xs
  left_all f [] h = tt
  left_all f (x ∷ xs) h = (left_read (f x) h.0, left_all f xs h.1)

  left_some : (o : Option Expr) → AllByRecursion IsFine (option_to_list o) → AllByRecursion IsRead (option_to_list (option_map (left answers tables) o))
  left_some None h = tt
  left_some (Some x) h = (left_read x h.0, tt)

  left_list : (es : List Expr) → AllByRecursion IsFine es → AllByRecursion IsRead (map (left answers tables) es)
  left_list es h = all_map IsRead (left answers tables) es (all_weaker IsFine (λ x. IsRead (left answers tables x)) left_read es h)

  left_ons : (js : List Joined) → AllByRecursion IsFine (flat_map (λ j. j.on) js) → AllByRecursion IsRead (flat_map (λ j. j.on) (map (left_joined (left answers tables)) js))
  left_ons [] h = tt
  left_ons (j ∷ js) h =
      let more = flat_map (λ (j : Joined). j.on) js in
      all_append IsRead (map (left answers tables) j.on) (flat_map (λ j. j.on) (map (left_joined (left answers tables)) js)) (left_list j.on (all_left IsFine j.on more h)) (left_ons js (all_right IsFine j.on more h))

  -- ---- a query

  left_exprs : (q : Query) → AllByRecursion IsFine (exprs_of q) → AllByRecursion IsRead (exprs_of (left_query (left answers tables) q))
  left_exprs q h =
      let f = left answers tables in
      let z = left_query f q in
      let results = map (λ (c : ResultColumn). c.expr) q.results in
      let ons = flat_map (λ (j : Joined). j.on) q.joined in
      let groups = map (λ (g : GroupTerm). g.expr) q.groups in
      let having = option_to_list q.having in
      let order = map (λ (t : OrderTerm). t.expr) q.order in
      let h4 = all_left IsFine (results ++ ons ++ q.filter ++ groups ++ having) order h in
      let h3 = all_left IsFine (results ++ ons ++ q.filter ++ groups) having h4 in
      let h2 = all_left IsFine (results ++ ons ++ q.filter) groups h3 in
      let h1 = all_left IsFine (results ++ ons) q.filter h2 in
      let results' = map (λ (c : ResultColumn). c.expr) z.results in
      let ons' = flat_map (λ (j : Joined). j.on) z.joined in
      let groups' = map (λ (g : GroupTerm). g.expr) z.groups in
      let having' = option_to_list z.having in
      let order' = map (λ (t : OrderTerm). t.expr) z.order in
      all_append IsRead (results' ++ ons' ++ z.filter ++ groups' ++ having') order'
      (all_append IsRead (results' ++ ons' ++ z.filter ++ groups') having'
      (all_append IsRead (results' ++ ons' ++ z.filter) groups'
      (all_append IsRead (results' ++ ons') z.filter
      (all_append IsRead results' ons'
      (all_map IsRead (λ (c : ResultColumn). c.expr) z.results (all_map (λ (c : ResultColumn). IsRead c.expr) (λ (c : ResultColumn). result_column (f c.expr)) q.results (left_all (λ (c : ResultColumn). c.expr) q.results (all_left IsFine results ons h1))))
      (left_ons q.joined (all_right IsFine results ons h1)))
      (left_list q.filter (all_right IsFine (results ++ ons) q.filter h2)))
      (all_map IsRead (λ (g : GroupTerm). g.expr) z.groups
      (all_map (λ (g : GroupTerm). IsRead g.expr) (λ (g : GroupTerm). record { expr = f g.expr; collation = g.collation }) q.groups (left_all (λ (g : GroupTerm). g.expr) q.groups (all_right IsFine (results ++ ons ++ q.filter) groups h3)))))
      (left_some q.having (all_right IsFine (results ++ ons ++ q.filter ++ groups) having h4)))
      (all_map IsRead (λ (t : OrderTerm). t.expr) z.order
      (all_map (λ (t : OrderTerm). IsRead t.expr) (left_order f) q.order (left_all (λ (t : OrderTerm). t.expr) q.order (all_right IsFine (results ++ ons ++ q.filter ++ groups ++ having) order h))))

  -- the columns of all
  flat_read : (es : List Expr) → AllByRecursion IsRead es → AllByRecursion (MayBeRead answers tables) (flat_map columns es)
  flat_read es h = all_in_flat (MayBeRead answers tables) columns es h

-- ---- statements

pub relations_left : (f : Expr → Expr) (q : Query) → relations_of (left_query f q) ≡ relations_of q
relations_left f q = map_map (left_joined f) (λ j. j.relation) (λ j. j.relation) (λ j. refl) q.joined

-- what is left of a statement that is not denied
module _ (known : Known) (answers : Answers) where
  abbrev AreRead : Resolved → Type 0
  AreRead y = AllByRecursion (MayBeRead answers (tables_of y)) (flat_map columns (exprs_in y))

  select_read : (q : Select) → AllByRecursion (λ q. denied answers q ≡ false) (questions (r.Select (select known q).made)) → AreRead (left_of answers (r.Select (select known q).made))
  select_read q h =
      let made = (select known q).made in
      let tables = relations_of made in
      let sources = (sources_of known (written q.from)).made in
      let qs = asked_all tables (exprs_of made) in
      let sees : Sees known (IsIn tables) sources = subst (λ ts. Sees known (IsIn ts) sources) (sym (joined_relations known sources 0 (written q.from))) (are_in_sight sources) in
      let fine = are_fine answers tables (exprs_of made) (select_has known (IsIn tables) q sees) (all_left (λ (q : Question). denied answers q ≡ false) qs (bare_reads tables (flat_map columns (exprs_of made))) h.1) in
      let es = exprs_of (left_query (left answers tables) made) in
      subst (λ ts. AllByRecursion (MayBeRead answers ts) (flat_map columns es)) (sym (relations_left (left answers tables) made))
      (flat_read answers tables es (left_exprs answers tables made fine))

  insert_read : (i : Insert) → AllByRecursion (λ x. AllByRecursion (IsIn []) (columns x)) (flat_map (λ row. row) i.rows) → AllByRecursion (λ q. denied answers q ≡ false) (questions (r.Insert i))
      → AreRead (left_of answers (r.Insert i))
  insert_read i h k = flat_read answers [] (flat_map (λ row. row) (map (map (left answers [])) i.rows)) (rows_read i.rows (are_fine answers [] (flat_map (λ row. row) i.rows) h k.1)) where
    rows_read : (rows : List (List Expr)) → AllByRecursion (IsFine answers []) (flat_map (λ row. row) rows) → AllByRecursion (IsRead answers []) (flat_map (λ row. row) (map (map (left answers [])) rows))
    rows_read [] h = tt
    rows_read (row ∷ rows) h =
        all_append (IsRead answers []) (map (left answers []) row) (flat_map (λ row. row) (map (map (left answers [])) rows))
        (left_list answers [] row (all_left (IsFine answers []) row (flat_map (λ row. row) rows) h)) (rows_read rows (all_right (IsFine answers []) row (flat_map (λ row. row) rows) h))

  delete_read : (d : Delete) → AllByRecursion (λ x. AllByRecursion (IsIn (d.relation ∷ [])) (columns x)) d.filter → AllByRecursion (λ q. denied answers q ≡ false) (questions (r.Delete d))
      → AreRead (left_of answers (r.Delete d))
  delete_read d h k =
      let tables = d.relation ∷ [] in
      flat_read answers tables (map (left answers tables) d.filter) (left_list answers tables d.filter (are_fine answers tables d.filter h k.1))

  update_read : (u : Update) → AllByRecursion (λ x. AllByRecursion (IsIn (u.relation ∷ [])) (columns x)) (map (λ a. a.value) u.assignments ++ u.filter)
      → AllByRecursion (λ q. denied answers q ≡ false) (questions (r.Update u)) → AreRead (left_of answers (r.Update u))
  update_read u h k =
      let tables = u.relation ∷ [] in
      let values = map (λ (a : Assignment). a.value) u.assignments in
      let assigned = map (λ (a : Assignment). update_of u.relation a.column) u.assignments in
      let fine = are_fine answers tables (values ++ u.filter) h (all_right (λ (q : Question). denied answers q ≡ false) assigned (asked_all tables (values ++ u.filter)) k) in
      let keeps = λ (a : Assignment). not (ignored answers (update_of u.relation a.column)) in
      let made = λ (a : Assignment). (let b : Assignment = record { column = a.column; value = left answers tables a.value } in b) in
      let kept = filter keeps u.assignments in
      let of_value = λ (a : Assignment). IsRead answers tables a.value in
      flat_read answers tables (map (λ a. a.value) (map made kept) ++ map (left answers tables) u.filter)
      (all_append (IsRead answers tables) (map (λ a. a.value) (map made kept)) (map (left answers tables) u.filter)
      (all_map (IsRead answers tables) (λ a. a.value) (map made kept)
      (all_map of_value made kept (all_filter (λ a. of_value (made a)) keeps u.assignments (left_all answers tables (λ a. a.value) u.assignments (all_left (IsFine answers tables) values u.filter fine)))))
      (left_list answers tables u.filter (all_right (IsFine answers tables) values u.filter fine)))

  -- ---- the whole

  read_left : (x : Statement) → AllByRecursion (λ q. denied answers q ≡ false) (questions (read known x).made) → AreRead (left_of answers (read known x).made)
  read_left (s.Select q) h = by (marked q) h where
    by : (o : Option Name) → AllByRecursion (λ q. denied answers q ≡ false) (questions (select_or_mark known q o).made) → AreRead (left_of answers (select_or_mark known q o).made)
    by None h = select_read q h
    by (Some name) h = tt
  read_left (s.Insert i) h = insert_read (insert known i).made (insert_has known (IsIn []) i) h
  read_left (s.Update u) h =
      let relation = (table known u.table).made in
      update_read (update known u).made (update_has known (IsIn (relation ∷ [])) u (are_in_sight (record { name = u.table; relation = relation } ∷ []))) h
  read_left (s.Delete d) h =
      let relation = (table known d.table).made in
      delete_read (delete known d).made (delete_has known (IsIn (relation ∷ [])) d (are_in_sight (record { name = d.table; relation = relation } ∷ []))) h
  read_left (s.Create c) h = tt
  read_left (s.Alter a) h = tt
  read_left (s.Begin mode) h = tt
  read_left s.Commit h = tt
  read_left s.Rollback h = tt

  by_denied : (x : Resolved) (y : Resolved) (o : Option Question) → first_denied answers (questions x) ≡ o → or_allowed answers x o ≡ Ok y
      → (AllByRecursion (λ q. denied answers q ≡ false) (questions x) → AreRead (left_of answers x)) → AreRead y
  by_denied x y None is e f = let same : left_of answers x ≡ y = cc in subst AreRead same (f (none_denied answers (questions x) is))
  by_denied x y (Some q) is e f = absurd (let z : ⊥ = cc in z)

  by_bad : (x : Resolved) (y : Resolved) (bad : List Refusal) → judged answers x bad ≡ Ok y
      → (AllByRecursion (λ q. denied answers q ≡ false) (questions x) → AreRead (left_of answers x)) → AreRead y
  by_bad x y (f ∷ fs) e g = absurd (let z : ⊥ = cc in z)
  by_bad x y [] e g = by_denied x y (first_denied answers (questions x)) refl e g

pub reads_allowed : ReadsAreAllowed
reads_allowed known answers x y e = by_bad known answers (read known x).made y (complaints known x) e (read_left known answers x)
