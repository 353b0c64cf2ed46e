-- This project's SQL is a language of sessions.
use Rattle.std.proofs.Common.{◌≡◌, inr, ◌∙◌, ℕ, suc, Bool, true, false, List, [], ◌∷◌, ◌++◌, map, length, find, Option, Some, None, Ok, Err, refl, ap, sym, subst, slice_get}
use Rattle.std.specs.Prelude.{Result, if◌then◌else◌, get_or}
use Rattle.std.specs.Option.{option_map, option_or, is_none}
use Rattle.std.specs.List.{AllByRecursion, AllZip}
use Rattle.std.specs.Str.{bytes_eq}
use Rattle.std.proofs.lemmas.Slice.Eq.{bytes_eq-Decides}
use Rattle.std.proofs.lemmas.Map.Text.{is_eq-slice_cmp}
use Rattle.cr_value.specs.declared.value.Value.{Value}
use Rattle.cr_lattice.specs.declared.catalog.Catalog.{Catalog}
use Rattle.cr_lattice.specs.declared.table.Table.{Table}
use Rattle.cr_lattice.specs.declared.table.TableDef.{TableDef}
use Rattle.cr_lattice.specs.Check.{same_bytes}
use Rattle.cr_cells.specs.Tables.{is_named}
use Rattle.cr_tree.specs.declared.statement.Select.{Select}
use Rattle.cr_tree.specs.declared.statement.Statement.{Statement}
use Rattle.cr_tree.specs.declared.statement.Statement.TheVariants as s
use Rattle.cr_term.specs.declared.expr.Column.{Column as Field}
use Rattle.cr_term.specs.declared.query.Held.TheVariants as held
use Rattle.cr_term.specs.declared.query.Relation.{Relation}
use Rattle.cr_term.specs.declared.query.Query.{Query as Resolving}
use Rattle.cr_term.specs.declared.query.Resolved.{Resolved}
use Rattle.cr_term.specs.declared.query.Resolved.TheVariants as r
use Rattle.cr_term.specs.Parts.{columns}
use Rattle.cr_expr.specs.Laws.{AgreeOn}
use Rattle.cr_expr.proofs.ReadsLaw.{reads_law}
use Rattle.cr_query.specs.Queries.{Query}
use Rattle.cr_query.specs.Query.{Row, Meaning, answer}
use Rattle.cr_query.specs.Plans.{masked, seen}
use Rattle.cr_meaning.specs.View.{Ordered, query, joining, inner_terms, plain}
use Rattle.cr_meaning.specs.Meaning.{value_of, meaning, at_row, at_group, limit_of}
use Rattle.cr_meaning.proofs.BagLaw.{lawful}
use Rattle.cr_resolve.specs.declared.refusal.Refusal.{Refusal as Unresolved}
use Rattle.cr_resolve.specs.Known.{Known, table_at, module_at, relation_of}
use Rattle.cr_questions.specs.Questions.{Name, Answers}
use Rattle.cr_resolve.specs.Resolve.{marked, resolved}
use Rattle.cr_world.specs.Resolved as world
use Rattle.cr_world.specs.Language.{IsLanguage, IsOf, IsSelect, AreWide, definition_in}
use Rattle.cr_language.specs.Laws.{unplaced, unplaced_joined, unplaced_query, unplaced_resolved, unplaced_outcome, asks_no_replica, table_names, StandsForTheSame}
use Rattle.cr_language.specs.Standing.{standing, mask_of}
use Rattle.cr_language.specs.Sql.{Engine, known, view, viewed, select_names, names, is_select, places, sql}
use Rattle.cr_language.proofs.Lists.{map_map, flat_map_map}
use Rattle.cr_language.proofs.Asking.{look_at_their_names}
use Rattle.cr_language.proofs.Tables.{read_their_tables}
use Rattle.cr_language.proofs.Masks.{answer_unseen}
use Rattle.cr_language.proofs.Standing.{Seen, are_seen, masked_at}

-- ---- what a name stands for

abbrev pub of_definition : TableDef → Relation
of_definition d = record { held = held.Module 0; definition = d }

same_name : (m n : Name) → bytes_eq m n ≡ same_bytes n m
same_name m n = symmetric (bytes_eq m n) (bytes_eq n m) refl refl ∙ sym (is_eq-slice_cmp n m) where
  symmetric : (b c : Bool) → bytes_eq m n ≡ b → bytes_eq n m ≡ c → b ≡ c
  symmetric true true e f = refl
  symmetric false false e f = refl
  symmetric true false e f = absurd (let z : true ≡ false = sym ((bytes_eq-Decides n m).1 (sym ((bytes_eq-Decides m n).0 e))) ∙ f in let y : ⊥ = cc in y)
  symmetric false true e f = absurd (let z : true ≡ false = sym ((bytes_eq-Decides m n).1 (sym ((bytes_eq-Decides n m).0 f))) ∙ e in let y : ⊥ = cc in y)

found_is : {X : Type 0} (b c : Bool) (here : Relation) (more : Option Relation) (x : X) (xs : Option X) (f : X → Relation) → b ≡ c → unplaced here ≡ f x → option_map unplaced more ≡ option_map f xs
    → option_map unplaced (if b then Some here else more) ≡ option_map f (if c then Some x else xs)
found_is true true here more x xs f e h k = ap Some h
found_is true false here more x xs f e h k = absurd (let z : ⊥ = cc in z)
found_is false true here more x xs f e h k = absurd (let z : ⊥ = cc in z)
found_is false false here more x xs f e h k = k

table_found : (name : Name) (at : ℕ) (ts : List Table) → option_map unplaced (table_at name at ts) ≡ option_map (λ t. of_definition t.definition) (find (is_named name) ts)
table_found name at [] = refl
table_found name at (t ∷ ts) =
    found_is (bytes_eq name t.definition.name) (same_bytes t.definition.name name) (record { held = held.Table at t.is_replicated; definition = t.definition }) (table_at name (suc at) ts) t (find (is_named name) ts)
    (λ (u : Table). of_definition u.definition) (same_name name t.definition.name) refl (table_found name (suc at) ts)

twice_mapped : (o : Option Table) → option_map {U = Relation} (λ t. of_definition t.definition) o ≡ option_map of_definition (option_map (λ t. t.definition) o)
twice_mapped None = refl
twice_mapped (Some t) = refl

table_is : (name : Name) (at : ℕ) (ts : List Table) → option_map unplaced (table_at name at ts) ≡ option_map of_definition (option_map (λ t. t.definition) (find (is_named name) ts))
table_is name at ts = table_found name at ts ∙ twice_mapped (find (is_named name) ts)

module_is : (name : Name) (at : ℕ) (ms : List TableDef) → option_map unplaced (module_at name at ms) ≡ option_map of_definition (find (λ d. same_bytes d.name name) ms)
module_is name at [] = refl
module_is name at (m ∷ ms) =
    found_is (bytes_eq name m.name) (same_bytes m.name name) (record { held = held.Module at; definition = m }) (module_at name (suc at) ms) m (find (λ (d : TableDef). same_bytes d.name name) ms)
    of_definition (same_name name m.name) refl (module_is name (suc at) ms)

either_is : (o p : Option Relation) (x y : Option TableDef) → option_map unplaced o ≡ option_map of_definition x → option_map unplaced p ≡ option_map of_definition y
    → option_map unplaced (option_or o p) ≡ option_map of_definition (option_or x y)
either_is None p None y e f = f
either_is None p (Some d) y e f = absurd (let z : ⊥ = cc in z)
either_is (Some a) p None y e f = absurd (let z : ⊥ = cc in z)
either_is (Some a) p (Some d) y e f = e

pub stands_for : (k : Known) (name : Name) → option_map unplaced (relation_of k name) ≡ option_map of_definition (definition_in k.catalog name)
stands_for k name =
    either_is (table_at name 0 k.catalog.tables) (module_at name 0 k.catalog.modules) (option_map (λ t. t.definition) (find (is_named name) k.catalog.tables)) (find (λ d. same_bytes d.name name) k.catalog.modules)
    (table_is name 0 k.catalog.tables) (module_is name 0 k.catalog.modules)

same_stands : (k : Known) (c d : Catalog) (ns : List Name) → AllByRecursion (λ n. definition_in c n ≡ definition_in d n) ns → AllByRecursion (StandsForTheSame k c d) ns
same_stands k c d [] h = tt
same_stands k c d (n ∷ ns) h =
    (stands_for (record k { catalog = c }) n ∙ ap (option_map of_definition) h.0 ∙ sym (stands_for (record k { catalog = d }) n), same_stands k c d ns h.1)

-- ---- what sessions see of a statement doesn't depend on where its relations stand

query_unplaced : (q : Resolving) → query (unplaced_query q) ≡ query q
query_unplaced q =
    λ i. record (query q) {
      sources = map_map unplaced_joined joining joining (λ j. refl) q.joined i;
      terms = flat_map_map unplaced_joined inner_terms inner_terms (λ j. refl) q.joined i ++ map plain q.filter;
    }

view_unplaced : (x : Resolved) → view (unplaced_resolved x) ≡ view x
view_unplaced (r.Select q) =
    λ i. world.Select (map_map unplaced_joined (λ j. j.relation.definition.name) (λ j. j.relation.definition.name) (λ j. refl) q.joined i) (query_unplaced q i)
view_unplaced (r.MarkReplicated m) = refl
view_unplaced (r.Insert i) = refl
view_unplaced (r.Update u) = refl
view_unplaced (r.Delete d) = refl
view_unplaced (r.Create c) = refl
view_unplaced (r.Alter a) = refl
view_unplaced r.Begin = refl
view_unplaced r.Commit = refl
view_unplaced r.Rollback = refl

viewed_unplaced : (o : Result Resolved Unresolved) → viewed (unplaced_outcome o) ≡ viewed o
viewed_unplaced (Ok x) = ap Ok (view_unplaced x)
viewed_unplaced (Err f) = refl

-- ---- selects

is_unmarked : (o : Option Name) → is_none o ≡ true → o ≡ None
is_unmarked None e = refl
is_unmarked (Some n) e = absurd (let z : ⊥ = cc in z)

record SelectOf (x : Statement) : Type 0 where
  select : Select
  is : x ≡ s.Select select
  unmarked : marked select ≡ None

select_of : (x : Statement) → is_select x ≡ true → SelectOf x
select_of (s.Select q) e = record { select = q; is = refl; unmarked = is_unmarked (marked q) e }
select_of (s.Insert i) e = absurd (let z : ⊥ = cc in z)
select_of (s.Update u) e = absurd (let z : ⊥ = cc in z)
select_of (s.Delete d) e = absurd (let z : ⊥ = cc in z)
select_of (s.Create c) e = absurd (let z : ⊥ = cc in z)
select_of (s.Alter a) e = absurd (let z : ⊥ = cc in z)
select_of (s.Begin mode) e = absurd (let z : ⊥ = cc in z)
select_of s.Commit e = absurd (let z : ⊥ = cc in z)
select_of s.Rollback e = absurd (let z : ⊥ = cc in z)

names_are : (x : Statement) (h : SelectOf x) → names x ≡ table_names h.select
names_are x h = ap names h.is ∙ ap (select_names h.select) h.unmarked

module _ (e : Engine) where
  local_ : (x : Statement) (c d : Catalog) (ask : Answers) → is_select x ≡ true → asks_no_replica x ≡ true → AllByRecursion (λ n. definition_in c n ≡ definition_in d n) (names x)
      → viewed (resolved (known e c) ask x) ≡ viewed (resolved (known e d) ask x)
  local_ x c d ask sel free agree =
      let h = select_of x sel in
      subst (λ (y : Statement). viewed (resolved (known e c) ask y) ≡ viewed (resolved (known e d) ask y)) (sym h.is)
      (sym (viewed_unplaced (resolved (known e c) ask (s.Select h.select)))
      ∙ ap viewed (look_at_their_names (known e c) c d ask h.select h.unmarked (subst (λ (y : Statement). asks_no_replica y ≡ true) h.is free)
      (same_stands (known e c) c d (table_names h.select) (subst (λ (ns : List Name). AllByRecursion (λ n. definition_in c n ≡ definition_in d n) ns) (names_are x h) agree)))
      ∙ viewed_unplaced (resolved (known e d) ask (s.Select h.select)))

  -- what an accepted select is
  pub record Accepted (x : Statement) (y : world.Resolved Ordered) : Type 0 where
    pub query : Query Ordered
    pub is : y ≡ world.Select (names x) query

  by_outcome : (k : Known) (ask : Answers) (q : Select) (o : Result Resolved Unresolved) (y : world.Resolved Ordered) → marked q ≡ None → resolved k ask (s.Select q) ≡ o → viewed o ≡ Ok y
      → (z : Query Ordered) × (y ≡ world.Select (table_names q) z)
  by_outcome k ask q (Err f) y u p v = absurd (let z : ⊥ = cc in z)
  by_outcome k ask q (Ok w) y u p v =
      let t = read_their_tables k ask q w u p in
      let is : view w ≡ y = cc in
      (query t.0, sym is ∙ ap view t.1.0 ∙ ap (λ (ns : List Name). world.Select ns (query t.0)) t.1.1)

  pub accepted : (x : Statement) (c : Catalog) (ask : Answers) (y : world.Resolved Ordered) → is_select x ≡ true → viewed (resolved (known e c) ask x) ≡ Ok y → Accepted x y
  accepted x c ask y sel v =
      let h = select_of x sel in
      let t = by_outcome (known e c) ask h.select (resolved (known e c) ask (s.Select h.select)) y h.unmarked refl
      (subst (λ (z : Statement). viewed (resolved (known e c) ask z) ≡ Ok y) h.is v) in
      record { query = t.0; is = t.1 ∙ ap (λ (ns : List Name). world.Select ns t.0) (sym (names_are x h)) }

  of_itself : (xs pre : List Name) → AllByRecursion (IsOf (pre ++ xs)) xs
  of_itself [] pre = tt
  of_itself (x ∷ xs) pre = ((length pre, at pre), subst (λ (all : List Name). AllByRecursion (IsOf all) xs) (shift pre) (of_itself xs (pre ++ x ∷ []))) where
    at : (ys : List Name) → slice_get (ys ++ x ∷ xs) (length ys) ≡ Some x
    at [] = refl
    at (y ∷ ys) = at ys

    shift : (ys : List Name) → (ys ++ x ∷ []) ++ xs ≡ ys ++ x ∷ xs
    shift [] = refl
    shift (y ∷ ys) = ap (λ l. y ∷ l) (shift ys)

  pub same_names : (ms ns : List Name) (p q : Query Ordered) → world.Select ms p ≡ world.Select ns q → ms ≡ ns
  same_names ms ns p q e = cc

  reads_ : (x : Statement) (c : Catalog) (ask : Answers) (ns : List Name) (q : Query Ordered) → is_select x ≡ true → viewed (resolved (known e c) ask x) ≡ Ok (world.Select ns q)
      → AllByRecursion (IsOf (names x)) ns
  reads_ x c ask ns q sel v =
      let a = accepted x c ask (world.Select ns q) sel v in
      subst (λ (ms : List Name). AllByRecursion (IsOf (names x)) ms) (sym (same_names ns (names x) q a.query a.is)) (of_itself (names x) [])

  selects_ : (x : Statement) (c : Catalog) (ask : Answers) (y : world.Resolved Ordered) → is_select x ≡ true → viewed (resolved (known e c) ask x) ≡ Ok y → IsSelect y
  selects_ x c ask y sel v = let a = accepted x c ask y sel v in (names x, (a.query, a.is))

  -- ---- columns that don't stand

  agrees : (mask : List Bool) (row : Row) (cs : List Field) → AllByRecursion (λ p. get_or mask p true ≡ true) (map (λ c. c.at) cs) → AgreeOn cs (masked mask row) row
  agrees mask row [] h = tt
  agrees mask row (c ∷ cs) h = (masked_at mask row c.at h.0, agrees mask row cs h.1)

  rows_agree : (mask : List Bool) (rows : List Row) (cs : List Field) → AllByRecursion (λ p. get_or mask p true ≡ true) (map (λ c. c.at) cs) → AllZip (AgreeOn cs) (map (masked mask) rows) rows
  rows_agree mask [] cs h = tt
  rows_agree mask (row ∷ rows) cs h = (agrees mask row cs h, rows_agree mask rows cs h)

  module _ (most : Option ℕ) (params : List Value) where
    abbrev m : Meaning Ordered
    m = meaning most e.host params

    row_reads : (mask : List Bool) (o : Ordered) → Seen places mask o → (c : Row) → m.value o (masked mask c) ≡ m.value o c
    row_reads mask o h c =
        ap value_of (reads_law o.expr (at_row (limit_of most o.expr) e.host params (masked mask c)) (at_row (limit_of most o.expr) e.host params c)
        (record { most = refl; params = refl; shown = refl; host = refl; row = agrees mask c (columns o.expr) h; group = inr tt }))

    abbrev no_mask : List Bool
    no_mask = []

    group_reads : (mask : List Bool) (o : Ordered) → Seen places mask o → (k : Row) (cs : List Row)
        → m.over o (record { shown = k; members = map (masked mask) cs }) ≡ m.over o (record { shown = k; members = cs })
    group_reads mask o h k cs =
        ap value_of (reads_law o.expr (at_group most e.host params (record { shown = k; members = map (masked mask) cs })) (at_group most e.host params (record { shown = k; members = cs }))
        (record { most = refl; params = refl; shown = refl; host = refl; row = agrees no_mask [] (columns o.expr) (past (columns o.expr)); group = inr (rows_agree mask cs (columns o.expr) h) })) where
          past : (fs : List Field) → AllByRecursion (λ p. get_or no_mask p true ≡ true) (map (λ c. c.at) fs)
          past [] = tt
          past (f ∷ fs) = (refl, past fs)

    unseen_ : (q : Query Ordered) (tables : List (List Row)) → AreWide q.sources tables → answer m q (seen (standing places q) tables) ≡ answer m q tables
    unseen_ q tables wide =
        let h = are_seen places q in
        answer_unseen m (mask_of places q) (Seen places (mask_of places q)) (row_reads (mask_of places q)) (group_reads (mask_of places q)) q tables
        (record { on = h.on; terms = h.terms; group = h.group; having = h.having; results = h.results; order = h.order }) wide

  -- ---- the whole

  pub is_language : IsLanguage (sql e)
  is_language = record {
    lawful = λ most params. lawful e.host e.order_total most params;
    local = local_;
    reads = reads_;
    selects = selects_;
    unseen = λ most q params tables wide. unseen_ most params q tables wide;
  }
