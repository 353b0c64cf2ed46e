-- What stands against a definition, by what stands against its draft.
use Rattle.std.proofs.Common.{◌≡◌, ◌∙◌, ℕ, ◌≤◌, max, Bool, true, false, not, ◌&&◌, List, [], ◌∷◌, ◌++◌, length, map, refl, sym, ap, subst, append_assoc, arith}
use Rattle.std.specs.Prelude.{◌==◌, count_by, nat_lt, None}
use Rattle.std.specs.List.{list_any}
use Rattle.std.proofs.lemmas.Bool.{ltb-false}
use Rattle.std.proofs.lemmas.List.{length-map}
use Rattle.cr_lattice.specs.declared.table.ColumnDef.{ColumnDef}
use Rattle.cr_lattice.specs.Check.{is_key_column}
use Rattle.cr_lattice.specs.Profile.{is_collated_key, is_default_too_long, is_named_row, is_reserved, most_columns}
use Rattle.cr_tree.specs.declared.statement.Create.{Create as CreateTree}
use Rattle.cr_tree.specs.declared.statement.Alter.{Alter as AlterTree}
use Rattle.cr_term.specs.declared.query.Alter.{Alter}
use Rattle.cr_term.specs.declared.query.Relation.{Relation}
use Rattle.cr_questions.specs.Questions.{Name}
use Rattle.cr_resolve.specs.declared.refusal.Refusal.{Refusal}
use Rattle.cr_resolve.specs.declared.refusal.Refusal.TheVariants.{BadName, Limit, OutOfProfile, TableExists}
use Rattle.cr_resolve.specs.declared.refusal.Outside.TheVariants as outside
use Rattle.cr_resolve.specs.declared.refusal.Limit.TheVariants as limit
use Rattle.cr_resolve.specs.Reading.{Read, fine, when}
use Rattle.cr_resolve.specs.Told.{Refuses}
use Rattle.cr_resolve.specs.Known.{Known, collations, table}
use Rattle.cr_resolve.specs.Creates.{against_column, against_names, alter, clauses, column_def, create, definition, is_primary, is_real, is_taken, missing, or_none, out_of_profile, over_limits, repeats}
use Rattle.cr_resolve.proofs.Refusals.{ahead}
use Rattle.cr_created.specs.Drafts.{added_outside, against_columns, against_table, column_read, columns_read, draft, drafted, names_read, outside_types, table_of}
use Rattle.cr_created.proofs.Drafted.{drafts_are, lone_is, same_collated, same_count, same_long, same_row}

none_ahead : (xs ys : List Refusal) → xs ++ ys ≡ [] → xs ≡ []
none_ahead [] ys h = refl
none_ahead (x ∷ xs) ys h = absurd (cc)

none_behind : (xs ys : List Refusal) → xs ++ ys ≡ [] → ys ≡ []
none_behind [] ys h = h
none_behind (x ∷ xs) ys h = absurd (cc)

untold : (b : Bool) (f : Refusal) → when b f ≡ [] → b ≡ false
untold true f h = absurd (cc)
untold false f h = refl

-- ---- the columns

module _ (c : CreateTree) where
  abbrev drafts : List ColumnDef
  drafts = map (draft c.key) c.columns

  abbrev columns : List ColumnDef
  columns = map (column_def c.key) c.columns

  abbrev real : List Refusal
  real = when (list_any is_real c.columns) (OutOfProfile outside.Real)

  moved : (r p q n d l : List Refusal) → ((((r ++ p) ++ q) ++ n) ++ d) ++ l ≡ r ++ ((((p ++ q) ++ n) ++ d) ++ l)
  moved r p q n d l = simp append_assoc

  -- what is told of columns of which so much is known
  abbrev told_of : Bool → Bool → Bool → ℕ → ℕ → List Refusal
  told_of collated row long count in_key =
      when (not (clauses c == 1)) (OutOfProfile outside.PrimaryKey)
      ++ when collated (OutOfProfile outside.Collate)
      ++ when row (OutOfProfile outside.RowCid)
      ++ when long (OutOfProfile outside.Default)
      ++ (when (nat_lt most_columns count) (Limit limit.Columns) ++ when (nat_lt 8 (max in_key (length (or_none c.key)))) (Limit limit.KeyColumns))

  same_length : length drafts ≡ length columns
  same_length = length-map c.columns (draft c.key) ∙ sym (length-map c.columns (column_def c.key))

  same_told : outside_types c drafts ++ over_limits c (table_of c drafts) ≡ outside_types c columns ++ over_limits c (table_of c columns)
  same_told = λ i. told_of (same_collated c.key c.columns i) (same_row c.key c.columns i) (same_long c.key c.columns i) (same_length i) (same_count c.key c.columns i)

  -- all that is told before the names
  pub before_names : out_of_profile c (definition c) ++ over_limits c (definition c) ≡ (drafted c).bad
  before_names =
      moved real (when (not (clauses c == 1)) (OutOfProfile outside.PrimaryKey)) (when (list_any is_collated_key columns) (OutOfProfile outside.Collate))
      (when (list_any is_named_row columns) (OutOfProfile outside.RowCid)) (when (list_any is_default_too_long columns) (OutOfProfile outside.Default)) (over_limits c (table_of c columns))
      ∙ ap (λ (fs : List Refusal). real ++ fs) (sym same_told)

  pub types_fail : (f : Refusal) → Refuses (columns_read c.key c.columns).bad f → Refuses (drafted c).bad f
  types_fail f h = ahead real (outside_types c drafts ++ over_limits c (table_of c drafts)) f h

-- `drafted`, once the types are known
abbrev on_types : CreateTree → Read (List ColumnDef) → Read (List ColumnDef)
on_types c r = record { bad = r.bad ++ (outside_types c r.made ++ over_limits c (table_of c r.made)); misplaced = false; made = r.made }

module _ (c : CreateTree) (ds : List ColumnDef) (is : columns_read c.key c.columns ≡ fine ds) where
  on_types_is : drafted c ≡ on_types c (fine ds)
  on_types_is = ap (on_types c) is

  pub profile_fails : (f : Refusal) → Refuses (outside_types c ds) f → Refuses (drafted c).bad f
  profile_fails f h =
      subst (λ (r : Read (List ColumnDef)). Refuses r.bad f) (sym on_types_is) (ahead (outside_types c ds) (over_limits c (table_of c ds)) f h)

  module _ (fits : outside_types c ds ≡ []) where
    pub limits_fail : (f : Refusal) → Refuses (over_limits c (table_of c ds)) f → Refuses (drafted c).bad f
    limits_fail f h =
        subst (λ (r : Read (List ColumnDef)). Refuses r.bad f) (sym on_types_is)
        (subst (λ (fs : List Refusal). Refuses (fs ++ over_limits c (table_of c ds)) f) (sym fits) h)

    pub drafts_found : over_limits c (table_of c ds) ≡ [] → drafted c ≡ fine ds
    drafts_found few =
        let bad : outside_types c ds ++ over_limits c (table_of c ds) ≡ [] = ap (λ (fs : List Refusal). fs ++ over_limits c (table_of c ds)) fits ∙ few in
        on_types_is ∙ ap (λ (fs : List Refusal). record { bad = fs; misplaced = false; made = ds }) bad

-- ---- the whole

module _ (known : Known) (c : CreateTree) where
  pub columns_fail : (f : Refusal) → Refuses (drafted c).bad f → Refuses (create known c).bad f
  columns_fail f h =
      ahead (out_of_profile c (definition c) ++ over_limits c (definition c)) (against_names known c (definition c)) f
      (subst (λ (fs : List Refusal). Refuses fs f) (sym (before_names c)) h)

  names_moved : (a b d e g h : List Refusal) → ((((a ++ b) ++ d) ++ e) ++ g) ++ h ≡ ((a ++ b) ++ ((d ++ e) ++ g)) ++ h
  names_moved a b d e g h = simp append_assoc

  module _ (ds : List ColumnDef) (is : drafted c ≡ fine ds) where
    none_told : (drafted c).bad ≡ []
    none_told = ap (λ r. r.bad) is

    few : length (or_none c.key) ≤ 8
    few =
        let limits = none_behind (outside_types c (drafts c)) (over_limits c (table_of c (drafts c))) (none_behind (real c) _ none_told) in
        let in_key = none_behind (when (nat_lt most_columns (length (drafts c))) (Limit limit.Columns)) _ limits in
        let most = ltb-false 8 (max (count_by is_key_column (drafts c)) (length (or_none c.key))) (untold _ _ in_key) in
        omega arith

    columns_are : columns c ≡ ds
    columns_are = sym (drafts_are c.key c.columns few) ∙ ap (λ r. r.made) is

    names_are : against_names known c (definition c) ≡ (names_read known c ds).bad
    names_are =
        let names : List Name = map (λ x. x.name) c.columns in
        names_moved (when (is_reserved c.table) (BadName c.table)) (when (is_taken known c && not c.if_not_exists) (TableExists c.table)) (repeats [] names)
        (missing names (or_none c.key)) (repeats [] (or_none c.key)) (collations known (map (λ x. x.collation) (columns c)))
        ∙ ap (λ (xs : List ColumnDef). (names_read known c xs).bad) columns_are

    -- nothing is told before the names
    only_names : (create known c).bad ≡ (names_read known c ds).bad
    only_names = ap (λ (fs : List Refusal). fs ++ against_names known c (definition c)) (before_names c ∙ none_told) ∙ names_are

    pub names_fail : (f : Refusal) → Refuses (names_read known c ds).bad f → Refuses (create known c).bad f
    names_fail f h = subst (λ (fs : List Refusal). Refuses fs f) (sym only_names) h

    pub created : (b : Bool) (name : Name) → names_read known c ds ≡ fine b → name ≡ c.table
        → create known c ≡ fine (record { definition = record { name = name; columns = ds }; is_there = b })
    created b name names same =
        let bad : (create known c).bad ≡ [] = only_names ∙ ap (λ r. r.bad) names in
        let there : is_taken known c ≡ b = ap (λ r. r.made) names in
        let called : c.table ≡ name = sym same in
        λ i. record {
          bad = bad i;
          misplaced = false;
          made = record { definition = record { name = called i; columns = columns_are i }; is_there = there i };
        }

  -- what stands against the table's name
  pub table_fails : (ds : List ColumnDef) (b : Bool) (f : Refusal) → b ≡ is_taken known c → Refuses (against_table c b) f → Refuses (names_read known c ds).bad f
  table_fails ds b f is h =
      let table : List Refusal = against_table c (is_taken known c) in
      let names : List Refusal = against_columns c.columns (or_none c.key) in
      ahead (table ++ names) (collations known (map (λ x. x.collation) ds)) f
      (ahead table names f (subst (λ (x : Bool). Refuses (against_table c x) f) is h))

-- ---- a column that is added

-- `alter`, of parts that are known
abbrev over_parts : Known → AlterTree → Bool → ColumnDef → Read Relation → Read Alter
over_parts known a real column relation = record {
  bad = (when real (OutOfProfile outside.Real)
      ++ when (list_any is_primary a.column.constraints) (OutOfProfile outside.PrimaryKey)
      ++ when (is_named_row column) (OutOfProfile outside.RowCid)
      ++ when (is_default_too_long column) (OutOfProfile outside.Default)) ++ relation.bad ++ against_column known relation.made.definition column;
  misplaced = false;
  made = record { relation = relation.made; column = column };
}

module _ (known : Known) (a : AlterTree) where
  pub type_fails : (f : Refusal) → Refuses (column_read None a.column).bad f → Refuses (alter known a).bad f
  type_fails f h =
      let column : ColumnDef = column_def None a.column in
      let relation : Read Relation = table known a.table in
      let real : List Refusal = when (is_real a.column) (OutOfProfile outside.Real) in
      let primary : List Refusal = when (list_any is_primary a.column.constraints) (OutOfProfile outside.PrimaryKey) in
      let row : List Refusal = when (is_named_row column) (OutOfProfile outside.RowCid) in
      let long : List Refusal = when (is_default_too_long column) (OutOfProfile outside.Default) in
      let added = ahead (real ++ primary ++ row) long f (ahead (real ++ primary) row f (ahead real primary f h)) in
      ahead ((real ++ primary ++ row ++ long) ++ relation.bad) (against_column known relation.made.definition column) f (ahead (real ++ primary ++ row ++ long) relation.bad f added)

  module _ (d : ColumnDef) (is : column_read None a.column ≡ fine d) where
    by_column : alter known a ≡ over_parts known a false d (table known a.table)
    by_column =
        let real : is_real a.column ≡ false = untold (is_real a.column) (OutOfProfile outside.Real) (ap (λ r. r.bad) is) in
        let column : column_def None a.column ≡ d = sym (lone_is a.column) ∙ ap (λ r. r.made) is in
        λ i. over_parts known a (real i) (column i) (table known a.table)

    pub added_fails : (f : Refusal) → Refuses (added_outside a.column d) f → Refuses (alter known a).bad f
    added_fails f h =
        let relation : Read Relation = table known a.table in
        subst (λ (r : Read Alter). Refuses r.bad f) (sym by_column)
        (ahead (added_outside a.column d ++ relation.bad) (against_column known relation.made.definition d) f (ahead (added_outside a.column d) relation.bad f h))

    module _ (fits : added_outside a.column d ≡ []) where
      -- nothing is told before the table
      by_table : (alter known a).bad ≡ (table known a.table).bad ++ against_column known (table known a.table).made.definition d
      by_table =
          ap (λ r. r.bad) by_column
          ∙ ap (λ (fs : List Refusal). fs ++ (table known a.table).bad ++ against_column known (table known a.table).made.definition d) fits

      pub no_table_fails : (f : Refusal) → Refuses (table known a.table).bad f → Refuses (alter known a).bad f
      no_table_fails f h =
          subst (λ (fs : List Refusal). Refuses fs f) (sym by_table) (ahead (table known a.table).bad (against_column known (table known a.table).made.definition d) f h)

      module _ (relation : Relation) (found : table known a.table ≡ fine relation) where
        by_relation : (alter known a).bad ≡ against_column known relation.definition d
        by_relation = by_table ∙ ap (λ (r : Read Relation). r.bad ++ against_column known r.made.definition d) found

        pub column_fails : (f : Refusal) → Refuses (against_column known relation.definition d) f → Refuses (alter known a).bad f
        column_fails f h = subst (λ (fs : List Refusal). Refuses fs f) (sym by_relation) h

        pub altered : against_column known relation.definition d ≡ [] → alter known a ≡ fine (record { relation = relation; column = d })
        altered free =
            by_column
            ∙ (λ i. over_parts known a false d (found i))
            ∙ ap (λ (fs : List Refusal). record { bad = fs; misplaced = false; made = record { relation = relation; column = d } })
            (ap (λ (fs : List Refusal). fs ++ [] ++ against_column known relation.definition d) fits ∙ free)
