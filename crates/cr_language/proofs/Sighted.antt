-- A column in sight is the column of its place in the table of its source.
use Rattle.std.proofs.Common.{◌≡◌, ◌∙◌, ℕ, suc, ◌+◌, List, [], ◌∷◌, map, length, Some, refl, ap, sym, subst, arith}
use Rattle.std.specs.Prelude.{slice_get}
use Rattle.std.specs.List.{AllByRecursion}
use Rattle.cr_lattice.specs.declared.table.ColumnDef.{ColumnDef}
use Rattle.cr_term.specs.declared.expr.Column.{Column as Field}
use Rattle.cr_term.specs.declared.query.Relation.{Relation}
use Rattle.cr_questions.specs.Questions.{Name}
use Rattle.cr_resolve.specs.declared.scope.Source.{Source}
use Rattle.cr_resolve.specs.Scope.{InSight, columns_from, sight_from, in_sight}
use Rattle.cr_language.specs.Reads.{first_place}
use Rattle.cr_language.proofs.Members.{all_append, all_weaker}

-- the column of its place in one of these tables
pub record IsIn (tables : List Relation) (c : Field) : Type 0 where
  pub table : Relation
  pub column : ColumnDef
  pub is_of : slice_get tables c.source ≡ Some table
  pub is_in : slice_get table.definition.columns c.place ≡ Some column
  pub at : c.at ≡ first_place tables c.source + c.place

-- ---- one source's columns

record InTable (source place at : ℕ) (cs : List ColumnDef) (c : Field) : Type 0 where
  number : ℕ
  column : ColumnDef
  source_is : c.source ≡ source
  place_is : c.place ≡ place + number
  at_is : c.at ≡ at + number
  is_in : slice_get cs number ≡ Some column

zero_more : (m n : ℕ) → m ≡ n → m ≡ n + 0
zero_more m n e = omega (arith, e)

one_more : (m n k : ℕ) → m ≡ suc n + k → m ≡ n + suc k
one_more m n k e = omega (arith, e)

in_table : (name : Name) (source place at : ℕ) (cs : List ColumnDef) → AllByRecursion (λ i. InTable source place at cs i.column) (columns_from name source place at cs)
in_table name source place at [] = tt
in_table name source place at (d ∷ ds) = (
  record { number = 0; column = d; source_is = refl; place_is = zero_more place place refl; at_is = zero_more at at refl; is_in = refl },
  all_weaker (λ (i : InSight). InTable source (suc place) (suc at) ds i.column) (λ i. InTable source place at (d ∷ ds) i.column)
      (λ i h. record {
        number = suc h.number;
        column = h.column;
        source_is = h.source_is;
        place_is = one_more i.column.place place h.number h.place_is;
        at_is = one_more i.column.at at h.number h.at_is;
        is_in = h.is_in;
      })
      (columns_from name source (suc place) (suc at) ds) (in_table name source (suc place) (suc at) ds),
)

-- ---- those of all sources

record InTables (source at : ℕ) (tables : List Relation) (c : Field) : Type 0 where
  number : ℕ
  table : Relation
  column : ColumnDef
  source_is : c.source ≡ source + number
  is_of : slice_get tables number ≡ Some table
  is_in : slice_get table.definition.columns c.place ≡ Some column
  at_is : c.at ≡ at + (first_place tables number + c.place)

no_less : (m n : ℕ) → m ≡ 0 + n → m ≡ n
no_less m n e = omega (arith, e)

moved : (m n k p : ℕ) → m ≡ n + k → p ≡ 0 + k → m ≡ n + (0 + p)
moved m n k p e f = omega (arith, e, f)

further : (m at width first place : ℕ) → m ≡ (at + width) + (first + place) → m ≡ at + ((width + first) + place)
further m at width first place e = omega (arith, e)

in_first : (source at : ℕ) (r : Relation) (rs : List Relation) (c : Field) → InTable source 0 at r.definition.columns c → InTables source at (r ∷ rs) c
in_first source at r rs c h = record {
  number = 0;
  table = r;
  column = h.column;
  source_is = zero_more c.source source h.source_is;
  is_of = refl;
  is_in = subst (λ p. slice_get r.definition.columns p ≡ Some h.column) (sym (no_less c.place h.number h.place_is)) h.is_in;
  at_is = moved c.at at h.number c.place h.at_is h.place_is;
}

in_more : (source at : ℕ) (r : Relation) (rs : List Relation) (c : Field) → InTables (suc source) (at + length r.definition.columns) rs c → InTables source at (r ∷ rs) c
in_more source at r rs c h = record {
  number = suc h.number;
  table = h.table;
  column = h.column;
  source_is = one_more c.source source h.number h.source_is;
  is_of = h.is_of;
  is_in = h.is_in;
  at_is = further c.at at (length r.definition.columns) (first_place rs h.number) c.place h.at_is;
}

in_tables : (source at : ℕ) (ss : List Source) → AllByRecursion (λ i. InTables source at (map (λ s. s.relation) ss) i.column) (sight_from source at ss)
in_tables source at [] = tt
in_tables source at (s ∷ ss) =
    let r = s.relation in
    let rs = map (λ (s : Source). s.relation) ss in
    let here = columns_from s.name source 0 at r.definition.columns in
    let more = sight_from (suc source) (at + length r.definition.columns) ss in
    all_append (λ (i : InSight). InTables source at (r ∷ rs) i.column) here more
    (all_weaker (λ (i : InSight). InTable source 0 at r.definition.columns i.column) (λ i. InTables source at (r ∷ rs) i.column) (λ i h. in_first source at r rs i.column h) here (in_table s.name source 0 at r.definition.columns))
    (all_weaker (λ (i : InSight). InTables (suc source) (at + length r.definition.columns) rs i.column) (λ i. InTables source at (r ∷ rs) i.column) (λ i h. in_more source at r rs i.column h) more
    (in_tables (suc source) (at + length r.definition.columns) ss))

is_in_tables : (tables : List Relation) (c : Field) → InTables 0 0 tables c → IsIn tables c
is_in_tables tables c h =
    let is : c.source ≡ h.number = no_less c.source h.number h.source_is in
    record {
      table = h.table;
      column = h.column;
      is_of = subst (λ n. slice_get tables n ≡ Some h.table) (sym is) h.is_of;
      is_in = h.is_in;
      at = no_less c.at (first_place tables h.number + c.place) h.at_is ∙ ap (λ n. first_place tables n + c.place) (sym is);
    }

pub are_in_sight : (ss : List Source) → AllByRecursion (λ i. IsIn (map (λ s. s.relation) ss) i.column) (in_sight ss)
are_in_sight ss =
    let tables = map (λ (s : Source). s.relation) ss in
    all_weaker (λ (i : InSight). InTables 0 0 tables i.column) (λ i. IsIn tables i.column) (λ i h. is_in_tables tables i.column h) (in_sight ss) (in_tables 0 0 ss)
