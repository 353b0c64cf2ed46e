-- The names of a table that a line defines are in ASCII lower case.
use Rattle.std.proofs.Common.{◌≡◌, refl, sym, ℕ, suc, zero, Bool, true, not, ◌&&◌, nat_lt, List, [], ◌∷◌, map, Option, Some, None, arith, subst, inl, inr}
use Rattle.std.specs.Prelude.{IfSome, length}
use Rattle.std.specs.List.{list_all, list_any}
use Rattle.std.specs.Option.{option_map}
use Rattle.std.specs.Char.{to_ascii_lowercase}
use Rattle.std.proofs.lemmas.Bool.Decides.{nat_tests}
use Rattle.cr_value.specs.declared.value.Value.{Value}
use Rattle.cr_value.specs.Unpacking.{◌>>=◌}
use Rattle.cr_host.specs.Names.{folded}
use Rattle.cr_lattice.specs.declared.table.ColumnDef.{ColumnDef}
use Rattle.cr_cells.specs.Tables.{is_folded, has_folded_names}
use Rattle.cr_world.specs.declared.command.Command.{Command}
use Rattle.cr_world.specs.declared.command.Command.TheVariants.{Define}
use Rattle.cr_world.specs.declared.command.Declaration.{Declaration}
use Rattle.cr_world.specs.Answers.{IsReady}
use Rattle.cr_shell.specs.declared.table_line.Marks.{Marks}
use Rattle.cr_shell.specs.declared.table_line.Column.{Column}
use Rattle.cr_shell.proofs.LineLemmas.{told}
use Rattle.cr_shell.specs.Words.{split_at_space, behind, is_empty}
use Rattle.cr_shell.specs.TableLine.{marks_at, word_at, default_at, column_of, column_at, keys_with, columns_in, declaration_of, table_of}

-- ---- names

low : (b : ℕ) → not (nat_lt 64 (to_ascii_lowercase b) && nat_lt (to_ascii_lowercase b) 91) ≡ true
low b = grind (arith, nat_tests)

folded_name : (name : List ℕ) → is_folded (folded name) ≡ true
folded_name [] = refl
folded_name (b ∷ bs) = rw (low b) (folded_name bs)

abbrev has_folded : ColumnDef → Bool
has_folded col = is_folded col.name && is_folded col.collation

folded_column : (keys : ℕ) (marks : Marks) (name type : List ℕ) (default : Value) → has_folded (column_of keys marks name type default).definition ≡ true
unfolding column_of
folded_column keys marks name type default = rw (folded_name name) refl

-- ---- reading

in_steps : {A B : Type 0} (Q : B → Type 0) (P : A → Type 0) (o : Option A) (f : A → Option B) → IfSome o P → ((x : A) → P x → IfSome (f x) Q) → IfSome (o >>= f) Q
in_steps Q P None f p q = tt
in_steps Q P (Some x) f p q = q x p

in_step : {A B : Type 0} (Q : B → Type 0) (o : Option A) (f : A → Option B) → ((x : A) → IfSome (f x) Q) → IfSome (o >>= f) Q
in_step Q None f q = tt
in_step Q (Some x) f q = q x

abbrev IsFoldedColumn : Column × List ℕ → Type 0
IsFoldedColumn x = has_folded x.0.definition ≡ true

abbrev AreFoldedColumns : List Column → Type 0
AreFoldedColumns cs = list_all (λ col. is_folded col.name && is_folded col.collation) (map (λ c. c.definition) cs) ≡ true

column_is_folded : (keys : ℕ) (bytes : List ℕ) → IfSome (column_at keys bytes) IsFoldedColumn
unfolding column_at
column_is_folded keys bytes =
    in_step IsFoldedColumn (word_at 58 (marks_at bytes).1) _ (λ (name : List ℕ × List ℕ).
    in_step IsFoldedColumn (behind 58 name.1) _ (λ (rest : List ℕ).
    in_step IsFoldedColumn (word_at 61 rest) _ (λ (type : List ℕ × List ℕ).
    in_step IsFoldedColumn (default_at type.1) _ (λ (default : Value × List ℕ).
    folded_column keys (marks_at bytes).0 name.0 type.0 default.0))))

more_folded : (c : Column) (o : Option (List Column)) → has_folded c.definition ≡ true → IfSome o AreFoldedColumns → IfSome (option_map (λ more. c ∷ more) o) AreFoldedColumns
more_folded c None f p = tt
more_folded c (Some cs) f p = rw (f, p) refl

columns_are_folded : (most keys : ℕ) (bytes : List ℕ) → IfSome (columns_in most keys bytes) AreFoldedColumns
unfolding columns_in
columns_are_folded zero keys bytes = tt
columns_are_folded (suc most) keys bytes =
    in_steps AreFoldedColumns IsFoldedColumn (column_at keys bytes) _ (column_is_folded keys bytes) (λ x f. elim (told (is_empty x.1)) [
      | inl last ↦ rw (last, f) refl
      | inr more ↦ rw more (in_step AreFoldedColumns (behind 32 x.1) _ (λ rest. more_folded x.0 (columns_in most (keys_with keys x.0) rest) f (columns_are_folded most (keys_with keys x.0) rest)))
    ])

ready : (name : List ℕ) (columns : List Column) → AreFoldedColumns columns → IsReady (Define (declaration_of name columns))
unfolding has_folded_names
ready name columns f = elim (told (list_any (λ c. c.is_real) columns)) [ inl real ↦ rw real tt | inr none ↦ rw (none, folded_name name) f ]

table_is_ready : (bytes : List ℕ) → IfSome (table_of bytes) IsReady
unfolding table_of
table_is_ready bytes = in_step IsReady (split_at_space bytes) _ (λ words. in_steps IsReady AreFoldedColumns (columns_in (length words.1) 0 words.1) _ (columns_are_folded (length words.1) 0 words.1) (λ columns f. ready words.0 columns f))

pub is_ready : (bytes : List ℕ) (d : Declaration) → Some (Define d) ≡ table_of bytes → IsReady (Define d)
is_ready bytes d e = subst (λ (o : Option Command). IfSome o IsReady) (sym e) (table_is_ready bytes)
