-- What the texts of the queries that read whole tables mean.
use Rattle.std.proofs.Common.{◌≡◌, List, [], ◌∷◌, ℕ, codes, false, refl}
use Rattle.sqlite.specs.Listing.{understood, reads_listing}
use Rattle.sqlite_tied.specs.Compute.{everything}
use Rattle.sqlite.specs.Term.{Term, col}
use Rattle.sqlite.specs.Program.{overlay}
use Rattle.sqlite_trees.specs.Tree.{Trees}
use Rattle.sqlite.specs.Command.TheVariants.{Select}
use Rattle.sqlite.proofs.Callers.{IsPlain, command_of}
use Rattle.cr_rows.proofs.SelectLemmas.{plain_query}
use Rattle.sqlite.specs.Schema.{Schema}
use Rattle.cr_store.specs.declared.format.Format.{Format}
use Rattle.cr_store.specs.declared.format.Format.TheVariants.{First, Second}
use Rattle.cr_store.specs.Schema.{schema_of, old_schema, store_schema}

abbrev pub first_3 : List Term
first_3 = col 1 0 ∷ col 1 1 ∷ col 1 2 ∷ []

abbrev pub first_5 : List Term
first_5 = col 1 0 ∷ col 1 1 ∷ col 1 2 ∷ col 1 3 ∷ col 1 4 ∷ []

abbrev pub first_10 : List Term
first_10 = col 1 0 ∷ col 1 1 ∷ col 1 2 ∷ col 1 3 ∷ col 1 4 ∷ col 1 5 ∷ col 1 6 ∷ col 1 7 ∷ col 1 8 ∷ col 1 9 ∷ []

-- the text asks for these columns of all rows of the tree
pub record AsksFor (schema : Schema) (sql : List ℕ) (tree : ℕ) (project : List Term) (names : List (List ℕ)) : Type 0 where
  pub command : command_of (understood schema sql) ≡ Select (record { lets = []; body = plain_query tree [] project [] }) names
  pub plain : IsPlain (understood schema sql)
  pub unlisted : reads_listing schema sql ≡ false
  pub here : (db : Trees) → overlay db [] tree ≡ db tree

abbrev pub select_meta : List ℕ
select_meta = codes "SELECT rowid, name, val FROM cr_meta"

abbrev pub meta_names : List (List ℕ)
meta_names = codes "rowid" ∷ codes "name" ∷ codes "val" ∷ []

asks_meta_old : AsksFor old_schema select_meta 0 first_3 meta_names
unfolding understood everything
asks_meta_old = record { command = refl; plain = (refl, refl); unlisted = refl; here = λ db. refl }

asks_meta_new : AsksFor store_schema select_meta 0 first_3 meta_names
unfolding understood everything
asks_meta_new = record { command = refl; plain = (refl, refl); unlisted = refl; here = λ db. refl }

pub asks_meta : (f : Format) → AsksFor (schema_of f) select_meta 0 first_3 meta_names
asks_meta First = asks_meta_old
asks_meta Second = asks_meta_new

abbrev pub select_tables : List ℕ
select_tables = codes "SELECT rowid, name, ordinal, crr, def FROM cr_schema"

abbrev pub table_names : List (List ℕ)
table_names = codes "rowid" ∷ codes "name" ∷ codes "ordinal" ∷ codes "crr" ∷ codes "def" ∷ []

asks_tables_old : AsksFor old_schema select_tables 2 first_5 table_names
unfolding understood everything
asks_tables_old = record { command = refl; plain = (refl, refl); unlisted = refl; here = λ db. refl }

asks_tables_new : AsksFor store_schema select_tables 2 first_5 table_names
unfolding understood everything
asks_tables_new = record { command = refl; plain = (refl, refl); unlisted = refl; here = λ db. refl }

pub asks_tables : (f : Format) → AsksFor (schema_of f) select_tables 2 first_5 table_names
asks_tables First = asks_tables_old
asks_tables Second = asks_tables_new

abbrev pub select_old : List ℕ
select_old = codes "SELECT rowid, tbl, pk, cid, cl, ver, val, site, dbv, seq FROM cr_cell"

abbrev pub old_names : List (List ℕ)
old_names = codes "rowid" ∷ codes "tbl" ∷ codes "pk" ∷ codes "cid" ∷ codes "cl" ∷ codes "ver" ∷ codes "val" ∷ codes "site" ∷ codes "dbv" ∷ codes "seq" ∷ []

asks_old_old : AsksFor old_schema select_old 4 first_10 old_names
unfolding understood everything
asks_old_old = record { command = refl; plain = (refl, refl); unlisted = refl; here = λ db. refl }

asks_old_new : AsksFor store_schema select_old 4 first_10 old_names
unfolding understood everything
asks_old_new = record { command = refl; plain = (refl, refl); unlisted = refl; here = λ db. refl }

pub asks_old : (f : Format) → AsksFor (schema_of f) select_old 4 first_10 old_names
asks_old First = asks_old_old
asks_old Second = asks_old_new

abbrev pub select_cells : List ℕ
select_cells = codes "SELECT rowid, tab, pk, cid, cl, ver, val, site, dbv, seq FROM cr_cell2"

abbrev pub cell_names : List (List ℕ)
cell_names = codes "rowid" ∷ codes "tab" ∷ codes "pk" ∷ codes "cid" ∷ codes "cl" ∷ codes "ver" ∷ codes "val" ∷ codes "site" ∷ codes "dbv" ∷ codes "seq" ∷ []

pub asks_cells : AsksFor store_schema select_cells 8 first_10 cell_names
unfolding understood everything
asks_cells = record { command = refl; plain = (refl, refl); unlisted = refl; here = λ db. refl }

abbrev pub select_marks : List ℕ
select_marks = codes "SELECT rowid, site, seen FROM cr_peer"

abbrev pub mark_names : List (List ℕ)
mark_names = codes "rowid" ∷ codes "site" ∷ codes "seen" ∷ []

asks_marks_old : AsksFor old_schema select_marks 6 first_3 mark_names
unfolding understood everything
asks_marks_old = record { command = refl; plain = (refl, refl); unlisted = refl; here = λ db. refl }

asks_marks_new : AsksFor store_schema select_marks 6 first_3 mark_names
unfolding understood everything
asks_marks_new = record { command = refl; plain = (refl, refl); unlisted = refl; here = λ db. refl }

pub asks_marks : (f : Format) → AsksFor (schema_of f) select_marks 6 first_3 mark_names
asks_marks First = asks_marks_old
asks_marks Second = asks_marks_new
