-- What the texts of a store's statements mean.
use Rattle.std.proofs.Common.{◌≡◌, List, [], ◌∷◌, ℕ, codes, false, refl}
use Rattle.sqlite.specs.Schema.{Schema}
use Rattle.sqlite.specs.Change.{created}
use Rattle.sqlite.specs.Listing.{understood, reads_listing}
use Rattle.sqlite_tied.specs.Compute.{everything}
use Rattle.sqlite.specs.declared.types.Value.TheVariants.{Null}
use Rattle.sqlite.specs.Term.{Term, lit, col, op1, op2}
use Rattle.sqlite_sql.specs.declared.ops.BinaryOp.TheVariants.{Compare}
use Rattle.sqlite_sql.specs.declared.ops.CompareOp.TheVariants.{Eq, Gt, Lt}
use Rattle.sqlite_sql.specs.declared.ops.UnaryOp.TheVariants.{ToNumeric}
use Rattle.sqlite_value.specs.declared.keys.Collation.TheVariants.{Binary}
use Rattle.sqlite.specs.Source.TheVariants.{Values}
use Rattle.sqlite.specs.Command.TheVariants.{Insert, Update, Delete, Select}
use Rattle.sqlite.proofs.Callers.{IsPlain, command_of}
use Rattle.cr_rows.specs.Schema.{no_schema}
use Rattle.cr_rows.proofs.MakeLemmas.{IsDefinition}
use Rattle.cr_rows.proofs.InsertLemmas.{IsBare}
use Rattle.cr_rows.proofs.SelectLemmas.{plain_query}
use Rattle.cr_rows.proofs.DeleteLemmas.{rowids_that}
use Rattle.cr_rows.proofs.UpdateLemmas.{rows_set}
use Rattle.cr_store.specs.Schema.{meta_table, schema_table, cell_table, cell2_table, peer_table, old_schema, store_schema}

-- ---- the tables

abbrev pub make_meta : List ℕ
make_meta = codes "CREATE TABLE cr_meta(name TEXT PRIMARY KEY, val)"

abbrev pub make_schema : List ℕ
make_schema = codes "CREATE TABLE cr_schema(name TEXT PRIMARY KEY, ordinal INTEGER, crr INTEGER, def BLOB)"

abbrev pub make_cell : List ℕ
make_cell = codes "CREATE TABLE cr_cell(tbl TEXT, pk BLOB, cid TEXT, cl INTEGER, ver INTEGER, val, site BLOB, dbv INTEGER, seq INTEGER, PRIMARY KEY(tbl, pk, cid))"

abbrev pub make_peer : List ℕ
make_peer = codes "CREATE TABLE cr_peer(site BLOB PRIMARY KEY, seen INTEGER)"

abbrev pub make_cell2 : List ℕ
make_cell2 = codes "CREATE TABLE cr_cell2(tab INTEGER, pk BLOB, cid TEXT, cl INTEGER, ver INTEGER, val, site BLOB, dbv INTEGER, seq INTEGER, PRIMARY KEY(tab, pk, cid))"

unfoldable pub first_schema : Schema
first_schema = created no_schema (meta_table 0)

unfoldable pub second_schema : Schema
second_schema = created (created no_schema (meta_table 0)) (schema_table 0)

unfoldable pub third_schema : Schema
third_schema = created (created (created no_schema (meta_table 0)) (schema_table 0)) (cell_table 0)

pub four : created third_schema (peer_table 0) ≡ old_schema
unfolding everything third_schema
four = refl

pub whole : created old_schema (cell2_table 0) ≡ store_schema
unfolding everything
whole = refl

pub makes_meta : IsDefinition no_schema make_meta (meta_table 0)
unfolding understood everything
makes_meta = record { command = refl; text = refl; table_is = refl; plain = (refl, refl); uncounted = refl }

pub makes_schema : IsDefinition first_schema make_schema (schema_table 0)
unfolding understood everything first_schema
makes_schema = record { command = refl; text = refl; table_is = refl; plain = (refl, refl); uncounted = refl }

pub makes_cell : IsDefinition second_schema make_cell (cell_table 0)
unfolding understood everything second_schema
makes_cell = record { command = refl; text = refl; table_is = refl; plain = (refl, refl); uncounted = refl }

pub makes_peer : IsDefinition third_schema make_peer (peer_table 0)
unfolding understood everything third_schema
makes_peer = record { command = refl; text = refl; table_is = refl; plain = (refl, refl); uncounted = refl }

pub makes_cell2 : IsDefinition old_schema make_cell2 (cell2_table 0)
unfolding understood everything
makes_cell2 = record { command = refl; text = refl; table_is = refl; plain = (refl, refl); uncounted = refl }

pub meta_bare : IsBare store_schema 0 (meta_table 0)
meta_bare = record { listed = refl; alone = λ olds news. refl }

pub schema_bare : IsBare store_schema 1 (schema_table 2)
schema_bare = record { listed = refl; alone = λ olds news. refl }

pub old_bare : IsBare store_schema 2 (cell_table 4)
old_bare = record { listed = refl; alone = λ olds news. refl }

pub cell_bare : IsBare store_schema 4 (cell2_table 8)
cell_bare = record { listed = refl; alone = λ olds news. refl }

pub peer_bare : IsBare store_schema 3 (peer_table 6)
peer_bare = record { listed = refl; alone = λ olds news. refl }

-- ---- terms

abbrev pub equals : ℕ → ℕ → Term
equals place param = op2 (Compare Eq Binary) (col 1 place) (col 0 param)

-- of a column of integers
abbrev pub equals_number : ℕ → ℕ → Term
equals_number place param = op2 (Compare Eq Binary) (col 1 place) (op1 ToNumeric (col 0 param))

abbrev pub given_2 : List Term
given_2 = lit Null ∷ col 0 0 ∷ col 0 1 ∷ []

abbrev pub given_4 : List Term
given_4 = lit Null ∷ col 0 0 ∷ col 0 1 ∷ col 0 2 ∷ col 0 3 ∷ []

abbrev pub given_9 : List Term
given_9 = lit Null ∷ col 0 0 ∷ col 0 1 ∷ col 0 2 ∷ col 0 3 ∷ col 0 4 ∷ col 0 5 ∷ col 0 6 ∷ col 0 7 ∷ col 0 8 ∷ []

-- by the first column
abbrev pub at_first : List Term
at_first = equals 1 0 ∷ []

-- the first column stays, the second is the second parameter
abbrev pub set_second : List Term
set_second = col 1 0 ∷ col 1 0 ∷ col 1 1 ∷ col 0 1 ∷ []

abbrev pub set_crr : List Term
set_crr = col 1 0 ∷ col 1 0 ∷ col 1 1 ∷ col 1 2 ∷ col 0 1 ∷ col 1 4 ∷ []

abbrev pub set_def : List Term
set_def = col 1 0 ∷ col 1 0 ∷ col 1 1 ∷ col 1 2 ∷ col 1 3 ∷ col 0 1 ∷ []

abbrev pub set_cell : List Term
set_cell = col 1 0 ∷ col 1 0 ∷ col 1 1 ∷ col 1 2 ∷ col 1 3 ∷ col 0 3 ∷ col 0 4 ∷ col 0 5 ∷ col 0 6 ∷ col 0 7 ∷ col 0 8 ∷ []

abbrev pub at_key : List Term
at_key = equals_number 1 0 ∷ equals 2 1 ∷ equals 3 2 ∷ []

abbrev pub at_old_key : List Term
at_old_key = equals_number 1 0 ∷ equals 2 1 ∷ equals 3 2 ∷ op2 (Compare Lt Binary) (col 1 8) (op1 ToNumeric (col 0 3)) ∷ []

abbrev pub above : List Term
above = op2 (Compare Gt Binary) (col 1 8) (op1 ToNumeric (col 0 0)) ∷ []

abbrev pub at_row : List Term
at_row = equals_number 1 0 ∷ equals 2 1 ∷ []

abbrev pub at_table : List Term
at_table = equals_number 1 0 ∷ []

abbrev pub shows : List Term
shows = col 1 1 ∷ col 1 2 ∷ col 1 3 ∷ col 1 4 ∷ col 1 5 ∷ col 1 6 ∷ col 1 7 ∷ col 1 8 ∷ col 1 9 ∷ []

abbrev pub names : List (List ℕ)
names = codes "tab" ∷ codes "pk" ∷ codes "cid" ∷ codes "cl" ∷ codes "ver" ∷ codes "val" ∷ codes "site" ∷ codes "dbv" ∷ codes "seq" ∷ []

-- ---- cr_meta

abbrev pub insert_meta : List ℕ
insert_meta = codes "INSERT INTO cr_meta VALUES(?1, ?2)"

abbrev pub update_meta : List ℕ
update_meta = codes "UPDATE cr_meta SET val = ?2 WHERE name = ?1"

pub insert_meta_is : command_of (understood store_schema insert_meta) ≡ Insert 0 (Values given_2 3)
unfolding understood everything
insert_meta_is = refl

pub insert_meta_plain : IsPlain (understood store_schema insert_meta)
unfolding understood everything
insert_meta_plain = (refl, refl)

pub update_meta_is : command_of (understood store_schema update_meta) ≡ Update 0 (rows_set 0 at_first set_second)
unfolding understood everything
update_meta_is = refl

pub update_meta_plain : IsPlain (understood store_schema update_meta)
unfolding understood everything
update_meta_plain = (refl, refl)

-- ---- cr_schema

abbrev pub insert_table : List ℕ
insert_table = codes "INSERT INTO cr_schema VALUES(?1, ?2, ?3, ?4)"

abbrev pub update_table : List ℕ
update_table = codes "UPDATE cr_schema SET crr = ?2 WHERE name = ?1"

pub insert_table_is : command_of (understood store_schema insert_table) ≡ Insert 1 (Values given_4 5)
unfolding understood everything
insert_table_is = refl

pub insert_table_plain : IsPlain (understood store_schema insert_table)
unfolding understood everything
insert_table_plain = (refl, refl)

pub update_table_is : command_of (understood store_schema update_table) ≡ Update 1 (rows_set 2 at_first set_crr)
unfolding understood everything
update_table_is = refl

pub update_table_plain : IsPlain (understood store_schema update_table)
unfolding understood everything
update_table_plain = (refl, refl)

abbrev pub update_definition : List ℕ
update_definition = codes "UPDATE cr_schema SET def = ?2 WHERE name = ?1"

pub update_definition_is : command_of (understood store_schema update_definition) ≡ Update 1 (rows_set 2 at_first set_def)
unfolding understood everything
update_definition_is = refl

pub update_definition_plain : IsPlain (understood store_schema update_definition)
unfolding understood everything
update_definition_plain = (refl, refl)

-- ---- cr_peer

abbrev pub insert_mark : List ℕ
insert_mark = codes "INSERT INTO cr_peer VALUES(?1, ?2)"

abbrev pub update_mark : List ℕ
update_mark = codes "UPDATE cr_peer SET seen = ?2 WHERE site = ?1"

pub insert_mark_is : command_of (understood store_schema insert_mark) ≡ Insert 3 (Values given_2 3)
unfolding understood everything
insert_mark_is = refl

pub insert_mark_plain : IsPlain (understood store_schema insert_mark)
unfolding understood everything
insert_mark_plain = (refl, refl)

pub update_mark_is : command_of (understood store_schema update_mark) ≡ Update 3 (rows_set 6 at_first set_second)
unfolding understood everything
update_mark_is = refl

pub update_mark_plain : IsPlain (understood store_schema update_mark)
unfolding understood everything
update_mark_plain = (refl, refl)

-- ---- cr_cell2

abbrev pub insert_cell : List ℕ
insert_cell = codes "INSERT INTO cr_cell2 VALUES(?1, ?2, ?3, ?4, ?5, ?6, ?7, ?8, ?9)"

abbrev pub update_cell : List ℕ
update_cell = codes "UPDATE cr_cell2 SET cl = ?4, ver = ?5, val = ?6, site = ?7, dbv = ?8, seq = ?9 WHERE tab = ?1 AND pk = ?2 AND cid = ?3"

abbrev pub delete_cell : List ℕ
delete_cell = codes "DELETE FROM cr_cell2 WHERE tab = ?1 AND pk = ?2 AND cid = ?3 AND dbv < ?4"

abbrev pub select_since : List ℕ
select_since = codes "SELECT tab, pk, cid, cl, ver, val, site, dbv, seq FROM cr_cell2 WHERE dbv > ?1"

abbrev pub select_row : List ℕ
select_row = codes "SELECT tab, pk, cid, cl, ver, val, site, dbv, seq FROM cr_cell2 WHERE tab = ?1 AND pk = ?2"

abbrev pub select_table : List ℕ
select_table = codes "SELECT tab, pk, cid, cl, ver, val, site, dbv, seq FROM cr_cell2 WHERE tab = ?1"

pub insert_cell_is : command_of (understood store_schema insert_cell) ≡ Insert 4 (Values given_9 10)
unfolding understood everything
insert_cell_is = refl

pub insert_cell_plain : IsPlain (understood store_schema insert_cell)
unfolding understood everything
insert_cell_plain = (refl, refl)

pub update_cell_is : command_of (understood store_schema update_cell) ≡ Update 4 (rows_set 8 at_key set_cell)
unfolding understood everything
update_cell_is = refl

pub update_cell_plain : IsPlain (understood store_schema update_cell)
unfolding understood everything
update_cell_plain = (refl, refl)

pub delete_cell_is : command_of (understood store_schema delete_cell) ≡ Delete 4 (rowids_that 8 at_old_key)
unfolding understood everything
delete_cell_is = refl

pub delete_cell_plain : IsPlain (understood store_schema delete_cell)
unfolding understood everything
delete_cell_plain = (refl, refl)

pub since_is : command_of (understood store_schema select_since) ≡ Select (record { lets = []; body = plain_query 8 above shows [] }) names
unfolding understood everything
since_is = refl

pub since_plain : IsPlain (understood store_schema select_since)
unfolding understood everything
since_plain = (refl, refl)

pub since_unlisted : reads_listing store_schema select_since ≡ false
unfolding understood everything
since_unlisted = refl

pub row_is : command_of (understood store_schema select_row) ≡ Select (record { lets = []; body = plain_query 8 at_row shows [] }) names
unfolding understood everything
row_is = refl

pub row_plain : IsPlain (understood store_schema select_row)
unfolding understood everything
row_plain = (refl, refl)

pub row_unlisted : reads_listing store_schema select_row ≡ false
unfolding understood everything
row_unlisted = refl

pub of_table_is : command_of (understood store_schema select_table) ≡ Select (record { lets = []; body = plain_query 8 at_table shows [] }) names
unfolding understood everything
of_table_is = refl

pub of_table_plain : IsPlain (understood store_schema select_table)
unfolding understood everything
of_table_plain = (refl, refl)

pub of_table_unlisted : reads_listing store_schema select_table ≡ false
unfolding understood everything
of_table_unlisted = refl

-- ---- cr_cell

abbrev pub empty_old : List ℕ
empty_old = codes "DELETE FROM cr_cell"

pub empty_old_is : command_of (understood store_schema empty_old) ≡ Delete 2 (rowids_that 4 [])
unfolding understood everything
empty_old_is = refl

pub empty_old_plain : IsPlain (understood store_schema empty_old)
unfolding understood everything
empty_old_plain = (refl, refl)
