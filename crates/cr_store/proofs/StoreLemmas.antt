-- What a call leaves where it ends well, and what its database holds with one table changed.
use Rattle.std.proofs.Common.{◌≡◌, ℕ, List, Ok, Err, Result, OnOk, IfOk, MatchResult, IsTrue, Option, Some, None, arith, ◌∙◌}
use Rattle.sqlite.specs.Order.{Row}
use Rattle.sqlite.specs.Effect.{Database}
use Rattle.sqlite_schema.specs.declared.command.Returning.{Returning}
use Rattle.sqlite_resolve.specs.declared.compiled.Compiled.{Compiled}
use Rattle.sqlite.specs.State.{State, HasCleanDisk, KeepsCommit, Survives, Shown, ShowsRows}
use Rattle.cr_rows.specs.Rows.{Lists}
use Rattle.cr_rows.proofs.RowLemmas.{lists_in}
use Rattle.cr_rows.proofs.InsertLemmas.{KeepsOthers}
use Rattle.cr_store.specs.Schema.{store_schema}
use Rattle.cr_store.specs.Shows.{Holds}

pub ok_then : {B E : Type 0} (r : Result B E) (P Q : Type 0) → (P → Q) → OnOk r P → OnOk r Q
ok_then (Ok b) P Q f h = f h
ok_then (Err e) P Q f h = tt

pub if_then : {B E : Type 0} (r : Result B E) (P Q : B → Type 0) → ((b : B) → P b → Q b) → IfOk r P → IfOk r Q
if_then (Ok b) P Q f h = f b h
if_then (Err e) P Q f h = tt

pub ok_from : {B E : Type 0} (r : Result B E) (P : B → Type 0) (Q : Type 0) → ((b : B) → P b → Q) → IfOk r P → OnOk r Q
ok_from (Ok b) P Q f h = f b h
ok_from (Err e) P Q f h = tt

pub match_then : {B E : Type 0} (r : Result B E) (P Q : B → Type 0) (R : E → Type 0) → ((b : B) → P b → Q b) → MatchResult r P R → MatchResult r Q R
match_then (Ok b) P Q R f h = f b h
match_then (Err e) P Q R f h = h

pub was_clean : (old new : State) → Survives old new (λ _. ⊥) → HasCleanDisk new → HasCleanDisk old
was_clean old new s clean = omega (arith, s.clean, clean)

pub keeps_then : (a b c : State) → KeepsCommit a b → KeepsCommit b c → KeepsCommit a c
keeps_then a b c p q = record { was_open = λ it. p.was_open (q.was_open it); committed = λ it. q.committed it ∙ p.committed (q.was_open it) }

-- what shows rows is open
rows_open : (old new : State) (sql : List ℕ) (c : Compiled) (params : Row) (rows : List Row) (what : Option Returning) → ShowsRows old new sql c params rows what → IsTrue new.is_open
rows_open old new sql c params rows None s = s.3.0.is_open
rows_open old new sql c params rows (Some what) s = s.1.shown.is_open

pub shown_open : (old new : State) (sql : List ℕ) (params : Row) (rows : List Row) → Shown sql params old new rows → IsTrue new.is_open
unfolding Shown
shown_open old new sql params rows s = rows_open old new sql s.0 _ rows s.0.returning s.2

-- ---- one table is changed

module _ (old new : Database) (a b o c d x : List Row) (it : Holds old a b o c d) (schema : new.schema ≡ store_schema) where
  pub with_meta : KeepsOthers store_schema 0 old.trees new.trees → Lists (new.trees 0) x → Holds new x b o c d
  with_meta others are = record {
    schema = schema;
    meta_are = are;
    tables_are = lists_in (new.trees 2) (old.trees 2) b (others.1.0 (λ e. omega (arith, e))) it.tables_are;
    old_are = lists_in (new.trees 4) (old.trees 4) o (others.1.1.0 (λ e. omega (arith, e))) it.old_are;
    cells_are = lists_in (new.trees 8) (old.trees 8) c (others.1.1.1.1.0 (λ e. omega (arith, e))) it.cells_are;
    marks_are = lists_in (new.trees 6) (old.trees 6) d (others.1.1.1.0 (λ e. omega (arith, e))) it.marks_are;
  }

  pub with_tables : KeepsOthers store_schema 2 old.trees new.trees → Lists (new.trees 2) x → Holds new a x o c d
  with_tables others are = record {
    schema = schema;
    meta_are = lists_in (new.trees 0) (old.trees 0) a (others.0 (λ e. omega (arith, e))) it.meta_are;
    tables_are = are;
    old_are = lists_in (new.trees 4) (old.trees 4) o (others.1.1.0 (λ e. omega (arith, e))) it.old_are;
    cells_are = lists_in (new.trees 8) (old.trees 8) c (others.1.1.1.1.0 (λ e. omega (arith, e))) it.cells_are;
    marks_are = lists_in (new.trees 6) (old.trees 6) d (others.1.1.1.0 (λ e. omega (arith, e))) it.marks_are;
  }

  pub with_old : KeepsOthers store_schema 4 old.trees new.trees → Lists (new.trees 4) x → Holds new a b x c d
  with_old others are = record {
    schema = schema;
    meta_are = lists_in (new.trees 0) (old.trees 0) a (others.0 (λ e. omega (arith, e))) it.meta_are;
    tables_are = lists_in (new.trees 2) (old.trees 2) b (others.1.0 (λ e. omega (arith, e))) it.tables_are;
    old_are = are;
    cells_are = lists_in (new.trees 8) (old.trees 8) c (others.1.1.1.1.0 (λ e. omega (arith, e))) it.cells_are;
    marks_are = lists_in (new.trees 6) (old.trees 6) d (others.1.1.1.0 (λ e. omega (arith, e))) it.marks_are;
  }

  pub with_cells : KeepsOthers store_schema 8 old.trees new.trees → Lists (new.trees 8) x → Holds new a b o x d
  with_cells others are = record {
    schema = schema;
    meta_are = lists_in (new.trees 0) (old.trees 0) a (others.0 (λ e. omega (arith, e))) it.meta_are;
    tables_are = lists_in (new.trees 2) (old.trees 2) b (others.1.0 (λ e. omega (arith, e))) it.tables_are;
    old_are = lists_in (new.trees 4) (old.trees 4) o (others.1.1.0 (λ e. omega (arith, e))) it.old_are;
    cells_are = are;
    marks_are = lists_in (new.trees 6) (old.trees 6) d (others.1.1.1.0 (λ e. omega (arith, e))) it.marks_are;
  }

  pub with_marks : KeepsOthers store_schema 6 old.trees new.trees → Lists (new.trees 6) x → Holds new a b o c x
  with_marks others are = record {
    schema = schema;
    meta_are = lists_in (new.trees 0) (old.trees 0) a (others.0 (λ e. omega (arith, e))) it.meta_are;
    tables_are = lists_in (new.trees 2) (old.trees 2) b (others.1.0 (λ e. omega (arith, e))) it.tables_are;
    old_are = lists_in (new.trees 4) (old.trees 4) o (others.1.1.0 (λ e. omega (arith, e))) it.old_are;
    cells_are = lists_in (new.trees 8) (old.trees 8) c (others.1.1.1.1.0 (λ e. omega (arith, e))) it.cells_are;
    marks_are = are;
  }
