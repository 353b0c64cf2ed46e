-- What the five statements that make the tables leave.
use Rattle.std.proofs.Common.{◌≡◌, ℕ, Ok, false, List, [], ◌∙◌}
use Rattle.sqlite.specs.Order.{Row}
use Rattle.sqlite.specs.State.{State, ExecutesIn}
use Rattle.sqlite_tied.specs.Compute.{everything}
use Rattle.cr_rows.specs.Schema.{no_schema}
use Rattle.cr_rows.proofs.MakeLemmas.{makes}
use Rattle.cr_rows.proofs.RowLemmas.{lists_none, lists_in}
use Rattle.cr_store.specs.Schema.{meta_table, schema_table, cell_table, cell2_table, peer_table, old_schema}
use Rattle.cr_store.specs.Shows.{HoldsFirst, Holds}
use Rattle.cr_store.proofs.TextLemmas.{make_meta, make_schema, make_cell, make_cell2, make_peer, first_schema, second_schema, third_schema, four, whole, makes_meta, makes_schema, makes_cell, makes_cell2, makes_peer}

module _ (a b c d e : State) (n m k l : ℕ) where
  pub makes_four : a.now.schema ≡ no_schema → ExecutesIn false make_meta [] a b (Ok n) → ExecutesIn false make_schema [] b c (Ok m)
      → ExecutesIn false make_cell [] c d (Ok k) → ExecutesIn false make_peer [] d e (Ok l) → HoldsFirst e.now [] [] [] []
  unfolding first_schema second_schema third_schema everything
  makes_four has one two three last =
      let p = makes no_schema make_meta (meta_table 0) a b n makes_meta has one in
      let q = makes first_schema make_schema (schema_table 0) b c m makes_schema p.schema_is two in
      let r = makes second_schema make_cell (cell_table 0) c d k makes_cell q.schema_is three in
      let s = makes third_schema make_peer (peer_table 0) d e l makes_peer r.schema_is last in
      record {
        schema = s.schema_is ∙ four;
        meta_are = lists_in (e.now.trees 0) [] [] (s.others.0 ∙ r.others.0 ∙ q.others.0 ∙ p.empty) lists_none;
        tables_are = lists_in (e.now.trees 2) [] [] (s.others.1.0 ∙ r.others.1.0 ∙ q.empty) lists_none;
        cells_are = lists_in (e.now.trees 4) [] [] (s.others.1.1.0 ∙ r.empty) lists_none;
        marks_are = lists_in (e.now.trees 6) [] [] s.empty lists_none;
      }

-- the fifth table beside the four
pub makes_fifth : (old new : State) (a b c d : List Row) (n : ℕ) → HoldsFirst old.now a b c d → ExecutesIn false make_cell2 [] old new (Ok n) → Holds new.now a b c [] d
unfolding everything
makes_fifth old new a b c d n it h =
    let made = makes old_schema make_cell2 (cell2_table 0) old new n makes_cell2 it.schema h in
    record {
      schema = made.schema_is ∙ whole;
      meta_are = lists_in (new.now.trees 0) (old.now.trees 0) a made.others.0 it.meta_are;
      tables_are = lists_in (new.now.trees 2) (old.now.trees 2) b made.others.1.0 it.tables_are;
      old_are = lists_in (new.now.trees 4) (old.now.trees 4) c made.others.1.1.0 it.cells_are;
      cells_are = lists_in (new.now.trees 8) [] [] made.empty lists_none;
      marks_are = lists_in (new.now.trees 6) (old.now.trees 6) d made.others.1.1.1.0 it.marks_are;
    }
