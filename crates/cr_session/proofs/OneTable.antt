-- A replicated table, and a query of that table alone.
use Rattle.std.proofs.Common.{◌≡◌, ℕ, true, List, [], ◌∷◌, Option, Some, sym, ap, subst, ◌∙◌, find, map}
use Rattle.std.specs.Option.{ForSome}
use Rattle.std.specs.Prelude.{if◌then◌else◌}
use Rattle.cr_value.specs.declared.value.Value.{Value}
use Rattle.cr_lattice.specs.declared.change.Change.{Change}
use Rattle.cr_lattice.specs.declared.table.Table.{Table}
use Rattle.cr_lattice.specs.declared.table.TableDef.{TableDef}
use Rattle.cr_lattice.specs.Check.{same_bytes}
use Rattle.cr_lattice.specs.Profile.{has_key}
use Rattle.cr_lattice.specs.Rows.{rows}
use Rattle.cr_cells.proofs.NewLemmas.{same_is}
use Rattle.cr_cells.specs.Holding.{Holding, IsSound}
use Rattle.cr_cells.specs.Tables.{AreWellFormed, IsStored, has_defaults, is_named}
use Rattle.cr_delta.proofs.Among.{member_has}
use Rattle.cr_term.specs.declared.query.Joined.{Joined}
use Rattle.cr_term.specs.declared.query.Query.{Query}
use Rattle.cr_scalar.specs.Host.{Host as Means}
use Rattle.cr_query.specs.Query.{Row, answer}
use Rattle.cr_meaning.specs.View.{query}
use Rattle.cr_meaning.specs.Meaning.{IsLimit, Regard, regarded}
use Rattle.cr_replica.specs.declared.snapshot.Snapshot.{Snapshot}
use Rattle.cr_snapshot.specs.Seen.{IsNamed, name_of, rows_listed, rows_seen}
use Rattle.cr_taken.specs.Taken.{AreKept, Replicates, replicated}
use Rattle.cr_taken.proofs.Members.{found_member}
use Rattle.cr_taken.proofs.Tables.{writable, kept_well_formed}
use Rattle.cr_touched.specs.Shown.{AreKeptOf}
use Rattle.cr_world.specs.State.{State, changes_name, now, other_rows, row_of, rows_named, rows_or, tables_named}
use Rattle.cr_session.specs.Lookup.{ShowsQuery}
use Rattle.cr_session.specs.Sessions.{state_of}
use Rattle.cr_session.proofs.ByTable.{found_passes}
use Rattle.cr_session.proofs.Seeing.{now_kept}

-- the rows of what is no table of its own
abbrev pub other_rows_seen : Snapshot → List ℕ → List Row
other_rows_seen s name = if same_bytes changes_name name then map row_of s.cells else rows_listed s.modules name

module _ (h : Holding) (sound : IsSound h) (pending : Option (List Change)) (name : List ℕ) (fit : ForSome pending (AreWellFormed h.tables)) (def : TableDef)
    (found : find (is_named name) h.tables ≡ Some (replicated def)) where
  abbrev st : State
  st = state_of h pending

  pub name_is : def.name ≡ name
  name_is = same_is def.name name (found_passes (is_named name) (replicated def) h.tables found)

  pub there : Replicates h.tables def
  there = subst (λ (x : List ℕ). find (is_named x) h.tables ≡ Some (replicated def)) (sym name_is) found

  are : AreKept h.tables (now st)
  are = now_kept h pending sound fit

  pub keyed : has_key def ≡ true
  keyed = (writable h.tables (now st) def are there).key

  pub defaults : has_defaults def ≡ true
  defaults = (member_has IsStored h.tables (replicated def) are.stored (found_member (is_named def.name) h.tables (replicated def) there)).defaults

  pub kept_of_it : AreKeptOf def (now st)
  kept_of_it = record { unbeaten = are.unbeaten; well_formed = kept_well_formed h.tables (now st) def are there }

  rows_there : rows_named st name ≡ rows (now st) def
  rows_there = ap (λ (o : Option Table). rows_or (now st) o (other_rows st name)) found

  -- ---- what a snapshot keeps of it

  module _ (snap : Snapshot) (named : IsNamed st snap) (kept : List Change) (kept_is : snap.kept ≡ kept) where
    rows_here : rows_seen snap name ≡ rows kept def
    rows_here =
        (λ i. rows_or (kept_is i) (find (is_named name) (named.tables i)) (other_rows_seen snap name))
        ∙ ap (λ (o : Option Table). rows_or kept o (other_rows_seen snap name)) found

    -- a query that answers over its rows what it answers over all
    pub query_of_one : (means : Means) (params : List Value) (q : Query) (j : Joined) → q.joined ≡ j ∷ [] → name_of j ≡ name
        → ((regard : Regard) → IsLimit regard.most → answer (regarded regard means params) (query q) (rows (now st) def ∷ []) ≡ answer (regarded regard means params) (query q) (rows kept def ∷ []))
        → ShowsQuery means params q st snap
    query_of_one means params q j one same alike = λ regard limit.
        let m = regarded regard means params in
        (λ i. answer m (query q) (tables_named st (map name_of (one i))))
        ∙ (λ i. answer m (query q) (rows_named st (same i) ∷ []))
        ∙ (λ i. answer m (query q) (rows_there i ∷ []))
        ∙ alike regard limit
        ∙ (λ i. answer m (query q) (sym rows_here i ∷ []))
        ∙ (λ i. answer m (query q) (rows_seen snap (sym same i) ∷ []))
        ∙ (λ i. answer m (query q) (map (λ j. rows_seen snap (name_of j)) (sym one i)))
