-- What is seen of some tables suffices for a statement that names no others.
use Rattle.std.proofs.Common.{◌≡◌, inl, inr, ℕ, Bool, true, false, List, [], ◌∷◌, Option, Some, None, refl, sym, ap, subst, ◌∙◌, cond, find, map, true≢false}
use Rattle.std.specs.Prelude.{if◌then◌else◌}
use Rattle.std.specs.List.{list_any}
use Rattle.cr_value.specs.declared.value.Value.{Value}
use Rattle.cr_value.specs.OrderLaws.{bytes_total, bytes_exact}
use Rattle.cr_lattice.specs.declared.change.Change.{Change}
use Rattle.cr_lattice.specs.declared.table.Table.{Table}
use Rattle.cr_lattice.specs.declared.table.TableDef.{TableDef}
use Rattle.cr_lattice.specs.Check.{same_bytes}
use Rattle.cr_lattice.specs.Keep.{keep}
use Rattle.cr_lattice.specs.Rows.{rows}
use Rattle.cr_lattice.proofs.SortedSets.{list_any-set_of}
use Rattle.cr_lattice.proofs.Tested.{split}
use Rattle.cr_cells.proofs.NewLemmas.{same_is, same_itself}
use Rattle.cr_cells.specs.Holding.{Holding}
use Rattle.cr_cells.specs.Tables.{is_named}
use Rattle.cr_delta.specs.Delta.{delta, passes_limit}
use Rattle.cr_delta.proofs.Among.{Among, any_member, map_member, member_of_any}
use Rattle.cr_term.specs.declared.query.Delete.{Delete}
use Rattle.cr_term.specs.declared.query.Joined.{Joined}
use Rattle.cr_term.specs.declared.query.Query.{Query}
use Rattle.cr_term.specs.declared.query.Update.{Update}
use Rattle.cr_scalar.specs.Host.{Host as Means}
use Rattle.cr_query.specs.Query.{Row, answer}
use Rattle.cr_query.specs.Writes.{by_key, wanted_by_delete, wanted_by_update}
use Rattle.cr_meaning.specs.View as view
use Rattle.cr_meaning.specs.Meaning.{regarded}
use Rattle.cr_exec.specs.Answers.{Faults, IsMeant, Stage}
use Rattle.cr_replica.specs.declared.snapshot.Listing.{Listing}
use Rattle.cr_replica.specs.declared.snapshot.Snapshot.{Snapshot}
use Rattle.cr_snapshot.specs.Seen.{name_of, rows_listed, rows_seen}
use Rattle.cr_touched.specs.Tables.{is_name_of, of_tables}
use Rattle.cr_touched.proofs.Tables.{they_lead_alike, they_show_their_rows}
use Rattle.cr_world.specs.declared.refusal.Refusal.{Refusal}
use Rattle.cr_world.specs.State.{State, change_rows, changes_name, module_of, module_rows, now, other_rows, row_of, rows_named, rows_or, table_rows, tables_named}
use Rattle.cr_changed.specs.Changed.{IsRefused, Stands, changes_to, delete_wants, update_wants}
use Rattle.cr_sought.specs.Writes.{delete_over, update_over}
use Rattle.cr_session.specs.Lookup.{IsSeenIn, ShowsDelete, ShowsQuery, ShowsUpdate, ShowsWrite, in_order, names_changes}
use Rattle.cr_session.specs.Sessions.{state_of}
use Rattle.cr_session.proofs.Seeing.{unlisted}

-- ---- names

found_here : (p : Table → Bool) (s t : Table) (b : Bool) (later : Option Table) → p s ≡ b → cond b (Some s) later ≡ Some t → (later ≡ Some t → p t ≡ true) → p t ≡ true
found_here p s t true later is e more = let same : s ≡ t = cc in ap p (sym same) ∙ is
found_here p s t false later is e more = more e

pub found_passes : (p : Table → Bool) (t : Table) (ts : List Table) → find p ts ≡ Some t → p t ≡ true
found_passes p t [] e = absurd (let z : ⊥ = cc in z)
found_passes p t (s ∷ ts) e = found_here p s t (p s) (find p ts) refl e (found_passes p t ts)

-- the only one is one
pub is_only : (name other : List ℕ) → name ≡ other → is_name_of (name ∷ []) other ≡ true
is_only name other e = any_member (same_bytes other) (name ∷ []) name (inl refl) (subst (λ (x : List ℕ). same_bytes x name ≡ true) e (same_itself name))

-- each is one, in their order too
pub is_one_of : (js : List Joined) (j : Joined) → Among js j → is_name_of (in_order (map name_of js)) (name_of j) ≡ true
is_one_of js j m =
    list_any-set_of bytes_total bytes_exact (same_bytes (name_of j)) (map name_of js)
    ∙ any_member (same_bytes (name_of j)) (map name_of js) (name_of j) (map_member name_of js j m) (same_itself (name_of j))

none_of : {X : Type 0} (p : X → Bool) (xs : List X) → list_any p xs ≡ false → (x : X) → Among xs x → p x ≡ false
none_of p xs none x m = elim (split (p x)) [ inl e ↦ absurd (true≢false (sym (any_member p xs x m e) ∙ none)) | inr e ↦ e ]

-- it is not the table of changes where that is none of them
pub not_changes : (tables : List (List ℕ)) (name : List ℕ) → names_changes tables ≡ false → is_name_of tables name ≡ true → same_bytes changes_name name ≡ false
not_changes tables name other there =
    let k = member_of_any (same_bytes name) tables there in
    ap (same_bytes changes_name) (same_is name k.0 k.2) ∙ none_of (same_bytes changes_name) tables other k.0 k.1

module _ (h : Holding) (pending : Option (List Change)) (tables : List (List ℕ)) (snap : Snapshot) (at : IsSeenIn (state_of h pending) tables snap) where
  abbrev st : State
  st = state_of h pending

  -- ---- rows

  abbrev some : List Change
  some = of_tables tables (now st)

  -- the rows of what is no table of its own
  abbrev other_rows_seen : List ℕ → List Row
  other_rows_seen name = if same_bytes changes_name name then map row_of snap.cells else rows_listed snap.modules name

  nothing_else : (name : List ℕ) → same_bytes changes_name name ≡ false → other_rows st name ≡ other_rows_seen name
  nothing_else name other =
      ap (λ (b : Bool). if b then change_rows st.holding else module_rows (module_of st name)) other
      ∙ ap (λ (ls : List Listing). rows_listed ls name) (sym (unlisted snap.modules at.named.modules))
      ∙ sym (ap (λ (b : Bool). if b then map row_of snap.cells else rows_listed snap.modules name) other)

  rows_of_table : (name : List ℕ) → is_name_of tables name ≡ true → (t : Table) → find (is_named name) st.holding.tables ≡ Some t → table_rows (now st) t ≡ table_rows some t
  rows_of_table name there t found =
      let same : t.definition.name ≡ name = same_is t.definition.name name (found_passes (is_named name) t st.holding.tables found) in
      ap (λ (rs : List Row). if t.is_replicated then rs else []) (sym (they_show_their_rows tables t.definition (now st) (ap (is_name_of tables) same ∙ there)))

  -- the same whatever is shown where no table has the name
  pub rows_or_alike : (name : List ℕ) → is_name_of tables name ≡ true → (o : Option Table) → find (is_named name) st.holding.tables ≡ o → (others : List Row) → rows_or (now st) o others ≡ rows_or some o others
  rows_or_alike name there None e others = refl
  rows_or_alike name there (Some t) e others = rows_of_table name there t e

  rows_found : (name : List ℕ) → is_name_of tables name ≡ true → same_bytes changes_name name ≡ false → (o : Option Table) → find (is_named name) st.holding.tables ≡ o
      → rows_or (now st) o (other_rows st name) ≡ rows_or some o (other_rows_seen name)
  rows_found name there other None e = nothing_else name other
  rows_found name there other (Some t) e = rows_of_table name there t e

  -- the rows of each of them
  rows_alike : (name : List ℕ) → is_name_of tables name ≡ true → same_bytes changes_name name ≡ false → rows_named st name ≡ rows_seen snap name
  rows_alike name there other =
      rows_found name there other (find (is_named name) st.holding.tables) refl
      ∙ (λ i. rows_or (sym at.kept i) (find (is_named name) (sym at.named.tables i)) (other_rows_seen name))

  -- ---- a query

  tables_alike : names_changes tables ≡ false → (js : List Joined) → ((j : Joined) → Among js j → is_name_of tables (name_of j) ≡ true)
      → tables_named st (map name_of js) ≡ map (λ j. rows_seen snap (name_of j)) js
  tables_alike other [] each = refl
  tables_alike other (j ∷ js) each =
      let there = each j (inl refl) in
      λ i. rows_alike (name_of j) there (not_changes tables (name_of j) other there) i ∷ tables_alike other js (λ k m. each k (inr m)) i

  pub query_of_tables : (means : Means) (params : List Value) (q : Query) → names_changes tables ≡ false → ((j : Joined) → Among q.joined j → is_name_of tables (name_of j) ≡ true) → ShowsQuery means params q st snap
  query_of_tables means params q other each = λ regard limit. ap (answer (regarded regard means params) (view.query q)) (tables_alike other q.joined each)

  -- ---- writes

  module _ (means : Means) (params : List Value) (def : TableDef) (there : is_name_of tables def.name ≡ true) (unbeaten : keep (now st) ≡ now st) where
    same_rows : rows snap.kept def ≡ rows (now st) def
    same_rows = ap (λ (k : List Change). rows k def) at.kept ∙ they_show_their_rows tables def (now st) there

    same_changes : (rs : List Row) → changes_to def snap.site snap.kept rs ≡ changes_to def st.holding.site (now st) rs
    same_changes rs =
        (λ i. delta def (at.named.site i) (at.kept i) (by_key def rs))
        ∙ ap (λ (k : List Change). delta def st.holding.site (of_tables tables k) (by_key def rs)) (sym unbeaten)
        ∙ they_lead_alike tables def st.holding.site (now st) (by_key def rs) there
        ∙ ap (λ (k : List Change). delta def st.holding.site k (by_key def rs)) unbeaten

    same_limit : (rs : List Row) (b : Bool) → passes_limit (changes_to def snap.site snap.kept rs) ≡ b → passes_limit (changes_to def st.holding.site (now st) rs) ≡ b
    same_limit rs b e = ap passes_limit (sym (same_changes rs)) ∙ e

    stands : (rs : List Row) (f : Refusal) → Stands def snap.site snap.kept rs f → Stands def st.holding.site (now st) rs f
    stands rs f (inl s) = inl s
    stands rs f (inr (inl s)) = inr (inl s)
    stands rs f (inr (inr (inl s))) = inr (inr (inl s))
    stands rs f (inr (inr (inr (short, whole, once, past, is)))) = inr (inr (inr (short, whole, once, same_limit rs true past, is)))

    module _ (over whole : Stage (List Row)) (same : over ≡ whole) where
      refused : (f : Refusal) → IsRefused means params def snap.site snap.kept over f → IsRefused means params def st.holding.site (now st) whole f
      refused f (inl want) = inl want
      refused f (inr (inl (e, is, faults))) = inr (inl (e, is, subst (λ (s : Stage (List Row)). Faults means params s e) same faults))
      refused f (inr (inr (rs, both, s))) = inr (inr (rs, subst (λ (s : Stage (List Row)). IsMeant means params s rs) same both, stands rs f s))

      write_of_tables : ShowsWrite means params def over whole st snap
      write_of_tables = record {
        named = at.named;
        leads = λ changes l. record {
          rows = l.rows;
          both = subst (λ (s : Stage (List Row)). IsMeant means params s l.rows) same l.both;
          short = l.short;
          whole = l.whole;
          once = l.once;
          within = same_limit l.rows false l.within;
          are = l.are ∙ same_changes l.rows;
        };
        refused = refused;
      }

  pub update_of_table : (means : Means) (params : List Value) (u : Update) → is_name_of tables u.relation.definition.name ≡ true → keep (now st) ≡ now st → ShowsUpdate means params u st snap
  update_of_table means params u there unbeaten =
      let def = u.relation.definition in
      write_of_tables means params def there unbeaten (update_wants snap u) (update_over (now st) u)
      (λ i m. wanted_by_update m def.columns (view.update u) (same_rows means params def there unbeaten i))

  pub delete_of_table : (means : Means) (params : List Value) (d : Delete) → is_name_of tables d.relation.definition.name ≡ true → keep (now st) ≡ now st → ShowsDelete means params d st snap
  delete_of_table means params d there unbeaten =
      let def = d.relation.definition in
      write_of_tables means params def there unbeaten (delete_wants snap d) (delete_over (now st) d)
      (λ i m. wanted_by_delete m (view.delete d) (same_rows means params def there unbeaten i))
