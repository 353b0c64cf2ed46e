-- The keys that changes touch.
use Rattle.std.proofs.Common.{◌≡◌, ℕ, Bool, true, false, List, [], ◌∷◌, length, map, find, Option, Some, None, refl, sym, ap, ◌∙◌, arith}
use Rattle.std.specs.Prelude.{filter, if◌then◌else◌}
use Rattle.std.specs.List.{list_any, filter_map}
use Rattle.cr_value.specs.Order.{bytes_cmp}
use Rattle.cr_value.specs.OrderLaws.{bytes_total, bytes_exact}
use Rattle.cr_lattice.specs.declared.change.Change.{Change}
use Rattle.cr_lattice.specs.declared.table.Table.{Table}
use Rattle.cr_lattice.specs.declared.table.TableDef.{TableDef}
use Rattle.cr_lattice.specs.Check.{same_bytes}
use Rattle.cr_lattice.specs.Sets.{set_of}
use Rattle.cr_lattice.proofs.SortedSets.{list_any-set_of, IsStrictlySortedBy-set_of}
use Rattle.cr_lattice.proofs.Tested.{or_false}
use Rattle.cr_cells.specs.Holding.{is_of_table}
use Rattle.cr_cells.specs.Tables.{is_named}
use Rattle.cr_delta.proofs.Among.{Among, map_member, filter_member, any_member}
use Rattle.cr_delta.proofs.Members.{is_same}
use Rattle.cr_touched.specs.Parts.{is_key_of}
use Rattle.cr_world.specs.State.{by_name}
use Rattle.cr_heard.specs.Touched.{some_keys, touched_keys, touched_of, touched, touched_there, touched_named}
use Rattle.cr_heard.proofs.Given.{given_alike, given_behind, given_over}
use Rattle.cr_heard.proofs.Named.{name_of, same_back, names_rise, own_found, found_named}

-- a change of the table stands under one of the keys
pub under_touched : (table : List ℕ) (cs : List Change) (c : Change) → Among cs c → same_bytes c.table table ≡ true → is_key_of (touched_keys table cs) c.pk ≡ true
unfolding touched_keys
under_touched table cs c m of =
    let keys = map (λ d. d.pk) (filter (is_of_table table) cs) in
    list_any-set_of bytes_total bytes_exact (same_bytes c.pk) keys
    ∙ any_member (same_bytes c.pk) keys c.pk (map_member (λ d. d.pk) (filter (is_of_table table) cs) c (filter_member (is_of_table table) cs c m of)) (is_same c.pk c.pk refl)

pub none_in : (def : TableDef) (keys : List (List ℕ)) → length keys ≡ 0 → some_keys def keys ≡ None
none_in def [] e = refl
none_in def (k ∷ ks) e = absurd (omega arith)

pub some_in : (def : TableDef) (keys : List (List ℕ)) → (length keys ≡ 0 → ⊥) → some_keys def keys ≡ Some (record { definition = def; keys = keys })
some_in def [] e = absurd (e refl)
some_in def (k ∷ ks) e = refl

-- ---- tables by the names of changes

no_changes : (name : List ℕ) (cs : List Change) → list_any (same_bytes name) (map (λ c. c.table) cs) ≡ false → filter (is_of_table name) cs ≡ []
no_changes name [] absent = refl
no_changes name (c ∷ cs) absent =
    let both = or_false (same_bytes name c.table) (list_any (same_bytes name) (map (λ c. c.table) cs)) absent in
    let other : is_of_table name c ≡ false = same_back c.table name ∙ both.0 in
    rw other (no_changes name cs both.1)

no_keys : (name : List ℕ) (cs : List Change) → list_any (same_bytes name) (set_of bytes_cmp (map (λ c. c.table) cs)) ≡ false → touched_keys name cs ≡ []
unfolding touched_keys
no_keys name cs absent =
    ap (λ ds. set_of bytes_cmp (map (λ c. c.pk) ds))
    (no_changes name cs (sym (list_any-set_of bytes_total bytes_exact (same_bytes name) (map (λ c. c.table) cs)) ∙ absent))

none_named : (name : List ℕ) (ts : List Table) → list_any (same_bytes name) (map name_of ts) ≡ false → find (is_named name) ts ≡ None
none_named name [] absent = refl
none_named name (t ∷ ts) absent =
    let both = or_false (same_bytes name (name_of t)) (list_any (same_bytes name) (map name_of ts)) absent in
    let other : is_named name t ≡ false = same_back (name_of t) name ∙ both.0 in
    rw other (none_named name ts both.1)

untouched : (cs : List Change) (t : Table) → touched_keys t.definition.name cs ≡ [] → touched_of cs t ≡ None
unfolding touched_of
untouched cs t none = ap (λ ks. if t.is_replicated then some_keys t.definition ks else None) none ∙ either t.is_replicated where
  either : (b : Bool) → (if b then some_keys t.definition [] else None) ≡ None
  either true = refl
  either false = refl

module _ (tables : List Table) (cs : List Change) where
  -- nothing is told of a name that no change has
  unnamed : (name : List ℕ) → list_any (same_bytes name) (set_of bytes_cmp (map (λ c. c.table) cs)) ≡ false → touched_named tables cs name ≡ None
  unfolding touched_named
  unnamed name absent = by (find (is_named name) (by_name tables)) refl where
    by : (o : Option Table) → find (is_named name) (by_name tables) ≡ o → touched_there cs o ≡ None
    by None e = refl
    by (Some t) e = untouched cs t (ap (λ n. touched_keys n cs) (found_named name (by_name tables) t e).1 ∙ no_keys name cs absent)

  -- nor of one that no table has
  not_there : (name : List ℕ) → list_any (same_bytes name) (map name_of (by_name tables)) ≡ false → touched_named tables cs name ≡ None
  unfolding touched_named
  not_there name absent = ap (touched_there cs) (none_named name (by_name tables) absent)

  its_own : (t : Table) → Among (by_name tables) t → touched_named tables cs (name_of t) ≡ touched_of cs t
  unfolding touched_named
  its_own t m = ap (touched_there cs) (own_found (by_name tables) (names_rise tables) t m)

  -- the tables that are touched are told by the names of the changes
  pub touched_by_names : filter_map (touched_named tables cs) (set_of bytes_cmp (map (λ c. c.table) cs)) ≡ touched tables cs
  unfolding touched
  touched_by_names =
      given_over (touched_named tables cs) (set_of bytes_cmp (map (λ c. c.table) cs)) (map name_of (by_name tables))
      (IsStrictlySortedBy-set_of bytes_total bytes_exact (map (λ c. c.table) cs)) (names_rise tables) unnamed not_there
      ∙ given_behind (touched_named tables cs) name_of (by_name tables)
      ∙ given_alike (λ t. touched_named tables cs (name_of t)) (touched_of cs) (by_name tables) its_own
