-- Rows that are looked up by their keys, and what is heard of them.
use Rattle.std.proofs.Common.{◌≡◌, inl, inr, ℕ, true, false, cond, List, [], ◌∷◌, ◌++◌, map, Option, Some, None, refl, sym, ap, ◌∙◌}
use Rattle.std.specs.List.{list_any}
use Rattle.std.specs.Option.{option_map}
use Rattle.std.proofs.lemmas.Cmp.{tied_itself, lists_total}
use Rattle.std.proofs.lemmas.List.Folds.{list_any-append}
use Rattle.cr_value.specs.OrderLaws.{bytes_total, bytes_exact, value_total}
use Rattle.cr_lattice.specs.declared.table.TableDef.{TableDef}
use Rattle.cr_lattice.specs.Check.{same_bytes}
use Rattle.cr_lattice.proofs.SortedSets.{list_any-set_of, IsStrictlySortedBy-set_of}
use Rattle.cr_lattice.proofs.Tested.{or_false, split}
use Rattle.cr_delta.specs.Key.{key_of}
use Rattle.cr_delta.proofs.Among.{Among}
use Rattle.cr_delta.proofs.Members.{same_is}
use Rattle.cr_guard.specs.Heard.{row_at, became, event, event_at, keys_of_both, heard}
use Rattle.cr_query.specs.Query.{Row}
use Rattle.cr_heard.proofs.Given.{given_alike, given_over, none_given}
use Rattle.cr_heard.proofs.Named.{same_back}

-- nothing became of a row that stays
pub stays : (o : Option Row) → became o o ≡ None
stays None = refl
stays (Some row) = rw (tied_itself (lists_total value_total) row) refl

module _ (def : TableDef) where
  -- where each row stands under its key, it is found by that
  pub found_row : (f : List ℕ → Row) (ks : List (List ℕ)) → ((k : List ℕ) → Among ks k → key_of def (f k) ≡ k) → (pk : List ℕ)
      → row_at def (map f ks) pk ≡ cond (list_any (same_bytes pk) ks) (Some (f pk)) None
  found_row f [] own pk = refl
  found_row f (k ∷ ks) own pk =
      let key : same_bytes (key_of def (f k)) pk ≡ same_bytes pk k = ap (λ x. same_bytes x pk) (own k (inl refl)) ∙ same_back k pk in
      elim (split (same_bytes pk k)) [
        | inl so ↦ (let there : same_bytes (key_of def (f k)) pk ≡ true = key ∙ so in rw (there, so) (ap (λ x. Some (f x)) (sym (same_is pk k so))))
        | inr not_so ↦ (let other : same_bytes (key_of def (f k)) pk ≡ false = key ∙ not_so in rw (other, not_so) (found_row f ks (λ x m. own x (inr m)) pk))
      ]

  no_row : (rows : List Row) (pk : List ℕ) → list_any (same_bytes pk) (map (key_of def) rows) ≡ false → row_at def rows pk ≡ None
  no_row [] pk absent = refl
  no_row (row ∷ rows) pk absent =
      let both = or_false (same_bytes pk (key_of def row)) (list_any (same_bytes pk) (map (key_of def) rows)) absent in
      let other : same_bytes (key_of def row) pk ≡ false = same_back (key_of def row) pk ∙ both.0 in
      rw other (no_row rows pk both.1)

  -- nothing is heard of a key that no row has
  unheard : (before after : List Row) (pk : List ℕ) → list_any (same_bytes pk) (keys_of_both def before after) ≡ false → event_at def before after pk ≡ None
  unheard before after pk absent =
      let any : list_any (same_bytes pk) (map (key_of def) before ++ map (key_of def) after) ≡ false
      = sym (list_any-set_of bytes_total bytes_exact (same_bytes pk) (map (key_of def) before ++ map (key_of def) after)) ∙ absent in
      let each = or_false (list_any (same_bytes pk) (map (key_of def) before)) (list_any (same_bytes pk) (map (key_of def) after))
      (sym (list_any-append (same_bytes pk) (map (key_of def) before) (map (key_of def) after)) ∙ any) in
      ap (λ o. option_map (event def.name pk) (became o (row_at def after pk))) (no_row before pk each.0)
      ∙ ap (λ o. option_map (event def.name pk) (became None o)) (no_row after pk each.1)

  -- what is heard is told by what is heard of each key
  pub heard_alike : (before after were are : List Row) → ((pk : List ℕ) → event_at def before after pk ≡ event_at def were are pk) → heard def before after ≡ heard def were are
  unfolding heard
  heard_alike before after were are same =
      given_over (event_at def before after) (keys_of_both def before after) (keys_of_both def were are)
      (IsStrictlySortedBy-set_of bytes_total bytes_exact (map (key_of def) before ++ map (key_of def) after))
      (IsStrictlySortedBy-set_of bytes_total bytes_exact (map (key_of def) were ++ map (key_of def) are))
      (unheard before after) (λ pk absent. same pk ∙ unheard were are pk absent)
      ∙ given_alike (event_at def before after) (event_at def were are) (keys_of_both def were are) (λ pk m. same pk)

  pub none_heard : (before after : List Row) → ((pk : List ℕ) → event_at def before after pk ≡ None) → heard def before after ≡ []
  unfolding heard
  none_heard before after none = none_given (event_at def before after) (keys_of_both def before after) none
