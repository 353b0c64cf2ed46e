-- Rows that are read as things of one kind, and which things rows list.
use Rattle.std.proofs.Common.{◌≡◌, ℤ, List, [], ◌∷◌, map, Ordering, refl, sym, ap, subst, ◌∙◌}
use Rattle.std.specs.List.{AllByRecursion, list_any}
use Rattle.std.specs.List.Sorted.{IsStrictlySortedBy}
use Rattle.std.specs.Ordering.{eq_by_cmp, is_eq}
use Rattle.std.specs.Cmp.{IsTotalOrder, tied_itself}
use Rattle.std.specs.FinMap.{IsAntisymmetric}
use Rattle.sqlite.specs.declared.types.Value.TheVariants.{Int}
use Rattle.sqlite.specs.Order.{Row}
use Rattle.sqlite_rules.specs.Edit.{id_in}
use Rattle.sqlite_rules.specs.Lists.{Has}
use Rattle.sqlite_rules.proofs.ListLemmas.{all_from, all_has, some_has, some_from}
use Rattle.sqlite_rules.proofs.ProbeLemmas.{has_mapped, mapped_has}
use Rattle.sqlite_trees.specs.Tree.{rowid}
use Rattle.cr_rows.specs.Rows.{IsListed, Lists}
use Rattle.cr_lattice.specs.Sets.{set_of}
use Rattle.cr_lattice.proofs.SortedSets.{list_any-set_of}
use Rattle.cr_store.specs.Stored.{IsInteger, AreStored}
use Rattle.cr_cells.proofs.SortLemmas.{equal_is}
use Rattle.cr_store.proofs.ReadSets.{same_sets, set_of_sorted}

module _ {D : Type 0} {R : D → D → Ordering} (total : IsTotalOrder R) (exact : IsAntisymmetric R) where
  alike : (xs ys : List D) (x : D) → ((q : D) → list_any (eq_by_cmp R q) xs ≡ list_any (eq_by_cmp R q) ys) → Has xs x → Has ys x
  alike xs ys x same h =
      let found = some_has (eq_by_cmp R x) ys (sym (same x) ∙ some_from (eq_by_cmp R x) xs x h (ap is_eq (tied_itself total x))) in
      subst (Has ys) (sym (exact x found.0 (equal_is _ found.2))) found.1

  in_set : (ws : List D) (x : D) → Has (set_of R ws) x → Has ws x
  in_set ws x = alike (set_of R ws) ws x (λ q. list_any-set_of total exact (eq_by_cmp R q) ws)

  set_in : (ws : List D) (x : D) → Has ws x → Has (set_of R ws) x
  set_in ws x = alike ws (set_of R ws) x (λ q. sym (list_any-set_of total exact (eq_by_cmp R q) ws))

  -- each thing has columns, and each row is read as one
  module _ (row : D → Row) (of : Row → D) where
    -- rows that are read list what they are read as
    pub lists_read : (IsRow : Row → Type 0) → ((r : Row) → IsInteger (rowid r) → IsRow r → r ≡ Int (id_in (rowid r)) ∷ row (of r)) → (rows : List Row) → AreStored IsRow rows
        → Lists rows (map row (set_of R (map of rows)))
    lists_read IsRow shows rows it = record { apart = it.apart; sound = sound; complete = complete }
      where
        shown : (r : Row) → Has rows r → r ≡ Int (id_in (rowid r)) ∷ row (of r)
        shown r h = shows r (all_has (λ r. IsInteger (rowid r)) rows r it.numbered h) (all_has IsRow rows r it.each h)

        sound : (r : Row) → Has rows r → IsListed (map row (set_of R (map of rows))) r
        sound r h = (id_in (rowid r), row (of r), shown r h, mapped_has row (set_of R (map of rows)) (of r) (set_in (map of rows) (of r) (mapped_has of rows r h)))

        complete : (x : Row) → Has (map row (set_of R (map of rows))) x → (id : ℤ) × Has rows (Int id ∷ x)
        complete x h =
            let d = has_mapped row (set_of R (map of rows)) x h in
            let r = has_mapped of rows d.0 (in_set (map of rows) d.0 d.1) in
            (id_in (rowid r.0), subst (Has rows) (shown r.0 r.1 ∙ ap (λ x. Int (id_in (rowid r.0)) ∷ x) (ap row (sym r.2) ∙ sym d.2)) r.1)

    -- what rows list in order is what they are read as
    pub set_listed : ((id : ℤ) (x : D) → of (Int id ∷ row x) ≡ x) → (rows : List Row) (xs : List D) → Lists rows (map row xs) → IsStrictlySortedBy R xs → set_of R (map of rows) ≡ xs
    set_listed back rows xs it up = same_sets total exact (map of rows) xs to from ∙ set_of_sorted total exact xs up
      where
        to : (d : D) → Has (map of rows) d → Has xs d
        to d h =
            let r = has_mapped of rows d h in
            let l = it.sound r.0 r.1 in
            let a = has_mapped row xs l.1 l.3 in
            subst (Has xs) (sym (r.2 ∙ ap of l.2 ∙ ap (λ (x : Row). of (Int l.0 ∷ x)) a.2 ∙ back l.0 a.0)) a.1

        from : (d : D) → Has xs d → Has (map of rows) d
        from d h =
            let c = it.complete (row d) (mapped_has row xs d h) in
            subst (Has (map of rows)) (back c.0 d) (mapped_has of rows (Int c.0 ∷ row d) c.1)

-- rows that list what can be written can be read
pub stored_listed : {D : Type 0} (row : D → Row) (IsRow : Row → Type 0) (P : D → Type 0) → ((id : ℤ) (x : D) → P x → IsRow (Int id ∷ row x)) → (rows : List Row) (xs : List D) → Lists rows (map row xs)
    → AllByRecursion P xs → AreStored IsRow rows
stored_listed {D} row IsRow P stored rows xs it all = record { numbered = all_from _ rows numbered; apart = it.apart; each = all_from IsRow rows each }
  where
    numbered : (r : Row) → Has rows r → IsInteger (rowid r)
    numbered r h = let l = it.sound r h in subst (λ z. IsInteger (rowid z)) (sym l.2) refl

    each : (r : Row) → Has rows r → IsRow r
    each r h =
        let l = it.sound r h in
        let a = has_mapped row xs l.1 l.3 in
        subst IsRow (sym (l.2 ∙ ap (λ (x : Row). Int l.0 ∷ x) a.2)) (stored l.0 a.0 (all_has P xs a.0 all a.1))

pub both_all : {D : Type 0} (P Q : D → Type 0) (xs : List D) → AllByRecursion P xs → AllByRecursion Q xs → AllByRecursion (λ x. P x × Q x) xs
both_all P Q [] p q = tt
both_all P Q (x ∷ xs) p q = ((p.0, q.0), both_all P Q xs p.1 q.1)
