-- What changes make of a table is told by its own changes among them.
use Rattle.std.proofs.Common.{◌≡◌, inl, inr, ℕ, Bool, true, false, ◌&&◌, ◌||◌, List, ◌++◌, refl, sym, ap, subst, ◌∙◌}
use Rattle.std.specs.Prelude.{filter}
use Rattle.cr_lattice.specs.declared.change.Change.{Change}
use Rattle.cr_lattice.specs.declared.table.TableDef.{TableDef}
use Rattle.cr_lattice.specs.ChangeOrder.{change_total, change_exact, row_exact}
use Rattle.cr_lattice.specs.Check.{same_bytes}
use Rattle.cr_lattice.specs.Keep.{has, join, keep}
use Rattle.cr_lattice.specs.Rows.{rows}
use Rattle.cr_lattice.proofs.ChangeLaws.{Beats-beats}
use Rattle.cr_lattice.proofs.KeepLaws.{In, has-append, keep_keep, kept_from, kept_to}
use Rattle.cr_lattice.proofs.SortedSets.{has-filter}
use Rattle.cr_lattice.proofs.TableLemmas.{rows_agree}
use Rattle.cr_lattice.proofs.Tested.{split}
use Rattle.cr_delta.specs.Wanted.{AreWellFormed}
use Rattle.cr_delta.proofs.Among.{Among, In_Among, Among_In, member_has}
use Rattle.cr_heard.specs.Touched.{IsSoundOf}
use Rattle.cr_heard.proofs.Given.{all_of}

abbrev own : List ℕ → List Change → List Change
own table cs = filter (λ c. same_bytes c.table table) cs

and_true_last : (a b : Bool) → b ≡ true → (a && b) ≡ a
and_true_last true b e = e
and_true_last false b e = refl

module _ (def : TableDef) (kept more : List Change) where
  agree : (c : Change) → same_bytes c.table def.name ≡ true → has (kept ++ own def.name more) c ≡ has (kept ++ more) c
  unfolding has
  agree c of =
      has-append kept (own def.name more) c
      ∙ ap (λ b. has kept c || b) (has-filter change_total change_exact (λ d. same_bytes d.table def.name) more c ∙ and_true_last (has more c) (same_bytes c.table def.name) of)
      ∙ sym (has-append kept more c)

  own_rows : rows (join kept (own def.name more)) def ≡ rows (join kept more) def
  own_rows = rows_agree def (kept ++ own def.name more) (kept ++ more) agree

  -- what beats a change of the table is of the table
  kept_there : (c : Change) → same_bytes c.table def.name ≡ true → In (join kept (own def.name more)) c → In (join kept more) c
  kept_there c of e =
      let k = kept_from (kept ++ own def.name more) c e in
      kept_to (kept ++ more) c (record {
        member = sym (agree c of) ∙ k.member;
        unbeaten = λ d in_d b. k.unbeaten d (agree d (ap (λ t. same_bytes t def.name) (row_exact d c (Beats-beats d c b).row).0 ∙ of) ∙ in_d) b;
      })

  well_formed : AreWellFormed def (join kept more) → AreWellFormed def (join kept (own def.name more))
  well_formed all = all_of _ (join kept (own def.name more)) (λ c m.
      elim (split (same_bytes c.table def.name)) [
        | inl of ↦ member_has _ (join kept more) c all (Among_In (join kept more) c (kept_there c of (In_Among (join kept (own def.name more)) c m)))
        | inr other ↦ inr other
      ])

  own_sound : IsSoundOf def (join kept more) → IsSoundOf def (join kept (own def.name more))
  own_sound is = record {
    key = is.key;
    defaults = is.defaults;
    are = record { unbeaten = keep_keep (kept ++ own def.name more); well_formed = well_formed is.are.well_formed };
  }

  -- what is kept with those of the changes that are of the table of its name
  module _ (name : List ℕ) (found joined : List Change) (named : name ≡ def.name) (are : found ≡ filter (λ c. same_bytes c.table name) more) (is : joined ≡ join kept found) where
    joined_own : joined ≡ join kept (own def.name more)
    joined_own = is ∙ ap (join kept) (are ∙ ap (λ n. own n more) named)

    pub joined_rows : rows joined def ≡ rows (join kept more) def
    joined_rows = ap (λ (k : List Change). rows k def) joined_own ∙ own_rows

    pub joined_sound : IsSoundOf def (join kept more) → IsSoundOf def joined
    joined_sound sound = subst (IsSoundOf def) (sym joined_own) (own_sound sound)
