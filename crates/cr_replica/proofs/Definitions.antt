-- Definitions that nothing stands against.
use Rattle.std.proofs.Common.{◌≡◌, ℕ, Bool, true, false, cond, ◌||◌, List, [], ◌∷◌, Option, Some, None, refl}
use Rattle.std.specs.Prelude.{find, is_some}
use denote.Bor.{Bor}
use Rattle.std.specs.Option.{option_copied}
use Rattle.std.specs.List.{list_any}
use Rattle.cr_lattice.specs.declared.table.Table.{Table}
use Rattle.cr_lattice.specs.declared.table.TableDef.{TableDef}
use Rattle.cr_cells.specs.Tables.{has_folded_names, has_defaults, IsNewTable}
use Rattle.cr_replica.specs.Definition.{IsAccepted}

here : {X : Type 0} (b : Bool) (x : X) (later : Option X) (r : Bool) → is_some later ≡ r → is_some (cond b (Some x) later) ≡ (b || r)
here true x later r e = refl
here false x later r e = e

-- something is found where something passes
pub is_some-find : {X : Type 0} (p : X → Bool) (xs : List X) → is_some (find p xs) ≡ list_any p xs
is_some-find p [] = refl
is_some-find p (x ∷ xs) = here (p x) x (find p xs) (list_any p xs) (is_some-find p xs)

pub is_some-copied : {X : Type 0} (o : Option (Bor X)) → is_some (option_copied o) ≡ is_some o
is_some-copied None = refl
is_some-copied (Some x) = refl

-- an accepted definition is one that a store takes
pub accepted_is_new : (has : List ℕ → Bool) (tables : List Table) (def : TableDef) → has_folded_names def ≡ true → IsAccepted has tables def → IsNewTable tables def
accepted_is_new has tables def folded ok = record {
  fit = record { folded = folded; profile = ok.profile; names = ok.names };
  unused = ok.new;
}

pub accepted_has_defaults : (has : List ℕ → Bool) (tables : List Table) (def : TableDef) → IsAccepted has tables def → has_defaults def ≡ true
unfolding has_defaults
accepted_has_defaults has tables def ok = rw ok.defaults refl
