-- The rows that a table shows have a value for each column.
use Rattle.std.proofs.Common.{◌≡◌, ℕ, Bool, true, false, cond, List, [], ◌∷◌, length, map}
use Rattle.std.specs.Prelude.{filter}
use Rattle.std.specs.List.{AllByRecursion}
use Rattle.std.proofs.lemmas.List.{length-map}
use Rattle.cr_value.specs.declared.value.Value.{Value}
use Rattle.cr_lattice.specs.declared.change.Change.{Change}
use Rattle.cr_lattice.specs.declared.table.TableDef.{TableDef}
use Rattle.cr_lattice.specs.Rows.{alive_keys, cell, row, rows}
use Rattle.cr_module.specs.Lawful.{AreWide}
use Rattle.cr_term.specs.declared.expr.Expr.{Expr}
use Rattle.cr_scalar.specs.Host.{Host}
use Rattle.cr_pushdown.specs.Passing.{passes, passing}

each_wide : (def : TableDef) (kept : List Change) (ks : List (List ℕ)) → AreWide def.columns (map (row kept def) ks)
unfolding row
each_wide def kept [] = tt
each_wide def kept (k ∷ ks) = (length-map def.columns (cell kept def.name k), each_wide def kept ks)

pub rows_wide : (def : TableDef) (kept : List Change) → AreWide def.columns (rows kept def)
unfolding rows
rows_wide def kept = each_wide def kept (alive_keys kept def.name)

some_of : {X : Type 0} (P : X → Type 0) (q : X → Bool) (xs : List X) → AllByRecursion P xs → AllByRecursion P (filter q xs)
some_of P q [] all = tt
some_of P q (x ∷ xs) all =
    elim (q x) as (λ b. AllByRecursion P (cond b (x ∷ filter q xs) (filter q xs))) [ true ↦ (all.0, some_of P q xs all.1) | false ↦ some_of P q xs all.1 ]

pub passing_wide : (host : Host) (params : List Value) (terms : List Expr) (def : TableDef) (kept : List Change) → AreWide def.columns (passing host params terms def kept)
passing_wide host params terms def kept = some_of (λ r. length r ≡ length def.columns) (passes host params terms) (rows kept def) (rows_wide def kept)
