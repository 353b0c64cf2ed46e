-- Which terms of a query are told a table of it. Source: "The Virtual Table Mechanism Of SQLite", section 2.3; that beside a
-- LEFT JOIN only the ON of the table that it brings is told, and that a table which stands twice is told nothing, is this
-- project's own.
use Rattle.std.specs.Prelude.{ℕ, ◌+◌, Bool, cond, List, [], ◌∷◌, ◌++◌, Option, Some, None}
use Rattle.std.specs.List.{flat_map, list_any}
use Rattle.std.specs.Option.{option_map_or}
use Rattle.std.specs.Borrow.{Bor}
use Rattle.cr_value.specs.declared.value.Value.{Value}
use Rattle.cr_lattice.specs.Check.{same_bytes}
use Rattle.cr_term.specs.declared.expr.Expr.{Expr}
use Rattle.cr_term.specs.declared.query.Joined.{Joined}
use Rattle.cr_term.specs.declared.query.Query.{Query}
use Rattle.cr_sought.specs.Joins.{width}
use Rattle.cr_plan.specs.declared.offer.Columns.{Columns}
use Rattle.cr_plan.specs.declared.offer.Offer.{Offer}
use Rattle.cr_plan.specs.Offers.{offers}

abbrev pub is_brought : Joined → Bool
is_brought j = j.is_left

-- The ON of a table that a LEFT JOIN brings; else, where there is no LEFT JOIN, each ON and WHERE.
abbrev pub told_terms : Query → Joined → List Expr
told_terms q j = cond j.is_left j.on (cond (list_any is_brought q.joined) [] (flat_map (λ k. k.on) q.joined ++ q.filter))

-- a table of a query, and its columns in a combination
pub record Placed : Type 0 where
  pub joined : Joined
  pub columns : Columns

-- as code has them
abbrev pub placed : Bor Joined × Columns → Placed
placed t = record { joined = t.0.now; columns = t.1 }

abbrev pub placed_at : ℕ → Joined → Placed
placed_at start j = record { joined = j; columns = record { start = start; count = width j } }

-- the tables that pass, of tables whose columns begin there
abbrev pub places_from : ℕ → (Joined → Bool) → List Joined → List Placed
places_from start p [] = []
places_from start p (j ∷ js) = cond (p j) (placed_at start j ∷ []) [] ++ places_from (start + width j) p js

-- the only member of a list
abbrev pub only : {A : Type 0} → List A → Option A
only [] = None
only (x ∷ []) = Some x
only (x ∷ y ∷ zs) = None

abbrev pub has_name : List ℕ → Joined → Bool
has_name name j = same_bytes name j.relation.definition.name

abbrev pub offers_placed : List Value → Query → Placed → List Offer
offers_placed params q t = offers t.columns params (told_terms q t.joined)

-- What is offered to the table of a name: nothing where it stands several times.
abbrev pub offers_to : List Value → Query → List ℕ → List Offer
offers_to params q name = option_map_or (offers_placed params q) (only (places_from 0 (has_name name) q.joined)) []
