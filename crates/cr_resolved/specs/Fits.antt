-- What is seen of parameters: the greatest, and whether each is 1 to 999.
use Rattle.std.specs.Prelude.{ℕ, Bool, true, ◌&&◌, nat_le, max, List, fold}
use Rattle.std.specs.Option.{option_to_list}
use Rattle.std.specs.List.{flat_map, list_all}
use Rattle.cr_tree.specs.declared.expr.When.{When}
use Rattle.cr_tree.specs.declared.expr.Expr.TheFolds.{fold-When}
use Rattle.cr_tree.specs.declared.expr.Expr.{Expr as Tree}
use Rattle.cr_tree.specs.declared.statement.Shown.{Shown}
use Rattle.cr_tree.specs.declared.statement.Join.{Join}
use Rattle.cr_tree.specs.declared.statement.Term.{Term}
use Rattle.cr_tree.specs.declared.statement.Assignment.{Assignment}
use Rattle.cr_resolve.specs.Trees.{params, params_node, arm}
use Rattle.cr_resolve.specs.Resolve.{shown_trees}
use Rattle.cr_resolved.specs.declared.fits.Seen.{Seen}

abbrev pub is_in_range : ℕ → Bool
is_in_range n = nat_le 1 n && nat_le n 999

-- seen already, or among these
unfoldable pub seen_with : Seen → List ℕ → Seen
seen_with seen ns = record { greatest = fold max seen.greatest ns; are_in_range = seen.are_in_range && list_all is_in_range ns }

abbrev pub nothing_seen : Seen
nothing_seen = record { greatest = 0; are_in_range = true }

abbrev pub arm_params : When → List ℕ
arm_params = fold-When (List ℕ) (List ℕ) params_node arm

abbrev pub shown_params : Shown → List ℕ
shown_params s = flat_map params (shown_trees s)

abbrev pub join_params : Join → List ℕ
join_params j = flat_map params (option_to_list j.on)

abbrev pub term_params : Term → List ℕ
term_params t = params t.expr

abbrev pub row_params : List Tree → List ℕ
row_params row = flat_map params row

abbrev pub assignment_params : Assignment → List ℕ
assignment_params a = params a.value
