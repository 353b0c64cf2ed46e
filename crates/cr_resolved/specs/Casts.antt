-- Whether some CAST is to a type that is none of the three.
use Rattle.std.specs.Prelude.{ℕ, Bool, ◌||◌, List}
use Rattle.std.specs.Option.{is_none, option_to_list}
use Rattle.std.specs.List.{flat_map, list_any}
use Rattle.cr_tree.specs.declared.expr.When.{When}
use Rattle.cr_tree.specs.declared.expr.Expr.TheFolds.{fold-When}
use Rattle.cr_tree.specs.declared.expr.Expr.{Expr as Tree}
use Rattle.cr_tree.specs.declared.statement.Shown.{Shown}
use Rattle.cr_tree.specs.declared.statement.Join.{Join}
use Rattle.cr_tree.specs.declared.statement.Term.{Term}
use Rattle.cr_tree.specs.declared.statement.Assignment.{Assignment}
use Rattle.cr_questions.specs.Questions.{Name}
use Rattle.cr_resolve.specs.Trees.{casts, casts_node, arm}
use Rattle.cr_resolve.specs.Expressions.{cast_target}
use Rattle.cr_resolve.specs.Resolve.{shown_trees}

abbrev pub is_outside : List Name → Bool
is_outside words = is_none (cast_target words)

-- found already, or it is the type of one of these CASTs
unfoldable pub or_outside : Bool → List (List Name) → Bool
or_outside found types = found || list_any is_outside types

abbrev pub arm_casts : When → List (List Name)
arm_casts = fold-When (List (List (List ℕ))) (List (List (List ℕ))) casts_node arm

abbrev pub shown_casts : Shown → List (List Name)
shown_casts s = flat_map casts (shown_trees s)

abbrev pub join_casts : Join → List (List Name)
join_casts j = flat_map casts (option_to_list j.on)

abbrev pub term_casts : Term → List (List Name)
term_casts t = casts t.expr

abbrev pub row_casts : List Tree → List (List Name)
row_casts row = flat_map casts row

abbrev pub assignment_casts : Assignment → List (List Name)
assignment_casts a = casts a.value
