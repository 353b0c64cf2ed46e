-- Whether some CAST is to another type, part by part.
use Rattle.std.proofs.Common.{◌≡◌, ◌∙◌, ◌⊎◌, inl, inr, ℕ, Bool, false, ◌||◌, List, [], ◌∷◌, ◌++◌, map, Option, Some, refl, sym, ap}
use Rattle.std.specs.Option.{option_to_list}
use Rattle.std.specs.List.{flat_map, list_any}
use Rattle.std.proofs.lemmas.List.Folds.{list_any-append, flat_map-map}
use Rattle.cr_value.specs.declared.value.Value.{Value}
use Rattle.cr_tree.specs.declared.expr.Expr.{Expr as Tree}
use Rattle.cr_tree.specs.declared.expr.Expr as e
use Rattle.cr_tree.specs.declared.statement.Tables.{Tables}
use Rattle.cr_tree.specs.declared.statement.Term.{Term}
use Rattle.cr_tree.specs.declared.statement.Select.{Select}
use Rattle.cr_tree.specs.declared.statement.Assignment.{Assignment}
use Rattle.cr_questions.specs.Questions.{Name}
use Rattle.cr_resolve.specs.Trees.{all, casts, casts_node}
use Rattle.cr_resolve.specs.Queries.{or_none}
use Rattle.cr_resolve.specs.Resolve.{on_trees, select_trees}
use Rattle.cr_select.proofs.Each.{or_assoc, or_false}
use Rattle.cr_resolved.specs.Casts.{is_outside, or_outside, shown_casts, join_casts, term_casts, row_casts, assignment_casts}
use Rattle.cr_resolved.proofs.Nodes.{literal_node, param_node, column_node, count_node}
use Rattle.cr_resolved.proofs.Steps.{flat_map_flat, append_act, one_act, joins_act, group_act, order_act, select_act}

pub or_more : (found : Bool) (xs ys : List (List Name)) → or_outside (or_outside found xs) ys ≡ or_outside found (xs ++ ys)
unfolding or_outside
or_more found xs ys = or_assoc found (list_any is_outside xs) (list_any is_outside ys) ∙ ap (λ b. found || b) (sym (list_any-append is_outside xs ys))

pub or_nothing : (found : Bool) → or_outside found [] ≡ found
unfolding or_outside
or_nothing found = or_false found

-- a node without parts
pub or_leaf : (found : Bool) (t : Tree)
    → ((v : Value) × (t ≡ e.Literal v)) ⊎ (((n : ℕ) × (t ≡ e.Param n)) ⊎ (((source : Option Name) × (name : Name) × (t ≡ e.Column source name)) ⊎ (t ≡ e.CountAll)))
    → found ≡ or_outside found (casts t)
or_leaf found t (inl (v, is)) = sym (or_nothing found) ∙ ap (or_outside found) (sym (literal_node or_outside or_more casts_node v) ∙ ap casts (sym is))
or_leaf found t (inr (inl (n, is))) = sym (or_nothing found) ∙ ap (or_outside found) (sym (param_node or_outside or_more casts_node n) ∙ ap casts (sym is))
or_leaf found t (inr (inr (inl (source, name, is)))) = sym (or_nothing found) ∙ ap (or_outside found) (sym (column_node or_outside or_more casts_node source name) ∙ ap casts (sym is))
or_leaf found t (inr (inr (inr is))) = sym (or_nothing found) ∙ ap (or_outside found) (sym (count_node or_outside or_more casts_node) ∙ ap casts (sym is))

pub none_before : (types : List (List Name)) → or_outside false types ≡ list_any is_outside types
unfolding or_outside
none_before types = refl

-- ---- what stands in one list, in the words of the whole

pub or_one : (found : Bool) (t : Tree) → or_outside found (flat_map casts (t ∷ [])) ≡ or_outside found (casts t)
or_one = one_act or_outside or_more casts

pub or_joins : (found : Bool) (t : Tables) → or_outside found (flat_map casts (on_trees (Some t))) ≡ or_outside found (flat_map join_casts t.joins)
or_joins = joins_act or_outside or_more casts

pub or_group : (found : Bool) (trees : List Tree) → or_outside found (flat_map casts (or_none (Some trees))) ≡ or_outside found (all (map casts trees))
or_group = group_act or_outside or_more casts

pub or_order : (found : Bool) (terms : List Term) → or_outside found (flat_map casts (map (λ t. t.expr) (or_none (Some terms)))) ≡ or_outside found (flat_map term_casts terms)
or_order = order_act or_outside or_more casts

pub in_rows : (rows : List (List Tree)) → or_outside false (flat_map casts (flat_map (λ row. row) rows)) ≡ or_outside false (flat_map row_casts rows)
in_rows rows = ap (or_outside false) (flat_map_flat casts (λ (row : List Tree). row) rows)

-- ---- the whole

pub in_select : (q : Select) (shown from filter group having order : Bool)
    → shown ≡ or_outside false (flat_map shown_casts q.shown)
    → from ≡ or_outside shown (flat_map casts (on_trees q.from))
    → filter ≡ or_outside from (flat_map casts (option_to_list q.filter))
    → group ≡ or_outside filter (flat_map casts (or_none q.group))
    → having ≡ or_outside group (flat_map casts (option_to_list q.having))
    → order ≡ or_outside having (flat_map casts (map (λ t. t.expr) (or_none q.order)))
    → order ≡ or_outside false (flat_map casts (select_trees q))
in_select q shown from filter group having order a b c d e h =
    select_act or_outside or_more casts q false shown from filter group having order a b c d e h

pub in_update : (assignments : List Assignment) (filter : List Tree) (values whole : Bool)
    → values ≡ or_outside false (flat_map assignment_casts assignments) → whole ≡ or_outside values (flat_map casts filter)
    → whole ≡ or_outside false (flat_map casts (map (λ a. a.value) assignments ++ filter))
in_update assignments filter values whole h k =
    append_act or_outside or_more casts (map (λ a. a.value) assignments) filter false values whole
    (h ∙ ap (or_outside false) (sym (flat_map-map casts (λ (a : Assignment). a.value) assignments))) k
