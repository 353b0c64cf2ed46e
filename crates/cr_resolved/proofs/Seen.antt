-- What is seen of parameters, part by part.
use Rattle.std.proofs.Common.{◌≡◌, ◌∙◌, ◌⊎◌, inl, inr, ℕ, max, Bool, true, false, ◌&&◌, List, [], ◌∷◌, ◌++◌, map, Option, Some, refl, sym, ap}
use Rattle.std.specs.Option.{option_to_list}
use Rattle.std.specs.List.{flat_map, fold, list_all}
use Rattle.std.proofs.lemmas.List.Folds.{list_all-append, flat_map-map}
use Rattle.std.proofs.lemmas.List.Sums.{fold-append}
use Rattle.cr_value.specs.declared.value.Value.{Value}
use Rattle.cr_tree.specs.declared.expr.Expr.{Expr as Tree}
use Rattle.cr_tree.specs.declared.expr.Expr as e
use Rattle.cr_tree.specs.declared.statement.Tables.{Tables}
use Rattle.cr_tree.specs.declared.statement.Term.{Term}
use Rattle.cr_tree.specs.declared.statement.Select.{Select}
use Rattle.cr_tree.specs.declared.statement.Assignment.{Assignment}
use Rattle.cr_questions.specs.Questions.{Name}
use Rattle.cr_resolve.specs.Trees.{all, params, params_node}
use Rattle.cr_resolve.specs.Queries.{or_none}
use Rattle.cr_resolve.specs.Resolve.{on_trees, select_trees}
use Rattle.cr_resolved.specs.declared.fits.Seen.{Seen}
use Rattle.cr_resolved.specs.Fits.{is_in_range, seen_with, nothing_seen, shown_params, join_params, term_params, row_params, assignment_params}
use Rattle.cr_resolved.proofs.Nodes.{literal_node, param_node, column_node, count_node}
use Rattle.cr_resolved.proofs.Steps.{flat_map_flat, append_act, one_act, joins_act, group_act, order_act, select_act}

and_assoc : (a b c : Bool) → ((a && b) && c) ≡ (a && (b && c))
and_assoc true b c = refl
and_assoc false b c = refl

pub and_true : (a : Bool) → (a && true) ≡ a
and_true true = refl
and_true false = refl

pub with_more : (seen : Seen) (ms ns : List ℕ) → seen_with (seen_with seen ms) ns ≡ seen_with seen (ms ++ ns)
unfolding seen_with
with_more seen ms ns =
    let greatest : ℕ → Seen = λ g. record { greatest = g; are_in_range = (seen.are_in_range && list_all is_in_range ms) && list_all is_in_range ns } in
    let range : Bool → Seen = λ b. record { greatest = fold max seen.greatest (ms ++ ns); are_in_range = b } in
    ap greatest (sym (fold-append max seen.greatest ms ns))
    ∙ ap range (and_assoc seen.are_in_range (list_all is_in_range ms) (list_all is_in_range ns) ∙ ap (λ b. seen.are_in_range && b) (sym (list_all-append is_in_range ms ns)))

pub with_nothing : (seen : Seen) → seen_with seen [] ≡ seen
unfolding seen_with
with_nothing seen = let range : Bool → Seen = λ b. record { greatest = seen.greatest; are_in_range = b } in ap range (and_true seen.are_in_range)

-- a node without parts
pub with_leaf : (seen : Seen) (t : Tree)
    → ((v : Value) × (t ≡ e.Literal v)) ⊎ (((source : Option Name) × (name : Name) × (t ≡ e.Column source name)) ⊎ (t ≡ e.CountAll))
    → seen ≡ seen_with seen (params t)
with_leaf seen t (inl (v, is)) = sym (with_nothing seen) ∙ ap (seen_with seen) (sym (literal_node seen_with with_more params_node v) ∙ ap params (sym is))
with_leaf seen t (inr (inl (source, name, is))) = sym (with_nothing seen) ∙ ap (seen_with seen) (sym (column_node seen_with with_more params_node source name) ∙ ap params (sym is))
with_leaf seen t (inr (inr is)) = sym (with_nothing seen) ∙ ap (seen_with seen) (sym (count_node seen_with with_more params_node) ∙ ap params (sym is))

pub with_number : (seen : Seen) (t : Tree) (n : ℕ) → t ≡ e.Param n → seen_with seen (n ∷ []) ≡ seen_with seen (params t)
with_number seen t n is = ap (seen_with seen) (sym (param_node seen_with with_more params_node n) ∙ ap params (sym is))

-- ---- what stands in one list, in the words of the whole

pub with_one : (seen : Seen) (t : Tree) → seen_with seen (flat_map params (t ∷ [])) ≡ seen_with seen (params t)
with_one = one_act seen_with with_more params

pub with_on : (seen : Seen) (t : Tables) → seen_with seen (flat_map params (on_trees (Some t))) ≡ seen_with seen (flat_map join_params t.joins)
with_on = joins_act seen_with with_more params

pub with_group_trees : (seen : Seen) (trees : List Tree) → seen_with seen (flat_map params (or_none (Some trees))) ≡ seen_with seen (all (map params trees))
with_group_trees = group_act seen_with with_more params

pub with_order_trees : (seen : Seen) (terms : List Term) → seen_with seen (flat_map params (map (λ t. t.expr) (or_none (Some terms)))) ≡ seen_with seen (flat_map term_params terms)
with_order_trees = order_act seen_with with_more params

pub in_rows : (rows : List (List Tree)) → seen_with nothing_seen (flat_map params (flat_map (λ row. row) rows)) ≡ seen_with nothing_seen (flat_map row_params rows)
in_rows rows = ap (seen_with nothing_seen) (flat_map_flat params (λ (row : List Tree). row) rows)

-- ---- the whole

pub in_select : (q : Select) (shown from filter group having order : Seen)
    → shown ≡ seen_with nothing_seen (flat_map shown_params q.shown)
    → from ≡ seen_with shown (flat_map params (on_trees q.from))
    → filter ≡ seen_with from (flat_map params (option_to_list q.filter))
    → group ≡ seen_with filter (flat_map params (or_none q.group))
    → having ≡ seen_with group (flat_map params (option_to_list q.having))
    → order ≡ seen_with having (flat_map params (map (λ t. t.expr) (or_none q.order)))
    → order ≡ seen_with nothing_seen (flat_map params (select_trees q))
in_select q shown from filter group having order a b c d e h = select_act seen_with with_more params q nothing_seen shown from filter group having order a b c d e h

pub in_update : (assignments : List Assignment) (filter : List Tree) (values whole : Seen)
    → values ≡ seen_with nothing_seen (flat_map assignment_params assignments) → whole ≡ seen_with values (flat_map params filter)
    → whole ≡ seen_with nothing_seen (flat_map params (map (λ a. a.value) assignments ++ filter))
in_update assignments filter values whole h k =
    append_act seen_with with_more params (map (λ a. a.value) assignments) filter nothing_seen values whole
    (h ∙ ap (seen_with nothing_seen) (sym (flat_map-map params (λ (a : Assignment). a.value) assignments))) k
