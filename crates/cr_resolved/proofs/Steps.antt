-- What is done with what the expressions of a statement have, from left to right.
use Rattle.std.proofs.Common.{◌≡◌, ◌∙◌, ℕ, ◌+◌, ◌<◌, List, [], ◌∷◌, ◌++◌, length, map, drop, get_or, Some, refl, sym, ap}
use Rattle.std.specs.Option.{option_to_list}
use Rattle.std.specs.List.{flat_map}
use Rattle.std.proofs.lemmas.List.{append-nil}
use Rattle.std.proofs.lemmas.List.Concat.{flat_map-append}
use Rattle.std.proofs.lemmas.List.Folds.{flat_map-map}
use Rattle.cr_tree.specs.declared.expr.Expr.{Expr as Tree}
use Rattle.cr_tree.specs.declared.statement.Shown.{Shown}
use Rattle.cr_tree.specs.declared.statement.Join.{Join}
use Rattle.cr_tree.specs.declared.statement.Tables.{Tables}
use Rattle.cr_tree.specs.declared.statement.Term.{Term}
use Rattle.cr_tree.specs.declared.statement.Select.{Select}
use Rattle.cr_questions.proofs.Folds.{rest_at}
use Rattle.cr_resolve.specs.Queries.{or_none}
use Rattle.cr_resolve.specs.Resolve.{shown_trees, on_trees, select_trees}
use Rattle.cr_resolve.specs.Trees.{all}

-- the parts of parts
pub flat_map_flat : {X Y B : Type 0} (f : Y → List B) (g : X → List Y) (xs : List X) → flat_map f (flat_map g xs) ≡ flat_map (λ x. flat_map f (g x)) xs
flat_map_flat f g [] = refl
flat_map_flat f g (x ∷ xs) = flat_map-append f (g x) (flat_map g xs) ∙ ap (λ ys. flat_map f (g x) ++ ys) (flat_map_flat f g xs)

module _ {B S : Type 0} (act : S → List B → S) (more : (s : S) (xs ys : List B) → act (act s xs) ys ≡ act s (xs ++ ys)) where
  -- one more item of a list of parts
  pub next_part : {X : Type 0} (f : X → List B) (xs : List X) (i : ℕ) (x : X) (found next whole : S) → i < length xs → x ≡ get_or xs i x
      → next ≡ act found (f x) → act found (all (map f (drop i xs))) ≡ whole → act next (all (map f (drop (i + 1) xs))) ≡ whole
  next_part f xs i x found next whole below is h k =
      ap (λ o. act o (all (map f (drop (i + 1) xs)))) h ∙ more found (f x) (all (map f (drop (i + 1) xs)))
      ∙ ap (λ ys. act found (all (map f ys))) (sym (rest_at xs i x below is)) ∙ k

  -- ---- one list of trees after another

  module _ (f : Tree → List B) where
    abbrev on_all : S → List Tree → S
    on_all s ts = act s (flat_map f ts)

    pub append_act : (xs ys : List Tree) (found next result : S) → next ≡ on_all found xs → result ≡ on_all next ys → result ≡ on_all found (xs ++ ys)
    append_act xs ys found next result h k =
        k ∙ ap (λ s. on_all s ys) h ∙ more found (flat_map f xs) (flat_map f ys) ∙ ap (act found) (sym (flat_map-append f xs ys))

    pub one_act : (found : S) (t : Tree) → on_all found (t ∷ []) ≡ act found (f t)
    one_act found t = ap (act found) (append-nil (f t))

    pub shown_act : (found : S) (shown : List Shown) → on_all found (flat_map shown_trees shown) ≡ act found (flat_map (λ s. flat_map f (shown_trees s)) shown)
    shown_act found shown = ap (act found) (flat_map_flat f shown_trees shown)

    pub joins_act : (found : S) (t : Tables) → on_all found (on_trees (Some t)) ≡ act found (flat_map (λ j. flat_map f (option_to_list j.on)) t.joins)
    joins_act found t = ap (act found) (flat_map_flat f (λ (j : Join). option_to_list j.on) t.joins)

    pub group_act : (found : S) (trees : List Tree) → on_all found (or_none (Some trees)) ≡ act found (all (map f trees))
    group_act found trees = ap (act found) (sym (flat_map-map (λ ts. ts) f trees))

    pub order_act : (found : S) (terms : List Term) → on_all found (map (λ t. t.expr) (or_none (Some terms))) ≡ act found (flat_map (λ t. f t.expr) terms)
    order_act found terms = ap (act found) (flat_map-map f (λ (t : Term). t.expr) terms)

    -- the parts of a SELECT
    pub select_act : (q : Select) (found shown from filter group having order : S)
        → shown ≡ act found (flat_map (λ s. flat_map f (shown_trees s)) q.shown) → from ≡ on_all shown (on_trees q.from) → filter ≡ on_all from (option_to_list q.filter)
        → group ≡ on_all filter (or_none q.group) → having ≡ on_all group (option_to_list q.having) → order ≡ on_all having (map (λ t. t.expr) (or_none q.order))
        → order ≡ on_all found (select_trees q)
    select_act q found shown from filter group having order a b c d e h =
        let one : List Tree = flat_map shown_trees q.shown in
        let two : List Tree = one ++ on_trees q.from in
        let three : List Tree = two ++ option_to_list q.filter in
        let four : List Tree = three ++ or_none q.group in
        let five : List Tree = four ++ option_to_list q.having in
        append_act five (map (λ t. t.expr) (or_none q.order)) found having order
        (append_act four (option_to_list q.having) found group having
        (append_act three (or_none q.group) found filter group
        (append_act two (option_to_list q.filter) found from filter
        (append_act one (on_trees q.from) found shown from (a ∙ sym (shown_act found q.shown)) b) c) d) e) h
