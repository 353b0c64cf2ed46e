-- What an expression of a query or of a write has, it has of whatever follows from it.
use Rattle.std.proofs.Common.{◌≡◌, ◌⊎◌, inl, inr, Bool, true, false, List, [], ◌∷◌, Option, Some, None, IsSomeAnd}
use Rattle.std.specs.Option.{option_to_list}
use Rattle.cr_bags.specs.Bags.{gather, single}
use Rattle.cr_query.specs.Queries.{Query, Joining, Insert, Update, Delete}
use Rattle.cr_query.specs.Query.{Row, Group, Meaning, quiet_first, holds, with_rows, joined_with, combined, joined, groups}
use Rattle.cr_query.specs.Faults.{OfOne, operands, OneHas, TermsHave, OnsHave, GroupHas, KeptHave, QueryHas, InsertHas, UpdateHas, DeleteHas}
use Rattle.cr_query.proofs.Lacking.{one_map}

it_map : {X : Type 0} (P Q : X → Type 0) → ((x : X) → P x → Q x) → (o : Option X) → IsSomeAnd o P → IsSomeAnd o Q
it_map P Q f None h = absurd h
it_map P Q f (Some x) h = f x h

module _ {E : Type 0} (m : Meaning E) (v w t u : E → Row → Type 0) (o p x y : E → Group → Type 0)
    (on_row : (e : E) (c : Row) → v e c → w e c) (over : (e : E) (g : Group) → o e g → p e g)
    (true_on_row : (e : E) (c : Row) → t e c → u e c) (true_over : (e : E) (g : Group) → x e g → y e g) where
  one_has : (es : List E) (c : Row) → OneHas m v o t x es c → OneHas m w p u y es c
  one_has [] c h = absurd h
  one_has (e ∷ es) c (inl h) = inl (true_on_row e c h)
  one_has (e ∷ es) c (inr h) = inr (h.0, one_has es c h.1)

  terms_have : (es : List E) (c : Row) → TermsHave m v o t x es c → TermsHave m w p u y es c
  terms_have es c h = one_has (quiet_first m es) c h

  ons_have : (js : List (Joining E)) (tables : List (List Row)) (cs : List Row) → OnsHave m v o t x js tables cs → OnsHave m w p u y js tables cs
  ons_have [] tables cs h = absurd h
  ons_have (j ∷ js) [] cs h = absurd h
  ons_have (j ∷ js) (rows ∷ tables) cs (inl h) = inl (h.0, one_map _ _ (λ c k. one_map _ _ (terms_have j.on) (with_rows c rows) k) cs h.1)
  ons_have (j ∷ js) (rows ∷ tables) cs (inr h) = inr (it_map _ _ (ons_have js tables) (gather (joined_with m j rows) cs) h)

  group_has : (q : Query E) (g : Group) → GroupHas m v o t x q g → GroupHas m w p u y q g
  group_has q g (inl h) = inl (one_map _ _ (λ e k. true_over e g k) (option_to_list q.having) h)
  group_has q g (inr h) = inr (h.0, one_map _ _ (λ e k. over e g k) (operands q) h.1)

  kept_have : (b : Bool) (q : Query E) (cs : List Row) → KeptHave m v o t x b q cs → KeptHave m w p u y b q cs
  kept_have true q cs (inl h) = inl (one_map _ _ (λ c k. one_map _ _ (λ e z. on_row e c z) q.group k) cs h)
  kept_have true q cs (inr h) = inr (it_map _ _ (λ gs k. one_map _ _ (group_has q) gs k) (groups m q.group cs) h)
  kept_have false q cs h = one_map _ _ (λ c k. one_map _ _ (λ e z. on_row e c z) (operands q) k) cs h

  pub query_has : (q : Query E) (tables : List (List Row)) → QueryHas m v o t x q tables → QueryHas m w p u y q tables
  query_has q tables (inl h) = inl (ons_have q.sources tables (single []) h)
  query_has q tables (inr (inl h)) = inr (inl (it_map _ _ (λ cs k. one_map _ _ (terms_have q.terms) cs k) (combined m q.sources tables (single [])) h))
  query_has q tables (inr (inr h)) = inr (inr (it_map _ _ (kept_have q.is_grouped q) (joined m q tables) h))

  pub insert_has : (i : Insert E) → InsertHas m v o t x i → InsertHas m w p u y i
  insert_has i h = (h.0, one_map _ _ (λ es k. one_map _ _ (λ e z. on_row e [] z) es k) i.tuples h.1)

  pub update_has : (c : Update E) (rows : List Row) → UpdateHas m v o t x c rows → UpdateHas m w p u y c rows
  update_has c rows h = one_map _ _ row_has rows h where
    row_has : (row : Row) → TermsHave m v o t x c.terms row ⊎ ((holds m c.terms row ≡ Some true) × OfOne (λ a. v a.expr row) c.assignments)
        → TermsHave m w p u y c.terms row ⊎ ((holds m c.terms row ≡ Some true) × OfOne (λ a. w a.expr row) c.assignments)
    row_has row (inl k) = inl (terms_have c.terms row k)
    row_has row (inr k) = inr (k.0, one_map _ _ (λ a z. on_row a.expr row z) c.assignments k.1)

  pub delete_has : (d : Delete E) (rows : List Row) → DeleteHas m v o t x d rows → DeleteHas m w p u y d rows
  delete_has d rows h = one_map _ _ (terms_have d.terms) rows h
