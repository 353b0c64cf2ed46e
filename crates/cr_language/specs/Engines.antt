-- A host's functions and collations as the engine of a language. Source: this project's own.
use Rattle.std.specs.Prelude.{◌≡◌, ℕ, Bool, List, Option, Some, None, Result, refl}
use Rattle.std.specs.Option.{is_some}
use Rattle.std.specs.Cmp.{IsTotalOrder}
use Rattle.std.specs.declared.cmp.Ordering.{Ordering}
use Rattle.std.proofs.lemmas.Cmp.{nat_list_cmp_total}
use Rattle.cr_value.specs.declared.value.Value.{Value}
use Rattle.cr_host.specs.declared.function.Definition.{Definition}
use Rattle.cr_scalar.specs.Host.{host, orders}
use Rattle.cr_questions.specs.Questions.{Name}
use Rattle.cr_language.specs.Texts.{tokens_of}
use Rattle.cr_language.specs.Sql.{Engine}

-- the order of texts under the collation of a name, if there is one
abbrev pub OrderOf : Type 0
OrderOf = Name → Option (List ℕ → List ℕ → Ordering)

abbrev pub AreTotal : OrderOf → Type 0
AreTotal order_of = (name : Name) (order : List ℕ → List ℕ → Ordering) → order_of name ≡ Some order → IsTotalOrder order

total_in : (order_of : OrderOf) → AreTotal order_of → (name : Name) (o : Option (List ℕ → List ℕ → Ordering)) → order_of name ≡ o → IsTotalOrder (orders (λ n. o) name)
total_in order_of total name None e = nat_list_cmp_total
total_in order_of total name (Some order) e = total name order e

-- where a name has none, texts are compared by their bytes
pub total_or : (order_of : OrderOf) → AreTotal order_of → (name : Name) → IsTotalOrder (orders order_of name)
total_or order_of total name = total_in order_of total name (order_of name) refl

abbrev pub engine : (Name → ℕ → Option Definition) → (ℕ → List Value → Result Value (List ℕ)) → (ℕ → Value → List Value → Result Value (List ℕ)) → (ℕ → Value → Result Value (List ℕ))
    → (order_of : OrderOf) → AreTotal order_of → (Name → Bool) → Engine
engine function_of scalar step finish order_of total has = record {
  function_of = function_of;
  has_function = has;
  has_collation = λ name. is_some (order_of name);
  host = host function_of scalar step finish order_of;
  order_total = total_or order_of total;
  tokens = tokens_of;
}
