-- What a host's functions and collations mean, by name. Source: this project's own.
use Rattle.std.specs.Prelude.{ℕ, List, length, Option, Some, None, Result, Ok}
use Rattle.std.specs.Option.{unwrap_or}
use Rattle.std.specs.declared.cmp.Ordering.{Ordering}
use Rattle.cr_value.specs.declared.value.Value.{Value}
use Rattle.cr_value.specs.declared.value.Value.TheVariants.{Null}
use Rattle.cr_value.specs.Bytes.{bytes_cmp}
use Rattle.cr_host.specs.declared.function.Definition.{Definition}
use Rattle.cr_host.specs.declared.function.Definition.TheVariants.{Scalar, Aggregate}
use Rattle.cr_host.specs.Meets.{aggregated}
use Rattle.cr_scalar.specs.Compare.{Orders}

pub record Host : Type 0 where
  pub scalar : List ℕ → List Value → Result Value (List ℕ)
  pub aggregate : List ℕ → ℕ → List (List Value) → Result Value (List ℕ)
  pub order : Orders

abbrev pub scalar_at : (ℕ → List Value → Result Value (List ℕ)) → Option Definition → List Value → Result Value (List ℕ)
scalar_at scalar (Some (Scalar n)) args = scalar n args
scalar_at scalar (Some (Aggregate n)) args = Ok Null
scalar_at scalar None args = Ok Null

abbrev pub aggregate_at : (ℕ → Value → List Value → Result Value (List ℕ)) → (ℕ → Value → Result Value (List ℕ)) → Option Definition → List (List Value) → Result Value (List ℕ)
aggregate_at step finish (Some (Aggregate n)) rows = aggregated (step n) (finish n) rows
aggregate_at step finish (Some (Scalar n)) rows = Ok Null
aggregate_at step finish None rows = Ok Null

-- the order of texts under the collation of a name; a name that is found nowhere means BINARY
abbrev pub orders : (List ℕ → Option (List ℕ → List ℕ → Ordering)) → Orders
orders order_of name = unwrap_or (order_of name) bytes_cmp

-- a function's name that is found nowhere means NULL
abbrev pub host : (List ℕ → ℕ → Option Definition) → (ℕ → List Value → Result Value (List ℕ)) → (ℕ → Value → List Value → Result Value (List ℕ)) → (ℕ → Value → Result Value (List ℕ)) → (List ℕ → Option (List ℕ → List ℕ → Ordering)) → Host
host function_of scalar step finish order_of = record {
  scalar = λ name args. scalar_at scalar (function_of name (length args)) args;
  aggregate = λ name count rows. aggregate_at step finish (function_of name count) rows;
  order = orders order_of;
}
