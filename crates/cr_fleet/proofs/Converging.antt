-- What is spoken is a language of sessions, so replicas that held the same answer the same.
use Rattle.std.proofs.Common.{ℕ, Bool, List, Option, Result}
use Rattle.cr_value.specs.declared.value.Value.{Value}
use Rattle.cr_host.specs.declared.function.Definition.{Definition}
use Rattle.cr_world.specs.declared.command.Command.{Command}
use Rattle.cr_world.specs.declared.command.FleetReply.{FleetReply}
use Rattle.cr_world.specs.Language.{IsLanguage}
use Rattle.cr_world.specs.World.{World, Closures}
use Rattle.cr_world.specs.Run.{Run}
use Rattle.cr_world.specs.Headline.{Converges}
use Rattle.cr_world.proofs.Running.{run_converges}
use Rattle.cr_language.specs.Engines.{OrderOf, AreTotal, engine}
use Rattle.cr_language.proofs.Instance.{is_language}
use Rattle.cr_script.specs.Speaking.{spoken}

module _ (function_of : List ℕ → ℕ → Option Definition) (scalar : ℕ → List Value → Result Value (List ℕ)) (step : ℕ → Value → List Value → Result Value (List ℕ)) (finish : ℕ → Value → Result Value (List ℕ))
    (order_of : OrderOf) (total : AreTotal order_of) (has : List ℕ → Bool) where
  spoken_is_language : IsLanguage (spoken function_of scalar step finish order_of total has)
  unfolding spoken
  spoken_is_language = is_language (engine function_of scalar step finish order_of total has)

  pub spoken_converges : (k : Closures) (w : World) (cs : List Command) (rs : List FleetReply) → Run (spoken function_of scalar step finish order_of total has) k w cs rs
      → Converges (spoken function_of scalar step finish order_of total has) k w cs rs
  spoken_converges k w cs rs run = run_converges (spoken function_of scalar step finish order_of total has) k spoken_is_language w cs rs run
