-- Scripts as commands.
use Rattle.std.proofs.Common.{◌≡◌, ℕ, Bool, List, Option, Result, refl, sym, ap, subst}
use Rattle.std.specs.Prelude.{is_some}
use Rattle.cr_value.specs.declared.value.Value.{Value}
use Rattle.cr_host.specs.declared.function.Definition.{Definition}
use Rattle.cr_cells.specs.Holding.{Holding}
use Rattle.cr_world.specs.declared.command.Script.{Script}
use Rattle.cr_world.specs.declared.command.Command.TheVariants.{Sql}
use Rattle.cr_world.specs.declared.command.FleetReply.TheVariants as reply
use Rattle.cr_world.specs.Scripts.{Runs}
use Rattle.cr_world.specs.Language.{Language}
use Rattle.cr_world.specs.State.{State}
use Rattle.cr_world.specs.Statement.{Host}
use Rattle.cr_language.specs.Engines.{OrderOf, AreTotal}
use Rattle.cr_session.specs.Sessions.{Does, SessionOf, clean, honest, standing}
use Rattle.cr_world.proofs.Keeping.{runs_leave}
use Rattle.cr_script.specs.Speaking.{spoken}
use Rattle.cr_script.specs.Scripts.{CarriesAll}

-- the collations of the language are those of the host
pub collations_are : (function_of : List ℕ → ℕ → Option Definition) (scalar : ℕ → List Value → Result Value (List ℕ)) (step : ℕ → Value → List Value → Result Value (List ℕ)) (finish : ℕ → Value → Result Value (List ℕ))
    (order_of : OrderOf) (total : AreTotal order_of) (has : List ℕ → Bool) → (spoken function_of scalar step finish order_of total has).has_collation ≡ (λ name. is_some (order_of name))
unfolding spoken
collations_are function_of scalar step finish order_of total has = refl

-- a script as a command of a replica
pub script_does : {S E C : Type 0} (l : Language S E) (host : Host) (is_honest is_clean : C → Type 0) (holding : C → Holding) (old new : SessionOf C) (source : List ℕ) (x : Script)
    → CarriesAll l host (honest is_honest) (clean is_clean) (standing holding) old (l.pieces source) x.replies x.refusal new → Does l host (honest is_honest) (clean is_clean) (standing holding) old (Sql source) (reply.Script x) new
script_does l host is_honest is_clean holding old new source x h = record {
  was_honest = h.was_honest;
  was_clean = h.was_clean;
  stays_clean = h.stays_clean;
  answers = λ clean. (standing holding new, h.runs clean);
  leaves = λ clean m e.
      runs_leave l host m.state (l.pieces source) x.replies x.refusal (standing holding new) (ap (λ (st : State). st.modules) e)
      (subst (λ (st : State). Runs l host st (l.pieces source) x.replies x.refusal (standing holding new)) (sym e) (h.runs clean));
}
