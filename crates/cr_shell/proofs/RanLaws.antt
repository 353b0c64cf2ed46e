-- Commands that ran, one list after another.
use Rattle.std.proofs.Common.{ℕ, Bool, List, [], ◌++◌}
use Rattle.cr_world.specs.declared.command.Command.{Command}
use Rattle.cr_world.specs.declared.command.FleetReply.{FleetReply}
use Rattle.cr_world.specs.Language.{Language}
use Rattle.cr_world.specs.World.{Closures}
use Rattle.cr_shell.specs.Running.{Guarded, RanAs}

-- what is known of runs: none may run, and one list may run after another
pub record RanLaws {T G : Type 0} (runs : Guarded T G → Guarded T G → List Command → List FleetReply → Type 0) : Type 0 where
  pub none : (s : Guarded T G) → runs s s [] []
  pub more : (s0 s1 s2 : Guarded T G) (cs ds : List Command) (rs ss : List FleetReply) → runs s0 s1 cs rs → runs s1 s2 ds ss → runs s0 s2 (cs ++ ds) (rs ++ ss)

module _ {S E T G : Type 0} (ran : Language S E → Closures → Guarded T G → Guarded T G → List Command → List FleetReply → Type 0) where
  -- the same in each language
  pub laws_as : ((l : Language S E) (k : Closures) (s : Guarded T G) → ran l k s s [] [])
      → ((l : Language S E) (k : Closures) (s0 s1 s2 : Guarded T G) (cs ds : List Command) (rs ss : List FleetReply) → ran l k s0 s1 cs rs → ran l k s1 s2 ds ss → ran l k s0 s2 (cs ++ ds) (rs ++ ss))
      → (are_names : (List ℕ → Bool) → Type 0) (language : (List ℕ → Bool) → Language S E) (k : Closures) → RanLaws (RanAs ran are_names language k)
  laws_as none more are_names language k = record {
    none = λ s has names. none (language has) k s;
    more = λ s0 s1 s2 cs ds rs ss p q has names. more (language has) k s0 s1 s2 cs ds rs ss (p has names) (q has names);
  }
