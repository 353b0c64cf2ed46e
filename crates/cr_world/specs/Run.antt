-- Runs of a fleet. Source: this project's own.
use Rattle.std.specs.Prelude.{ℕ, List, [], ◌∷◌, take, Option, Some, None, slice_get}
use Rattle.cr_world.specs.declared.command.Command.{Command}
use Rattle.cr_world.specs.declared.command.Command.TheVariants.{Sql}
use Rattle.cr_world.specs.declared.command.FleetReply.{FleetReply}
use Rattle.cr_world.specs.declared.command.FleetReply.TheVariants.{Script}
use Rattle.cr_world.specs.Language.{Language}
use Rattle.cr_world.specs.Scripts.{Moment, moment}
use Rattle.cr_world.specs.World.{World, Member, AllKeep, Closures, host_of, used}
use Rattle.cr_world.specs.Answers.{Answers, after}

module _ {S E : Type 0} (l : Language S E) (k : Closures) where
  -- Each reply is one for the world that the commands before it leave. In each of these worlds every replica keeps what all
  -- that it ever held keeps.
  abbrev pub Run : World → List Command → List FleetReply → Type 0
  Run w [] [] = AllKeep w
  Run w (c ∷ cs) (r ∷ rs) = AllKeep w × Answers l k w c r × Run (after l k w c r) cs rs
  Run w [] (r ∷ rs) = ⊥
  Run w (c ∷ cs) [] = ⊥

  -- the world after commands and their replies
  abbrev pub world_after : World → List Command → List FleetReply → World
  world_after w (c ∷ cs) (r ∷ rs) = world_after (after l k w c r) cs rs
  world_after w [] rs = w
  world_after w (c ∷ cs) [] = w

  -- the world before the command at a place
  abbrev pub world_before : World → List Command → List FleetReply → ℕ → World
  world_before w cs rs n = world_after w (take n cs) (take n rs)

  -- ---- statements of scripts

  abbrev pub moment_of_used : World → Option Member → List ℕ → Option FleetReply → ℕ → Option (Moment S)
  moment_of_used w (Some m) text (Some (Script x)) i = moment l (host_of k w) m.state m.held (l.pieces text) x.replies x.refusal i
  moment_of_used w m text reply i = None

  abbrev pub moment_of : World → Option Command → Option FleetReply → ℕ → Option (Moment S)
  moment_of w (Some (Sql text)) reply i = moment_of_used w (used w) text reply i
  moment_of w command reply i = None

  -- the statement at a place of the script that is the command at a place of a run, if it is come to
  abbrev pub moment_at : World → List Command → List FleetReply → ℕ → ℕ → Option (Moment S)
  moment_at w cs rs p i = moment_of (world_before w cs rs p) (slice_get cs p) (slice_get rs p) i
