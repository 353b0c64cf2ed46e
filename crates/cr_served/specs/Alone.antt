-- What becomes of one replica alone and its policy over commands, and what is heard of them: it is a fleet of one, which no
-- command opens, chooses or pulls from. Source: this project's own.
use Rattle.std.specs.Prelude.{◌≡◌, Bool, true, false, List, [], ◌∷◌, map, Some}
use Rattle.cr_guard.specs.Policy.{Rules}
use Rattle.cr_guard.specs.declared.event.Event.{Event}
use Rattle.cr_tree.specs.declared.statement.Statement.{Statement}
use Rattle.cr_world.specs.declared.command.Command.{Command}
use Rattle.cr_world.specs.declared.command.Command.TheVariants.{Open, Use, Define, Take, Rows, Changes, Pull, PullSince, Policy, Sql}
use Rattle.cr_world.specs.declared.command.FleetReply.{FleetReply}
use Rattle.cr_world.specs.declared.command.FleetReply.TheVariants.{Refused}
use Rattle.cr_world.specs.declared.refusal.Refusal.TheVariants.{NoReplica}
use Rattle.cr_world.specs.Language.{Language, IsLanguage}
use Rattle.cr_world.specs.State.{State}
use Rattle.cr_world.specs.World.{World, AllKeep, Closures}
use Rattle.cr_world.specs.Answers.{AreAnswered}
use Rattle.cr_world.specs.Run.{Run, world_after}
use Rattle.cr_world.specs.Headline.{Converges, RowsConverge}
use Rattle.cr_fleet.specs.Hearing.{HearsRun}

-- it opens a replica, chooses one, or pulls from one
abbrev pub wants_others : Command → Bool
wants_others (Open name site) = true
wants_others (Use name) = true
wants_others (Pull name) = true
wants_others (PullSince name) = true
wants_others (Define declaration) = false
wants_others (Take row) = false
wants_others (Rows name) = false
wants_others (Changes n) = false
wants_others (Policy rule) = false
wants_others (Sql text) = false

-- the item, unless its command wants others
abbrev pub unless : {X : Type 0} → Bool → X → List X → List X
unless true x xs = xs
unless false x xs = x ∷ xs

-- the commands that want no others
abbrev pub own : List Command → List Command
own [] = []
own (c ∷ cs) = unless (wants_others c) c (own cs)

-- and their replies
abbrev pub own_replies : List Command → List FleetReply → List FleetReply
own_replies [] rs = []
own_replies (c ∷ cs) [] = []
own_replies (c ∷ cs) (r ∷ rs) = unless (wants_others c) r (own_replies cs rs)

abbrev pub IsRefused : Bool → FleetReply → Type 0
IsRefused true r = r ≡ Refused NoReplica
IsRefused false r = Unit {0}

-- each command has its reply, and those that want others are refused
abbrev pub OthersAreRefused : List Command → List FleetReply → Type 0
OthersAreRefused [] [] = Unit {0}
OthersAreRefused (c ∷ cs) (r ∷ rs) = IsRefused (wants_others c) r × OthersAreRefused cs rs
OthersAreRefused [] (r ∷ rs) = ⊥
OthersAreRefused (c ∷ cs) [] = ⊥

-- the replica is the only one of this world, and in use, under this policy
pub record ShowsAlone {C : Type 0} (stands : C → State) (w : World) (policy : Rules) (s : C) : Type 0 where
  pub members : map (λ m. m.state) w.members ≡ stands s ∷ []
  pub in_use : w.in_use ≡ Some 0
  pub rules : w.rules ≡ policy
  pub keep : AllKeep w

-- The commands that want no others ran as a run of this fleet of one with these replies, whatever the replica ever held, what
-- there is to hear of them was heard, and it converges. This holds where the store is clean after it, as it is where it was clean
-- before, its device is honest and no reply tells of want. The other commands were refused. Beside the replica stands what it
-- ran under, with the policy of that.
pub record RanAlone {E C G : Type 0} (rules : G → Rules) (hears : G → G → List Event → Type 0) (l : Language Statement E) (k : Closures) (is_honest is_clean : C → Type 0) (stands : C → State)
    (s0 s1 : C × G) (cs : List Command) (rs : List FleetReply) : Type 0 where
  pub refused : OthersAreRefused cs rs
  pub was_honest : is_honest s1.0 → is_honest s0.0
  pub was_clean : is_clean s1.0 → is_clean s0.0
  pub stays_clean : is_honest s1.0 → is_clean s0.0 → AreAnswered rs → is_clean s1.0
  pub ran : is_clean s1.0 → (w : World) → ShowsAlone stands w (rules s0.1) s0.0 → Run l k w (own cs) (own_replies cs rs) × ShowsAlone stands (world_after l k w (own cs) (own_replies cs rs)) (rules s1.1) s1.0
  pub heard : is_clean s1.0 → (w : World) → ShowsAlone stands w (rules s0.1) s0.0 → HearsRun l k hears s0.1 w (own cs) (own_replies cs rs) s1.1
  pub rows_converge : is_clean s1.0 → (w : World) → ShowsAlone stands w (rules s0.1) s0.0 → RowsConverge l k w (own cs) (own_replies cs rs)
  pub converges : IsLanguage l → is_clean s1.0 → (w : World) → ShowsAlone stands w (rules s0.1) s0.0 → Converges l k w (own cs) (own_replies cs rs)
