-- What is heard of commands under a guard is heard of them under what the guard is known by.
use Rattle.std.proofs.Common.{◌⊎◌, inl, inr, ℕ, Bool, true, false, List, [], ◌∷◌, Option, Some, None, Result, Ok, Err}
use Rattle.cr_guard.specs.declared.event.Event.{Event}
use Rattle.cr_tree.specs.declared.statement.Statement.{Statement}
use Rattle.cr_world.specs.declared.command.Command.{Command}
use Rattle.cr_world.specs.declared.command.Command.TheVariants.{Open, Use, Define, Take, Rows, Changes, Pull, PullSince, Policy, Sql}
use Rattle.cr_world.specs.declared.command.FleetReply.{FleetReply}
use Rattle.cr_world.specs.declared.command.FleetReply.TheVariants.{Script, Rows as Shown, Changes as Told, Done, Refused}
use Rattle.cr_world.specs.declared.command.Reply.{Reply}
use Rattle.cr_world.specs.declared.refusal.Refusal.{Refusal}
use Rattle.cr_world.specs.declared.refusal.Refusal.TheVariants.{NoReplica}
use Rattle.cr_world.specs.Causes.{IsWant}
use Rattle.cr_world.specs.Language.{Language, Piece}
use Rattle.cr_world.specs.Language as language
use Rattle.cr_world.specs.State.{State}
use Rattle.cr_world.specs.Statement.{Host, stepped}
use Rattle.cr_world.specs.World.{World, Member, Closures, host_of, item_at, used}
use Rattle.cr_guard.specs.Policy.{Rules}
use Rattle.cr_script.specs.Hearing.{Hears, HearsAll}
use Rattle.cr_script.specs.Speaking.{host_under}
use Rattle.cr_session.specs.Hearing.{HearsTaking, HearsScript, HearsOwn}
use Rattle.cr_fleet.specs.Between.{Between, ByPull, ByUsed, IsRefused}
use Rattle.cr_fleet.specs.Fleets.{FleetOf, place_in}
use Rattle.cr_fleet.specs.Hearing.{HearsUsed, HearsCommand}
use Rattle.cr_fleet.specs.Pulls.{PullsAt, PullsFrom}

module _ {E G H : Type 0} (l : Language Statement E) (f : G → H) (hears : G → G → List Event → Type 0) (hears' : H → H → List Event → Type 0)
    (over : (g h : G) (events : List Event) → hears g h events → hears' (f g) (f h) events) where
  or_want : (r : Refusal) (g h : G) → IsWant r ⊎ hears g h [] → IsWant r ⊎ hears' (f g) (f h) []
  or_want r g h (inl w) = inl w
  or_want r g h (inr e) = inr (over g h [] e)

  module _ (host : Host) where
    all_over : (g : G) (st : State) (ps : List (Piece Statement)) (xs : List Reply) (why : Option Refusal) (h : G) → HearsAll l host hears g st ps xs why h → HearsAll l host hears' (f g) st ps xs why (f h)
    all_over g st [] xs None h e = over g h [] e
    all_over g st [] xs (Some r) h e = or_want r g h e
    all_over g st (language.Unread w ∷ ps) xs None h e = over g h [] e
    all_over g st (language.Unread w ∷ ps) xs (Some r) h e = or_want r g h e
    all_over g st (language.Statement s ∷ ps) [] None h e = over g h [] e
    all_over g st (language.Statement s ∷ ps) [] (Some r) h e = or_want r g h e
    all_over g st (language.Statement s ∷ ps) (x ∷ xs) why h e = (e.0, f e.1, e.2, over g e.1 _ e.3, all_over e.1 (stepped l host st [] s (Ok x) e.0) ps xs why h e.4)

    script_over : (g : G) (st : State) (text : List ℕ) (reply : FleetReply) (h : G) → HearsScript hears l host g st text reply h → HearsScript hears' l host (f g) st text reply (f h)
    script_over g st text (Script x) h e = all_over g st (l.pieces text) x.replies x.refusal h e
    script_over g st text Done h e = over g h [] e
    script_over g st text (Refused r) h e = over g h [] e
    script_over g st text (Shown rows) h e = over g h [] e
    script_over g st text (Told cells) h e = over g h [] e

  taking_over : (g : G) (events : List Event) (reply : FleetReply) (h : G) → HearsTaking hears g events reply h → HearsTaking hears' (f g) events reply (f h)
  taking_over g events Done h e = over g h events e
  taking_over g events (Refused r) h e = or_want r g h e
  taking_over g events (Script x) h e = over g h [] e
  taking_over g events (Shown rows) h e = over g h [] e
  taking_over g events (Told cells) h e = over g h [] e

  pub own_over : (host : Host) (g : G) (st : State) (c : Command) (reply : FleetReply) (new : State) (h : G) → HearsOwn hears l host g st c reply new h → HearsOwn hears' l host (f g) st c reply new (f h)
  own_over host g st (Take row) reply new h e = taking_over g _ reply h e
  own_over host g st (Sql text) reply new h e = script_over host g st text reply h e
  own_over host g st (Define declaration) reply new h e = over g h [] e
  own_over host g st (Rows name) reply new h e = over g h [] e
  own_over host g st (Changes n) reply new h e = over g h [] e
  own_over host g st (Open name site) reply new h e = over g h [] e
  own_over host g st (Use name) reply new h e = over g h [] e
  own_over host g st (Pull name) reply new h e = over g h [] e
  own_over host g st (PullSince name) reply new h e = over g h [] e
  own_over host g st (Policy rule) reply new h e = over g h [] e

  module _ (k : Closures) where
    used_over : (u : Option Member) (g : G) (P Q : Member → Type 0) (h : G) → ((m : Member) → P m → Q m) → HearsUsed l k hears u g P h → HearsUsed l k hears' u (f g) Q (f h)
    used_over None g P Q h more e = over g h [] e
    used_over (Some m) g P Q h more e = more m e

    pub command_over : (g : G) (w : World) (c : Command) (reply : FleetReply) (h : G) → HearsCommand l k hears g w c reply h → HearsCommand l k hears' (f g) w c reply (f h)
    command_over g w (Take row) reply h e = used_over (used w) g _ _ h (λ m p. taking_over g _ reply h p) e
    command_over g w (Pull name) reply h e = used_over (used w) g _ _ h (λ m p. taking_over g _ reply h p) e
    command_over g w (PullSince name) reply h e = used_over (used w) g _ _ h (λ m p. taking_over g _ reply h p) e
    command_over g w (Sql text) reply h e = used_over (used w) g _ _ h (λ m p. script_over (host_of k w) g m.state text reply h p) e
    command_over g w (Open name site) reply h e = over g h [] e
    command_over g w (Use name) reply h e = over g h [] e
    command_over g w (Policy rule) reply h e = over g h [] e
    command_over g w (Define declaration) reply h e = over g h [] e
    command_over g w (Rows name) reply h e = over g h [] e
    command_over g w (Changes n) reply h e = over g h [] e

  -- whatever becomes of stores
  result_over : (g h : G) (events : List Event) (result : Result (Unit {0}) Refusal) → Hears (hears g h) events result → Hears (hears' (f g) (f h)) events result
  result_over g h events (Ok u) e = over g h events e
  result_over g h events (Err r) e = or_want r g h e

  module _ {C : Type 0} (k : Closures) (is_honest is_clean : C → Type 0) (stands : C → State) (g : G) (rules : Rules) (old : FleetOf C) (reply : FleetReply) (new : FleetOf C) (h : G) where
    refused_over : (r : Refusal) → IsRefused k hears is_honest is_clean stands g rules old reply new h r → IsRefused k hears' is_honest is_clean stands (f g) rules old reply new (f h) r
    refused_over r p = (p.0, p.1, over g h [] p.2)

    from_over : (b : Bool) (result : Result (Unit {0}) Refusal) (taker peer taker' peer' : C) → PullsFrom (host_under k rules) b is_honest is_clean stands (hears g h) taker peer result taker' peer'
        → PullsFrom (host_under k rules) b is_honest is_clean stands (hears' (f g) (f h)) taker peer result taker' peer'
    from_over b result taker peer taker' peer' p = record {
      pulls = p.pulls;
      told = p.told;
      heard = λ clean. result_over g h _ result (p.heard clean);
      inside = p.inside;
      pending = p.pending;
      peer_pending = p.peer_pending;
    }

    places_over : (b : Bool) (result : Result (Unit {0}) Refusal) (at from : ℕ) → PullsAt (λ t p. PullsFrom (host_under k rules) b is_honest is_clean stands (hears g h) t p result) at from old.0 new.0
        → PullsAt (λ t p. PullsFrom (host_under k rules) b is_honest is_clean stands (hears' (f g) (f h)) t p result) at from old.0 new.0
    places_over b result at from p = record {
      taker = p.taker;
      peer = p.peer;
      taker_new = p.taker_new;
      peer_new = p.peer_new;
      taker_at = p.taker_at;
      peer_at = p.peer_at;
      left = p.left;
      pulled = from_over b result p.taker.1 p.peer.1 p.taker_new p.peer_new p.pulled;
    }

    pull_over : (b : Bool) (used : Option (List ℕ × C)) (from : Option ℕ) → ByPull k hears is_honest is_clean stands g rules old reply new h b used from → ByPull k hears' is_honest is_clean stands (f g) rules old reply new (f h) b used from
    pull_over b None from p = refused_over NoReplica p
    pull_over b (Some r) None p = refused_over NoReplica p
    pull_over b (Some r) (Some from) (inl p) = inl (p.0, refused_over _ p.1)
    pull_over b (Some r) (Some from) (inr p) = inr (p.0, p.1, p.2, p.3, p.4, p.5, places_over b p.1 p.0 from p.6)

    by_used_over : (c : Command) (used : Option (List ℕ × C)) → ByUsed k hears is_honest is_clean stands g rules old reply new h l c used → ByUsed k hears' is_honest is_clean stands (f g) rules old reply new (f h) l c used
    by_used_over c None p = refused_over NoReplica p
    by_used_over c (Some r) p = (p.0, p.1, p.2, λ clean. own_over (host_under k rules) g (stands r.1) c reply (stands p.0) h (p.3 clean))

    pub between_over : (c : Command) → Between k hears is_honest is_clean stands g rules old reply new h l c → Between k hears' is_honest is_clean stands (f g) rules old reply new (f h) l c
    between_over (Open name site) p = (p.0, over g h [] p.1)
    between_over (Use name) p = (p.0, over g h [] p.1)
    between_over (Policy rule) p = (p.0, p.1, over g h [] p.2)
    between_over (Pull name) p = pull_over false (item_at old.1 old.0) (place_in old name) p
    between_over (PullSince name) p = pull_over true (item_at old.1 old.0) (place_in old name) p
    between_over (Define declaration) p = by_used_over (Define declaration) (item_at old.1 old.0) p
    between_over (Take row) p = by_used_over (Take row) (item_at old.1 old.0) p
    between_over (Rows name) p = by_used_over (Rows name) (item_at old.1 old.0) p
    between_over (Changes n) p = by_used_over (Changes n) (item_at old.1 old.0) p
    between_over (Sql text) p = by_used_over (Sql text) (item_at old.1 old.0) p
