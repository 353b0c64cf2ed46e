-- What a command makes of the replicas that it looks at, by what is found of them.
use Rattle.std.proofs.Common.{◌≡◌, inl, inr, ℕ, Bool, true, false, List, [], Option, Some, None, Result, sym, ap, subst, refl, ◌∙◌}
use Rattle.std.specs.Prelude.{◌≢◌}
use Rattle.cr_guard.specs.declared.event.Event.{Event}
use Rattle.cr_guard.specs.Policy.{Rules}
use Rattle.cr_script.specs.Speaking.{host_under}
use Rattle.cr_session.specs.Hearing.{HearsOwn}
use Rattle.cr_session.specs.Sessions.{Does, is_own, reply_of}
use Rattle.cr_tree.specs.declared.statement.Statement.{Statement}
use Rattle.cr_world.specs.declared.command.Command.{Command}
use Rattle.cr_world.specs.declared.command.Command.TheVariants.{Open, Use, Define, Take, Rows, Changes, Pull, PullSince, Policy, Sql}
use Rattle.cr_world.specs.declared.command.FleetReply.{FleetReply}
use Rattle.cr_world.specs.declared.command.FleetReply.TheVariants.{Done, Refused}
use Rattle.cr_world.specs.declared.refusal.Refusal.{Refusal}
use Rattle.cr_world.specs.declared.refusal.Refusal.TheVariants.{NoReplica}
use Rattle.cr_world.specs.Language.{Language}
use Rattle.cr_world.specs.State.{State, in_transaction}
use Rattle.cr_world.specs.World.{Closures, item_at}
use Rattle.cr_fleet.specs.Between.{Between, ByPull, ByUsed, IsRefused, Uses, of_itself, with_session}
use Rattle.cr_fleet.specs.Fleets.{FleetOf}
use Rattle.cr_fleet.specs.Pulls.{PullsAt, PullsFrom}

pub uses_there : {C : Type 0} (old : FleetOf C) (place : Option ℕ) (at : ℕ) → place ≡ Some at → Uses old (old.0, Some at) place Done
uses_there old place at e = subst (λ (o : Option ℕ). Uses old (old.0, Some at) o Done) (sym e) (refl, refl)

pub uses_nobody : {C : Type 0} (old : FleetOf C) (place : Option ℕ) → place ≡ None → Uses old old place (Refused NoReplica)
uses_nobody old place e = subst (λ (o : Option ℕ). Uses old old o (Refused NoReplica)) (sym e) (refl, refl)

module _ {C G : Type 0} (k : Closures) (hears : G → G → List Event → Type 0) (is_honest is_clean : C → Type 0) (stands : C → State) (g : G) (rules : Rules) (old : FleetOf C) (h : G) (quiet : hears g h []) where
  refused : (r : Refusal) → IsRefused k hears is_honest is_clean stands g rules old (Refused r) old h r
  refused r = (refl, refl, quiet)

  pub pull_by_none : (b : Bool) (used : Option (List ℕ × C)) (from : Option ℕ) → used ≡ None → ByPull k hears is_honest is_clean stands g rules old (Refused NoReplica) old h b used from
  pull_by_none b used from e = subst (λ (o : Option (List ℕ × C)). ByPull k hears is_honest is_clean stands g rules old (Refused NoReplica) old h b o from) (sym e) (refused NoReplica)

  pub pull_by_nobody : (b : Bool) (used : Option (List ℕ × C)) (r : List ℕ × C) (from : Option ℕ) → used ≡ Some r → from ≡ None → ByPull k hears is_honest is_clean stands g rules old (Refused NoReplica) old h b used from
  pull_by_nobody b used r from e f =
      subst (λ (o : Option (List ℕ × C) × Option ℕ). ByPull k hears is_honest is_clean stands g rules old (Refused NoReplica) old h b o.0 o.1) (λ i. (sym e i, sym f i)) (refused NoReplica)

  pub pull_by_itself : (b : Bool) (used : Option (List ℕ × C)) (r : List ℕ × C) (from : Option ℕ) (i : ℕ) (inside : Bool) → used ≡ Some r → from ≡ Some i → old.1 ≡ Some i → in_transaction (stands r.1) ≡ inside
      → ByPull k hears is_honest is_clean stands g rules old (Refused (of_itself inside)) old h b used from
  pull_by_itself b used r from i inside e f place t =
      subst (λ (o : Option (List ℕ × C) × Option ℕ). ByPull k hears is_honest is_clean stands g rules old (Refused (of_itself inside)) old h b o.0 o.1) (λ n. (sym e n, sym f n))
      (inl (place, (ap (λ (x : Bool). Refused (of_itself x)) (sym t), refl, quiet)))

  module _ {E : Type 0} (l : Language Statement E) where
    pub used_by_none : (c : Command) (used : Option (List ℕ × C)) → used ≡ None → ByUsed k hears is_honest is_clean stands g rules old (Refused NoReplica) old h l c used
    used_by_none c used e = subst (λ (o : Option (List ℕ × C)). ByUsed k hears is_honest is_clean stands g rules old (Refused NoReplica) old h l c o) (sym e) (refused NoReplica)

module _ {C G : Type 0} (k : Closures) (hears : G → G → List Event → Type 0) (is_honest is_clean : C → Type 0) (stands : C → State) (g : G) (rules : Rules) (old new : FleetOf C) (h : G) where
  pub pull_by_both : (b : Bool) (used : Option (List ℕ × C)) (r : List ℕ × C) (found : Option ℕ) (at from : ℕ) (result : Result (Unit {0}) Refusal) → used ≡ Some r → found ≡ Some from → old.1 ≡ Some at → at ≢ from → new.1 ≡ old.1
      → PullsAt (λ t p. PullsFrom (host_under k rules) b is_honest is_clean stands (hears g h) t p result) at from old.0 new.0
      → ByPull k hears is_honest is_clean stands g rules old (reply_of result) new h b used found
  pull_by_both b used r found at from result e f place apart still pulls =
      subst (λ (o : Option (List ℕ × C) × Option ℕ). ByPull k hears is_honest is_clean stands g rules old (reply_of result) new h b o.0 o.1) (λ n. (sym e n, sym f n))
      (inr (at, result, place, apart, refl, still, pulls))

  module _ {E : Type 0} (l : Language Statement E) where
    pub used_by : (c : Command) (reply : FleetReply) (used : Option (List ℕ × C)) (r : List ℕ × C) (i : ℕ) (s : C) → used ≡ Some r → old.1 ≡ Some i → new ≡ with_session old (Some i) (r.0, s)
        → Does l (host_under k rules) is_honest is_clean stands r.1 c reply s → (is_clean s → HearsOwn hears l (host_under k rules) g (stands r.1) c reply (stands s) h)
        → ByUsed k hears is_honest is_clean stands g rules old reply new h l c used
    used_by c reply used r i s e place left does heard =
        subst (λ (o : Option (List ℕ × C)). ByUsed k hears is_honest is_clean stands g rules old reply new h l c o) (sym e)
        (s, left ∙ ap (λ (o : Option ℕ). with_session old o (r.0, s)) (sym place), does, heard)

    pub own_between : (c : Command) (reply : FleetReply) → is_own c ≡ true → ByUsed k hears is_honest is_clean stands g rules old reply new h l c (item_at old.1 old.0) → Between k hears is_honest is_clean stands g rules old reply new h l c
    own_between (Define declaration) reply o p = p
    own_between (Take row) reply o p = p
    own_between (Rows name) reply o p = p
    own_between (Changes n) reply o p = p
    own_between (Sql text) reply o p = p
    own_between (Open name site) reply o p = absurd (let q : false ≡ true = o in cc)
    own_between (Use name) reply o p = absurd (let q : false ≡ true = o in cc)
    own_between (Policy rule) reply o p = absurd (let q : false ≡ true = o in cc)
    own_between (Pull name) reply o p = absurd (let q : false ≡ true = o in cc)
    own_between (PullSince name) reply o p = absurd (let q : false ≡ true = o in cc)
