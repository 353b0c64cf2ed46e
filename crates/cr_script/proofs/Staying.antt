-- What is left of what a host gave, over several calls.
use Rattle.std.proofs.Common.{◌≡◌, List, Bool, refl, ◌∙◌}
use Rattle.cr_lattice.specs.declared.change.Change.{Change}
use Rattle.cr_guard.specs.Policy.{Rules}
use Rattle.cr_world.specs.Language.{Asked}
use Rattle.cr_world.specs.Statement.{Host}
use Rattle.cr_script.specs.Speaking.{closures, host_under, Noting, Stays}

module _ {G : Type 0} (is_faithful : G → Type 0) (rules : G → Rules) (allows : G → Asked) (refuses : G → List Change → Bool) (noting : G → Noting) where
  pub stays_put : (g : G) → is_faithful g → Stays is_faithful rules allows refuses noting g g
  stays_put g f = record { faithful = f; same_rules = refl; same_allows = refl; same_refuses = refl; same_noting = refl }

  pub stays_on : (g h i : G) → Stays is_faithful rules allows refuses noting g h → Stays is_faithful rules allows refuses noting h i → Stays is_faithful rules allows refuses noting g i
  stays_on g h i s t = record { faithful = t.faithful; same_rules = t.same_rules ∙ s.same_rules; same_allows = t.same_allows ∙ s.same_allows; same_refuses = t.same_refuses ∙ s.same_refuses; same_noting = t.same_noting ∙ s.same_noting }

  abbrev host : G → Host
  host g = host_under (closures (allows g) (refuses g)) (rules g)

  -- the host is the same
  pub same_host : (g h : G) → Stays is_faithful rules allows refuses noting g h → host h ≡ host g
  same_host g h s = λ i. host_under (closures (s.same_allows i) (s.same_refuses i)) (s.same_rules i)

  pub same_closures : (g h : G) → Stays is_faithful rules allows refuses noting g h → closures (allows h) (refuses h) ≡ closures (allows g) (refuses g)
  same_closures g h s = λ i. closures (s.same_allows i) (s.same_refuses i)
