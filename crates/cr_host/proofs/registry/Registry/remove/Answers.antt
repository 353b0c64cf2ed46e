use Rattle.std.proofs.Common.{◌≡◌, refl, ◌∙◌, ap, map, subst, sym, Some, rules, not, false}
use Rattle.std.specs.Option.{option_map_or, is_some}
use Rattle.std.specs.Map.{lookup}
use Rattle.indexmap.proofs.CallerLemmas.{filter-RetainsPairs}
use Rattle.indexmap.proofs.MapLemmas.{some_index}
use Rattle.cr_host.specs.Names.{arity_of}
use Rattle.cr_host.specs.Registry.{listing, listed, definition, entry_at, without_entry, is_entry, is_key}
use Rattle.cr_host.proofs.Entries.{shown-lookup, shown-filter, each-filter, is_some-shown}
use Rattle.cr_host.proofs.registry.Registry.remove.Goals as goal

pub returns-clause-removed : goal.returns-clause-removed
returns-clause-removed g c =
    let e : arity_of c.args.arity ≡ Some c.in-Some.arity = search rules in
    subst (λ o. c.is_some-found.result ≡ option_map_or (λ a. is_some (entry_at c.args.name.now a (listed c.args.self.now))) o false) (sym e)
    (c.is_some-found.ensures ∙ ap is_some c.place_of.ensures ∙ some_index (is_key c.args.name.now c.in-Some.arity) c.args.self.now.functions.entries ∙ sym (ap is_some (shown-lookup (is_key c.args.name.now c.in-Some.arity) definition (λ es. entry_at c.args.name.now c.in-Some.arity (map listing es)) refl (λ e es. refl) c.args.self.now.functions.entries) ∙ is_some-shown definition (lookup (is_key c.args.name.now c.in-Some.arity) c.args.self.now.functions.entries)))

pub returns-clause-functions : goal.returns-clause-functions
returns-clause-functions g c =
    let e : arity_of c.args.arity ≡ Some c.in-Some.arity = search rules in
    subst (λ o. map listing c.retain.new.self.entries ≡ option_map_or (λ a. without_entry c.args.name.now a (listed c.args.self.now)) o (listed c.args.self.now)) (sym e)
    (ap (map listing) (filter-RetainsPairs _ (λ p. not (is_key c.args.name.now c.in-Some.arity p.0)) _ (λ k v b w f t. search rules) c.args.self.now.functions.entries _ c.retain.ensures.filtered) ∙ shown-filter listing (λ l. not (is_entry c.args.name.now c.in-Some.arity l)) c.args.self.now.functions.entries)

pub returns-clause-faithful : goal.returns-clause-faithful
returns-clause-faithful g c = (rw (filter-RetainsPairs _ (λ p. not (is_key c.args.name.now c.in-Some.arity p.0)) _ (λ k v b w f t. search rules) c.args.self.now.functions.entries _ c.retain.ensures.filtered) (each-filter _ _ c.args.self.now.functions.entries c.requires.faithful.0), c.requires.faithful.1)

pub returns-clause-memory : goal.returns-clause-memory
returns-clause-memory g c d h = rw (filter-RetainsPairs _ (λ p. not (is_key c.args.name.now c.in-Some.arity p.0)) _ (λ k v b w f t. search rules) c.args.self.now.functions.entries _ c.retain.ensures.filtered) (each-filter _ _ c.args.self.now.functions.entries h)
