use Rattle.std.proofs.Common.{◌≡◌, refl, ◌∙◌, ap, map, subst, sym, IfSome, Some, rules}
use Rattle.cr_host.specs.Registry.{Listed, listing, listed, with_entry, is_entry, definition}
use Rattle.cr_host.specs.Names.{folded, arity_of}
use Rattle.cr_host.proofs.Entries.{same_key, shown-insert, each-insert}
use Rattle.cr_host.proofs.registry.Registry.add.Goals as goal

pub returns-in-Ok-clause-ok : goal.returns-in-Ok-clause-ok
returns-in-Ok-clause-ok g c =
    let key = c.in-Some.key in
    let fresh : Listed = record { name = folded c.args.name.now; arity = key.arity; definition = definition c.args.function } in
    let e : arity_of c.args.arity ≡ Some key.arity = search rules in
    subst (λ o. IfSome o (λ a. map listing c.insert.new.self.entries ≡ with_entry c.args.name.now a (definition c.args.function) (listed c.args.self.now))) (sym e)
    (ap (map listing) c.in-Ok.ensures.entries ∙ shown-insert _ listing key c.args.function (is_entry c.args.name.now key.arity) (λ l. record l { definition = definition c.args.function }) fresh (with_entry c.args.name.now key.arity (definition c.args.function)) refl (λ l ls. refl) (λ x. same_key key.name.bytes.items x.0.name.bytes.items (folded c.args.name.now) key.arity x.0.arity c.in-Some.ensures.name) (λ e. refl)
    (ap (λ n. record { name = n; arity = key.arity; definition = definition c.args.function }) c.in-Some.ensures.name) c.args.self.now.functions.entries)

pub returns-in-Ok-clause-faithful : goal.returns-in-Ok-clause-faithful
returns-in-Ok-clause-faithful g c = (rw (c.in-Ok.ensures.entries) (each-insert _ _ _ c.args.function c.requires.answers c.args.self.now.functions.entries c.requires.faithful.0), c.requires.faithful.1)

pub returns-in-Ok-clause-memory : goal.returns-in-Ok-clause-memory
returns-in-Ok-clause-memory g c d h k = rw (c.in-Ok.ensures.entries) (each-insert _ _ _ c.args.function k c.args.self.now.functions.entries h)
