use Rattle.std.proofs.Common.{refl, sym, ap, ◌∙◌, map}
use Rattle.std.specs.Option.{option_map}
use Rattle.cr_host.specs.Registry.{definition, listing, entry_at, is_key, functions}
use Rattle.cr_host.proofs.Entries.{shown-missing, shown-found, value_at, holds_at}
use Rattle.cr_host.proofs.registry.Registry.entry.Goals as goal

pub returns-in_err-place-clause-definition : goal.returns-in_err-place-clause-definition
returns-in_err-place-clause-definition g c =
    ap (option_map (λ f. definition f.now)) c.from_residual.ensures ∙ sym (shown-missing (is_key c.args.name.now c.args.arity) definition (λ es. entry_at c.args.name.now c.args.arity (map listing es)) refl (λ e es. refl) c.args.self.now.functions.entries (sym c.place_of.ensures ∙ c.in_err-place.was))

pub returns-clause-definition : goal.returns-clause-definition
returns-clause-definition g c =
    sym (shown-found (is_key c.args.name.now c.args.arity) definition (λ es. entry_at c.args.name.now c.args.arity (map listing es)) refl (λ e es. refl) c.args.self.now.functions.entries c.in_ok-place.place _ (sym c.place_of.ensures ∙ c.in_ok-place.was) (value_at c.args.self.now.functions.entries c.in_ok-place.place _ (sym c.in_ok-function.ensures.entry)))

pub returns-clause-faithful : goal.returns-clause-faithful
returns-clause-faithful g c h = holds_at _ (functions c.args.self.now) c.in_ok-place.place c.in_ok-function.function.now h.0 (value_at c.args.self.now.functions.entries c.in_ok-place.place _ (sym c.in_ok-function.ensures.entry))

pub returns-clause-memory : goal.returns-clause-memory
returns-clause-memory g c h = holds_at _ (functions c.args.self.now) c.in_ok-place.place c.in_ok-function.function.now h (value_at c.args.self.now.functions.entries c.in_ok-place.place _ (sym c.in_ok-function.ensures.entry)) refl
