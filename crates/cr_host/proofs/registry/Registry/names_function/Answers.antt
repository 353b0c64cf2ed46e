use Rattle.std.proofs.Common.{◌≡◌, ◌∙◌, refl, sym}
use Rattle.std.specs.List.{list_any}
use Rattle.std.specs.Str.{bytes_eq}
use Rattle.cr_host.specs.Names.{folded}
use Rattle.cr_host.specs.Registry.{listing, listed}
use Rattle.cr_host.proofs.Entries.{has_name, any-shown, named-found, found-named}
use Rattle.cr_host.proofs.registry.Registry.names_function.Goals as goal

pub returns-clause-value : goal.returns-clause-value
returns-clause-value g c =
    c.has_name.ensures ∙ any-shown listing (has_name c.args.name.now) (λ key. bytes_eq (folded c.args.name.now) key.name.bytes.items) (λ e. refl) c.args.self.now.functions.entries

pub returns-clause-names : goal.returns-clause-names
returns-clause-names g c =
    let named : c.has_name.result ≡ list_any (has_name c.args.name.now) (listed c.args.self.now)
    = c.has_name.ensures ∙ any-shown listing (has_name c.args.name.now) (λ key. bytes_eq (folded c.args.name.now) key.name.bytes.items) (λ e. refl) c.args.self.now.functions.entries in
    (λ h. named-found c.args.name.now (listed c.args.self.now) (sym named ∙ h), λ h. named ∙ found-named c.args.name.now h.0 (listed c.args.self.now) h.1)
