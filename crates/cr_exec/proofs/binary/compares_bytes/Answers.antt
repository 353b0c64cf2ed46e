use Rattle.std.proofs.Common.{◌≡◌, ◌∙◌, Some, refl, sym, ap}
use Rattle.std.specs.Option.{option_map, unwrap_or}
use Rattle.cr_value.specs.Bytes.{bytes_cmp}
use Rattle.cr_host.specs.Registry.{found_order}
use Rattle.cr_host.specs.declared.function.FoundCollation.TheVariants.{BuiltIn}
use Rattle.cr_term.specs.Operands.{binary}
use Rattle.cr_exec.proofs.binary.compares_bytes.Goals as goal

pub returns-in-Some-BuiltIn-Binary : goal.returns-in-Some-BuiltIn-Binary
returns-in-Some-BuiltIn-Binary g c =
    let f = c.args.functions.now in
    let found = c.in-Some-BuiltIn-Binary in
    let named : g.F.Functions.order_of f binary ≡ Some bytes_cmp =
    sym c.find_collation.ensures.order
    ∙ ap (option_map (found_order (g.F.Functions.order_at f))) (found.is ∙ ap Some (found.field-0-is ∙ ap BuiltIn found.field-0-0-is)) in
    (λ t a b. ap (λ o. unwrap_or o bytes_cmp a b) named, λ o. refl)
