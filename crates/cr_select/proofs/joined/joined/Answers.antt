use Rattle.std.proofs.Common.{List, false, rules, subst}
use Rattle.std.specs.Option.{option_map}
use Rattle.cr_resolve.specs.declared.scope.Source.{Source}
use Rattle.cr_resolve.specs.Expressions.{expr}
use Rattle.cr_resolve.specs.Reading.{if_any}
use Rattle.cr_resolve.specs.Told.{Refuses}
use Rattle.cr_select.specs.Joins.{joined_by}
use Rattle.cr_select.proofs.joined.joined.Goals as goal

pub returns-in_err-on : goal.returns-in_err-on
returns-in_err-on g c =
    let why : Refuses (joined_by (g.K.Naming.known c.args.known.now) c.args.sources.now c.args.at c.args.is_left c.args.on.now c.args.source.now).bad c.in_err-on.field-0.0 =
    subst (λ (seen : List Source). Refuses (if_any (option_map (expr (g.K.Naming.known c.args.known.now) seen false) c.args.on.now)).bad c.in_err-on.field-0.0) c.in_sight.ensures c.in_err-on.ensures in
    search rules
