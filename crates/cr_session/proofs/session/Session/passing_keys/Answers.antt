use Rattle.std.proofs.Common.{◌∙◌, List, map, ap, subst, sym}
use Rattle.std.specs.Option.{ForSome, option_copied}
use Rattle.cr_value.proofs.Fields.{some_is}
use Rattle.cr_cells.specs.Tables.{AreWellFormed}
use Rattle.cr_lattice.specs.declared.table.Table.{Table}
use Rattle.cr_delta.specs.Key.{key_of}
use Rattle.cr_scalar.specs.Host.{Host as Means, host}
use Rattle.cr_session.specs.Scans.{IsReplicated}
use Rattle.cr_session.specs.Sessions.{standing}
use Rattle.cr_session.proofs.Passing.{key_there, passing_within}
use Rattle.cr_session.proofs.session.Session.passing_keys.Goals as goal

pub check_rows-requires-clause-key : goal.check_rows-requires-clause-key
check_rows-requires-clause-key g c =
    key_there c.args.names.now c.args.name.now c.in-Some.table.now c.requires.whole
    (subst (λ (ts : List Table). IsReplicated ts c.args.name.now c.in-Some.table.now) c.as_slice-tables.ensures (c.replicated_named.ensures c.in-Some.table.now (ap option_copied c.in-Some.is)))

pub returns-clause-finds : goal.returns-clause-finds
returns-clause-finds g c = λ clean.
    let by : Means = host (g.F.Functions.function_of c.args.functions.now) (g.F.Functions.scalar c.args.functions.now) (g.F.Functions.step c.args.functions.now) (g.F.Functions.finish c.args.functions.now) (g.F.Functions.order_of c.args.functions.now) in
    let st = standing g.C.Cells.holding c.args.self.now in
    let was = c.see_few.ensures.device.was_clean clean in
    let found = c.in-Ok-Some.ensures.finds clean in
    let table = c.in-Some.table.now in
    let tables_are = c.as_slice-tables.ensures ∙ (c.requires.named was).tables in
    record {
      same = found.same;
      finds = λ keys is.
          passing_within by c.args.params.now st c.args.name.now c.args.terms.now table
          (subst (λ (ts : List Table). IsReplicated ts c.args.name.now table) tables_are (c.replicated_named.ensures table (ap option_copied c.in-Some.is)))
          (subst (λ (ts : List Table). ForSome st.pending (AreWellFormed ts)) tables_are (c.is_of.ensures.well_formed c.if-not-is_of.false))
          c.in-Ok-Some.rows keys.items (found.finds c.in-Ok-Some.rows c.in-Ok-Some.field-0-is)
          (ap (λ v. v.items) (sym (some_is _ keys is)) ∙ c.in_ok-keys_of.ensures ∙ ap (map (key_of table.definition)) c.as_slice-2.ensures);
    }
