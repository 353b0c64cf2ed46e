use Rattle.std.proofs.Common.{◌≡◌, ◌≤◌, ◌∙◌, ◌++◌, List, [], append-nil, append_assoc, ap, cond, length, refl, rules, subst, sym}
use Rattle.cr_value.proofs.Fields.{some_is}
use Rattle.cr_lattice.specs.declared.table.TableDef.{TableDef}
use Rattle.cr_lattice.specs.Keep.{join}
use Rattle.cr_cells.specs.Holding.{Holding, kept_of}
use Rattle.cr_cells.specs.Pages.{above}
use Rattle.cr_module.specs.Lawful.{AreWide}
use Rattle.cr_scalar.specs.Host.{Host, host}
use Rattle.cr_query.specs.Query.{Row}
use Rattle.cr_touched.specs.Parts.{part}
use Rattle.cr_pushdown.specs.Passing.{passing}
use Rattle.cr_pushdown.specs.Scan.{rows_left}
use Rattle.cr_sought.proofs.Gathered.{all_append}
use Rattle.cr_pushdown.proofs.Pages.{begins_whole}
use Rattle.cr_pushdown.proofs.scan.passing_rows.Goals as goal

pub loop-init : goal.loop-init
loop-init g c =
    let by : Host = host (g.F.Functions.function_of c.args.functions.now) (g.F.Functions.scalar c.args.functions.now) (g.F.Functions.step c.args.functions.now) (g.F.Functions.finish c.args.functions.now) (g.F.Functions.order_of c.args.functions.now) in
    record {
      was_honest = λ honest. honest;
      stays_clean = λ honest clean. clean;
      was_clean = λ clean. clean;
      same = λ clean. refl;
      stands = c.new-scan.ensures.stands;
      table = c.new-scan.ensures.begins.table;
      few = search rules;
      wide = subst (AreWide c.args.def.now.columns) (sym c.new-out.ensures.items) tt;
      so_far = λ clean.
          let kept = kept_of (g.C.Cells.holding c.args.replica.now) in
          ap (λ (rs : List Row). rs ++ rows_left by c.args.params.now c.args.terms.now kept c.new-scan.result) c.new-out.ensures.items
          ∙ begins_whole by c.args.params.now c.args.terms.now c.args.def.now kept c.args.changes.now c.deref.result.now c.new-scan.result (c.deref.ensures.value ∙ c.in_ok-own.ensures.kept) c.new-scan.ensures.begins;
    }

pub loop-preserved : goal.loop-preserved
loop-preserved g c =
    let by : Host = host (g.F.Functions.function_of c.args.functions.now) (g.F.Functions.scalar c.args.functions.now) (g.F.Functions.step c.args.functions.now) (g.F.Functions.finish c.args.functions.now) (g.F.Functions.order_of c.args.functions.now) in
    let inv = c.loop.invariant in
    let device = c.next_page.ensures.device in
    let reads = λ (clean : g.C.Cells.is_clean c.next_page.new.replica). c.in-Ok.ensures.reads clean in
    let left = λ (h : Holding). rows_left by c.args.params.now c.args.terms.now (kept_of h) in
    let added : c.append.new.self.items ≡ c.loop.out.items ++ c.in-Ok.page.items = search rules in
    record {
      was_honest = λ honest. inv.was_honest (device.was_honest honest);
      stays_clean = λ honest clean. c.in-Ok.ensures.device.stays_clean honest (inv.stays_clean (device.was_honest honest) clean);
      was_clean = λ clean. inv.was_clean (device.was_clean clean);
      same = λ clean. (reads clean).same ∙ inv.same (device.was_clean clean);
      stands = c.in-Ok.ensures.stands;
      table = c.next_page.ensures.table ∙ inv.table;
      few = search rules;
      wide =
          subst (AreWide c.args.def.now.columns) (sym added)
          (all_append (λ r. length r ≡ length c.args.def.now.columns) c.loop.out.items c.in-Ok.page.items inv.wide
          (subst (λ (d : TableDef). AreWide d.columns c.in-Ok.page.items) inv.table c.in-Ok.ensures.wide));
      so_far = λ clean.
          let before = device.was_clean clean in
          let here = inv.same before in
          ap (λ (rs : List Row). rs ++ left (g.C.Cells.holding c.args.replica.now) c.next_page.new.self) added
          ∙ append_assoc c.loop.out.items c.in-Ok.page.items (left (g.C.Cells.holding c.args.replica.now) c.next_page.new.self)
          ∙ ap (λ (rs : List Row). c.loop.out.items ++ rs)
          (ap (λ (h : Holding). c.in-Ok.page.items ++ left h c.next_page.new.self) (sym here) ∙ (reads clean).answers.0 ∙ ap (λ (h : Holding). left h c.loop.scan) here)
          ∙ inv.so_far before;
    }

pub returns-then-is_at_end-clause-reads : goal.returns-then-is_at_end-clause-reads
returns-then-is_at_end-clause-reads g c clean =
    let by : Host = host (g.F.Functions.function_of c.args.functions.now) (g.F.Functions.scalar c.args.functions.now) (g.F.Functions.step c.args.functions.now) (g.F.Functions.finish c.args.functions.now) (g.F.Functions.order_of c.args.functions.now) in
    let kept = kept_of (g.C.Cells.holding c.args.replica.now) in
    let left : List Row = passing by c.args.params.now c.args.terms.now c.loop.scan.def.now (part c.loop.scan.def.now.name (above c.loop.scan.after) (join kept c.loop.scan.later.now)) in
    let inv = c.loop.invariant in
    record {
      same = inv.same clean;
      answers = c.new.ensures
          ∙ sym (append-nil c.loop.out.items)
          ∙ ap (λ b. c.loop.out.items ++ cond b [] left) (sym (sym c.is_at_end.ensures ∙ c.if-is_at_end.true))
          ∙ inv.so_far clean;
    }

pub returns-then-is_at_end-clause-wide : goal.returns-then-is_at_end-clause-wide
returns-then-is_at_end-clause-wide g c = λ x is.
    subst (AreWide c.args.def.now.columns) (sym c.new.ensures ∙ some_is _ x is) c.loop.invariant.wide

pub returns-then-is_at_end-clause-few : goal.returns-then-is_at_end-clause-few
returns-then-is_at_end-clause-few g c = λ x is.
    subst (λ (rows : List Row). length rows ≤ c.args.most) (sym c.new.ensures ∙ some_is _ x is) c.loop.invariant.few
