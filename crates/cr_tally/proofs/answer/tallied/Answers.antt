use Rattle.std.proofs.Common.{◌≡◌, ◌∙◌, ◌++◌, List, [], append-nil, append_assoc, ap, cond, refl, subst, sym}
use Rattle.std.specs.List.{AllByRecursion}
use Rattle.cr_lattice.specs.Keep.{join}
use Rattle.cr_cells.specs.Holding.{Holding, kept_of}
use Rattle.cr_cells.specs.Pages.{above}
use Rattle.cr_query.specs.Query.{Row}
use Rattle.cr_scalar.specs.Host.{Host as Means, host}
use Rattle.cr_touched.specs.Parts.{part}
use Rattle.cr_pushdown.specs.Passing.{passing}
use Rattle.cr_pushdown.specs.Scan.{rows_left}
use Rattle.cr_pushdown.proofs.Pages.{begins_whole}
use Rattle.cr_value.proofs.Fields.{some_is}
use Rattle.cr_tally.specs.declared.tally.Tally.{Tally}
use Rattle.cr_tally.specs.Queries.{AreTrue, TellsOf}
use Rattle.cr_tally.proofs.Lists.{all-append, told_on}
use Rattle.cr_tally.proofs.answer.tallied.Goals as goal

pub loop-init : goal.loop-init
loop-init g c =
    let by : Means = host (g.F.Functions.function_of c.args.functions.now) (g.F.Functions.scalar c.args.functions.now) (g.F.Functions.step c.args.functions.now) (g.F.Functions.finish c.args.functions.now) (g.F.Functions.order_of c.args.functions.now) in
    record {
      was_honest = λ honest. honest;
      stays_clean = λ honest clean. clean;
      was_clean = λ clean. clean;
      same = λ clean. refl;
      stands = c.new-scan.ensures.stands;
      so_far = λ clean.
          let kept = kept_of (g.C.Cells.holding c.args.replica.now) in (
            [],
            begins_whole by c.args.params.now c.args.terms.now c.args.def.now kept c.args.changes.now c.deref.result.now c.new-scan.result (c.deref.ensures.value ∙ c.in_ok-own.ensures.kept) c.new-scan.ensures.begins,
            record { are_true = tt; tells = record { same = refl; tells = λ tell. tell } },
          );
    }

pub loop-preserved : goal.loop-preserved
loop-preserved g c =
    let by : Means = host (g.F.Functions.function_of c.args.functions.now) (g.F.Functions.scalar c.args.functions.now) (g.F.Functions.step c.args.functions.now) (g.F.Functions.finish c.args.functions.now) (g.F.Functions.order_of c.args.functions.now) in
    let inv = c.loop.invariant in
    let device = c.next_page.ensures.device in
    let reads = λ (clean : g.C.Cells.is_clean c.next_page.new.replica). c.in-Ok.ensures.reads clean in
    let left = λ (h : Holding). rows_left by c.args.params.now c.args.terms.now (kept_of h) in
    record {
      was_honest = λ honest. inv.was_honest (device.was_honest honest);
      stays_clean = λ honest clean. c.in-Ok.ensures.device.stays_clean honest (inv.stays_clean (device.was_honest honest) clean);
      was_clean = λ clean. inv.was_clean (device.was_clean clean);
      same = λ clean. (reads clean).same ∙ inv.same (device.was_clean clean);
      stands = c.in-Ok.ensures.stands;
      so_far = λ clean.
          let before = device.was_clean clean in
          let here = inv.same before in
          let seen = inv.so_far before in (
            seen.0 ++ c.in-Ok.page.items,
            append_assoc seen.0 c.in-Ok.page.items (left (g.C.Cells.holding c.args.replica.now) c.next_page.new.self)
                ∙ ap (λ (rs : List Row). seen.0 ++ rs)
                (ap (λ (h : Holding). c.in-Ok.page.items ++ left h c.next_page.new.self) (sym here) ∙ (reads clean).answers.0 ∙ ap (λ (h : Holding). left h c.loop.scan) here)
                ∙ seen.1,
            record {
              are_true =
                  all-append (AreTrue by c.args.params.now c.args.terms.now) seen.0 c.in-Ok.page.items seen.2.are_true
                  (subst (AllByRecursion (AreTrue by c.args.params.now c.args.terms.now)) c.deref-in-loop.ensures.value (c.in_ok-are_true.ensures c.if-not-branch.false));
              tells = told_on by c.args.params.now c.args.tallies.items c.loop.tallies.items c.in-Ok-Some.next.items seen.0 c.in-Ok.page.items c.deref-in-loop-2.result.now c.deref-in-loop-2.ensures.value seen.2.tells (c.in-Ok-Some.ensures c.in-Ok-Some.next c.in-Ok-Some.field-0-is);
            },
          );
    }

pub returns-then-is_at_end-clause-reads : goal.returns-then-is_at_end-clause-reads
returns-then-is_at_end-clause-reads g c clean =
    let by : Means = host (g.F.Functions.function_of c.args.functions.now) (g.F.Functions.scalar c.args.functions.now) (g.F.Functions.step c.args.functions.now) (g.F.Functions.finish c.args.functions.now) (g.F.Functions.order_of c.args.functions.now) in
    let kept = kept_of (g.C.Cells.holding c.args.replica.now) in
    let left : List Row = passing by c.args.params.now c.args.terms.now c.loop.scan.def.now (part c.loop.scan.def.now.name (above c.loop.scan.after) (join kept c.loop.scan.later.now)) in
    let inv = c.loop.invariant in
    let seen = inv.so_far clean in
    record {
      same = inv.same clean;
      answers = λ x is.
          let all : seen.0 ≡ passing by c.args.params.now c.args.terms.now c.args.def.now (join kept c.args.changes.now) =
          sym (append-nil seen.0) ∙ ap (λ b. seen.0 ++ cond b [] left) (sym (sym c.is_at_end.ensures ∙ c.if-is_at_end.true)) ∙ seen.1 in
          subst (λ (rs : List Row). TellsOf by c.args.params.now c.args.terms.now c.args.tallies.items rs x.items) all (subst (λ (ts : List Tally). TellsOf by c.args.params.now c.args.terms.now c.args.tallies.items seen.0 ts) (ap (λ v. v.items) (some_is _ x is)) seen.2);
    }
