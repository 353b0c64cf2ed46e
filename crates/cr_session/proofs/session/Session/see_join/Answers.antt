use Rattle.std.proofs.Common.{◌∙◌, ◌<◌, ◌≤◌, ap, subst, get_or, length, ◌++◌, List}
use Rattle.cr_lattice.specs.declared.table.Table.{Table}
use Rattle.cr_term.specs.declared.query.Joined.{Joined}
use Rattle.cr_sought.specs.Joins.{partner}
use Rattle.cr_session.specs.Joining.{IsJoinOf}
use Rattle.cr_session.specs.Sessions.{standing}
use Rattle.cr_session.proofs.Joins.{all_alike, found_then, one_more_as}
use Rattle.cr_session.proofs.session.Session.see_join.Goals as goal

pub loop-joined-preserved : goal.loop-joined-preserved
loop-joined-preserved g c =
    let q = c.args.query.now in
    let items = c.as_slice-joined-items.result.now in
    let i = c.loop-joined.joined-index in
    let j = c.joined-item.result in
    record {
      was_honest = λ honest. c.loop-joined.invariant.was_honest (c.see_rows.ensures.device.was_honest honest);
      stays_clean = λ honest clean. c.in-Ok.ensures.device.stays_clean honest (c.loop-joined.invariant.stays_clean (c.see_rows.ensures.device.was_honest honest) clean);
      was_clean = λ clean. c.loop-joined.invariant.was_clean (c.see_rows.ensures.device.was_clean clean);
      same = λ clean. (c.in-Ok.ensures.finds clean).same ∙ c.loop-joined.invariant.same (c.see_rows.ensures.device.was_clean clean);
      so_far = λ means sound is clean.
          let was = c.see_rows.ensures.device.was_clean clean in
          one_more_as means c.args.params.now q (g.C.Cells.holding c.args.self.now.0) sound c.args.self.now.1 is i c.loop-joined.base c.loop-joined.partners.items c.loop-joined.seen.items
          (c.loop-joined.invariant.so_far means sound is was)
          (subst (λ (l : List Joined). i < length l) c.as_slice-joined-items.ensures c.loop-joined-test.true) j
          (c.joined-item.is ∙ ap (λ (l : List Joined). get_or l i j) c.as_slice-joined-items.ensures)
          c.in-Ok.rows
          (found_then c.args.params.now (standing g.C.Cells.holding c.loop-joined.self) (standing g.C.Cells.holding c.args.self.now) c.args.tables.now (g.C.Cells.holding c.args.self.now.0).tables q j c.loop-joined.base
          c.deref.result.now c.loop-joined.partners.items c.in-Ok.rows (c.loop-joined.invariant.same was) (c.requires.named (c.loop-joined.invariant.was_clean was)) c.deref.ensures.value (c.in-Ok.ensures.finds clean).finds)
          _ _ _ c.in_ok-base.ensures
          (c.in_ok-push_partner.ensures ∙ ap (λ (rows : List _). c.loop-joined.partners.items ++ partner c.loop-joined.base j rows) c.as_slice.ensures)
          c.in_ok-push.ensures.puts;
    }

pub returns-clause-finds : goal.returns-clause-finds
returns-clause-finds g c = λ means is clean.
    let q = c.args.query.now in
    let was = c.loop-joined.invariant.was_clean clean in
    let sound = c.requires.sound was in
    let here = subst (λ (ts : List Table). IsJoinOf means c.args.self.now.1 ts q) (c.requires.named was) is in
    record {
      same = c.loop-joined.invariant.same clean;
      finds =
          all_alike means c.args.params.now q (g.C.Cells.holding c.args.self.now.0) sound c.args.self.now.1 here c.loop-joined.joined-index c.loop-joined.base c.loop-joined.partners.items c.loop-joined.seen.items
          (c.loop-joined.invariant.so_far means sound here clean)
          (subst (λ (l : List Joined). length l ≤ c.loop-joined.joined-index) c.as_slice-joined-items.ensures c.loop-joined-test.false);
    }
