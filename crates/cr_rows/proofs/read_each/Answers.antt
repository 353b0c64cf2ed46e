use Rattle.std.proofs.Common.{◌≡◌, inr, [], ◌∷◌, ◌++◌, ◌∙◌, Err, rules, arith}
use Rattle.sqlite.specs.Values.{bound}
use Rattle.sqlite.specs.State.{HasCleanDisk}
use Rattle.sqlite.specs.Held.{state}
use Rattle.sqlite.specs.declared.error.Error.TheVariants.{SqliteFailure}
use Rattle.sqlite.specs.declared.error.ErrorCode.TheVariants.{OutOfMemory}
use Rattle.cr_rows.proofs.AskLemmas.{asks_same, open_before}
use Rattle.cr_rows.proofs.EachLemmas.{one_more, no_more, made_more, stops, stands}
use Rattle.cr_rows.proofs.read_each.Goals as goal

pub returns-in_err-rows-clause-same : goal.returns-in_err-rows-clause-same
returns-in_err-rows-clause-same g c clean plain =
    let h = rw c.in_err-rows.was at c.query.follows.holds-at-none in
    asks_same c.args.sql.now (bound c.args.params.now) (state g.S.Store c.args.conn.now) (state g.S.Store c.query.follows.lender-at-none) (Err c.in_err-rows.field-0.0) plain tt (h.err clean)

pub returns-in_err-rows-clause-was_open : goal.returns-in_err-rows-clause-was_open
returns-in_err-rows-clause-was_open g c clean =
    let h = rw c.in_err-rows.was at c.query.follows.holds-at-none in
    open_before c.args.sql.now (bound c.args.params.now) (state g.S.Store c.args.conn.now) (state g.S.Store c.query.follows.lender-at-none) (Err c.in_err-rows.field-0.0) tt (h.err clean)

pub returns-in_err-row-clause-same : goal.returns-in_err-row-clause-same
returns-in_err-row-clause-same g c clean =
    let moved = rw c.in_err-row.was at c.next.follows.holds-at-none in
    let now = c.next.follows.lender-at-none.conn.now in
    let late : HasCleanDisk (state g.S.Store now) = search rules in
    let so_far = c.rows.invariant.shown (omega (arith, moved.survives.clean)) in
    let left = stops g.S.Store c.args.sql.now (bound c.args.params.now) c.args.conn.now c.rows.rows.conn.now now so_far.0 _ so_far.1 (moved.kept late) in
    search rules

pub returns-in_err-row-clause-was_open : goal.returns-in_err-row-clause-was_open
returns-in_err-row-clause-was_open g c clean =
    let moved = rw c.in_err-row.was at c.next.follows.holds-at-none in
    let now = c.next.follows.lender-at-none.conn.now in
    let late : HasCleanDisk (state g.S.Store now) = search rules in
    let so_far = c.rows.invariant.shown (omega (arith, moved.survives.clean)) in
    let left = stops g.S.Store c.args.sql.now (bound c.args.params.now) c.args.conn.now c.rows.rows.conn.now now so_far.0 _ so_far.1 (moved.kept late) in
    search rules

pub returns-in_default-clause-found : goal.returns-in_default-clause-found
returns-in_default-clause-found g c clean =
    let moved = rw (c.in_ok-row.was, c.in_default.is) at c.next.follows.holds-at-none in
    let now = c.next.follows.lender-at-none.conn.now in
    let late : HasCleanDisk (state g.S.Store now) = search rules in
    let so_far = c.rows.invariant.shown (omega (arith, moved.survives.clean)) in
    let all = no_more g.S.Store c.args.sql.now (bound c.args.params.now) c.args.conn.now c.rows.rows.conn.now now so_far.0 so_far.1 (moved.ok late) (moved.hands late) (moved.same late) in
    (so_far.0, search rules, so_far.2)

pub returns-in_default-clause-same : goal.returns-in_default-clause-same
returns-in_default-clause-same g c clean =
    let moved = rw c.in_ok-row.was at c.next.follows.holds-at-none in
    let now = c.next.follows.lender-at-none.conn.now in
    let late : HasCleanDisk (state g.S.Store now) = search rules in
    let so_far = c.rows.invariant.shown (omega (arith, moved.survives.clean)) in
    let left = stops g.S.Store c.args.sql.now (bound c.args.params.now) c.args.conn.now c.rows.rows.conn.now now so_far.0 (SqliteFailure OutOfMemory) so_far.1 (inr (moved.same late)) in
    search rules

pub returns-in_default-clause-was_open : goal.returns-in_default-clause-was_open
returns-in_default-clause-was_open g c clean =
    let moved = rw c.in_ok-row.was at c.next.follows.holds-at-none in
    let now = c.next.follows.lender-at-none.conn.now in
    let late : HasCleanDisk (state g.S.Store now) = search rules in
    let so_far = c.rows.invariant.shown (omega (arith, moved.survives.clean)) in
    let left = stops g.S.Store c.args.sql.now (bound c.args.params.now) c.args.conn.now c.rows.rows.conn.now now so_far.0 (SqliteFailure OutOfMemory) so_far.1 (inr (moved.same late)) in
    search rules

pub returns-in_err-read-clause-same : goal.returns-in_err-read-clause-same
returns-in_err-read-clause-same g c clean =
    let moved = rw c.in_ok-row.was at c.next.follows.holds-at-none in
    let now = c.next.follows.lender-at-none.conn.now in
    let late : HasCleanDisk (state g.S.Store now) = search rules in
    let so_far = c.rows.invariant.shown (omega (arith, moved.survives.clean)) in
    let left = stops g.S.Store c.args.sql.now (bound c.args.params.now) c.args.conn.now c.rows.rows.conn.now now so_far.0 (SqliteFailure OutOfMemory) so_far.1 (inr (moved.same late)) in
    search rules

pub returns-in_err-read-clause-was_open : goal.returns-in_err-read-clause-was_open
returns-in_err-read-clause-was_open g c clean =
    let moved = rw c.in_ok-row.was at c.next.follows.holds-at-none in
    let now = c.next.follows.lender-at-none.conn.now in
    let late : HasCleanDisk (state g.S.Store now) = search rules in
    let so_far = c.rows.invariant.shown (omega (arith, moved.survives.clean)) in
    let left = stops g.S.Store c.args.sql.now (bound c.args.params.now) c.args.conn.now c.rows.rows.conn.now now so_far.0 (SqliteFailure OutOfMemory) so_far.1 (inr (moved.same late)) in
    search rules

pub returns-in_err-push-clause-same : goal.returns-in_err-push-clause-same
returns-in_err-push-clause-same g c clean =
    let moved = rw c.in_ok-row.was at c.next.follows.holds-at-none in
    let now = c.next.follows.lender-at-none.conn.now in
    let late : HasCleanDisk (state g.S.Store now) = search rules in
    let so_far = c.rows.invariant.shown (omega (arith, moved.survives.clean)) in
    let left = stops g.S.Store c.args.sql.now (bound c.args.params.now) c.args.conn.now c.rows.rows.conn.now now so_far.0 (SqliteFailure OutOfMemory) so_far.1 (inr (moved.same late)) in
    search rules

pub returns-in_err-push-clause-was_open : goal.returns-in_err-push-clause-was_open
returns-in_err-push-clause-was_open g c clean =
    let moved = rw c.in_ok-row.was at c.next.follows.holds-at-none in
    let now = c.next.follows.lender-at-none.conn.now in
    let late : HasCleanDisk (state g.S.Store now) = search rules in
    let so_far = c.rows.invariant.shown (omega (arith, moved.survives.clean)) in
    let left = stops g.S.Store c.args.sql.now (bound c.args.params.now) c.args.conn.now c.rows.rows.conn.now now so_far.0 (SqliteFailure OutOfMemory) so_far.1 (inr (moved.same late)) in
    search rules

pub rows-preserved : goal.rows-preserved
rows-preserved g c =
    let moved = rw (c.in_ok-row.was, c.in-Some.is) at c.next.follows.holds-at-none in
    let now = c.next.follows.lender-at-none.conn.now in
    record {
      same_reference = moved.same_reference ∙ c.rows.invariant.same_reference;
      mode = λ was. moved.mode (c.rows.invariant.mode was);
      clean = λ late. c.rows.invariant.clean (omega (arith, moved.survives.clean));
      shown = λ late.
          let so_far = c.rows.invariant.shown (omega (arith, moved.survives.clean)) in
          let more = one_more g.S.Store c.args.sql.now (bound c.args.params.now) c.args.conn.now c.rows.rows.conn.now now so_far.0 c.in-Some.row.now so_far.1 (moved.ok late) (moved.hands late) (moved.same late) in (
            so_far.0 ++ c.in-Some.row.now ∷ [],
            more,
            λ f makes.
                let is : c.in_ok-read.field-0 ≡ f c.in-Some.row.now = rw c.in_ok-read.was at (makes c.in-Some.row c.read.result c.read.ensures) in
                rw c.in_ok-push.ensures.items (made_more f c.rows.made.items so_far.0 c.in-Some.row.now c.in_ok-read.field-0 (so_far.2 f makes) is),
          );
    }

pub returns-clause-same : goal.returns-clause-same
returns-clause-same g c clean =
    let late : HasCleanDisk (state g.S.Store c.rows.rows.conn.now) = search rules in
    let so_far = c.rows.invariant.shown late in
    let left = stands g.S.Store c.args.sql.now (bound c.args.params.now) c.args.conn.now c.rows.rows.conn.now so_far.0 so_far.1 in
    search rules

pub returns-clause-was_open : goal.returns-clause-was_open
returns-clause-was_open g c clean =
    let late : HasCleanDisk (state g.S.Store c.rows.rows.conn.now) = search rules in
    let so_far = c.rows.invariant.shown late in
    let left = stands g.S.Store c.args.sql.now (bound c.args.params.now) c.args.conn.now c.rows.rows.conn.now so_far.0 so_far.1 in
    search rules
