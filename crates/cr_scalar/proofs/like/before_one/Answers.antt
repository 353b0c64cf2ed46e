use Rattle.std.proofs.Common.{rules, arith, ◌≢◌, ◌+◌, ◌<◌, ◌&&◌, ◌∙◌, ap, false, length, get_or, below_more, get_or-set_other, get_or-set_same}
use Rattle.std.proofs.lemmas.List.{get_or_read_under}
use Rattle.cr_scalar.specs.Texts.{fits}
use Rattle.cr_scalar.proofs.like.before_one.Goals as goal

pub loop-at-preserved : goal.loop-at-preserved
loop-at-preserved c =
    let within : c.loop-at.at < length c.loop-at.ends = search rules in
    let here = get_or_read_under c.args.text.now c.loop-at.at (length c.args.text.now) c.index-text-at.result 0 c.index-text-at.is (omega arith) (omega arith) in
    let old = c.loop-at.invariant.left (c.loop-at.at + 1) (omega arith) in
    record {
      len = search rules;
      done = below_more _ _
          (λ k h. let ne : k ≢ c.loop-at.at = omega arith in rw get_or-set_other (c.loop-at.invariant.done k h))
          (rw get_or-set_same (c.both.ensures ∙ ap (λ b. b && get_or c.loop-at.ends (c.loop-at.at + 1) false) (c.fits.ensures ∙ ap (fits c.args.wanted) here) ∙ ap (λ b. fits c.args.wanted (get_or c.args.text.now c.loop-at.at 0) && b) old));
      left = λ k h. let ne : k ≢ c.loop-at.at = omega arith in rw get_or-set_other (c.loop-at.invariant.left k (omega arith));
    }
