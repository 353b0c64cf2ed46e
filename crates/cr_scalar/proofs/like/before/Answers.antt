use Rattle.std.proofs.Common.{rules, ◌≡◌, ◌==◌, true, false}
use Rattle.cr_scalar.proofs.LikeLemmas.{one_more, any_more}
use Rattle.cr_scalar.proofs.like.before.Goals as goal

pub returns-then-wanted-eq37 : goal.returns-then-wanted-eq37
returns-then-wanted-eq37 c =
    let is : (c.args.wanted == 37) ≡ true = search rules in
    λ ps ends. any_more c.args.wanted ps c.args.text.now c.args.ends.now c.before_any.new.ends ends c.before_any.ensures.len is c.before_any.ensures.each c.before_any.ensures.last

pub returns-else-wanted-eq37 : goal.returns-else-wanted-eq37
returns-else-wanted-eq37 c =
    let is : (c.args.wanted == 37) ≡ false = search rules in
    λ ps ends. one_more c.args.wanted ps c.args.text.now c.args.ends.now c.before_one.new.ends ends c.before_one.ensures.len is c.before_one.ensures.each c.before_one.ensures.last
