use Rattle.std.proofs.Common.{Some, None, arith}
use Rattle.std.proofs.lemmas.Str.Pattern.{split_parts}
use Rattle.cr_value.proofs.Quotes.{next_quote, no_more_quotes, utf8_after}
use Rattle.cr_value.proofs.literal.push_doubled.Goals as goal

pub loop-before-preserved : goal.loop-before-preserved
loop-before-preserved c =
    let rest = c.loop-before.rest.now in
    let parts = split_parts 39 rest (Some (c.in-Some.before, c.in-Some.after)) c.in-Some.ensures.cases (omega arith) in
    record {
      written = next_quote _ c.in-Some.before.now c.in-Some.after.now rest _ _ _ parts c.in_ok-push_str.ensures.bytes c.in_ok-push_str-2.ensures.bytes c.loop-before.invariant.written;
      utf8 = (let cut = c.in-Some.ensures.cases in utf8_after rest c.in-Some.after.now cut.0 cut.1 cut.2 cut.4 c.loop-before.invariant.utf8);
    }

pub returns : goal.returns
returns c =
    let rest = c.loop-before.rest.now in
    no_more_quotes _ rest _ _ (split_parts 39 rest None c.in_default.ensures.cases (omega arith)) c.in_ok-push_str-3.ensures.bytes c.loop-before.invariant.written
