use Rattle.std.proofs.Common.{Some, None}
use Rattle.std.proofs.lemmas.Str.Pattern.{split_parts}
use Rattle.cr_print.proofs.Quotes.{next_quote, no_more_quotes, utf8_after}
use Rattle.cr_print.proofs.pieces.push_doubled.Goals as goal

pub loop-before-preserved : goal.loop-before-preserved
loop-before-preserved c =
    let q = c.args.quote in
    let rest = c.loop-before.rest.now in
    let parts = split_parts q rest (Some (c.in-Some.before, c.in-Some.after)) c.in-Some.ensures.cases c.requires.ascii in
    record {
      written = next_quote q c.args.pair.now _ c.in-Some.before.now c.in-Some.after.now rest _ _ _ c.requires.pair parts c.in_ok-push_str.ensures.bytes c.in_ok-push_str-2.ensures.bytes c.loop-before.invariant.written;
      utf8 = (let cut = c.in-Some.ensures.cases in utf8_after q rest c.in-Some.after.now cut.0 cut.1 cut.2 cut.4 c.loop-before.invariant.utf8);
    }

pub returns : goal.returns
returns c =
    let q = c.args.quote in
    let rest = c.loop-before.rest.now in
    no_more_quotes q _ rest _ _ (split_parts q rest None c.in_default.ensures.cases c.requires.ascii) c.in_ok-push_str-3.ensures.bytes c.loop-before.invariant.written
