use Rattle.std.specs.String.{string_bytes}
use Rattle.cr_tree.proofs.Joined.{one_more, space_utf8}
use Rattle.cr_tree.proofs.type_name.type_name.Goals as goal

pub loop-word-preserved : goal.loop-word-preserved
loop-word-preserved c = record {
  written = one_more c.args.words.now c.loop-word.word-index _ c.loop-word.between.now (string_bytes c.loop-word.name) _ _ c.loop-word-test.true c.word-item.is
      (simp (c.in_ok-push_str-2.ensures.bytes, c.in_ok-push_str.ensures.bytes, c.as_str.ensures.value)) c.loop-word.invariant.written;
  utf8 = space_utf8;
}
